-- After so many turns the message has its tag in front as many times over.
use Rattle.std.proofs.Common.{◌≡◌}
use Rattle.probe.specs.Told.{repeated, retagged}
use Rattle.probe_cmac.proofs.work.tag_chain.Given as goal

abbrev pub invariant-loop : goal.invariant-loop
invariant-loop l = l.message ≡ repeated (retagged l.key) l.fn.message l.counter
