use Rattle.std.proofs.Common.{◌<◌}
use Rattle.steps.proofs.sum.adler.Given as goal

-- both sums stay below the modulus
abbrev pub invariant-loop-byte : goal.invariant-loop-byte
invariant-loop-byte l = (l.a < 65521) × (l.b < 65521)
