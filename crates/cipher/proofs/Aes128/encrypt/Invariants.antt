-- Before turn i the state is the one after i - 1 rounds.
use Rattle.std.proofs.Common.{◌≡◌, ◌-◌}
use Rattle.cipher.specs.Cipher.{rounds}
use Rattle.words.specs.Words.{state_of}
use Rattle.cipher.proofs.Aes128.encrypt.Given as goal

abbrev pub invariant-loop-i : goal.invariant-loop-i
invariant-loop-i l = state_of l.state ≡ rounds l.self.schedule (state_of l.initial.state) (l.i - 1)
