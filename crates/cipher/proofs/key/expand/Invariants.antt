-- Before turn i, which makes the round key of round i + 1, the first 16 i + 16 bytes are the first 4 i + 4 words of the schedule, `last` is
-- the last round key among them, and the running byte is FIPS 197's constant of round i + 1.
use Rattle.std.proofs.Common.{◌≡◌, ◌+◌}
use Rattle.words.specs.Words.{state_of}
use Rattle.cipher.specs.KeyExpansion.{round_constant}
use Rattle.cipher.proofs.Schedule.{Filled}
use Rattle.cipher.proofs.key.expand.Given as goal

abbrev pub invariant-loop-round : goal.invariant-loop-round
invariant-loop-round l = record {
  filled : Filled (state_of l.initial.last) l.schedule l.last l.round;
  constant : l.constant ≡ round_constant (l.round + 1);
}
