-- Before turn i the block is what the first i bytes are, padded.
use Rattle.std.proofs.Common.{◌≡◌, take}
use Rattle.cmac.specs.Cmac.{padding}
use Rattle.cmac.proofs.message.padded_block.Given as goal

abbrev pub invariant-loop-i : goal.invariant-loop-i
invariant-loop-i l = l.bytes ≡ padding (take l.i l.rest)
