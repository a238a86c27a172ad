-- Before turn i the first i bytes of the piece are stored.
use Rattle.std.proofs.Common.{◌≡◌, take}
use Rattle.std.proofs.lemmas.List.Edits.{sets}
use Rattle.words.proofs.put.Given as goal

abbrev pub invariant-loop-i : goal.invariant-loop-i
invariant-loop-i l = l.string ≡ sets l.fn.string l.start (take l.i l.piece)
