-- After so many turns the ranges of so many levels are stored.
use Rattle.std.proofs.Common.{◌≡◌}
use Rattle.std.proofs.lemmas.List.Edits.{sets}
use Rattle.tree.specs.Ranges.{ranges_to, encode}
use Rattle.tree.proofs.ranges.fill.Given as goal

abbrev pub invariant-loop-level : goal.invariant-loop-level
invariant-loop-level l = l.buffer ≡ sets l.fn.buffer 0 (encode (ranges_to l.depth.levels l.path.index.0 l.level))
