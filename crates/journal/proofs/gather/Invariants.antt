-- After so many turns the bytes of so many levels are stored.
use Rattle.std.proofs.Common.{◌≡◌}
use Rattle.std.proofs.lemmas.List.Edits.{sets}
use Rattle.tree.specs.Ranges.{ranges_to}
use Rattle.journal.specs.Journal.{gathered}
use Rattle.journal.proofs.gather.Given as goal

abbrev pub invariant-loop-level : goal.invariant-loop-level
invariant-loop-level l = l.buffer ≡ sets l.fn.buffer l.start (gathered (ranges_to l.depth.levels l.path.index.0 l.level) l.card)
