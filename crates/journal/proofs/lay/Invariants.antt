-- After so many turns the bytes of so many levels are put.
use Rattle.std.proofs.Common.{◌≡◌}
use Rattle.tree.specs.Ranges.{ranges_to}
use Rattle.journal.specs.Journal.{scattered}
use Rattle.journal.proofs.lay.Given as goal

abbrev pub invariant-loop-level : goal.invariant-loop-level
invariant-loop-level l = l.card ≡ scattered (ranges_to l.depth.levels l.path.index.0 l.level) l.new l.fn.card
