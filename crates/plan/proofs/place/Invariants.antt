-- After so many turns the node is none of the children of so many nodes of the path.
use mathlib.Core.List.{Memᴰ}
use Rattle.tree.specs.Nodes.{up_to}
use Rattle.plan.specs.Places.{rising_pair}
use Rattle.plan.proofs.place.Given as goal

abbrev pub invariant-loop-level : goal.invariant-loop-level
invariant-loop-level l = Memᴰ l.node.0 (up_to l.level (rising_pair l.path.depth.levels l.path.index.0)) → ⊥
