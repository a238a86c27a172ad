-- What is left of the nodes answers for all of them.
use Rattle.std.proofs.Common.{List, ℕ}
use Rattle.card.specs.Walks.{GivesNodes}
use Rattle.card.proofs.WalkLaws.{Along}
use Rattle.card.proofs.walk.each.Given as goal

abbrev pub invariant-loop-node : goal.invariant-loop-node
invariant-loop-node g l =
    (goal.iterator-loop-node g).can_next l.node-iterator × (goal.iterator-loop-node g).is_finite l.node-iterator
    × ((us : List ℕ) → GivesNodes g.I.Iterator.next_gives l.card.depth.levels l.fn.nodes us
    → Along l.context l.card g.I.Iterator.next_gives us l.node-iterator l.count)
