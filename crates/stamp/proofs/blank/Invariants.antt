-- After y turns the first y nodes are stamped with the labels of a blank card, and their messages counted.
use Rattle.std.proofs.Common.{◌≡◌, ◌+◌, ◌*◌, ◌≤◌, [], ◌∷◌, map}
use Rattle.cmac.specs.Context.{tag_by, count_by}
use Rattle.tree.specs.Nodes.{up_to}
use Rattle.tree.specs.Labels.{message, blank_labels}
use Rattle.tree.specs.Card.{stamped}
use Rattle.tree.specs.Calls.{total}
use Rattle.stamp.proofs.blank.Given as goal

abbrev pub invariant-loop-y : goal.invariant-loop-y
invariant-loop-y l =
    (l.card ≡ stamped (tag_by l.context) l.depth.levels (blank_labels l.depth.levels l.nonce.0) (up_to l.y (λ z. (z + 1) ∷ []))
    l.initial.card)
    × (l.count ≡ total (count_by l.context) (map (message (blank_labels l.depth.levels l.nonce.0)) (up_to l.y (λ z. (z + 1) ∷ []))))
    × (l.count ≤ 5 * l.y)
