-- After so many turns so many nodes of the path have their labels of the card after the write, whatever its root nonce was.
use Rattle.std.proofs.Common.{◌≡◌, ℕ, ◌-◌, [], ◌∷◌}
use Rattle.tree.specs.Nodes.{up_to, path_node}
use Rattle.tree.specs.Labels.{labels, new_labels}
use Rattle.tree.specs.Card.{laid}
use Rattle.stamp.proofs.NewBlock.lay.Given as goal

abbrev pub invariant-loop-level : goal.invariant-loop-level
invariant-loop-level l =
    (t : ℕ) →
    l.card ≡ laid l.self.path.depth.levels (new_labels l.self.path.depth.levels (l.root - l.self.path.depth.levels) l.self.path.index.0 l.self.bytes.now (labels l.self.path.depth.levels t l.initial.card))
    (up_to l.level (λ z. path_node l.self.path.depth.levels l.self.path.index.0 z ∷ [])) l.initial.card
