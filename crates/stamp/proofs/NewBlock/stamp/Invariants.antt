-- After so many turns the pairs of so many levels are stamped with the labels of the card after the write, whatever its root nonce was, and
-- their messages counted.
use Rattle.std.proofs.Common.{◌≡◌, ℕ, ◌-◌, ◌*◌, ◌≤◌, map}
use Rattle.cmac.specs.Context.{tag_by, count_by}
use Rattle.tree.specs.Nodes.{up_to, pair}
use Rattle.tree.specs.Labels.{message, labels, new_labels}
use Rattle.tree.specs.Card.{stamped}
use Rattle.tree.specs.Calls.{total}
use Rattle.stamp.proofs.NewBlock.stamp.Given as goal

abbrev pub invariant-loop-level : goal.invariant-loop-level
invariant-loop-level l =
    ((t : ℕ) →
    let L = new_labels l.depth.levels (l.root - l.depth.levels) l.self.path.index.0 l.self.bytes.now (labels l.depth.levels t l.initial.card) in
    let us = up_to l.level (pair l.depth.levels l.self.path.index.0) in
    (l.card ≡ stamped (tag_by l.context) l.depth.levels L us l.initial.card)
    × (l.count ≡ total (count_by l.context) (map (message L) us)))
    × (l.count ≤ 10 * l.level)
