-- The entry lies on the card, and its label up to its tag.
use Rattle.std.proofs.Common.{◌≡◌, ap₂, List, ℕ, ◌+◌, ◌-◌, arith, take, drop}
use Rattle.words.specs.Bytes.{part}
use Rattle.tree.specs.Layout.{size, offset, label}
use Rattle.tree.proofs.LayoutLaws.{entry-fits}
use Rattle.card.proofs.view.NodeView.label.Goals as goal

pub slice_bounds-result-end : goal.slice_bounds-result-end
slice_bounds-result-end c =
    let w = c.args.self.now in
    omega (arith, entry-fits w.card.depth.levels w.node.0 w.on_card, w.card.full, c.tag_offset.ensures)

there : (n : ℕ) (card : List ℕ) (u o e : ℕ) → o ≡ offset n u → e ≡ offset n u + size n u → take (e - o) (drop o card) ≡ label n card u
unfolding label
there n card u o e p q =
    let k : e - o ≡ size n u = omega arith in
    ap₂ (part card) p k

pub returns : goal.returns
returns c =
    let w = c.args.self.now in
    there w.card.depth.levels w.card.bytes.now w.node.0 _ _ c.offset.ensures c.tag_offset.ensures
