-- The entry lies on the card, and its tag at its end.
use Rattle.std.proofs.Common.{ap, ◌∙◌, ℕ, arith}
use Rattle.words.specs.Bytes.{part}
use Rattle.tree.specs.Layout.{tag}
use Rattle.tree.proofs.LayoutLaws.{entry-fits}
use Rattle.card.proofs.view.NodeView.stored_tag.Goals as goal

pub at-requires : goal.at-requires
at-requires c =
    let w = c.args.self.now in
    omega (arith, entry-fits w.card.depth.levels w.node.0 w.on_card, w.card.full, c.tag_offset.ensures)

pub returns : goal.returns
unfolding tag
returns c = c.at.ensures ∙ ap (λ (o : ℕ). part c.args.self.now.card.bytes.now o 16) c.tag_offset.ensures
