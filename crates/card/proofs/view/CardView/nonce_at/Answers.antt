-- The root's label is its nonce, and that of an inner node lies at its offset.
use Rattle.std.proofs.Common.{ap, sym, ◌∙◌, ℕ, ◌≤◌, arith}
use Rattle.words.specs.Bytes.{part}
use Rattle.tree.specs.Labels.{labels}
use Rattle.tree.proofs.LayoutLaws.{entry-fits, inner}
use Rattle.tree.proofs.LabelLaws.{labels-root, labels-inner}
use Rattle.card.proofs.view.CardView.nonce_at.Goals as goal

pub returns-then-node-eq1 : goal.returns-then-node-eq1
returns-then-node-eq1 c =
    let v = c.args.self.now in
    c.be.ensures
    ∙ sym (ap (labels v.depth.levels v.root.0 v.bytes.now) c.if-node-eq1.true ∙ labels-root v.depth.levels v.root.0 v.bytes.now)

pub at-requires : goal.at-requires
at-requires c =
    let v = c.args.self.now in
    omega (
      arith,
      c.offset.ensures,
      v.full,
      entry-fits v.depth.levels c.args.node.0 (record { low = omega arith; high = omega arith }),
      inner v.depth.levels c.args.node.0 (omega arith),
    )

pub returns : goal.returns
returns c =
    let v = c.args.self.now in
    let low : 2 ≤ c.args.node.0 = omega arith in
    c.at.ensures ∙ ap (λ (o : ℕ). part v.bytes.now o 8) c.offset.ensures
    ∙ sym (labels-inner v.depth.levels v.root.0 v.bytes.now c.args.node.0 low (omega arith))
