-- The label is the node's, and the parent's is an inner node's or the root's.
use Rattle.std.proofs.Common.{ap, ap₂, sym, ◌∙◌, List, ℕ, ◌/◌, length, arith}
use Rattle.tree.specs.Labels.{form, labels}
use Rattle.tree.proofs.LayoutLaws.{length_label, size_low}
use Rattle.tree.proofs.LabelLaws.{labels-below}
use Rattle.card.proofs.view.NodeView.message.Goals as goal

pub invariant_of-result : goal.invariant_of-result
invariant_of-result c =
    let w = c.args.self.now in
    let v = w.card in
    let u = w.node.0 in
    record {
      short =
          omega (
            arith,
            ap length c.label.ensures ∙ length_label v.depth.levels v.bytes.now u v.full w.on_card,
            size_low v.depth.levels u,
          );
    }

pub returns-clause-size : goal.returns-clause-size
returns-clause-size c =
    let w = c.args.self.now in
    let v = w.card in
    ap length c.label.ensures ∙ length_label v.depth.levels v.bytes.now w.node.0 v.full w.on_card

pub returns-clause-form : goal.returns-clause-form
returns-clause-form c =
    let w = c.args.self.now in
    let v = w.card in
    let L = labels v.depth.levels v.root.0 v.bytes.now in
    ap₂ (λ (x p : List ℕ). form x p c.side.result)
    (c.label.ensures ∙ sym (labels-below v.depth.levels v.root.0 v.bytes.now w.node.0 w.on_card.low))
    (c.nonce_at.ensures ∙ ap L c.parent.ensures)
    ∙ ap (form (L w.node.0) (L (w.node.0 / 2))) c.side.ensures
