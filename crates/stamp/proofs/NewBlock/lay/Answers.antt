-- One label more with each turn.
use Rattle.std.proofs.Common.{◌≡◌, refl, sym, ap, ap₂, ◌∙◌, ℕ, ◌-◌, List, [], ◌∷◌, arith}
use Rattle.std.proofs.lemmas.List.Edits.{sets}
use Rattle.tree.specs.Layout.{offset}
use Rattle.tree.specs.Nodes.{up_to, path_node, sibling, path}
use Rattle.tree.specs.Labels.{labels, new_labels}
use Rattle.tree.specs.Card.{put_each, laid}
use Rattle.tree.proofs.CardLaws.{laid_more}
use Rattle.stamp.proofs.StampLaws.{on_path, u-label}
use Rattle.stamp.proofs.NewBlock.lay.Goals as goal

pub loop-level-init : goal.loop-level-init
unfolding laid put_each up_to
loop-level-init c = λ t. refl

pub invariant_of-entry : goal.invariant_of-entry
invariant_of-entry c = record { on_card = on_path c.args.self.now.path _ _ c.loop-level-test.true c.node.ensures }

pub loop-level-preserved : goal.loop-level-preserved
unfolding laid put_each
loop-level-preserved c =
    let a = c.args in
    let b = a.self.now in
    let p = b.path in
    let n = p.depth.levels in
    let i = p.index.0 in
    let y = c.loop-level.level in
    let u = c.node.result.0 in
    λ t.
    let L = new_labels n (c.root-root.result.0 - n) i b.bytes.now (labels n t a.card.now) in
    c.put_label.ensures
    ∙ ap₂ (λ (c x : List ℕ). sets c (offset n u) x) (c.loop-level.invariant t)
    (u-label n i p.on_card y u (sibling u) c.loop-level-test.true c.node.ensures refl (c.root-root.result.0) b.bytes.now (omega arith)
    (labels n t a.card.now))
    ∙ ap (λ (w : ℕ). laid n L (w ∷ []) (laid n L (up_to y (λ z. path_node n i z ∷ [])) a.card.now)) c.node.ensures
    ∙ sym (laid_more n L y (λ z. path_node n i z ∷ []) a.card.now)

pub returns : goal.returns
unfolding path
returns c =
    let a = c.args in
    let b = a.self.now in
    let n = b.path.depth.levels in
    let i = b.path.index.0 in
    let e : c.root-root.result.0 - n ≡ b.last.0 = omega (arith, c.root-root.ensures) in
    let k : c.loop-level.level ≡ n = omega arith in
    λ t.
    c.loop-level.invariant t
    ∙ ap₂ (λ (r y : ℕ). laid n (new_labels n r i b.bytes.now (labels n t a.card.now)) (up_to y (λ z. path_node n i z ∷ [])) a.card.now) e k
