use Rattle.std.proofs.Common.{◌≡◌, refl, sym, ap, ap₂, subst, ◌∙◌, List, ◌++◌, map, ℕ, ◌+◌, ◌*◌, ◌/◌, ◌<◌, ◌^◌, length, drop, arith}
use Rattle.std.proofs.lemmas.List.Edits.{sets}
use Rattle.std.proofs.Math.Seq.{sets-eq}
use Rattle.tree.specs.Layout.{IsNode, size}
use Rattle.tree.specs.Nodes.{up_to, path_node}
use Rattle.tree.specs.Labels.{message, labels}
use Rattle.tree.proofs.ByteLaws.{length-be}
use Rattle.tree.proofs.LayoutLaws.{size_low}
use Rattle.tree.proofs.NodeLaws.{path-node, twin-node}
use Rattle.tree.proofs.LabelLaws.{labels-root, labels-sized}
use Rattle.plan.specs.Places.{rising_pair, plan_nodes}
use Rattle.plan.specs.Split.{given, joined}
use Rattle.plan.proofs.MessageLaws.{messages-length, messages-more}
use Rattle.messages.proofs.fill.Goals as goal

-- the root's label on a card
root-length : (n t : ℕ) (card : List ℕ) → length (labels n t card 1) ≡ 8
root-length n t card = ap length (labels-root n t card) ∙ length-be 8 t

-- a path's node, by the numbers of its card and block
same_node : {m n i j u : ℕ} (y : ℕ) → u ≡ path_node m j y → m ≡ n → j ≡ i → u ≡ path_node n i y
same_node y e d f = e ∙ ap₂ (λ (m j : ℕ). path_node m j y) d f

-- both of its parent's children are nodes
on-card : (n i : ℕ) → i < 2 ^ n → (y u w : ℕ) → y < n → u ≡ path_node n i (y + 1) → w / 2 ≡ u / 2 → IsNode n w
on-card n i inside y u w h e half =
    twin-node n u w half (subst (IsNode n) (sym e) (path-node n i inside (y + 1) (omega arith) (omega arith)))

pub loop-level-init : goal.loop-level-init
unfolding joined up_to
loop-level-init c = refl

pub invariant_of-left : goal.invariant_of-left
invariant_of-left c =
    let b = c.args.block.now in
    let p = c.path-path.ensures in
    record {
      on_card =
          on-card b.card.depth.levels b.index.0 b.on_card c.loop-level.level c.node-own.result.0 c.pair.result.0.0 (omega arith)
          (same_node _ c.node-own.ensures p.depth p.index) (omega (arith, c.pair.ensures.lower));
    }

pub put-requires : goal.put-requires
put-requires c =
    omega (arith, c.message.ensures.size, size_low c.args.block.now.card.depth.levels c.pair.result.0.0)

pub overflow_add-next : goal.overflow_add-next
overflow_add-next c = omega (arith, c.size.ensures, size_low c.path-path.result.depth.levels c.node-own.result.0)

pub overflow_add-next-in-loop-level : goal.overflow_add-next-in-loop-level
overflow_add-next-in-loop-level c = omega (arith, c.size.ensures, size_low c.path-path.result.depth.levels c.node-own.result.0)

pub invariant_of-right : goal.invariant_of-right
invariant_of-right c =
    let b = c.args.block.now in
    let p = c.path-path.ensures in
    record {
      on_card =
          on-card b.card.depth.levels b.index.0 b.on_card c.loop-level.level c.node-own.result.0 c.pair.result.1.0 (omega arith)
          (same_node _ c.node-own.ensures p.depth p.index) (omega (arith, c.pair.ensures.upper));
    }

pub put-requires-in-loop-level : goal.put-requires-in-loop-level
put-requires-in-loop-level c =
    omega (
      arith,
      c.size.ensures,
      size_low c.path-path.result.depth.levels c.node-own.result.0,
      c.message-in-loop-level.ensures.size,
      size_low c.args.block.now.card.depth.levels c.pair.result.1.0,
    )

pub loop-level-preserved : goal.loop-level-preserved
loop-level-preserved c =
    let b = c.args.block.now in
    let n = b.card.depth.levels in
    let t = b.card.root.0 in
    let L = labels n t b.card.bytes.now in
    let y = c.loop-level.level in
    let u = c.node-own.result.0 in
    let p = c.path-path.ensures in
    c.put-in-loop-level.ensures
    ∙ ap₂ (λ (l x : List ℕ). sets l (34 * y + c.size.result + 9) x) c.put.ensures
    (c.message-in-loop-level.ensures.form ∙ ap (message L) c.pair.ensures.upper)
    ∙ ap₂ (λ (x : List ℕ) (k : ℕ). sets (sets c.loop-level.buffer (34 * y) x) (34 * y + k + 9) (message L (2 * (u / 2) + 1)))
    (c.message.ensures.form ∙ ap (message L) c.pair.ensures.lower) (c.size.ensures ∙ ap (λ (m : ℕ). size m u) p.depth)
    ∙ messages-more n b.index.0 b.on_card b.card.deep L (labels-sized n t b.card.bytes.now b.card.full)
    (root-length n t b.card.bytes.now) c.args.buffer.now c.loop-level.buffer y u (omega arith) c.loop-level.invariant
    (same_node _ c.node-own.ensures p.depth p.index)

pub returns : goal.returns
unfolding plan_nodes
returns c =
    let b = c.args.block.now in
    let n = b.card.depth.levels in
    let t = b.card.root.0 in
    let s = c.args.buffer.now in
    let L = labels n t b.card.bytes.now in
    let x = joined (map (given L) (plan_nodes n b.index.0)) in
    let y : c.loop-level.level ≡ n = omega arith in
    let k : length x ≡ 34 * n + 112 =
    messages-length n b.index.0 b.on_card b.card.deep L (labels-sized n t b.card.bytes.now b.card.full)
    (root-length n t b.card.bytes.now) in
    let e : 0 + length x ≡ 34 * n + 112 = omega arith in
    c.loop-level.invariant ∙ ap (λ (y : ℕ). sets s 0 (joined (map (given L) (up_to y (rising_pair n b.index.0))))) y
    ∙ sets-eq x s 0 (omega arith) ∙ ap (λ (m : ℕ). x ++ drop m s) e
