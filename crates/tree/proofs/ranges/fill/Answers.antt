use Rattle.std.proofs.Common.{◌≡◌, ◌<◌, ◌^◌, ◌+◌, ◌*◌, ◌/◌, ℕ, List, [], ◌∷◌, ◌++◌, length, drop, refl, sym, ap, ap₂, subst, ◌∙◌, arith}
use Rattle.std.proofs.lemmas.List.Edits.{sets, sets-eq}
use Rattle.tree.specs.Layout.{IsNode}
use Rattle.tree.specs.Nodes.{path_node}
use Rattle.tree.specs.Ranges.{range_of, ranges_to, encode}
use Rattle.tree.proofs.NodeLaws.{path-node, twin-node}
use Rattle.tree.proofs.RangeLaws.{ranges-length, ranges_more}
use Rattle.tree.proofs.ranges.fill.Goals as goal

-- both children of the parent of a level's node are nodes
child : (n i y u w : ℕ) → i < 2 ^ n → y < n → u ≡ path_node n i (y + 1) → w / 2 ≡ u / 2 → IsNode n w
child n i y u w inside below is same =
    twin-node n u w same (subst (λ (v : ℕ). IsNode n v) (sym is) (path-node n i inside (y + 1) (omega arith) (omega arith)))

pub loop-level-init : goal.loop-level-init
unfolding ranges_to encode
loop-level-init c = refl

pub invariant_of-put_entry : goal.invariant_of-put_entry
invariant_of-put_entry c = record {
  on_card =
      child c.args.path.depth.levels c.args.path.index.0 c.loop-level.level c.node-own.result.0 _ c.args.path.on_card (omega arith)
      c.node-own.ensures (omega arith);
}

pub loop-level-preserved : goal.loop-level-preserved
loop-level-preserved c =
    let loop = c.loop-level in
    let n = c.args.path.depth.levels in
    let u = c.node-own.result.0 in
    let put : List ℕ → ℕ → ℕ → List ℕ = λ s o w. sets s o (encode (range_of n u w ∷ [])) in
    c.put_entry-in-loop-level.ensures
    ∙ ap (λ (l : List ℕ). put l (16 * loop.level + 8) c.pair.result.1.0) c.put_entry.ensures
    ∙ ap₂ (λ (v w : ℕ). put (put loop.buffer (16 * loop.level) v) (16 * loop.level + 8) w) c.pair.ensures.lower c.pair.ensures.upper
    ∙ ranges_more n c.args.path.index.0 c.args.buffer.now loop.buffer loop.level u loop.invariant c.node-own.ensures

pub returns : goal.returns
returns c =
    let n = c.args.path.depth.levels in
    let s = c.args.buffer.now in
    let x = encode (ranges_to n c.args.path.index.0 n) in
    let y : c.loop-level.level ≡ n = omega arith in
    let k : length x ≡ 16 * n = ranges-length n c.args.path.index.0 n in
    let e : 0 + length x ≡ 16 * n = omega arith in
    c.loop-level.invariant ∙ ap (λ (y : ℕ). sets s 0 (encode (ranges_to n c.args.path.index.0 y))) y
    ∙ sets-eq x s 0 (omega arith) ∙ ap (λ (m : ℕ). x ++ drop m s) e
