use Rattle.std.proofs.Common.{◌≡◌, sym, subst, ◌∙◌, ℕ, ◌/◌, arith, add-one}
use borrow.Author.Tests.{eqb-true, eqb-false}
use mathlib.Core.List.Memᴰ
use mathlib.Core.List.{Memᴰ}
use Rattle.tree.specs.Nodes.{up_to, path_node}
use Rattle.plan.specs.Places.{rising_pair, plan_nodes}
use Rattle.plan.proofs.ListLaws.{place_none}
use Rattle.plan.proofs.PlaceLaws.{not_yet, place_is, plan-count}
use Rattle.plan.proofs.place.Goals as goal

pub loop-level-init : goal.loop-level-init
unfolding up_to
loop-level-init c = λ m. Memᴰ.not-nil m

pub returns-then-eq-clause-place : goal.returns-then-eq-clause-place
returns-then-eq-clause-place c =
    let p = c.args.path in
    let half : c.args.node.0 / 2 ≡ path_node p.depth.levels p.index.0 c.loop-level.level =
    sym c.parent.ensures ∙ eqb-true _ _ (sym c.eq.ensures ∙ c.if-eq.true) ∙ c.node.ensures in
    omega (arith, c.side.ensures, place_is p.depth.levels p.index.0 p.on_card c.args.node.0 c.loop-level.level (omega arith) half)

pub loop-level-preserved : goal.loop-level-preserved
loop-level-preserved c m =
    let p = c.args.path in
    not_yet p.depth.levels p.index.0 p.on_card c.loop-level.level c.args.node.0 (omega arith) c.loop-level.invariant
    (λ e. eqb-false _ _ (sym c.eq.ensures ∙ c.if-eq.false) (c.parent.ensures ∙ e ∙ sym c.node.ensures))
    (subst (λ (k : ℕ). Memᴰ c.args.node.0 (up_to k (rising_pair p.depth.levels p.index.0))) (add-one c.loop-level.level) m)

pub returns-clause-place : goal.returns-clause-place
unfolding plan_nodes
returns-clause-place c =
    let p = c.args.path in
    let n = p.depth.levels in
    let e : c.loop-level.level ≡ n = omega arith in
    sym (place_none (plan_nodes n p.index.0) c.args.node.0
    (subst (λ (k : ℕ). Memᴰ c.args.node.0 (up_to k (rising_pair n p.index.0)) → ⊥) e c.loop-level.invariant)
    ∙ plan-count n p.index.0)
