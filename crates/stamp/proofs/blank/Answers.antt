-- One node more with each turn.
use Rattle.std.proofs.Common.{◌≡◌, refl, ap, ◌∙◌, ℕ, ◌+◌, ◌-◌, ◌*◌, ◌^◌, ◌<◌, [], ◌∷◌, map, arith, rules}
use Rattle.cmac.specs.Context.{tag_by, count_by}
use Rattle.tree.specs.Nodes.{up_to, all_nodes}
use Rattle.tree.specs.Labels.{message, blank_labels}
use Rattle.tree.specs.Card.{put_each, stamped, blanked}
use Rattle.tree.specs.Calls.{total}
use Rattle.tree.proofs.LayoutLaws.{few-leaves}
use Rattle.tree.proofs.CountLaws.{one_more}
use Rattle.stamp.proofs.StampLaws.{few-put, blank-message, blank-more}
use Rattle.stamp.proofs.blank.Goals as goal

pub loop-y-init : goal.loop-y-init
unfolding stamped put_each up_to total
loop-y-init c = (refl, refl, search rules)

pub overflow_add-count : goal.overflow_add-count
overflow_add-count c =
    let few = few-put c.args.context.now c.args.depth.levels c.args.nonce.0 _ _ _ _ _ refl c.put_entry-count.ensures.value in
    omega (arith, few, few-leaves c.args.depth.levels c.args.depth.shallow)

pub loop-y-preserved : goal.loop-y-preserved
loop-y-preserved c =
    let a = c.args in
    let n = a.depth.levels in
    let y = c.loop-y.y in
    let few = few-put c.args.context.now n a.nonce.0 _ _ _ _ _ refl c.put_entry-count.ensures.value in
    let u : y + 2 ≡ y + 1 + 1 = omega arith in
    let h : y + 2 < 2 * 2 ^ n = omega arith in (
      rw c.put_entry-count.ensures.card_after
          (blank-more _ n a.nonce.0 y (y + 2) a.card.now c.loop-y.card _ u h c.be-parent.ensures c.loop-y.invariant.0),
      one_more _ (blank_labels n a.nonce.0) y _ _ c.loop-y.invariant.1
          (c.put_entry-count.ensures.value
          ∙ ap (count_by a.context.now)
          (blank-message n a.nonce.0 (y + 2) _ h c.be-parent.ensures ∙ ap (message (blank_labels n a.nonce.0)) u)),
      omega (arith, few),
    )

pub returns : goal.returns
unfolding blanked all_nodes
returns c =
    let a = c.args in
    let n = a.depth.levels in
    let L = blank_labels n a.nonce.0 in
    let e : c.loop-y.y ≡ 2 * 2 ^ n - 2 = omega arith in
    record {
      card_after = c.loop-y.invariant.0 ∙ ap (λ (y : ℕ). stamped (tag_by a.context.now) n L (up_to y (λ z. (z + 1) ∷ [])) a.card.now) e;
      value = c.loop-y.invariant.1 ∙ ap (λ (y : ℕ). total (count_by a.context.now) (map (message L) (up_to y (λ z. (z + 1) ∷ [])))) e;
    }
