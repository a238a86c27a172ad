-- What document 02 says of a put.
use mathlib.Core.Path.{◌≡◌, refl, sym, ap, subst, ◌∙◌}
use mathlib.Core.Bool.{Bool, true, false, cond}
use mathlib.Core.List.{List}
use mathlib.Core.Logic.{⊎_elim}
use Prim.Native.Nat.{ℕ, ◌+◌, ◌*◌, ◌%◌, ◌^◌, ◌<◌}
use Rattle.words.proofs.Cases.{equal_or_not}
use Rattle.tree.specs.Calls.{rooted}
use Rattle.tree.specs.declared.Anchor.{Anchor}
use Rattle.tree.specs.Answer.{Answer}
use Rattle.tree.specs.Answer.{Whole, Wrong, Refused}
use Rattle.tree.specs.declared.BlockIndex.{BlockIndex}
use Rattle.tree.proofs.LimitLaws.{first-passed}
use Rattle.plan.specs.Places.{fill, full}
use Rattle.plan.specs.Split.{Put, put_done, put_settled, put_answer, put}
use Rattle.plan.specs.Rule.{Waits, Taken, PutRule}
use Rattle.plan.specs.declared.Plan.{Plan}
use Rattle.plan.proofs.PlaceLaws.{Awaited, fill-same, fill-other}
use Rattle.plan.proofs.ListLaws.{contrary}
use Rattle.plan.proofs.WaitLaws.{waits-place, awaited-waits, waits-awaited}
use Rattle.plan.proofs.PlaceLaws.{none-awaited, awaited-not-full, waits-not}
use Rattle.plan.proofs.PutLaws.{put_in, put-accept, put_first, put-nine, put-answer, put-unchanged, put-tag, put-labels}
use Rattle.plan.proofs.PutLaws.{put-others}

-- a put keeps the reserved nonce
put-reserved : (a : Anchor) (p : Plan) (card : List ℕ) (u : ℕ) (x : List ℕ) → (put a p card u x).anchor.reserved ≡ a.reserved
unfolding put
put-reserved a p card u x = go (put_answer a p card u)
  where
    last : (b : Bool) → (cond b (rooted a p.root.0) a).reserved ≡ a.reserved
    last true = refl
    last false = refl

    go : (o : Answer) → (put_settled o a p card u x).anchor.reserved ≡ a.reserved
    go Whole = last (full a.depth (fill a.depth p u))
    go (Wrong w) = refl
    go (Refused r) = refl

module _ (a : Anchor) (p : Plan) (card : List ℕ) (u : ℕ) (x : List ℕ) where
  done-is : put_answer a p card u ≡ Whole → put a p card u x ≡ put_done a p card u x
  unfolding put
  done-is e = ap (λ (o : Answer). put_settled o a p card u x) e

  module _ (e : put_answer a p card u ≡ Whole) where
    waiting : Awaited a.depth p u
    waiting = (put_in a p card u e).1

    plan-is : (put a p card u x).plan ≡ fill a.depth p u
    plan-is = ap (λ (o : Put). o.plan) (done-is e)

    anchor-is : (put a p card u x).anchor ≡ cond (full a.depth (put a p card u x).plan) (rooted a p.root.0) a
    anchor-is =
        ap (λ (o : Put). o.anchor) (done-is e)
        ∙ ap (λ (q : Plan). cond (full a.depth q) (rooted a p.root.0) a) (sym plan-is)

    -- another place that waits still does
    waits-on : (w : ℕ) → Awaited a.depth p w → (w ≡ u → ⊥) → Awaited a.depth (fill a.depth p u) w
    unfolding fill
    waits-on w k d =
        record {
          inside = k.inside;
          among = k.among;
          unfilled = fill-other a.depth p u w waiting.unfilled waiting.among k.among d ∙ k.unfilled;
        }

    -- and this one does not
    taken-once : Awaited a.depth (fill a.depth p u) u → ⊥
    taken-once k = contrary (fill-same a.depth p u waiting.unfilled) k.unfilled

    waited-before : (w : ℕ) → Awaited a.depth (fill a.depth p u) w → Awaited a.depth p w
    unfolding fill
    waited-before w k =
        ⊎_elim (λ (e : w ≡ u). subst (λ (v : ℕ). Awaited a.depth p v) (sym e) waiting)
        (λ (d : w ≡ u → ⊥).
        record {
          inside = k.inside;
          among = k.among;
          unfilled = sym (fill-other a.depth p u w waiting.unfilled waiting.among k.among d) ∙ k.unfilled;
        })
        (equal_or_not w u)

    kept-plan : ((put a p card u x).plan.index ≡ p.index) × ((put a p card u x).plan.root ≡ p.root)
    unfolding fill
    kept-plan = (ap (λ (q : Plan). q.index) plan-is, ap (λ (q : Plan). q.root) plan-is)

    -- where nothing is awaited every place is filled
    nothing-awaited : ((w : ℕ) → Waits a.depth (put a p card u x).plan w → ⊥) → full a.depth (put a p card u x).plan ≡ true
    nothing-awaited free =
        let q = (put a p card u x).plan in
        none-awaited a.depth q (subst (λ (j : BlockIndex). j.0 < 2 ^ a.depth) (sym kept-plan.0) waiting.inside)
        (λ w k. free w (awaited-waits a.depth q w k))

    noted-at : (h : Waits a.depth p u) → (put a p card u x).plan.filled ≡ p.filled + 2 ^ (2 * h.level + u % 2)
    unfolding fill
    noted-at h = ap (λ (q : Plan). q.filled) plan-is ∙ ap (λ (k : ℕ). p.filled + 2 ^ k) (waits-place a.depth p u h)

    -- what a plan waits for, of the plan that is handed out
    after : (w : ℕ) → Awaited a.depth (fill a.depth p u) w → Waits a.depth (put a p card u x).plan w
    after w k = subst (λ (q : Plan). Waits a.depth q w) (sym plan-is) (awaited-waits a.depth (fill a.depth p u) w k)

    before : (w : ℕ) → Waits a.depth (put a p card u x).plan w → Awaited a.depth (fill a.depth p u) w
    before w h = waits-awaited a.depth (fill a.depth p u) w (subst (λ (q : Plan). Waits a.depth q w) plan-is h)

    taken-so : Taken a p card u x (put a p card u x)
    taken-so =
        let h₀ : Waits a.depth p u = awaited-waits a.depth p u waiting in
        record {
          waited = h₀;
          tag-new = λ l. put-tag a p card u x l e;
          tags-kept = λ l. put-others a p card u x l e;
          labels-kept = λ l. put-labels a p card u x l e;
          once = λ h. taken-once (before u h);
          others-waited = λ w h d. after w (waits-on w (waits-awaited a.depth p w h) d);
          others-not = λ w h. awaited-waits a.depth p w (waited-before w (before w h));
          same-plan = kept-plan;
          noted = noted-at h₀;
          last = λ free. anchor-is ∙ ap (λ (b : Bool). cond b (rooted a p.root.0) a) (nothing-awaited free);
          not_last = λ w h.
              let q = (put a p card u x).plan in
              anchor-is ∙ ap (λ (b : Bool). cond b (rooted a p.root.0) a)
              (awaited-not-full a.depth q w (waits-awaited a.depth q w h));
        }

  pub put-rule : PutRule a p card u x
  put-rule =
      record {
        limited = λ r e. put-answer a p card u x ∙ put_first a p card u r e;
        nine = λ e d.
            put-answer a p card u x
            ∙ put-nine a p card u (first-passed a card e) (waits-not a.depth p u (λ k. d (awaited-waits a.depth p u k)));
        nine-number = refl;
        taken = λ e f. put-answer a p card u x ∙ put-accept a p card u (first-passed a card e) (waits-awaited a.depth p u f);
        refused = λ d.
            let k = put-unchanged a p card u x (λ w. d (put-answer a p card u x ∙ w)) in
            (k.anchor-same, k.plan-same, k.card-same);
        reserves-nothing = put-reserved a p card u x;
        accepted = λ w. taken-so (sym (put-answer a p card u x) ∙ w);
      }
