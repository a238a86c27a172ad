-- Lists of calls on untouched cards, and of filled split writes, as many as the paper allows.
use mathlib.Core.Path.{◌≡◌, refl, ap, ap₂, ◌∙◌}
use mathlib.Core.Bool.{Bool, true, false, cond, ◌&&◌, ◌||◌}
use mathlib.Core.List.{List, [], ◌∷◌, ◌++◌, Memᴰ}
use mathlib.Core.Logic.{◌⊎◌, inl, inr, ⊎_elim}
use Prim.Native.Nat.{ℕ}
use borrow.Author.Tests.{eq-eqb, eqb-true}
use lib.Dec.{eqb}
use Rattle.tree.specs.Calls.{wipe, is_write, renews}
use Rattle.plan.specs.Places.{plan_nodes}
use Rattle.plan.proofs.ListLaws.{and_both, both-and, truth, contrary, every-is, is-every}
use Rattle.replay.specs.Array.{Told, read, write, check, Array, moved}
use Rattle.replay.specs.Array
use Rattle.replay.specs.Places.{Place}
use Rattle.replay.specs.Run
use Rattle.replay.specs.Run.{Fate, has_stood}
use Rattle.replay.proofs.PlaceLaws.{first, later, no_place, at_more, HoldsSince, holds_more, holds-ended}
use Rattle.replay.proofs.Unforged.{write-not-wipe}
use Rattle.host_bytes.specs.Host.{anchor_of}
use Rattle.host_replay.specs.Called.{bytes, PlanCalled, PutCalled, AttemptCalled, Called, split, attempt, last_card, reached, back_of}
use Rattle.host_replay.specs.Plain.{called, put_at, all_put, stands, left_by, array_by, PutsUntouched, Untouched, WritesUntouched, FilledIn}
use Rattle.host_replay.specs.Plain.{PlainGoesOn}
use Rattle.host_replay.proofs.Filling.{and_false}
use Rattle.host_replay.proofs.Attempts.{attempt-like-write}
use Rattle.host_replay.proofs.Runs.{turns-run}
use Rattle.host_replay.proofs.InTurn.{put-here, split-goes-on}
use Rattle.host_replay.proofs.PlainLaws.{array-more}

module _ (left : List ℕ) where
  abbrev pub Wipes : List Called → Called → Type 0
  Wipes before r = ((back_of r).code ≡ 0) × (called r ≡ wipe)

  abbrev pub Writes : List Called → Called → Type 0
  Writes before r = stands r ≡ true → is_write (called r) ≡ true → Untouched (left_by left before) r

  -- what is asked of a call of a list on untouched cards
  abbrev pub Fair : List Called → Called → Type 0
  Fair before r = stands r ≡ true → (called r ≡ wipe → ⊥) → Untouched (left_by left before) r

  since : (rs : List Called) → HoldsSince Wipes Writes rs → WritesUntouched left rs
  since rs f p none = f p (λ q b w. none q b w.0 w.1)

-- by place
puts-at : (left : List ℕ) (qs : List PutCalled)
    → ((k : Place qs) → k.item.code ≡ 0 → k.item.step.card ≡ last_card left k.before) → PutsUntouched left qs
puts-at left [] h = tt
puts-at left (q ∷ qs) h = (h (first q qs), puts-at (last_card left (q ∷ [])) qs (λ k. h (later q k)))

-- What stands, and what does not

-- a node without a put that answered 0
put-none : (u : ℕ) (qs : List PutCalled) → ((q : PutCalled) → Memᴰ q qs → q.code ≡ 0 → q.step.node ≡ u → ⊥) → put_at u qs ≡ false
unfolding put_at
put-none u [] h = refl
put-none u (q ∷ qs) h =
    ap₂ ◌||◌ (here (truth (eqb q.step.node u && eqb q.code 0))) (put-none u qs (λ p m. h p (Memᴰ.tail m)))
  where
    here : ((eqb q.step.node u && eqb q.code 0) ≡ true) ⊎ ((eqb q.step.node u && eqb q.code 0) ≡ false)
        → (eqb q.step.node u && eqb q.code 0) ≡ false
    here (inr e) = e
    here (inl e) =
        let b = and_both (eqb q.step.node u) (eqb q.code 0) e in
        absurd (h q (Memᴰ.head refl) (eqb-true q.code 0 b.1) (eqb-true q.step.node u b.0))

split-lost : (s : List ℕ) (p : PlanCalled) (qs : List PutCalled) (u : ℕ) → Memᴰ u (plan_nodes (anchor_of s).depth p.index)
    → ((q : PutCalled) → Memᴰ q qs → q.code ≡ 0 → q.step.node ≡ u → ⊥) → stands (split s p qs) ≡ false
split-lost s p qs u m h =
    ⊎_elim
    (λ (e : stands (split s p qs) ≡ true).
    contrary
    (every-is (λ w. put_at w qs) (plan_nodes (anchor_of s).depth p.index) (and_both (eqb p.code 0) (all_put s p qs) e).1 u m)
    (put-none u qs h))
    (λ (e : stands (split s p qs) ≡ false). e) (truth (stands (split s p qs)))

attempt-falls : (s : List ℕ) (t : AttemptCalled) (fate : Fate) → t.fate ≡ fate → has_stood fate ≡ false → stands (attempt s t) ≡ false
attempt-falls s t fate e f =
    ap (λ (b : Bool). eqb t.code 0 && b) (ap has_stood e ∙ f) ∙ and_false (eqb t.code 0)

reached-so : (s : List ℕ) (t : AttemptCalled) (fate : Fate) → t.code ≡ 0 → t.fate ≡ fate
    → (back_of (attempt s t)).anchor ≡ bytes (reached s t fate)
reached-so s t fate zero e = ap₂ (λ (b : Bool) (f : Fate). bytes (cond b (reached s t f) s)) (eq-eqb t.code 0 zero) e

unheard-stays : (s : List ℕ) (t : AttemptCalled) → t.fate ≡ Run.unheard → (back_of (attempt s t)).anchor ≡ bytes s
unheard-stays s t e =
    ap (λ (f : Fate). bytes (cond (eqb t.code 0) (reached s t f) s)) e ∙ ap bytes (both (eqb t.code 0))
  where
    both : (b : Bool) → cond b s s ≡ s
    both true = refl
    both false = refl

moved-none : (a : Array) (c : Told) → moved a c false ≡ a
unfolding moved
moved-none a (read i) = refl
moved-none a (write i block) = refl
moved-none a check = refl
moved-none a Array.wipe = refl

left-more : (rs : List Called) (r : Called) (left : List ℕ)
    → left_by left (rs ++ (r ∷ [])) ≡ cond (stands r && renews (called r)) (back_of r).card (left_by left rs)
left-more [] r left = refl
left-more (q ∷ rs) r left = left-more rs r (cond (stands q && renews (called q)) (back_of q).card left)

stays : (left : List ℕ) (rs : List Called) (r : Called) → stands r ≡ false → (a : Array)
    → (array_by a (rs ++ (r ∷ [])) ≡ array_by a rs) × (left_by left (rs ++ (r ∷ [])) ≡ left_by left rs)
stays left rs r e a = (
  array-more rs r a ∙ ap (moved (array_by a rs) (Run.told (called r))) e ∙ moved-none (array_by a rs) (Run.told (called r)),
  left-more rs r left ∙ ap (λ (b : Bool). cond (b && renews (called r)) (back_of r).card (left_by left rs)) e,
)

pub plain-goes-on : (left : List ℕ) → PlainGoesOn left
plain-goes-on left =
    record {
      all_none = λ p. absurd (no_place p);
      all_more = λ rs r f h. at_more (Fair left) rs r f (λ z d. h z);
      all-wiped = λ rs r f w. at_more (Fair left) rs r f (λ z d. absurd (d w));
      writes-none = λ p. absurd (no_place p);
      writes_more = λ rs r f h.
          since left (rs ++ (r ∷ [])) (holds_more (Wipes left) (Writes left) rs r (λ p none. f p (λ q b z w. none q b (z, w))) h);
      writes-wiped = λ rs r z w.
          since left (rs ++ (r ∷ []))
          (holds-ended (Wipes left) (Writes left) rs r (z, w) (λ y e. absurd (write-not-wipe (called r) e w)));
      untouched-call = λ s c back. refl;
      untouched-split = λ s p qs e h. (e, puts-at p.left qs h);
      untouched-attempt = λ s t e. e;
      split-stands = λ s p qs zero h.
          both-and (eqb p.code 0) (all_put s p qs) (eq-eqb p.code 0 zero)
          (is-every (λ u. put_at u qs) (plan_nodes (anchor_of s).depth p.index) h);
      put-here = put-here;
      split-lost = split-lost;
      attempt-stands = λ s t zero e. (
        ap₂ (λ (b : Bool) (f : Fate). b && has_stood f) (eq-eqb t.code 0 zero) e,
        reached-so s t Run.stood zero e,
      );
      attempt-lost = λ s t e. (attempt-falls s t Run.lost e refl, λ zero. reached-so s t Run.lost zero e);
      attempt-unheard = λ s t e. (attempt-falls s t Run.unheard e refl, unheard-stays s t e);
      stays = stays left;
      filled-call = λ s card c back. tt;
      filled-split = λ s p qs h. h;
      filled-attempt = λ s t. tt;
      filled_none = λ p. absurd (no_place p);
      filled_more = λ rs r f h. at_more (λ before q. FilledIn q) rs r f h;
      split-goes-on = split-goes-on;
      turns-run = turns-run;
      attempt-like-write = attempt-like-write;
      fits-call = λ form card c. tt;
      fits-split = λ card i block ranges puts h. h;
      fits-attempt = λ card i block ranges journal fate. tt;
      plan-meets = λ s p room buffer k. record { plan-room = room; message-room = buffer; says = k };
      put-meets = λ s b q long k. (long, k, tt);
      attempt-meets = λ s t long k. record { raised-room = long; says = k };
    }
