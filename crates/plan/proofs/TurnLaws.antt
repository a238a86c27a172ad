-- Tags put in turn, each on the card as the step before left it: where the nodes are those that a plan waits for, every put is accepted,
-- and they fill it.
use mathlib.Core.Path.{◌≡◌, refl, sym, ap, subst, ◌∙◌}
use mathlib.Core.Bool.{true, false}
use mathlib.Core.List.Memᴰ
use mathlib.Core.List.{List, [], ◌∷◌, map, Memᴰ}
use mathlib.Core.Logic.{◌⊎◌, inl, inr, ⊎_elim}
use Prim.Native.Nat.{ℕ, ◌+◌, ◌^◌, ◌<◌}
use lib.ListN.{length}
use lib.Seq.{length-sets}
use Rattle.words.proofs.Cases.{equal_or_not}
use Rattle.tree.specs.Layout.{size, offset}
use Rattle.tree.specs.declared.Anchor.{Anchor}
use Rattle.tree.specs.Answer.{Whole}
use Rattle.tree.proofs.LimitLaws.{Sound}
use Rattle.plan.specs.Places.{plan_nodes, filled_at, fill, full}
use Rattle.plan.specs.Split.{Given, put_answer}
use Rattle.plan.specs.Puts.{PutStep, Going, after_put, after_all_puts, Placed, EachPut, PutUntouched, PutRight}
use Rattle.plan.specs.Orders.{Apart, in_turn}
use Rattle.plan.proofs.PlaceLaws.{Awaited, fill-same, fill-other, is-full}
use Rattle.plan.proofs.PutLaws.{put-accept, put-answer, went, PutMove, stood, took, put-move, Runs, runs-old, runs-step}

pub sound-length : {a : Anchor} {c d : List ℕ} → Sound a c → length d ≡ length c → Sound a d
sound-length s e =
    record {
      deep = s.deep;
      shallow = s.shallow;
      multiple = s.multiple;
      reserved_multiple = s.reserved_multiple;
      within = s.within;
      full = e ∙ s.full;
    }

abbrev turn : (ℕ → List ℕ) → Going → ℕ → PutStep
turn M g u = record { card = g.left; node = u; tag = M u }

-- they are at these nodes, in this order
pub turns-nodes : (M : ℕ → List ℕ) (us : List ℕ) (g : Going) → map (λ (x : PutStep). x.node) (in_turn g M us) ≡ us
unfolding in_turn
turns-nodes M [] g = refl
turns-nodes M (u ∷ us) g = ap (λ (ws : List ℕ). u ∷ ws) (turns-nodes M us (after_put g (turn M g u)))

-- each had the card as the step before left it, and the tag that is M's
pub turns-untouched-by : (M : ℕ → List ℕ) (us : List ℕ) (g : Going) → EachPut PutUntouched g (in_turn g M us)
unfolding in_turn
turns-untouched-by M [] g = tt
turns-untouched-by M (u ∷ us) g = ((λ p. refl), turns-untouched-by M us (after_put g (turn M g u)))

pub turns-right-by : (F : List ℕ → List ℕ) (ms : List Given) (M : ℕ → List ℕ) (us : List ℕ) (g : Going)
    → ((u : ℕ) → Memᴰ u us → (m : Given) → Memᴰ m ms → m.node ≡ u → M u ≡ F m.message)
    → EachPut (PutRight F ms) g (in_turn g M us)
unfolding in_turn
turns-right-by F ms M [] g f = tt
turns-right-by F ms M (u ∷ us) g f = (
  λ p m k e. f u (Memᴰ.head refl) m k e,
  turns-right-by F ms M us (after_put g (turn M g u)) (λ w q. f w (Memᴰ.tail q)),
)

module _ (a : Anchor) (i r : ℕ) (inside : i < 2 ^ a.depth) where
  abbrev n : ℕ
  n = a.depth

  -- the nodes of a list are those that the plan still waits for
  pub record Waiting (g : Going) (us : List ℕ) : Type 0 where
    pub among : (u : ℕ) → Memᴰ u us → Memᴰ u (plan_nodes a.depth i)
    pub unfilled : (u : ℕ) → Memᴰ u us → filled_at a.depth g.plan u ≡ false
    pub others : (u : ℕ) → Memᴰ u (plan_nodes a.depth i) → (filled_at a.depth g.plan u ≡ true) ⊎ Memᴰ u us
    pub apart : Apart us
    pub sound : Sound a g.left

  module _ (M : ℕ → List ℕ) (g : Going) (k : Runs a i r g) (u : ℕ) (us : List ℕ) (h : Waiting g (u ∷ us)) where
    in-plan : (w : ℕ) → Memᴰ w (plan_nodes n i) → Memᴰ w (plan_nodes n g.plan.index.0)
    in-plan w m = subst (λ (j : ℕ). Memᴰ w (plan_nodes n j)) (sym k.index_is) m

    awaits-it : Awaited n g.plan u
    awaits-it =
        record {
          inside = subst (λ (j : ℕ). j < 2 ^ n) (sym k.index_is) inside;
          among = in-plan u (h.among u (Memᴰ.head refl));
          unfilled = h.unfilled u (Memᴰ.head refl);
        }

    old : g.anchor ≡ a
    old = runs-old a i r g k u awaits-it

    is-placed : Placed g (turn M g u)
    is-placed =
        put-answer g.anchor g.plan g.left u (M u)
        ∙ subst (λ (b : Anchor). put_answer b g.plan g.left u ≡ Whole) (sym old)
        (put-accept a g.plan g.left u h.sound awaits-it)

    goes : after_put g (turn M g u) ≡ went a g.plan (turn M g u)
    goes = go (put-move g (turn M g u))
      where
        go : PutMove g (turn M g u) → after_put g (turn M g u) ≡ went a g.plan (turn M g u)
        go (stood d e) = absurd (d is-placed)
        go (took q e) = e ∙ ap (λ (b : Anchor). went b g.plan (turn M g u)) old

    same_bit : (w : ℕ) → Memᴰ w (plan_nodes n i) → (w ≡ u → ⊥) → filled_at n (fill n g.plan u) w ≡ filled_at n g.plan w
    same_bit w m d = fill-other n g.plan u w awaits-it.unfilled awaits-it.among (in-plan w m) d

    others-then : (w : ℕ) → Memᴰ w (plan_nodes n i) → (filled_at n (fill n g.plan u) w ≡ true) ⊎ Memᴰ w us
    others-then w m = go (equal_or_not w u) (h.others w m)
      where
        go : (w ≡ u) ⊎ (w ≡ u → ⊥) → (filled_at n g.plan w ≡ true) ⊎ Memᴰ w (u ∷ us)
            → (filled_at n (fill n g.plan u) w ≡ true) ⊎ Memᴰ w us
        go (inl e) c = inl (ap (filled_at n (fill n g.plan u)) e ∙ fill-same n g.plan u awaits-it.unfilled)
        go (inr d) (inl f) = inl (same_bit w m d ∙ f)
        go (inr d) (inr q) = ⊎_elim (λ (e : w ≡ u). absurd (d e)) (λ (l : Memᴰ w us). inr l) (Memᴰ.cases_cons q)

    waiting-then : Waiting (after_put g (turn M g u)) us
    waiting-then =
        subst (λ (q : Going). Waiting q us) (sym goes)
        (record {
          among = λ w m. h.among w (Memᴰ.tail m);
          unfilled = λ w m.
              same_bit w (h.among w (Memᴰ.tail m)) (λ e. h.apart.0 (subst (λ (v : ℕ). Memᴰ v us) e m))
              ∙ h.unfilled w (Memᴰ.tail m);
          others = others-then;
          apart = h.apart.1;
          sound = sound-length h.sound (length-sets g.left (offset n u + size n u) (M u));
        })

  pub turns : (M : ℕ → List ℕ) (us : List ℕ) (g : Going) → Runs a i r g → Waiting g us
      → EachPut Placed g (in_turn g M us) × (full a.depth (after_all_puts g (in_turn g M us)).plan ≡ true)
  unfolding in_turn after_all_puts
  turns M [] g k h = (
    tt,
    is-full n g.plan
        (λ u m.
        ⊎_elim (λ (e : filled_at n g.plan u ≡ true). e) (λ (q : Memᴰ u []). absurd (Memᴰ.not-nil q))
        (h.others u (subst (λ (j : ℕ). Memᴰ u (plan_nodes n j)) k.index_is m))),
  )
  turns M (u ∷ us) g k h =
      let rest = turns M us (after_put g (turn M g u)) (runs-step a i r g k (turn M g u)) (waiting-then M g k u us h) in
      ((is-placed M g k u us h, rest.0), rest.1)
