-- What puts on any cards did.
use mathlib.Core.Path.{◌≡◌, refl, sym, ap, ap₂, subst, ◌∙◌}
use mathlib.Core.Bool.{true}
use mathlib.Core.List.Memᴰ
use mathlib.Core.List.{List, [], ◌∷◌, Memᴰ}
use mathlib.Core.Logic.{◌⊎◌, inl, inr, ⊎_elim}
use Prim.Native.Nat.{ℕ, ◌+◌}
use lib.Seq.{sets}
use Rattle.words.proofs.Cases.{equal_or_not}
use Rattle.tree.specs.Layout.{size, offset}
use Rattle.tree.specs.Labels.{Labels, message}
use Rattle.tree.specs.Card.{put_each}
use Rattle.tree.specs.declared.Anchor.{Anchor}
use Rattle.plan.specs.Places.{plan_nodes, filled_at}
use Rattle.plan.specs.Split.{Given, given}
use Rattle.plan.specs.Puts.{PutStep, Going, after_put, after_all_puts, EachPut, PutUntouched, PutRight}
use Rattle.plan.proofs.PlaceLaws.{fill-other}
use Rattle.plan.proofs.TagLaws.{tags_put}
use Rattle.plan.proofs.PutLaws.{Runs, Takes, step, runs-step}

module _ (F : List ℕ → List ℕ) (a : Anchor) (i r : ℕ) (L : Labels) (ms : List Given)
    (gives : (u : ℕ) → Memᴰ u (plan_nodes a.depth i) → Memᴰ (given L u) ms) where
  -- The nodes of the accepted ones are the plan's; what is filled in the end was filled before or is among them; and where every tag was
  -- right and every card untouched, their tags are on the card.
  pub record Ran (g : Going) (xs : List PutStep) : Type 0 where
    pub nodes : List ℕ
    pub among : (u : ℕ) → Memᴰ u nodes → Memᴰ u (plan_nodes a.depth i)
    pub covered : (w : ℕ) → Memᴰ w (plan_nodes a.depth i) → filled_at a.depth (after_all_puts g xs).plan w ≡ true
        → (filled_at a.depth g.plan w ≡ true) ⊎ Memᴰ w nodes
    pub left_is : EachPut (PutRight F ms) g xs → EachPut PutUntouched g xs
        → (after_all_puts g xs).left ≡ tags_put a.depth (λ u. F (message L u)) nodes g.left

  ran-stood : (g : Going) (x : PutStep) (xs : List PutStep) → after_put g x ≡ g → Ran (after_put g x) xs → Ran g (x ∷ xs)
  unfolding after_all_puts
  ran-stood g x xs e rest =
      record {
        nodes = rest.nodes;
        among = rest.among;
        covered = λ w m f.
            subst (λ (h : Going). (filled_at a.depth h.plan w ≡ true) ⊎ Memᴰ w rest.nodes) e (rest.covered w m f);
        left_is = λ p q.
            rest.left_is p.1 q.1 ∙ ap (λ (h : Going). tags_put a.depth (λ u. F (message L u)) rest.nodes h.left) e;
      }

  module _ (g : Going) (x : PutStep) (xs : List PutStep) (k : Runs a i r g) (t : Takes a i r g x) where
    abbrev n : ℕ
    n = a.depth

    here : Memᴰ x.node (plan_nodes a.depth i)
    here = subst (λ (j : ℕ). Memᴰ x.node (plan_nodes a.depth j)) k.index_is t.waits.among

    -- a put fills no other place
    same_bit : (w : ℕ) → Memᴰ w (plan_nodes a.depth i) → (w ≡ x.node → ⊥)
        → filled_at a.depth (after_put g x).plan w ≡ filled_at a.depth g.plan w
    same_bit w m d =
        ap (λ (h : Going). filled_at n h.plan w) t.is
        ∙ fill-other n g.plan x.node w t.waits.unfilled t.waits.among
        (subst (λ (j : ℕ). Memᴰ w (plan_nodes n j)) (sym k.index_is) m) d

    ran-took : Ran (after_put g x) xs → Ran g (x ∷ xs)
    unfolding after_all_puts put_each
    ran-took rest =
        record {
          nodes = x.node ∷ rest.nodes;
          among = λ u m.
              ⊎_elim (λ (e : u ≡ x.node). subst (λ (v : ℕ). Memᴰ v (plan_nodes n i)) (sym e) here)
              (λ (q : Memᴰ u rest.nodes). rest.among u q) (Memᴰ.cases_cons m);
          covered = λ w m f. cover w m (equal_or_not w x.node) (rest.covered w m f);
          left_is = λ p q.
              rest.left_is p.1 q.1
              ∙ ap (tags_put n (λ u. F (message L u)) rest.nodes)
              (ap (λ (h : Going). h.left) t.is
              ∙ ap₂ (λ (c y : List ℕ). sets c (offset n x.node + size n x.node) y) (q.0 t.placed)
              (p.0 t.placed (given L x.node) (gives x.node here) refl));
        }
      where
        cover : (w : ℕ) → Memᴰ w (plan_nodes a.depth i) → (w ≡ x.node) ⊎ (w ≡ x.node → ⊥)
            → (filled_at a.depth (after_put g x).plan w ≡ true) ⊎ Memᴰ w rest.nodes
            → (filled_at a.depth g.plan w ≡ true) ⊎ Memᴰ w (x.node ∷ rest.nodes)
        cover w m (inl e) c = inr (Memᴰ.head e)
        cover w m (inr d) (inl f) = inl (sym (same_bit w m d) ∙ f)
        cover w m (inr d) (inr q) = inr (Memᴰ.tail q)

  pub ran : (xs : List PutStep) (g : Going) → Runs a i r g → Ran g xs
  unfolding after_all_puts put_each
  ran [] g k = record { nodes = []; among = λ u m. absurd (Memᴰ.not-nil m); covered = λ w m e. inl e; left_is = λ p q. refl }
  ran (x ∷ xs) g k =
      let rest = ran xs (after_put g x) (runs-step a i r g k x) in
      ⊎_elim (λ (e : after_put g x ≡ g). ran-stood g x xs e rest) (λ (t : Takes a i r g x). ran-took g x xs k t rest) (step a i r g k x)
