-- What a write leaves: its labels, and then its tags in any order.
use mathlib.Core.Path.{◌≡◌, refl, sym, ap, ap₂, subst, ◌∙◌}
use mathlib.Core.List.Memᴰ
use mathlib.Core.List.{List, [], ◌∷◌, Memᴰ}
use mathlib.Core.Logic.{◌⊎◌, inl, inr, ⊎_elim}
use Prim.Native.Nat.{ℕ, zero, suc, ◌+◌, ◌^◌, ◌<◌, ◌≤◌}
use native.Mathlib.Omega.{arith}
use lib.ListN.{length}
use lib.Seq.{sets}
use Rattle.words.specs.Bytes.{part}
use Rattle.words.proofs.Stores.{sets-append}
use Rattle.words.proofs.Cases.{equal_or_not}
use Rattle.tree.specs.Layout.{IsNode, size, offset, card_length, label}
use Rattle.tree.specs.Nodes.{up_to, path_node, sibling, path, pair, pairs}
use Rattle.tree.specs.Labels.{Labels, message, labels, written_labels}
use Rattle.tree.specs.Card.{put_each, laid, stamp, stamped, written}
use Rattle.tree.proofs.ByteLaws.{sets-there}
use Rattle.tree.proofs.LayoutLaws.{AllNodes, entry-apart, entry-fits}
use Rattle.tree.proofs.NodeLaws.{among, sibling-half, path-node, path_parent, Child, child-node, child-off, pair-node}
use Rattle.tree.proofs.CardLaws.{length-laid, laid-append}
use Rattle.tree.proofs.LabelLaws.{Sized, labels-below, labels-sized, new-off, new-sized}
use Rattle.plan.specs.Places.{plan_nodes}
use Rattle.plan.proofs.PlaceLaws.{plan-node, plan-pairs, pairs-plan}
use Rattle.plan.proofs.StoreLaws.{sets-swap, sets-again}
use Rattle.plan.proofs.LaidLaws.{laid-label, laid-past}

-- Where the stores of two nodes can change places, and one made again changes nothing, the list's order does not matter.

module _ (n : ℕ) (f : ℕ → List ℕ → List ℕ)
    (swap : (u w : ℕ) → IsNode n u → IsNode n w → (card : List ℕ) → f w (f u card) ≡ f u (f w card))
    (again : (u : ℕ) (card : List ℕ) → f u (f u card) ≡ f u card) where
  front : (us : List ℕ) → AllNodes n us → (u : ℕ) → IsNode n u → (card : List ℕ) → put_each f us (f u card) ≡ f u (put_each f us card)
  unfolding put_each
  front [] h u hu card = refl
  front (w ∷ us) h u hu card =
      ap (put_each f us) (swap u w hu (h w (Memᴰ.head refl)) card) ∙ front us (λ v m. h v (Memᴰ.tail m)) u hu (f w card)

  -- what is stored later need not be stored now
  absorb : (us : List ℕ) → AllNodes n us → (u : ℕ) → Memᴰ u us → (card : List ℕ) → put_each f us (f u card) ≡ put_each f us card
  unfolding put_each
  absorb [] h u m card = absurd (Memᴰ.not-nil m)
  absorb (w ∷ us) h u m card = go (absorb us (λ v k. h v (Memᴰ.tail k)) u) (Memᴰ.cases_cons m)
    where
      go : (Memᴰ u us → (c : List ℕ) → put_each f us (f u c) ≡ put_each f us c) → (u ≡ w) ⊎ Memᴰ u us
          → put_each f us (f w (f u card)) ≡ put_each f us (f w card)
      go rest (inl e) = ap (λ (v : ℕ). put_each f us (f w (f v card))) e ∙ ap (put_each f us) (again w card)
      go rest (inr k) = ap (put_each f us) (swap u w (h u m) (h w (Memᴰ.head refl)) card) ∙ rest k (f w card)

  commute : (us vs : List ℕ) → AllNodes n us → AllNodes n vs → (card : List ℕ)
      → put_each f vs (put_each f us card) ≡ put_each f us (put_each f vs card)
  unfolding put_each
  commute [] vs hu hv card = refl
  commute (u ∷ us) vs hu hv card =
      commute us vs (λ v m. hu v (Memᴰ.tail m)) hv (f u card) ∙ ap (put_each f us) (front vs hv u (hu u (Memᴰ.head refl)) card)

  drown : (us vs : List ℕ) → AllNodes n vs → ((u : ℕ) → Memᴰ u us → Memᴰ u vs) → (card : List ℕ)
      → put_each f vs (put_each f us card) ≡ put_each f vs card
  unfolding put_each
  drown [] vs hv g card = refl
  drown (u ∷ us) vs hv g card = drown us vs hv (λ v m. g v (Memᴰ.tail m)) (f u card) ∙ absorb vs hv u (g u (Memᴰ.head refl)) card

  -- lists with the same nodes leave the same card
  pub each_same : (us vs : List ℕ) → AllNodes n us → AllNodes n vs → ((u : ℕ) → Memᴰ u us → Memᴰ u vs)
      → ((u : ℕ) → Memᴰ u vs → Memᴰ u us) → (card : List ℕ) → put_each f us card ≡ put_each f vs card
  each_same us vs hu hv g h card = sym (drown vs us hu h card) ∙ commute vs us hv hu card ∙ drown us vs hv g card

-- Tags

-- the tag M u at node u
abbrev pub tag_at : ℕ → (ℕ → List ℕ) → ℕ → List ℕ → List ℕ
tag_at n M u card = sets card (offset n u + size n u) (M u)

abbrev pub tags_put : ℕ → (ℕ → List ℕ) → List ℕ → List ℕ → List ℕ
tags_put n M us card = put_each (tag_at n M) us card

module _ (n : ℕ) (M : ℕ → List ℕ) (M16 : (u : ℕ) → length (M u) ≡ 16) where
  tag-swap : (u w : ℕ) → IsNode n u → IsNode n w → (card : List ℕ) → tag_at n M w (tag_at n M u card) ≡ tag_at n M u (tag_at n M w card)
  tag-swap u w hu hw card = go (equal_or_not u w)
    where
      go : (u ≡ w) ⊎ (u ≡ w → ⊥) → tag_at n M w (tag_at n M u card) ≡ tag_at n M u (tag_at n M w card)
      go (inl e) = ap₂ (λ (a b : ℕ). tag_at n M a (tag_at n M b card)) (sym e) e
      go (inr d) =
          let lu = M16 u in
          let lw = M16 w in
          sets-swap (M u) (M w) card (offset n u + size n u) (offset n w + size n w)
          (⊎_elim (λ (l : offset n u + (size n u + 16) ≤ offset n w). inl (omega arith))
          (λ (g : offset n w + (size n w + 16) ≤ offset n u). inr (omega arith)) (entry-apart n u w hu hw d))

  -- in any order
  pub tags-same : (us vs : List ℕ) → AllNodes n us → AllNodes n vs → ((u : ℕ) → Memᴰ u us → Memᴰ u vs)
      → ((u : ℕ) → Memᴰ u vs → Memᴰ u us) → (card : List ℕ) → tags_put n M us card ≡ tags_put n M vs card
  tags-same = each_same n (tag_at n M) tag-swap (λ u card. sets-again (M u) card (offset n u + size n u))

-- what is stamped is the labels, and then the tags
stamped-parts : (F : List ℕ → List ℕ) → ((m : List ℕ) → length (F m) ≡ 16) → (n : ℕ) (L : Labels) → Sized n L → (us : List ℕ)
    → AllNodes n us → (card : List ℕ) → stamped F n L us card ≡ tags_put n (λ u. F (message L u)) us (laid n L us card)
unfolding stamped laid put_each
stamped-parts F F16 n L sized [] h card = refl
stamped-parts F F16 n L sized (u ∷ us) h card =
    let hu = h u (Memᴰ.head refl) in
    let hs : AllNodes n us = λ v m. h v (Memᴰ.tail m) in
    let x = F (message L u) in
    let c = sets card (offset n u) (L u) in
    stamped-parts F F16 n L sized us hs (stamp F n L card u)
    ∙ ap (λ (d : List ℕ). tags_put n (λ w. F (message L w)) us (laid n L us d))
    (sets-append card (offset n u) (L u) x ∙ ap (λ (k : ℕ). sets c (offset n u + k) x) (sized u hu))
    ∙ ap (tags_put n (λ w. F (message L w)) us) (laid-past n L sized us hs u hu x (F16 (message L u)) c)

-- A write

module _ (n t r i : ℕ) (card b : List ℕ) (full : length card ≡ card_length n) (inside : i < 2 ^ n) (long : length b ≡ 64) where
  abbrev L : Labels
  L = written_labels n t r card i b

  sized : Sized n L
  sized = new-sized n r i b inside (labels n t card) long (labels-sized n t card full)

  other : (u : ℕ) → sibling u ≡ u → ⊥
  unfolding sibling
  other u e = omega arith

  beside : (k : ℕ) → k < n → Child n i inside (sibling (path_node n i (suc k)))
  beside k h = record { level = k; high = h; is = sibling-half (path_node n i (suc k)) ∙ path_parent n i inside k h }

  -- a sibling keeps its label
  sibling-label : (k : ℕ) → k < n → let w = sibling (path_node n i (suc k)) in label n card w ≡ L w
  unfolding beside
  sibling-label k h =
      let u = path_node n i (suc k) in
      let c = beside k h in
      sym (new-off n r i b inside (labels n t card) (sibling u) (child-off n i inside (sibling u) c (other u))
      ∙ labels-below n t card (sibling u) (child-node n i inside (sibling u) c).low)

  abbrev steps : ℕ → List ℕ
  steps k = up_to k (λ y. path_node n i y ∷ [])

  steps-nodes : (k : ℕ) → k ≤ n → AllNodes n (steps k)
  steps-nodes k h w m =
      let a = among k (λ y. path_node n i y ∷ []) w m in
      subst (IsNode n) (sym (Memᴰ.eq_of_singleton a.here)) (path-node n i inside a.level a.low (omega (arith, a.high)))

  -- so the labels of the path are all that is new
  laid-levels : (k : ℕ) → k ≤ n → laid n L (up_to k (pair n i)) card ≡ laid n L (steps k) card
  unfolding up_to laid put_each label
  laid-levels zero h = refl
  laid-levels (suc k) h =
      let u = path_node n i (suc k) in
      let w = sibling u in
      let hw = child-node n i inside w (beside k h) in
      let c = laid n L (steps (suc k)) card in
      let e = laid-append n L (steps k) (u ∷ []) card in
      let l = sized w hw in
      laid-append n L (up_to k (pair n i)) (pair n i (suc k)) card ∙ ap (laid n L (pair n i (suc k))) (laid-levels k (omega arith))
      ∙ ap (λ (d : List ℕ). sets d (offset n w) (L w)) (sym e)
      ∙ sets-there (L w) c (offset n w) (omega (arith, length-laid n L (steps (suc k)) card, entry-fits n w hw))
      (ap (part c (offset n w)) l ∙ laid-label n L sized (steps (suc k)) (steps-nodes (suc k) h) card full w hw (inl (sibling-label k h)))

  laid-path : laid n L (pairs n i) card ≡ laid n L (path n i) card
  unfolding pairs path
  laid-path = laid-levels n (omega arith)

  -- the plan's card with the tags, in any order
  pub written-parts : (F : List ℕ → List ℕ) → ((m : List ℕ) → length (F m) ≡ 16) → (us : List ℕ)
      → ((u : ℕ) → Memᴰ u us → Memᴰ u (plan_nodes n i)) → ((u : ℕ) → Memᴰ u (plan_nodes n i) → Memᴰ u us)
      → tags_put n (λ u. F (message L u)) us (laid n L (path n i) card) ≡ written F n t r card i b
  unfolding written
  written-parts F F16 us f g =
      let M : ℕ → List ℕ = λ u. F (message L u) in
      tags-same n M (λ u. F16 (message L u)) us (pairs n i) (λ w m. plan-node n i inside w (f w m)) (pair-node n i inside)
      (λ w m. plan-pairs n i inside w (f w m)) (λ w m. g w (pairs-plan n i inside w m)) (laid n L (path n i) card)
      ∙ sym (stamped-parts F F16 n L sized (pairs n i) (pair-node n i inside) card ∙ ap (tags_put n M (pairs n i)) laid-path)
