-- The messages that calls check and tag, and what they take together.
use mathlib.Core.Path.{◌≡◌, refl, sym, ap, ap₂, subst, ◌∙◌}
use mathlib.Core.Bool.{Bool, true, false, cond}
use mathlib.Core.List.{List, [], ◌∷◌, ◌++◌, map, map-append}
use mathlib.Core.Logic.{⊎_elim}
use mathlib.Core.Option.{none, some}
use Prim.Native.Nat.{ℕ, suc, ◌+◌, ◌/◌, ◌%◌, ◌≤◌}
use native.Mathlib.Nat.{add_assoc, add-zero, zero-add}
use native.Mathlib.Numerals.{add-one}
use native.Mathlib.Omega.{arith}
use lib.ListN.{length, length-append}
use Rattle.tree.specs.Layout.{IsNode, size}
use Rattle.tree.specs.Nodes.{up_to, path_node, sibling, pair}
use Rattle.tree.specs.Labels.{Labels, form, message, labels}
use Rattle.tree.specs.Card.{right, first_wrong, checked}
use Rattle.tree.specs.Calls.{total}
use Rattle.tree.proofs.LayoutLaws.{inner}
use Rattle.tree.proofs.LabelLaws.{Sized, parent-node}

-- Sums

pub total-append : {A : Type 0} (each : A → ℕ) (xs ys : List A) → total each (xs ++ ys) ≡ total each xs + total each ys
unfolding total
total-append each [] ys = sym (zero-add (total each ys))
total-append each (x ∷ xs) ys =
    ap (λ (k : ℕ). each x + k) (total-append each xs ys) ∙ sym (add_assoc (each x) (total each xs) (total each ys))

module _ (each : List ℕ → ℕ) (L : Labels) where
  total-map : (us vs : List ℕ)
      → total each (map (message L) (us ++ vs)) ≡ total each (map (message L) us) + total each (map (message L) vs)
  total-map us vs = ap (total each) (map-append (message L) us vs) ∙ total-append each (map (message L) us) (map (message L) vs)

  -- one level more
  total-more : (y : ℕ) (f : ℕ → List ℕ)
      → total each (map (message L) (up_to (y + 1) f)) ≡ total each (map (message L) (up_to y f)) + total each (map (message L) (f (y + 1)))
  unfolding up_to
  total-more y f = rw add-one (total-map (up_to y f) (f (suc y)))

  -- of one node, and of two
  pub one_more : (y k a : ℕ) → k ≡ total each (map (message L) (up_to y (λ z. (z + 1) ∷ []))) → a ≡ each (message L (y + 1 + 1))
      → k + a ≡ total each (map (message L) (up_to (y + 1) (λ z. (z + 1) ∷ [])))
  unfolding total
  one_more y k a e p =
      ap₂ ◌+◌ e (p ∙ sym (add-zero (each (message L (y + 1 + 1))))) ∙ sym (total-more y (λ z. (z + 1) ∷ []))

  pub two-more : (n i y k a b : ℕ) → k ≡ total each (map (message L) (up_to y (pair n i)))
      → a ≡ each (message L (path_node n i (y + 1))) → b ≡ each (message L (sibling (path_node n i (y + 1))))
      → k + a + b ≡ total each (map (message L) (up_to (y + 1) (pair n i)))
  unfolding total
  two-more n i y k a b e p q =
      add_assoc k a b
      ∙ ap₂ ◌+◌ e (ap₂ ◌+◌ p (q ∙ sym (add-zero (each (message L (sibling (path_node n i (y + 1))))))))
      ∙ sym (total-more y (pair n i))

-- Checks along one list after another

module _ (F : List ℕ → List ℕ) (n t : ℕ) (card : List ℕ) where
  -- nothing is checked behind a wrong node
  checked-wrong : (u : ℕ) (us : List ℕ) → right F n t card u ≡ false → checked F n t card (u ∷ us) ≡ message (labels n t card) u ∷ []
  unfolding checked
  checked-wrong u us e = rw e

  checked-append : (us vs : List ℕ)
      → (first_wrong F n t card us ≡ none → checked F n t card (us ++ vs) ≡ checked F n t card us ++ checked F n t card vs)
      × ((u : ℕ) → first_wrong F n t card us ≡ some u → checked F n t card (us ++ vs) ≡ checked F n t card us)
  unfolding first_wrong checked
  checked-append [] vs = (λ e. refl, λ u e. let z : ◌≡◌ {A = ℕ} 0 1 = cc in absurd (omega arith))
  checked-append (w ∷ us) vs = go (checked-append us vs) (right F n t card w)
    where
      m : List ℕ
      m = message (labels n t card) w

      go : ((first_wrong F n t card us ≡ none → checked F n t card (us ++ vs) ≡ checked F n t card us ++ checked F n t card vs)
          × ((u : ℕ) → first_wrong F n t card us ≡ some u → checked F n t card (us ++ vs) ≡ checked F n t card us))
          → (b : Bool)
          → (cond b (first_wrong F n t card us) (some w) ≡ none
          → m ∷ cond b (checked F n t card (us ++ vs)) [] ≡ (m ∷ cond b (checked F n t card us) []) ++ checked F n t card vs)
          × ((u : ℕ) → cond b (first_wrong F n t card us) (some w) ≡ some u
          → m ∷ cond b (checked F n t card (us ++ vs)) [] ≡ m ∷ cond b (checked F n t card us) [])
      go h true = (λ e. ap (λ (l : List (List ℕ)). m ∷ l) (h.0 e), λ u e. ap (λ (l : List (List ℕ)). m ∷ l) (h.1 u e))
      go h false = (λ e. let z : ◌≡◌ {A = ℕ} 0 1 = cc in absurd (omega arith), λ u e. refl)

  -- where the first list has no wrong node, both lists' messages are checked; where it has one, its own alone
  pub checked-after : (us vs : List ℕ) → first_wrong F n t card us ≡ none
      → checked F n t card (us ++ vs) ≡ checked F n t card us ++ checked F n t card vs
  checked-after us vs = (checked-append us vs).0

  -- no message is checked but those of the list
  pub checked-most : (each : List ℕ → ℕ) (us : List ℕ)
      → total each (checked F n t card us) ≤ total each (map (message (labels n t card)) us)
  unfolding checked total
  checked-most each [] = omega arith
  checked-most each (u ∷ us) = go (checked-most each us) (right F n t card u)
    where
      go : total each (checked F n t card us) ≤ total each (map (message (labels n t card)) us) → (b : Bool)
          → each (message (labels n t card) u) + total each (cond b (checked F n t card us) [])
          ≤ each (message (labels n t card) u) + total each (map (message (labels n t card)) us)
      go h true = omega arith
      go h false = omega arith

  -- where no node is wrong, all are checked
  pub checked-all : (us : List ℕ) → first_wrong F n t card us ≡ none → checked F n t card us ≡ map (message (labels n t card)) us
  unfolding first_wrong checked
  checked-all [] e = refl
  checked-all (u ∷ us) e = go (checked-all us) (right F n t card u) e
    where
      go : (first_wrong F n t card us ≡ none → checked F n t card us ≡ map (message (labels n t card)) us) → (b : Bool)
          → cond b (first_wrong F n t card us) (some u) ≡ none
          → message (labels n t card) u ∷ cond b (checked F n t card us) []
          ≡ message (labels n t card) u ∷ map (message (labels n t card)) us
      go h true e = ap (λ (l : List (List ℕ)). message (labels n t card) u ∷ l) (h e)
      go h false e = let z : ◌≡◌ {A = ℕ} 0 1 = cc in absurd (omega arith)

  pub checked-before : (us vs : List ℕ) (u : ℕ) → first_wrong F n t card us ≡ some u
      → checked F n t card (us ++ vs) ≡ checked F n t card us
  checked-before us vs = (checked-append us vs).1

  -- The list up to its first wrong node

  pub record Split (us : List ℕ) (u : ℕ) : Type 0 where
    pub before : List ℕ
    pub behind : List ℕ
    pub splits : us ≡ before ++ (u ∷ behind)
    pub none_before : first_wrong F n t card before ≡ none
    pub is-wrong : right F n t card u ≡ false

  pub split : (us : List ℕ) (u : ℕ) → first_wrong F n t card us ≡ some u → Split us u
  unfolding first_wrong
  split [] u e = let z : ◌≡◌ {A = ℕ} 0 1 = cc in absurd (omega arith)
  split (w ∷ us) u e = go (split us u) (right F n t card w) refl e
    where
      go : (first_wrong F n t card us ≡ some u → Split us u) → (b : Bool) → right F n t card w ≡ b
          → cond b (first_wrong F n t card us) (some w) ≡ some u → Split (w ∷ us) u
      go rest true p e =
          let s = rest e in
          record {
            before = w ∷ s.before;
            behind = s.behind;
            splits = ap (λ (l : List ℕ). w ∷ l) s.splits;
            none_before = rw p s.none_before;
            is-wrong = s.is-wrong;
          }
      go rest false p e =
          let q : w ≡ u = cc in
          record {
            before = [];
            behind = us;
            splits = ap (λ (v : ℕ). v ∷ us) q;
            none_before = refl;
            is-wrong = subst (λ (v : ℕ). right F n t card v ≡ false) q p;
          }

  -- its messages are those checked
  pub split-checked : (us : List ℕ) (u : ℕ) (s : Split us u)
      → checked F n t card us ≡ map (message (labels n t card)) (s.before ++ (u ∷ []))
  split-checked us u s =
      ap (checked F n t card) s.splits ∙ checked-after s.before (u ∷ s.behind) s.none_before
      ∙ ap₂ ◌++◌ (checked-all s.before s.none_before) (checked-wrong u s.behind s.is-wrong)
      ∙ sym (map-append (message (labels n t card)) s.before (u ∷ []))

-- How long messages are

pub length-form : (x p : List ℕ) (s : ℕ) → length (form x p s) ≡ length x + (length p + 1)
unfolding form
length-form x p s = length-append x (p ++ (s ∷ [])) ∙ ap (λ (k : ℕ). length x + k) (length-append p (s ∷ []))

-- a message has the label's bytes and nine more, where the labels have their lengths and the root's is a nonce
pub length-message : (n : ℕ) (L : Labels) → Sized n L → length (L 1) ≡ 8 → (u : ℕ) → IsNode n u → length (message L u) ≡ size n u + 9
length-message n L sized root u h =
    let p : length (L (u / 2)) ≡ 8 =
    ⊎_elim (λ (e : u / 2 ≡ 1). ap (λ (w : ℕ). length (L w)) e ∙ root)
    (λ (k : IsNode n (u / 2)). sized (u / 2) k ∙ (inner n (u / 2) (omega (arith, h.high))).size_is)
    (parent-node n u h) in
    length-form (L u) (L (u / 2)) (u % 2) ∙ ap₂ (λ (x y : ℕ). x + (y + 1)) (sized u h) p
