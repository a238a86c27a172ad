-- Labels: those of a card, of a blank card, and of a card after a write.
use mathlib.Core.Path.{◌≡◌, refl, sym, ap, ap₂, ◌∙◌}
use mathlib.Core.Bool.{cond}
use mathlib.Core.List.{List, [], ◌∷◌, ◌++◌}
use mathlib.Core.Logic.{◌⊎◌, inl, inr, ⊎_elim}
use Prim.Native.Nat.{ℕ, zero, suc, ◌+◌, ◌-◌, ◌/◌, ◌%◌, ◌^◌, ◌<◌, ◌≤◌}
use native.Mathlib.Nat.{eq-or-lt_of_le, pow-suc}
use native.Mathlib.Omega.{arith}
use borrow.Author.Tests.{eq-eqb, ne_eqb, lt-ltb, le-ltb}
use lib.Dec.{eqb}
use lib.ListN.{length, length-append, replicate}
use lib.Pow.{pow_mono}
use lib.Seq.{sets}
use Rattle.words.specs.Bytes.{part}
use Rattle.words.specs.Words.{bytes}
use Rattle.words.proofs.Cases.{below_or_not, equal_or_not}
use Rattle.tree.specs.Numbers.{be8}
use Rattle.tree.specs.Layout.{IsNode, size, offset, card_length, label}
use Rattle.tree.specs.Nodes.{path_node}
use Rattle.tree.specs.Labels.{Labels, form, message, labels, blank_labels, relabel, raised, new_labels}
use Rattle.tree.proofs.ByteLaws.{append_inj, length-be, part-sets-second}
use Rattle.tree.proofs.LayoutLaws.{inner, leaf, length_label}
use Rattle.tree.proofs.NodeLaws.{path-root, path-leaf, path-level, path-distinct, On, Off, on-or-off}

-- Messages

pub record Parts (x p : List ℕ) (s : ℕ) (y q : List ℕ) (t : ℕ) : Type 0 where
  pub label_same : x ≡ y
  pub parent-same : p ≡ q
  pub side_same : s ≡ t

-- a message tells its parts
pub form-parts : (x p : List ℕ) (s : ℕ) (y q : List ℕ) (t : ℕ) → length p ≡ length q → form x p s ≡ form y q t → Parts x p s y q t
unfolding form
form-parts x p s y q t h e =
    let n : length x ≡ length y = omega (arith, simp length-append at (ap length e)) in
    let a = append_inj x (p ++ (s ∷ [])) y (q ++ (t ∷ [])) n e in
    let b = append_inj p (s ∷ []) q (t ∷ []) h a.1 in
    record { label_same = a.0; parent-same = b.0; side_same = cc b.1 }

-- a message put at the front of a buffer is there
pub form-front : (m x : List ℕ) (p s : ℕ) → length x + 9 ≤ length m
    → part (sets m 0 (form x (bytes 8 p) s)) 0 (length x + 9) ≡ form x (bytes 8 p) s
unfolding form
form-front m x p s h =
    let v = x ++ (bytes 8 p ++ (s ∷ [])) in
    let n : length v ≡ length x + 9 = length-append x (bytes 8 p ++ (s ∷ [])) in
    ap (part (sets m 0 v) 0) (sym n) ∙ part-sets-second [] v m 0 (omega arith)

pub message-same : (L M : Labels) (u : ℕ) → L u ≡ M u → L (u / 2) ≡ M (u / 2) → message L u ≡ message M u
message-same L M u p q = ap₂ (λ (x y : List ℕ). form x y (u % 2)) p q

-- The labels of a card

pub labels-root : (n t : ℕ) (card : List ℕ) → labels n t card 1 ≡ be8 t
unfolding labels
labels-root n t card = refl

pub labels-below : (n t : ℕ) (card : List ℕ) (u : ℕ) → 2 ≤ u → labels n t card u ≡ label n card u
unfolding labels
labels-below n t card u h = rw (ne_eqb u 1 (λ (e : u ≡ 1). omega arith))

pub labels-inner : (n t : ℕ) (card : List ℕ) (u : ℕ) → 2 ≤ u → u < 2 ^ n → labels n t card u ≡ part card (offset n u) 8
unfolding label
labels-inner n t card u h l = labels-below n t card u h ∙ ap (part card (offset n u)) (inner n u l).size_is

-- every node's label has its length
abbrev pub Sized : ℕ → Labels → Type 0
Sized n L = (u : ℕ) → IsNode n u → length (L u) ≡ size n u

pub labels-sized : (n t : ℕ) (card : List ℕ) → length card ≡ card_length n → Sized n (labels n t card)
labels-sized n t card e u h = ap length (labels-below n t card u h.low) ∙ length_label n card u e h

-- a node's parent is the root or a node
pub parent-node : (n u : ℕ) → IsNode n u → (u / 2 ≡ 1) ⊎ IsNode n (u / 2)
parent-node n u h =
    ⊎_elim (λ (e : u / 2 ≡ 1). inl e)
    (λ (d : u / 2 ≡ 1 → ⊥). inr (record { low = omega (arith, h.low); high = omega (arith, h.high) }))
    (equal_or_not (u / 2) 1)

-- The labels of a blank card

pub blank-inner : (n t u : ℕ) → u < 2 ^ n → blank_labels n t u ≡ be8 t
unfolding blank_labels
blank-inner n t u h = rw (lt-ltb u (2 ^ n) h)

pub blank-leaf : (n t u : ℕ) → 2 ^ n ≤ u → blank_labels n t u ≡ replicate 64 0
unfolding blank_labels
blank-leaf n t u h = rw (le-ltb u (2 ^ n) h)

pub blank-sized : (n t : ℕ) → Sized n (blank_labels n t)
blank-sized n t u h =
    ⊎_elim
    (λ (l : u < 2 ^ n). ap length (blank-inner n t u l) ∙ length-be 8 t ∙ sym (inner n u l).size_is)
    (λ (g : 2 ^ n ≤ u). ap length (blank-leaf n t u g) ∙ sym (leaf n u g).size_is)
    (below_or_not u (2 ^ n))

pub blank-root : (n t : ℕ) → 1 ≤ n → blank_labels n t 1 ≡ be8 t
blank-root n t h = let p : 2 ^ 1 ≤ 2 ^ n = pow_mono h in blank-inner n t 1 (omega arith)

-- labels of one length are equal
pub blank-same : (n t u w : ℕ) → size n u ≡ size n w → blank_labels n t u ≡ blank_labels n t w
blank-same n t u w e =
    ⊎_elim
    (λ (a : u < 2 ^ n).
    ⊎_elim (λ (b : w < 2 ^ n). blank-inner n t u a ∙ sym (blank-inner n t w b))
    (λ (b : 2 ^ n ≤ w). absurd (omega (arith, inner n u a, leaf n w b))) (below_or_not w (2 ^ n)))
    (λ (a : 2 ^ n ≤ u).
    ⊎_elim (λ (b : w < 2 ^ n). absurd (omega (arith, leaf n u a, inner n w b)))
    (λ (b : 2 ^ n ≤ w). blank-leaf n t u a ∙ sym (blank-leaf n t w b)) (below_or_not w (2 ^ n)))
    (below_or_not u (2 ^ n))

-- The labels after a write

module _ (n r i : ℕ) (b : List ℕ) (inside : i < 2 ^ n) where
  raised-off : (L : Labels) (k w : ℕ) → ((y : ℕ) → y < k → w ≡ path_node n i y → ⊥) → raised n r i L k w ≡ L w
  unfolding raised
  raised-off L zero w f = refl
  raised-off L (suc k) w f = rw (ne_eqb w (path_node n i k) (f k (omega arith))) (raised-off L k w (λ y h. f y (omega arith)))

  raised-on : (L : Labels) (k y : ℕ) → y < k → k ≤ n → raised n r i L k (path_node n i y) ≡ be8 (r + n - y)
  unfolding raised
  raised-on L zero y h hk = absurd (omega arith)
  raised-on L (suc k) y h hk = go (raised-on L k y) (eq-or-lt_of_le h)
    where
      go : (y < k → k ≤ n → raised n r i L k (path_node n i y) ≡ be8 (r + n - y)) → (suc y ≡ suc k) ⊎ (suc y < suc k)
          → relabel (raised n r i L k) (path_node n i k) (be8 (r + n - k)) (path_node n i y) ≡ be8 (r + n - y)
      go before (inl e) =
          let p : y ≡ k = omega arith in
          rw (eq-eqb (path_node n i y) (path_node n i k) (ap (path_node n i) p)) (ap (λ (z : ℕ). be8 (r + n - z)) (sym p))
      go before (inr l) =
          let d : path_node n i y ≡ path_node n i k → ⊥ =
          λ (e : path_node n i y ≡ path_node n i k).
          let p = path-distinct n i inside y k (omega arith) (omega arith) e in omega arith in
          rw (ne_eqb (path_node n i y) (path_node n i k) d) (before (omega arith) (omega arith))

  -- u_y for y below n
  pub new-path : (L : Labels) (y : ℕ) → y < n → new_labels n r i b L (path_node n i y) ≡ be8 (r + n - y)
  unfolding new_labels
  new-path L y h =
      let d : path_node n i y ≡ path_node n i n → ⊥ =
      λ (e : path_node n i y ≡ path_node n i n).
      let p = path-distinct n i inside y n (omega arith) (omega arith) e in omega arith in
      rw (ne_eqb (path_node n i y) (path_node n i n) d) (raised-on L n y h (omega arith))

  -- the leaf
  pub new-leaf : (L : Labels) → new_labels n r i b L (2 ^ n + i) ≡ b
  unfolding new_labels
  new-leaf L = rw (eq-eqb (2 ^ n + i) (path_node n i n) (sym (path-leaf n i inside)))

  -- every other node
  pub new-off : (L : Labels) (w : ℕ) → Off n i inside n w → new_labels n r i b L w ≡ L w
  unfolding new_labels
  new-off L w f =
      rw (ne_eqb w (path_node n i n) (f n (omega arith))) (raised-off L n w (λ y h. f y (omega arith)))

  pub new-root : (L : Labels) → 1 ≤ n → new_labels n r i b L 1 ≡ be8 (r + n)
  new-root L h =
      let e : r + n - 0 ≡ r + n = omega arith in
      ap (new_labels n r i b L) (sym (path-root n i inside)) ∙ new-path L 0 h ∙ ap be8 e

  -- what the labels were on the path does not matter
  pub new-same : (L M : Labels) (w : ℕ) → (Off n i inside n w → L w ≡ M w) → new_labels n r i b L w ≡ new_labels n r i b M w
  new-same L M w f = go (on-or-off n i inside n w)
    where
      at : (y : ℕ) → (y ≡ n) ⊎ (y < n) → w ≡ path_node n i y → new_labels n r i b L w ≡ new_labels n r i b M w
      at y (inl p) e =
          let q : w ≡ 2 ^ n + i = e ∙ ap (path_node n i) p ∙ path-leaf n i inside in
          ap (new_labels n r i b L) q ∙ new-leaf L ∙ sym (ap (new_labels n r i b M) q ∙ new-leaf M)
      at y (inr l) e = ap (new_labels n r i b L) e ∙ new-path L y l ∙ sym (ap (new_labels n r i b M) e ∙ new-path M y l)

      go : On n i inside n w ⊎ Off n i inside n w → new_labels n r i b L w ≡ new_labels n r i b M w
      go (inl o) = at o.level (eq-or-lt_of_le o.high) o.is
      go (inr g) = new-off L w g ∙ f g ∙ sym (new-off M w g)

  pub new-sized : (L : Labels) → length b ≡ 64 → Sized n L → Sized n (new_labels n r i b L)
  new-sized L long s u h = go (on-or-off n i inside n u)
    where
      at : (y : ℕ) → (y ≡ n) ⊎ (y < n) → u ≡ path_node n i y → length (new_labels n r i b L u) ≡ size n u
      at y (inl p) e =
          let q : u ≡ 2 ^ n + i = e ∙ ap (path_node n i) p ∙ path-leaf n i inside in
          ap (λ (w : ℕ). length (new_labels n r i b L w)) q ∙ ap length (new-leaf L) ∙ long ∙ sym (leaf n u (omega arith)).size_is
      at y (inr l) e =
          let v = path-level n i inside y (omega arith) in
          let p : 2 ^ suc y ≤ 2 ^ n = pow_mono l in
          let q = pow-suc 2 y in
          ap (λ (w : ℕ). length (new_labels n r i b L w)) e ∙ ap length (new-path L y l) ∙ length-be 8 (r + n - y)
          ∙ sym (inner n u (omega (arith, v))).size_is

      go : On n i inside n u ⊎ Off n i inside n u → length (new_labels n r i b L u) ≡ size n u
      go (inl o) = at o.level (eq-or-lt_of_le o.high) o.is
      go (inr g) = ap length (new-off L u g) ∙ s u h

  -- the block of each leaf
  pub new-block : (L : Labels) (j : ℕ) → new_labels n r i b L (2 ^ n + j) ≡ cond (eqb j i) b (L (2 ^ n + j))
  new-block L j = ⊎_elim same-leaf other-leaf (equal_or_not j i)
    where
      same-leaf : j ≡ i → new_labels n r i b L (2 ^ n + j) ≡ cond (eqb j i) b (L (2 ^ n + j))
      same-leaf e = rw (eq-eqb j i e) (ap (λ (k : ℕ). new_labels n r i b L (2 ^ n + k)) e ∙ new-leaf L)

      off : (j ≡ i → ⊥) → Off n i inside n (2 ^ n + j)
      off d y h e =
          ⊎_elim (λ (p : y ≡ n). let q = ap (path_node n i) p ∙ path-leaf n i inside in d (omega arith))
          (λ (l : y < n).
          let v = path-level n i inside y h in
          let p : 2 ^ suc y ≤ 2 ^ n = pow_mono l in
          let q = pow-suc 2 y in
          omega (arith, v))
          (eq-or-lt_of_le h)

      other-leaf : (j ≡ i → ⊥) → new_labels n r i b L (2 ^ n + j) ≡ cond (eqb j i) b (L (2 ^ n + j))
      other-leaf d = rw (ne_eqb j i d) (new-off L (2 ^ n + j) (off d))
