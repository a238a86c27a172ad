-- The ranges that a write changes: how many, how long, in order and on the card; and nothing changes outside them.
use mathlib.Core.Path.{◌≡◌, refl, sym, ap, subst, ◌∙◌}
use mathlib.Core.List.Memᴰ
use mathlib.Core.List.{List, [], ◌∷◌, ◌++◌, append_assoc, Memᴰ}
use mathlib.Core.Logic.{◌⊎◌, inl, inr, ⊎_elim}
use Prim.Native.Nat.{ℕ, zero, suc, ◌+◌, ◌*◌, ◌-◌, ◌/◌, ◌^◌, ◌<◌, ◌≤◌}
use native.Mathlib.Nat.{eq-or-lt_of_le, pow-suc}
use native.Mathlib.Numerals.{add-one}
use native.Mathlib.Omega.{arith}
use borrow.Author.Tests.{eq-eqb, ne_eqb}
use lib.ListN.{length, drop, length-append}
use lib.Seq.{get_or-take, get_or-drop, sets}
use lib.Pow.{pow_mono, pow_pos}
use Rattle.std.proofs.lemmas.Slice.{drop-append-drop}
use Rattle.words.specs.Bytes.{at}
use Rattle.words.proofs.Stores.{sets-append}
use Rattle.words.proofs.Cases.{below_or_not, equal_or_not}
use Rattle.tree.specs.Layout.{size, offset, card_length, label}
use Rattle.tree.specs.Nodes.{path_node, pairs}
use Rattle.tree.specs.Labels.{Labels, labels, new_labels}
use Rattle.tree.specs.Card.{written}
use Rattle.tree.specs.Ranges.{Range, range_of, range_pair, ranges_to, ranges_of, encode, listed}
use Rattle.tree.proofs.ByteLaws.{append_inj, length-be}
use Rattle.tree.proofs.LayoutLaws.{inner, leaf, entry-before, offset-mono, card-end, few-leaves}
use Rattle.tree.proofs.NodeLaws.{path-leaf, path-level, path_parent, Child, pairs-child, child-node, child-off, pair-node}
use Rattle.tree.proofs.LabelLaws.{labels-below, labels-sized, new-off, new-sized}
use Rattle.tree.proofs.CardLaws.{Puts, Leaves, stamped-byte}

-- the bytes in a list of ranges
unfoldable pub total : List Range → ℕ
total [] = 0
total (r ∷ rs) = r.count + total rs

-- from k on, each range ends before the next one starts, and the last by m
abbrev pub Rising : ℕ → List Range → ℕ → Type 0
Rising k [] m = k ≤ m
Rising k (r ∷ rs) m = (k ≤ r.start) × Rising (r.start + r.count) rs m

rising-append : (k : ℕ) (rs : List Range) (m : ℕ) (ss : List Range) (p : ℕ) → Rising k rs m → Rising m ss p → Rising k (rs ++ ss) p
rising-append k [] m [] p a b = omega arith
rising-append k [] m (s ∷ ss) p a b = (omega (arith, b.0), b.1)
rising-append k (r ∷ rs) m ss p a b = (a.0, rising-append (r.start + r.count) rs m ss p a.1 b)

rising-weak : (k : ℕ) (rs : List Range) (m : ℕ) → Rising k rs m → k ≤ m
rising-weak k [] m a = a
rising-weak k (r ∷ rs) m a = let e = rising-weak (r.start + r.count) rs m a.1 in omega (arith, a.0)

pub rising-end : (k : ℕ) (rs : List Range) (m : ℕ) → Rising k rs m → (r : Range) → Memᴰ r rs → r.start + r.count ≤ m
rising-end k [] m a r h = absurd (Memᴰ.not-nil h)
rising-end k (s ∷ rs) m a r h =
    ⊎_elim (λ (e : r ≡ s). rw e (rising-weak (s.start + s.count) rs m a.1))
    (λ (t : Memᴰ r rs). rising-end (s.start + s.count) rs m a.1 r t) (Memᴰ.cases_cons h)

pub total-append : (rs ss : List Range) → total (rs ++ ss) ≡ total rs + total ss
unfolding total
total-append [] ss = omega arith
total-append (r ∷ rs) ss = omega (arith, total-append rs ss)

-- Ranges as bytes

pub encode-append : (rs ss : List Range) → encode (rs ++ ss) ≡ encode rs ++ encode ss
unfolding encode
encode-append [] ss = refl
encode-append (r ∷ rs) ss = simp (encode-append rs ss, append_assoc)

pub length-encode : (rs : List Range) → length (encode rs) ≡ 8 * length rs
unfolding encode
length-encode [] = refl
length-encode (r ∷ rs) =
    simp length-append (omega (arith, length-be 4 r.start, length-be 4 r.count, length-encode rs))

-- ranges stored behind others
encode-stored : (s : List ℕ) (rs ss : List Range) (o : ℕ) → 8 * length rs ≡ o
    → sets (sets s 0 (encode rs)) o (encode ss) ≡ sets s 0 (encode (rs ++ ss))
encode-stored s rs ss o e =
    let k : 0 + length (encode rs) ≡ o = omega (arith, length-encode rs) in
    sym (ap (sets s 0) (encode-append rs ss) ∙ sets-append s 0 (encode rs) (encode ss)
    ∙ ap (λ (m : ℕ). sets (sets s 0 (encode rs)) m (encode ss)) k)

-- The range of a node: all of its entry, or its tag alone

pub record RangeIs (r : Range) (start count : ℕ) : Type 0 where
  pub start_is : r.start ≡ start
  pub count-is : r.count ≡ count

pub range-own : (n u w : ℕ) → w ≡ u → RangeIs (range_of n u w) (offset n w) (size n w + 16)
range-own n u w e = rw (eq-eqb w u e) (record { start_is = refl; count-is = refl })

pub range_other : (n u w : ℕ) → (w ≡ u → ⊥) → RangeIs (range_of n u w) (offset n w + size n w) 16
range_other n u w d = rw (ne_eqb w u d) (record { start_is = refl; count-is = refl })

pub record Ends (n u w : ℕ) : Type 0 where
  pub low : offset n w ≤ (range_of n u w).start
  pub high : (range_of n u w).start + (range_of n u w).count ≡ offset n w + (size n w + 16)

pub range-ends : (n u w : ℕ) → Ends n u w
range-ends n u w =
    ⊎_elim (λ (e : w ≡ u). let p = range-own n u w e in record { low = omega (arith, p); high = omega (arith, p) })
    (λ (d : w ≡ u → ⊥). let p = range_other n u w d in record { low = omega (arith, p); high = omega (arith, p) })
    (equal_or_not w u)

-- the two counts of a pair
pub pair-total : (n u : ℕ) → (range_of n u (2 * (u / 2))).count + (range_of n u (2 * (u / 2) + 1)).count ≡ size n u + 32
pair-total n u =
    ⊎_elim
    (λ (e : 2 * (u / 2) ≡ u).
    omega (
      arith,
      range-own n u (2 * (u / 2)) e,
      range_other n u (2 * (u / 2) + 1) (λ (z : 2 * (u / 2) + 1 ≡ u). omega arith),
      ap (size n) e,
    ))
    (λ (d : 2 * (u / 2) ≡ u → ⊥).
    let e : 2 * (u / 2) + 1 ≡ u = omega arith in
    omega (arith, range_other n u (2 * (u / 2)) d, range-own n u (2 * (u / 2) + 1) e, ap (size n) e))
    (equal_or_not (2 * (u / 2)) u)

module _ (n i : ℕ) where
  pub ranges-count : (k : ℕ) → length (ranges_to n i k) ≡ 2 * k
  unfolding ranges_to
  ranges-count zero = refl
  ranges-count (suc k) = length-append (ranges_to n i k) (range_pair n i (suc k)) ∙ omega (arith, ranges-count k)

  pub ranges-length : (k : ℕ) → length (encode (ranges_to n i k)) ≡ 16 * k
  ranges-length k = omega (arith, length-encode (ranges_to n i k), ranges-count k)

  -- the bytes of the buffer behind the ranges stay
  pub listed-keeps : (buffer : List ℕ) → drop (16 * n) (listed n i buffer) ≡ drop (16 * n) buffer
  listed-keeps buffer = drop-append-drop (16 * n) buffer (encode (ranges_of n i)) (16 * n) (omega arith) (ranges-length n)

  -- a level more, stored behind those before it; u is its node of the path
  pub ranges_more : (s t : List ℕ) (y u : ℕ) → t ≡ sets s 0 (encode (ranges_to n i y)) → u ≡ path_node n i (y + 1)
      → sets (sets t (16 * y) (encode (range_of n u (2 * (u / 2)) ∷ []))) (16 * y + 8) (encode (range_of n u (2 * (u / 2) + 1) ∷ []))
      ≡ sets s 0 (encode (ranges_to n i (y + 1)))
  unfolding ranges_to
  ranges_more s t y u d h =
      let rs = ranges_to n i y in
      let a = range_of n u (2 * (u / 2)) ∷ [] in
      let b = range_of n u (2 * (u / 2) + 1) ∷ [] in
      let e = ranges-count y in
      ap (λ (l : List ℕ). sets l (16 * y + 8) (encode b))
      (ap (λ (l : List ℕ). sets l (16 * y) (encode a)) d ∙ encode-stored s rs a (16 * y) (omega arith))
      ∙ encode-stored s (rs ++ a) b (16 * y + 8) (omega (arith, length-append rs a))
      ∙ ap (λ (l : List Range). sets s 0 (encode l)) (append_assoc rs a b) ∙ rw (h, add-one y)

  module _ (inside : i < 2 ^ n) where
    -- below level n the entries have 24 bytes
    pub total-inner : (k : ℕ) → k < n → total (ranges_to n i k) ≡ 40 * k
    unfolding ranges_to total
    total-inner zero h = refl
    total-inner (suc k) h =
        let u = path_node n i (suc k) in
        let v = path-level n i inside (suc k) (omega arith) in
        let p : 2 ^ suc (suc k) ≤ 2 ^ n = pow_mono h in
        let q = pow-suc 2 (suc k) in
        total-append (ranges_to n i k) (range_pair n i (suc k))
        ∙ omega (arith, total-inner k (omega arith), pair-total n u, inner n u (omega (arith, v)))

    total-all : (k : ℕ) → suc k ≡ n → total (ranges_to n i (suc k)) ≡ 40 * n + 56
    unfolding ranges_to total
    total-all k e =
        let u = path_node n i (suc k) in
        let v = path-level n i inside (suc k) (omega arith) in
        let p = ap (λ (y : ℕ). 2 ^ y) e in
        total-append (ranges_to n i k) (range_pair n i (suc k))
        ∙ omega (arith, total-inner k (omega arith), pair-total n u, leaf n u (omega (arith, v)))

    pub ranges-total : 1 ≤ n → total (ranges_of n i) ≡ 40 * n + 56
    ranges-total h =
        let e : suc (n - 1) ≡ n = omega arith in
        ap (λ (k : ℕ). total (ranges_to n i k)) (sym e) ∙ total-all (n - 1) e

    pub ranges-rising : (k : ℕ) → k ≤ n → Rising 0 (ranges_to n i k) (offset n (2 * 2 ^ k))
    unfolding ranges_to
    ranges-rising zero h = omega arith
    ranges-rising (suc k) h =
        let u = path_node n i (suc k) in
        let v = path-level n i inside (suc k) h in
        let p = pow-suc 2 k in
        let o = pow_pos k in
        let a = range-ends n u (2 * (u / 2)) in
        let b = range-ends n u (2 * (u / 2) + 1) in
        let x = entry-before n (2 * (u / 2)) (2 * (u / 2) + 1) (omega (arith, v)) (omega arith) in
        let y = entry-before n (2 * (u / 2) + 1) (2 * 2 ^ suc k) (omega (arith, v)) (omega (arith, v)) in
        let z = offset-mono n (2 * 2 ^ k) (2 * (u / 2)) (omega arith) (omega (arith, v)) in
        rising-append 0 (ranges_to n i k) (offset n (2 * 2 ^ k)) (range_pair n i (suc k)) (offset n (2 * 2 ^ suc k))
        (ranges-rising k (omega arith))
        (omega (arith, a.low), (omega (arith, a, b), omega (arith, b)))

    -- the ranges of a write are sorted, apart and on the card
    pub ranges-sorted : 1 ≤ n → Rising 0 (ranges_of n i) (card_length n)
    ranges-sorted h = subst (λ (m : ℕ). Rising 0 (ranges_of n i) m) (card-end n h) (ranges-rising n (omega arith))

    pub range-fits : 1 ≤ n → (r : Range) → Memᴰ r (ranges_of n i) → r.start + r.count ≤ card_length n
    range-fits h r m = rising-end 0 (ranges_of n i) (card_length n) (ranges-sorted h) r m

    -- and four bytes hold each number
    pub range-short : 1 ≤ n → n ≤ 16 → (r : Range) → Memᴰ r (ranges_of n i) → r.start + r.count < 2 ^ 32
    range-short h l r m = omega (arith, range-fits h r m, few-leaves n l)

-- Two blocks with one list are equal

last-pair : (n i j k : ℕ) → ranges_to n i (suc k) ≡ ranges_to n j (suc k) → range_pair n i (suc k) ≡ range_pair n j (suc k)
unfolding ranges_to
last-pair n i j k e =
    (append_inj (ranges_to n i k) (range_pair n i (suc k)) (ranges_to n j k) (range_pair n j (suc k))
    (ranges-count n i k ∙ sym (ranges-count n j k)) e).1

-- the lower range of two leaves and whose it is
leaf-pair : (n u w : ℕ) → 1 ≤ n → 2 ^ n ≤ u → 2 ^ n ≤ w → range_of n u (2 * (u / 2)) ≡ range_of n w (2 * (w / 2)) → u ≡ w
leaf-pair n u w h hu hw e =
    let p = pow-suc 2 (n - 1) in
    let q : suc (n - 1) ≡ n = omega arith in
    let t = ap (λ (k : ℕ). 2 ^ k) q in
    let x = leaf n (2 * (u / 2)) (omega arith) in
    let y = leaf n (2 * (w / 2)) (omega arith) in
    let a = range-ends n u (2 * (u / 2)) in
    let b = range-ends n w (2 * (w / 2)) in
    let c = ap (λ (r : Range). r.start) e in
    let d = ap (λ (r : Range). r.count) e in
    let half : u / 2 ≡ w / 2 = omega (arith, a.high, b.high, x, y) in
    ⊎_elim
    (λ (f : 2 * (u / 2) ≡ u).
    ⊎_elim (λ (g : 2 * (w / 2) ≡ w). omega arith)
    (λ (g : 2 * (w / 2) ≡ w → ⊥). absurd (omega (arith, range-own n u (2 * (u / 2)) f, range_other n w (2 * (w / 2)) g, x)))
    (equal_or_not (2 * (w / 2)) w))
    (λ (f : 2 * (u / 2) ≡ u → ⊥).
    ⊎_elim
    (λ (g : 2 * (w / 2) ≡ w). absurd (omega (arith, range_other n u (2 * (u / 2)) f, range-own n w (2 * (w / 2)) g, y)))
    (λ (g : 2 * (w / 2) ≡ w → ⊥). omega arith)
    (equal_or_not (2 * (w / 2)) w))
    (equal_or_not (2 * (u / 2)) u)

pub ranges-tell : (n i j : ℕ) → 1 ≤ n → i < 2 ^ n → j < 2 ^ n → ranges_of n i ≡ ranges_of n j → i ≡ j
ranges-tell n i j h hi hj e =
    let k : suc (n - 1) ≡ n = omega arith in
    let p = last-pair n i j (n - 1) (subst (λ (m : ℕ). ranges_to n i m ≡ ranges_to n j m) (sym k) e) in
    let u : path_node n i (suc (n - 1)) ≡ 2 ^ n + i = ap (path_node n i) k ∙ path-leaf n i hi in
    let w : path_node n j (suc (n - 1)) ≡ 2 ^ n + j = ap (path_node n j) k ∙ path-leaf n j hj in
    let q = leaf-pair n (path_node n i (suc (n - 1))) (path_node n j (suc (n - 1))) h (omega arith) (omega arith) (first p) in
    omega arith
  where
    first : {x y z w : Range} → x ∷ y ∷ [] ≡ z ∷ w ∷ [] → x ≡ z
    first e = cc

-- Nothing changes outside the ranges

-- byte j is in none of them
abbrev pub Outside : ℕ → List Range → Type 0
Outside j rs = (r : Range) → Memᴰ r rs → (j < r.start) ⊎ (r.start + r.count ≤ j)

among-ranges : (n i k y : ℕ) → y < k → (r : Range) → Memᴰ r (range_pair n i (suc y)) → Memᴰ r (ranges_to n i k)
unfolding ranges_to
among-ranges n i zero y h r m = absurd (omega arith)
among-ranges n i (suc k) y h r m =
    ⊎_elim (λ (e : suc y ≡ suc k). Memᴰ.append_right (ranges_to n i k) (subst (λ (z : ℕ). Memᴰ r (range_pair n i z)) e m))
    (λ (l : suc y < suc k). Memᴰ.append_left (range_pair n i (suc k)) (among-ranges n i k y (omega arith) r m))
    (eq-or-lt_of_le h)

module _ (F : List ℕ → List ℕ) (F16 : (m : List ℕ) → length (F m) ≡ 16) (n t r : ℕ) (card : List ℕ) (i : ℕ) (b : List ℕ)
    (full : length card ≡ card_length n) (inside : i < 2 ^ n) (long : length b ≡ 64) where
  abbrev L : Labels
  L = new_labels n r i b (labels n t card)

  -- the range of a child of the path
  child-range : (w : ℕ) (c : Child n i inside w) → Memᴰ (range_of n (path_node n i (suc c.level)) w) (ranges_of n i)
  child-range w c =
      let u = path_node n i (suc c.level) in
      let e : u / 2 ≡ w / 2 = path_parent n i inside c.level c.high ∙ sym c.is in
      among-ranges n i n c.level c.high (range_of n u w)
      (⊎_elim (λ (p : w ≡ 2 * (u / 2)). Memᴰ.head (ap (range_of n u) p))
      (λ (d : w ≡ 2 * (u / 2) → ⊥).
      let q : w ≡ 2 * (u / 2) + 1 = omega arith in
      Memᴰ.tail (Memᴰ.head (ap (range_of n u) q)))
      (equal_or_not w (2 * (u / 2))))

  label-byte : (w k : ℕ) → k < size n w → at (label n card w) k ≡ at card (offset n w + k)
  unfolding label
  label-byte w k h = get_or-take (size n w) (drop (offset n w) card) k 0 h ∙ get_or-drop (offset n w) card k 0

  leaves : (j : ℕ) → Outside j (ranges_of n i) → (w : ℕ) → Child n i inside w → Leaves n L w j (at card j)
  leaves j out w c = go (equal_or_not w u) (out (range_of n u w) (child-range w c))
    where
      u : ℕ
      u = path_node n i (suc c.level)

      own : (w ≡ u → ⊥) → offset n w ≤ j → j < offset n w + size n w → Puts n L w j (at card j)
      own d g l =
          let k = j - offset n w in
          let e : offset n w + k ≡ j = omega arith in
          record {
            place = k;
            below = omega arith;
            is = sym e;
            puts =
                ap (λ (x : List ℕ). at x k)
                (new-off n r i b inside (labels n t card) w (child-off n i inside w c d)
                ∙ labels-below n t card w (child-node n i inside w c).low)
                ∙ label-byte w k (omega arith) ∙ ap (at card) e;
          }

      go : (w ≡ u) ⊎ (w ≡ u → ⊥) → (j < (range_of n u w).start) ⊎ ((range_of n u w).start + (range_of n u w).count ≤ j)
          → Leaves n L w j (at card j)
      go (inl e) (inl l) = inl (inl (omega (arith, range-own n u w e)))
      go q (inr g) = inl (inr (omega (arith, range-ends n u w)))
      go (inr d) (inl l) =
          ⊎_elim (λ (g : j < offset n w). inl (inl g)) (λ (g : offset n w ≤ j). inr (own d g (omega (arith, range_other n u w d))))
          (below_or_not j (offset n w))

  pub written-outside : (j : ℕ) → Outside j (ranges_of n i) → at (written F n t r card i b) j ≡ at card j
  unfolding written
  written-outside j out =
      stamped-byte F F16 n L (new-sized n r i b inside (labels n t card) long (labels-sized n t card full)) (pairs n i)
      (pair-node n i inside) card full j
      (at card j) (λ w m. leaves j out w (pairs-child n i inside w m)) refl
