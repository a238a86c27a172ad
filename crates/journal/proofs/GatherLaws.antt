-- The bytes of a card in the ranges of a write: how many they are, and those of a level more.
use mathlib.Core.Path.{◌≡◌, refl, sym, ap, ap₂, subst, ◌∙◌}
use mathlib.Core.List.Memᴰ
use mathlib.Core.List.{List, [], ◌∷◌, ◌++◌, append_assoc, append-nil, Memᴰ}
use Prim.Native.Nat.{ℕ, suc, ◌+◌, ◌*◌, ◌/◌, ◌^◌, ◌<◌, ◌≤◌}
use native.Mathlib.Numerals.{add-one}
use native.Mathlib.Omega.{arith}
use lib.ListN.{length, length-append, length-take, length-drop}
use lib.Pow.{pow_mono, pow_pos}
use lib.Seq.{sets}
use Rattle.words.specs.Bytes.{part}
use Rattle.words.proofs.Stores.{sets-append}
use Rattle.tree.specs.Layout.{offset, card_length}
use Rattle.tree.specs.Nodes.{path_node}
use Rattle.tree.specs.Ranges.{Range, range_of, range_pair, ranges_to, ranges_of}
use Rattle.tree.proofs.LayoutLaws.{offset-mono, card-end}
use Rattle.tree.proofs.RangeLaws.{total, ranges-total, ranges-rising, rising-end, total-inner}
use Rattle.journal.specs.Journal.{gathered}

-- ranges that lie in a string of m bytes
abbrev pub Fit : ℕ → List Range → Type 0
Fit m rs = (r : Range) → Memᴰ r rs → r.start + r.count ≤ m

-- a part of a string that is so long
pub length-part : (s : List ℕ) (o k : ℕ) → o + k ≤ length s → length (part s o k) ≡ k
length-part s o k h = simp (length-take, length-drop) (omega arith)

-- those of two lists, one behind the other
pub gathered-append : (rs ss : List Range) (card : List ℕ) → gathered (rs ++ ss) card ≡ gathered rs card ++ gathered ss card
unfolding gathered
gathered-append [] ss card = refl
gathered-append (r ∷ rs) ss card = simp (gathered-append rs ss card, append_assoc)

-- as many bytes as the ranges have
pub length-gathered : (rs : List Range) (card : List ℕ) → Fit (length card) rs → length (gathered rs card) ≡ total rs
unfolding gathered total
length-gathered [] card f = refl
length-gathered (r ∷ rs) card f =
    length-append (part card r.start r.count) (gathered rs card)
    ∙ ap₂ (λ (x y : ℕ). x + y) (length-part card r.start r.count (f r (Memᴰ.head refl)))
    (length-gathered rs card (λ q m. f q (Memᴰ.tail m)))

module _ (n i : ℕ) (inside : i < 2 ^ n) (deep : 1 ≤ n) where
  -- a write's ranges lie on the card
  pub ranges-fit : (k : ℕ) → k ≤ n → Fit (card_length n) (ranges_to n i k)
  ranges-fit k h r m =
      let p : 2 ^ k ≤ 2 ^ n = pow_mono h in
      let q = pow_pos k in
      let o = offset-mono n (2 * 2 ^ k) (2 * 2 ^ n) (omega arith) (omega arith) in
      omega (
        arith,
        rising-end 0 (ranges_to n i k) (offset n (2 * 2 ^ k)) (ranges-rising n i inside k h) r m,
        card-end n deep,
      )

  module _ (card : List ℕ) (full : length card ≡ card_length n) where
    -- the same of a card
    fit : (k : ℕ) → k ≤ n → Fit (length card) (ranges_to n i k)
    fit k h r m = omega (arith, ranges-fit k h r m)

    -- the new bytes of a journal
    pub gathered-length : length (gathered (ranges_of n i) card) ≡ 40 * n + 56
    gathered-length = length-gathered (ranges_of n i) card (fit n (omega arith)) ∙ ranges-total n i inside deep

    -- those of the levels above the leaf
    gathered-inner : (k : ℕ) → k < n → length (gathered (ranges_to n i k) card) ≡ 40 * k
    gathered-inner k h = length-gathered (ranges_to n i k) card (fit k (omega arith)) ∙ total-inner n i inside k h

    -- the bytes of a range
    abbrev piece : Range → List ℕ
    piece r = part card r.start r.count

    -- a level more, stored behind those before it; u is its node of the path
    pub gathered_more : (s t : List ℕ) (o y u : ℕ) → y < n → t ≡ sets s o (gathered (ranges_to n i y) card)
        → u ≡ path_node n i (y + 1)
        → sets (sets t (o + 40 * y) (piece (range_of n u (2 * (u / 2))))) (o + 40 * y + (range_of n u (2 * (u / 2))).count)
        (piece (range_of n u (2 * (u / 2) + 1)))
        ≡ sets s o (gathered (ranges_to n i (y + 1)) card)
    unfolding ranges_to gathered
    gathered_more s t o y u h d e =
        let w = path_node n i (suc y) in
        let v : w ≡ u = ap (path_node n i) (sym (add-one y)) ∙ sym e in
        let g = gathered (ranges_to n i y) card in
        let a = range_of n w (2 * (w / 2)) in
        let b = range_of n w (2 * (w / 2) + 1) in
        let p = gathered-inner y h in
        let q = length-part card a.start a.count (fit (suc y) h a (Memᴰ.append_right (ranges_to n i y) (Memᴰ.head refl))) in
        let l : o + length g ≡ o + 40 * y = omega arith in
        let stored : sets s o (gathered (ranges_to n i (y + 1)) card)
        ≡ sets (sets t (o + 40 * y) (piece a)) (o + 40 * y + a.count) (piece b) =
        ap (λ (k : ℕ). sets s o (gathered (ranges_to n i k) card)) (add-one y)
        ∙ ap (sets s o) (gathered-append (ranges_to n i y) (range_pair n i (suc y)) card)
        ∙ sets-append s o g (piece a ++ (piece b ++ []))
        ∙ ap₂ (λ (x : List ℕ) (k : ℕ). sets x k (piece a ++ (piece b ++ []))) (sym d) l
        ∙ sets-append t (o + 40 * y) (piece a) (piece b ++ [])
        ∙ ap₂ (λ (k : ℕ) (x : List ℕ). sets (sets t (o + 40 * y) (piece a)) (o + 40 * y + k) x) q (append-nil (piece b)) in
        subst
        (λ (w : ℕ).
        sets (sets t (o + 40 * y) (piece (range_of n w (2 * (w / 2))))) (o + 40 * y + (range_of n w (2 * (w / 2))).count)
        (piece (range_of n w (2 * (w / 2) + 1)))
        ≡ sets s o (gathered (ranges_to n i (y + 1)) card))
        v (sym stored)
