-- Bytes put into ranges of a card: what stays, and that a card's own bytes put into any card that agrees with it outside the ranges give
-- that card, whatever the other holds inside them.
use mathlib.Core.Path.{◌≡◌, refl, sym, ap, ap₂, subst, ◌∙◌}
use mathlib.Core.List.Memᴰ
use mathlib.Core.List.{List, [], ◌∷◌, ◌++◌, append-nil, Memᴰ}
use mathlib.Core.Logic.{◌⊎◌, inl, inr, ⊎_elim}
use Prim.Native.Nat.{ℕ, ◌+◌, ◌*◌, ◌-◌, ◌^◌, ◌<◌, ◌≤◌}
use native.Mathlib.Omega.{arith}
use lib.ListN.{length, take, drop, length-take, length-drop}
use lib.Seq.{sets, length-sets, take_at, drop_at, ext_get_or}
use Rattle.words.specs.Bytes.{at, part}
use Rattle.words.proofs.Cases.{below_or_not}
use Rattle.tree.specs.Layout.{card_length}
use Rattle.tree.specs.Card.{written}
use Rattle.tree.specs.Ranges.{Range, ranges_of}
use Rattle.tree.proofs.ByteLaws.{at-sets-apart, at-sets-first, sets-there}
use Rattle.tree.proofs.RangeLaws.{total, ranges-total, Outside, written-outside}
use Rattle.tree.proofs.WriteLaws.{written-length}
use Rattle.journal.specs.Journal.{gathered, scattered}
use Rattle.journal.proofs.GatherLaws.{Fit, length-part, length-gathered, ranges-fit}

-- a card keeps its length
pub length-scattered : (rs : List Range) (new card : List ℕ) → length (scattered rs new card) ≡ length card
unfolding scattered
length-scattered [] new card = refl
length-scattered (r ∷ rs) new card =
    length-scattered rs (drop r.count new) (sets card r.start (take r.count new)) ∙ length-sets card r.start (take r.count new)

-- and every byte outside the ranges
pub scattered-outside : (rs : List Range) (new card : List ℕ) (j : ℕ) → Outside j rs → at (scattered rs new card) j ≡ at card j
unfolding scattered
scattered-outside [] new card j out = refl
scattered-outside (r ∷ rs) new card j out =
    let x = take r.count new in
    let l = length-take r.count new in
    scattered-outside rs (drop r.count new) (sets card r.start x) j (λ q m. out q (Memᴰ.tail m))
    ∙ at-sets-apart x card r.start j
    (⊎_elim (λ (b : j < r.start). inl b) (λ (a : r.start + r.count ≤ j). inr (omega arith)) (out r (Memᴰ.head refl)))

-- a byte of what was put
at-sets-in : (x c : List ℕ) (o j : ℕ) → o + length x ≤ length c → o ≤ j → j < o + length x → at (sets c o x) j ≡ at x (j - o)
at-sets-in x c o j fits low high =
    let e : j ≡ o + (j - o) = omega arith in
    let l : length (x ++ []) ≡ length x = ap length (append-nil x) in
    ap₂ (λ (y : List ℕ) (k : ℕ). at (sets c o y) k) (sym (append-nil x)) e ∙ at-sets-first x [] c o (omega arith) (j - o) (omega arith)

-- that two cards have one length, and the same bytes outside the ranges
pub record Beside (rs : List Range) (c d : List ℕ) : Type 0 where
  pub long : length c ≡ length d
  pub stands : (j : ℕ) → Outside j rs → at c j ≡ at d j

-- where there is no range, they are equal
pub beside-none : (c d : List ℕ) → Beside [] c d → c ≡ d
beside-none c d b = ext_get_or 0 c d b.long (λ j h. b.stands j (λ r m. absurd (Memᴰ.not-nil m)))

-- outside the first range, and so outside all
outside-all : (j : ℕ) (r : Range) (rs : List Range) → (j < r.start) ⊎ (r.start + r.count ≤ j) → Outside j rs → Outside j (r ∷ rs)
outside-all j r rs h out q m =
    ⊎_elim (λ (e : q ≡ r). subst (λ (z : Range). (j < z.start) ⊎ (z.start + z.count ≤ j)) (sym e) h) (λ (t : Memᴰ q rs). out q t)
    (Memᴰ.cases_cons m)

-- what is put into the first range of both is no difference any more
beside-put : (r : Range) (rs : List Range) (x c d : List ℕ) → r.start + r.count ≤ length c → length x ≡ r.count → Beside (r ∷ rs) c d
    → Beside rs (sets c r.start x) (sets d r.start x)
beside-put r rs x c d fits l b = record { long = length-sets c r.start x ∙ b.long ∙ sym (length-sets d r.start x); stands = stands }
  where
    apart : (j : ℕ) → (j < r.start) ⊎ (r.start + r.count ≤ j) → (j < r.start) ⊎ (r.start + length x ≤ j)
    apart j (inl h) = inl h
    apart j (inr h) = inr (omega arith)

    beside : (j : ℕ) → Outside j rs → (j < r.start) ⊎ (r.start + r.count ≤ j) → at (sets c r.start x) j ≡ at (sets d r.start x) j
    beside j out h =
        at-sets-apart x c r.start j (apart j h) ∙ b.stands j (outside-all j r rs h out) ∙ sym (at-sets-apart x d r.start j (apart j h))

    stands : (j : ℕ) → Outside j rs → at (sets c r.start x) j ≡ at (sets d r.start x) j
    stands j out =
        let m = b.long in
        ⊎_elim (λ (low : j < r.start). beside j out (inl low))
        (λ (low : r.start ≤ j).
        ⊎_elim
        (λ (high : j < r.start + r.count).
        at-sets-in x c r.start j (omega arith) low (omega arith) ∙ sym (at-sets-in x d r.start j (omega arith) low (omega arith)))
        (λ (high : r.start + r.count ≤ j). beside j out (inr high)) (below_or_not j (r.start + r.count)))
        (below_or_not j r.start)

-- the same bytes put into the same ranges of both: no difference is left
pub scattered-same : (rs : List Range) (new c d : List ℕ) → Fit (length c) rs → total rs ≤ length new → Beside rs c d
    → scattered rs new c ≡ scattered rs new d
unfolding scattered total
scattered-same [] new c d f l b = beside-none c d b
scattered-same (r ∷ rs) new c d f l b =
    let x = take r.count new in
    let n : length x ≡ r.count = omega (arith, length-take r.count new) in
    scattered-same rs (drop r.count new) (sets c r.start x) (sets d r.start x)
    (λ q m. omega (arith, f q (Memᴰ.tail m), length-sets c r.start x)) (omega (arith, length-drop r.count new))
    (beside-put r rs x c d (f r (Memᴰ.head refl)) n b)

-- a card's own bytes put into it
pub scattered-own : (rs : List Range) (d : List ℕ) → Fit (length d) rs → scattered rs (gathered rs d) d ≡ d
unfolding scattered gathered
scattered-own [] d f = refl
scattered-own (r ∷ rs) d f =
    let x = part d r.start r.count in
    let g = gathered rs d in
    let h = f r (Memᴰ.head refl) in
    let n = length-part d r.start r.count h in
    let e : part d r.start (length x) ≡ x = ap (part d r.start) n in
    ap₂ (λ (b y : List ℕ). scattered rs b (sets d r.start y)) (drop_at x g r.count n) (take_at x g r.count n)
    ∙ ap (scattered rs g) (sets-there x d r.start (omega arith) e)
    ∙ scattered-own rs d (λ q m. f q (Memᴰ.tail m))

-- and into another
pub scattered-back : (rs : List Range) (c d : List ℕ) → Fit (length d) rs → Beside rs c d → scattered rs (gathered rs d) c ≡ d
scattered-back rs c d f b =
    let l = b.long in
    scattered-same rs (gathered rs d) c d (λ r m. omega (arith, f r m)) (omega (arith, length-gathered rs d f)) b ∙ scattered-own rs d f

-- Cards beside each other

-- either way round
pub beside-sym : (rs : List Range) (c d : List ℕ) → Beside rs c d → Beside rs d c
beside-sym rs c d b = record { long = sym b.long; stands = λ j out. sym (b.stands j out) }

-- over a third card
pub beside-trans : (rs : List Range) (c d e : List ℕ) → Beside rs c d → Beside rs d e → Beside rs c e
beside-trans rs c d e a b = record { long = a.long ∙ b.long; stands = λ j out. a.stands j out ∙ b.stands j out }

-- a card and the same with bytes put into its ranges
pub beside-scattered : (rs : List Range) (new card : List ℕ) → Beside rs (scattered rs new card) card
beside-scattered rs new card = record { long = length-scattered rs new card; stands = scattered-outside rs new card }

-- bytes that are put again, whatever was done to these ranges in between
pub scattered-again : (rs : List Range) (new c d : List ℕ) → Fit (length c) rs → total rs ≤ length new
    → Beside rs d (scattered rs new c) → scattered rs new d ≡ scattered rs new c
scattered-again rs new c d f l b =
    let e : length d ≡ length c = b.long ∙ length-scattered rs new c in
    scattered-same rs new d c (λ r m. omega (arith, f r m)) l (beside-trans rs d (scattered rs new c) c b (beside-scattered rs new c))

-- The same of the ranges of a write

-- new bytes of a journal that are put again
pub ranges-again : (n i : ℕ) → i < 2 ^ n → 1 ≤ n → (new c d : List ℕ) → length new ≡ 40 * n + 56 → length c ≡ card_length n
    → Beside (ranges_of n i) d (scattered (ranges_of n i) new c) → scattered (ranges_of n i) new d ≡ scattered (ranges_of n i) new c
ranges-again n i inside deep new c d size full b =
    scattered-again (ranges_of n i) new c d (λ r m. omega (arith, ranges-fit n i inside deep n (omega arith) r m))
    (omega (arith, ranges-total n i inside deep)) b

-- a card's own bytes in these ranges, put into another
pub ranges-back : (n i : ℕ) → i < 2 ^ n → 1 ≤ n → (c d : List ℕ) → length d ≡ card_length n → Beside (ranges_of n i) c d
    → scattered (ranges_of n i) (gathered (ranges_of n i) d) c ≡ d
ranges-back n i inside deep c d full b =
    scattered-back (ranges_of n i) c d (λ r m. omega (arith, ranges-fit n i inside deep n (omega arith) r m)) b

module _ (F : List ℕ → List ℕ) (F16 : (m : List ℕ) → length (F m) ≡ 16) (n : ℕ) (deep : 1 ≤ n) (t r : ℕ) (card : List ℕ) (i : ℕ)
    (b : List ℕ) (full : length card ≡ card_length n) (inside : i < 2 ^ n) (long : length b ≡ 64) where
  -- a card before and after a write
  pub beside-written : Beside (ranges_of n i) card (written F n t r card i b)
  beside-written =
      record {
        long = full ∙ sym (written-length F F16 n deep t r card i b full inside long);
        stands = λ j out. sym (written-outside F F16 n t r card i b full inside long j out);
      }

  -- the new bytes of a write put into any card that agrees outside its ranges with the one before it
  pub written-back : (c : List ℕ) → Beside (ranges_of n i) c card
      → scattered (ranges_of n i) (gathered (ranges_of n i) (written F n t r card i b)) c ≡ written F n t r card i b
  written-back c d =
      ranges-back n i inside deep c (written F n t r card i b) (written-length F F16 n deep t r card i b full inside long)
      (beside-trans (ranges_of n i) c card (written F n t r card i b) d beside-written)
