-- Which block's write has a list of ranges: one at most.
use mathlib.Core.Path.{◌≡◌, refl, sym, ap, ap₂, ◌∙◌}
use mathlib.Core.Bool.{Bool, true, false, cond}
use mathlib.Core.Option.{Option, none, some}
use mathlib.Core.List.{List, [], ◌∷◌, ◌++◌, Memᴰ}
use mathlib.Core.Logic.{⊎_elim}
use Prim.Native.Nat.{ℕ, zero, suc, ◌+◌, ◌*◌, ◌^◌, ◌<◌, ◌≤◌}
use native.Mathlib.Omega.{arith}
use lib.ListN.{length, take, drop}
use lib.Seq.{take_at}
use Rattle.words.specs.Bytes.{same}
use Rattle.words.proofs.Same.{same-is, same_refl}
use Rattle.words.proofs.Cases.{equal_or_not}
use Rattle.tree.specs.Numbers.{be}
use Rattle.tree.specs.Ranges.{Range, ranges_of, encode, listed}
use Rattle.tree.proofs.ByteLaws.{append_inj, length-be, be-inj}
use Rattle.tree.proofs.RangeLaws.{ranges-count, ranges-length, range-short, ranges-tell}
use Rattle.journal.specs.Journal.{block_from, block_of}

-- ranges that four bytes hold
abbrev Short : List Range → Type 0
Short rs = (r : Range) → Memᴰ r rs → r.start + r.count < 2 ^ 32

-- as bytes they tell the ranges
encode-inj : (rs ss : List Range) → Short rs → Short ss → length rs ≡ length ss → encode rs ≡ encode ss → rs ≡ ss
unfolding encode
encode-inj [] [] a b l e = refl
encode-inj [] (s ∷ ss) a b l e = absurd (omega arith)
encode-inj (r ∷ rs) [] a b l e = absurd (omega arith)
encode-inj (r ∷ rs) (s ∷ ss) a b l e =
    let p = append_inj (be 4 r.start) (be 4 r.count ++ encode rs) (be 4 s.start) (be 4 s.count ++ encode ss)
    (length-be 4 r.start ∙ sym (length-be 4 s.start)) e in
    let q = append_inj (be 4 r.count) (encode rs) (be 4 s.count) (encode ss) (length-be 4 r.count ∙ sym (length-be 4 s.count)) p.1 in
    let x : r.start + r.count < 256 ^ 4 = a r (Memᴰ.head refl) in
    let y : s.start + s.count < 256 ^ 4 = b s (Memᴰ.head refl) in
    let start = be-inj 4 r.start s.start (omega arith) (omega arith) p.0 in
    let count = be-inj 4 r.count s.count (omega arith) (omega arith) q.0 in
    ap₂ (λ (z : Range) (zs : List Range). z ∷ zs) (ap₂ (λ (m k : ℕ). let z : Range = record { start = m; count = k } in z) start count)
    (encode-inj rs ss (λ z m. a z (Memᴰ.tail m)) (λ z m. b z (Memᴰ.tail m)) (omega arith) q.1)

-- two blocks with one list of ranges, as bytes, are equal
pub list-tells : (n i j : ℕ) → 1 ≤ n → n ≤ 16 → i < 2 ^ n → j < 2 ^ n → encode (ranges_of n i) ≡ encode (ranges_of n j) → i ≡ j
list-tells n i j h l hi hj e =
    ranges-tell n i j h hi hj
    (encode-inj (ranges_of n i) (ranges_of n j) (range-short n i hi h l) (range-short n j hj h l)
    (ranges-count n i n ∙ sym (ranges-count n j n)) e)

-- Of k blocks, from j on

-- that block i, one of these, has the list
record Found (n k j : ℕ) (list : List ℕ) (i : ℕ) : Type 0 where
  low : j ≤ i
  high : i < j + k
  is : list ≡ encode (ranges_of n i)

-- a block that is found has it
from-some : (n k j : ℕ) (list : List ℕ) (i : ℕ) → block_from n k j list ≡ some i → Found n k j list i
unfolding block_from
from-some n zero j list i e = cc
from-some n (suc k) j list i e = go (λ f. from-some n k (suc j) list i f) (same list (encode (ranges_of n j))) refl e
  where
    go : (block_from n k (suc j) list ≡ some i → Found n k (suc j) list i) → (b : Bool) → same list (encode (ranges_of n j)) ≡ b
        → cond b (some j) (block_from n k (suc j) list) ≡ some i → Found n (suc k) j list i
    go later true p e =
        let is : j ≡ i = cc in
        record { low = omega arith; high = omega arith; is = same-is list _ p ∙ ap (λ (m : ℕ). encode (ranges_of n m)) is }
    go later false p e = let f = later e in record { low = omega (arith, f.low); high = omega (arith, f.high); is = f.is }

-- where none is found, none has
from-none : (n k j : ℕ) (list : List ℕ) → block_from n k j list ≡ none → (i : ℕ) → Found n k j list i → ⊥
unfolding block_from
from-none n zero j list e i f = omega (arith, f.low, f.high)
from-none n (suc k) j list e i f = go (λ d. from-none n k (suc j) list d i) (same list (encode (ranges_of n j))) refl e
  where
    go : (block_from n k (suc j) list ≡ none → Found n k (suc j) list i → ⊥) → (b : Bool) → same list (encode (ranges_of n j)) ≡ b
        → cond b (some j) (block_from n k (suc j) list) ≡ none → ⊥
    go later true p e = let z : ◌≡◌ {A = Option ℕ} (some j) none = e in absurd cc
    go later false p e =
        ⊎_elim
        (λ (d : j ≡ i).
        let z : true ≡ false =
        sym (same_refl list) ∙ ap (same list) (f.is ∙ ap (λ (m : ℕ). encode (ranges_of n m)) (sym d)) ∙ p in
        absurd cc)
        (λ (d : j ≡ i → ⊥). later e (record { low = omega (arith, f.low); high = omega (arith, f.high); is = f.is }))
        (equal_or_not j i)

-- that a list is that of a write to block i
pub record IsList (n : ℕ) (list : List ℕ) (i : ℕ) : Type 0 where
  pub inside : i < 2 ^ n
  pub is : list ≡ encode (ranges_of n i)

-- a block that is found has the list
pub block-some : (n : ℕ) (list : List ℕ) (i : ℕ) → block_of n list ≡ some i → IsList n list i
block-some n list i e = let f = from-some n (2 ^ n) 0 list i e in record { inside = omega (arith, f.high); is = f.is }

-- where none is found, none has it
pub block-none : (n : ℕ) (list : List ℕ) → block_of n list ≡ none → (i : ℕ) → IsList n list i → ⊥
block-none n list e i f =
    from-none n (2 ^ n) 0 list e i (record { low = omega arith; high = omega (arith, f.inside); is = f.is })

-- the block whose list it is, is found
pub block-is : (n : ℕ) (list : List ℕ) (i : ℕ) → 1 ≤ n → n ≤ 16 → IsList n list i → block_of n list ≡ some i
block-is n list i h l f = go (block_of n list) refl
  where
    go : (o : Option ℕ) → block_of n list ≡ o → block_of n list ≡ some i
    go none e = absurd (block-none n list e i f)
    go (some j) e =
        let g = block-some n list j e in
        e ∙ ap some (list-tells n j i h l g.inside f.inside (sym g.is ∙ f.is))

-- the list of a block
pub block-own : (n i : ℕ) → 1 ≤ n → n ≤ 16 → i < 2 ^ n → block_of n (encode (ranges_of n i)) ≡ some i
block-own n i h l inside = block-is n (encode (ranges_of n i)) i h l (record { inside = inside; is = refl })

-- where a block has no list, there is none
pub no-block : (n : ℕ) (list : List ℕ) → ((i : ℕ) → IsList n list i → ⊥) → block_of n list ≡ none
no-block n list d = go (block_of n list) refl
  where
    go : (o : Option ℕ) → block_of n list ≡ o → block_of n list ≡ none
    go none e = e
    go (some j) e = absurd (d j (block-some n list j e))

-- the ranges at the front of a range buffer
pub listed-front : (n i k : ℕ) (buffer : List ℕ) → k ≡ 16 * n → take k (listed n i buffer) ≡ encode (ranges_of n i)
listed-front n i k buffer e =
    take_at (encode (ranges_of n i)) (drop (16 * n) buffer) k (ranges-length n i n ∙ sym e)
