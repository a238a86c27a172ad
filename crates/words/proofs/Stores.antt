-- Stores of a string into another.
use mathlib.Core.Path.{◌≡◌, sym, ap, ◌∙◌}
use mathlib.Core.List.{List, [], ◌∷◌, ◌++◌}
use Prim.Native.Nat.{ℕ, suc, ◌+◌, ◌<◌}
use native.Mathlib.Nat.{add-zero, add-suc, suc-add}
use native.Mathlib.Numerals.{add-one}
use native.Mathlib.Omega.{arith}
use lib.ListN.{length, take, set}
use lib.Seq.{sets, take-suc, length-take-le}
use Rattle.words.specs.Bytes.{at}

pub sets-append : (l : List ℕ) (i : ℕ) (xs ys : List ℕ) → sets l i (xs ++ ys) ≡ sets (sets l i xs) (i + length xs) ys
sets-append l i [] ys = rw add-zero
sets-append l i (x ∷ xs) ys = rw (add-suc, ← suc-add i (length xs)) (sets-append (set l i x) (suc i) xs ys)

-- the loop that stores x byte by byte: one more
pub sets_more : (l : List ℕ) (o : ℕ) (x : List ℕ) (i : ℕ) → i < length x
    → set (sets l o (take i x)) (o + i) (at x i) ≡ sets l o (take (i + 1) x)
sets_more l o x i h =
    let n : length (take i x) ≡ i = length-take-le i x (omega arith) in
    sym (ap (λ (k : ℕ). sets l o (take k x)) (add-one i) ∙ ap (sets l o) (take-suc x i 0 h) ∙ sets-append l o (take i x) (at x i ∷ [])
    ∙ ap (λ (k : ℕ). set (sets l o (take i x)) (o + k) (at x i)) n)
