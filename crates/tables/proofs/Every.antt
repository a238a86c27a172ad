-- A rule of every entry of a table, from one test that is computed over the whole of it.
use mathlib.Core.Path.{◌≡◌}
use mathlib.Core.Bool.{Bool, true, false, ◌&&◌}
use mathlib.Core.List.{List, [], ◌∷◌}
use Prim.Native.Nat.{ℕ, zero, suc, ◌+◌, ◌*◌, ◌<◌}
use native.Mathlib.Nat.{add-zero, zero-add, add-suc, suc-add}
use native.Mathlib.Omega.{arith}
use lib.Dec.{T}
use lib.ListN.{length, get_or, take, drop}
use lib.Seq.{drop-drop}
use Rattle.words.specs.Bytes.{part}

and_left : (p q : Bool) → T (p && q) → T p
and_left true q t = tt
and_left false q t = t

and_right : (p q : Bool) → T (p && q) → T q
and_right true q t = t
and_right false q t = absurd t

-- the test holds of each entry and its index, counted from i
abbrev pub every : (ℕ → ℕ → Bool) → ℕ → List ℕ → Bool
every test i [] = true
every test i (x ∷ xs) = test i x && every test (suc i) xs

module _ (test : ℕ → ℕ → Bool) where
  every-from : (xs : List ℕ) (i : ℕ) → T (every test i xs) → (k : ℕ) → k < length xs → T (test (i + k) (get_or xs k 0))
  every-from [] i t k h = absurd (omega arith)
  every-from (x ∷ xs) i t zero h = rw add-zero (and_left (test i x) (every test (suc i) xs) t)
  every-from (x ∷ xs) i t (suc k) h =
      rw (add-suc, ← suc-add i k) (every-from xs (suc i) (and_right (test i x) (every test (suc i) xs) t) k (omega arith))

  -- so it holds at each index
  pub every-at : (xs : List ℕ) → T (every test 0 xs) → (k : ℕ) → k < length xs → T (test k (get_or xs k 0))
  every-at xs t k h = rw zero-add at (every-from xs 0 t k h)

-- the test holds of each of n entries of eight bytes and its index, counted from i
abbrev pub every_eight : (ℕ → List ℕ → Bool) → ℕ → ℕ → List ℕ → Bool
every_eight test zero i xs = true
every_eight test (suc n) i xs = test i (take 8 xs) && every_eight test n (suc i) (drop 8 xs)

module _ (test : ℕ → List ℕ → Bool) where
  eight-from : (n : ℕ) (xs : List ℕ) (i : ℕ) → T (every_eight test n i xs) → (k : ℕ) → k < n → T (test (i + k) (part xs (8 * k) 8))
  eight-from zero xs i t k h = absurd (omega arith)
  eight-from (suc n) xs i t zero h = rw add-zero (and_left (test i (take 8 xs)) (every_eight test n (suc i) (drop 8 xs)) t)
  eight-from (suc n) xs i t (suc k) h =
      let e : 8 * suc k ≡ 8 + 8 * k = omega arith in
      rw (add-suc, ← suc-add i k, e, ← drop-drop (8 * k) 8 xs)
      (eight-from n (drop 8 xs) (suc i) (and_right (test i (take 8 xs)) (every_eight test n (suc i) (drop 8 xs)) t) k (omega arith))

  pub eight-at : (n : ℕ) (xs : List ℕ) → T (every_eight test n 0 xs) → (k : ℕ) → k < n → T (test k (part xs (8 * k) 8))
  eight-at n xs t k h = rw zero-add at (eight-from n xs 0 t k h)
