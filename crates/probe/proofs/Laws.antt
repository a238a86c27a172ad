-- What the exported functions' proofs share.
use mathlib.Core.Path.{◌≡◌, ap, ◌∙◌}
use mathlib.Core.List.{List, ◌++◌}
use Prim.Native.Nat.{ℕ, ◌+◌, ◌≤◌}
use native.Mathlib.Nat.{le_of_eq, zero-add}
use native.Mathlib.Numerals.{add-one}
use native.Mathlib.Omega.{arith}
use lib.ListN.{length, drop}
use lib.Seq.{sets, sets-eq, take_all}
use Rattle.words.specs.Bytes.{part}
use Rattle.probe.specs.Told.{repeated}

-- a whole string is its part
pub part-all : (s : List ℕ) → length s ≡ 16 → part s 0 16 ≡ s
part-all s e = take_all 16 s (le_of_eq e)

-- 16 bytes stored at the start
pub stored : (d v : List ℕ) → length v ≡ 16 → 16 ≤ length d → sets d 0 v ≡ v ++ drop 16 d
stored d v e h = sets-eq v d 0 (omega arith) ∙ ap (λ (n : ℕ). v ++ drop n d) (zero-add (length v) ∙ e)

pub repeated-more : (f : List ℕ → List ℕ) (x : List ℕ) (n : ℕ) → repeated f x (n + 1) ≡ f (repeated f x n)
unfolding repeated
repeated-more f x n = rw add-one
