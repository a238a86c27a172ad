-- Tests on numbers, as cases.
use mathlib.Core.Path.{◌≡◌}
use mathlib.Core.Logic.{◌⊎◌, inl, inr}
use Prim.Native.Nat.{ℕ, ◌<◌, ◌≤◌}
use native.Mathlib.Decide.{dec_lt, ℕ_discrete}
use native.Mathlib.Omega.{arith}

pub below_or_not : (i n : ℕ) → (i < n) ⊎ (n ≤ i)
below_or_not i n = go (dec_lt i n)
  where
    go : Dec (i < n) → (i < n) ⊎ (n ≤ i)
    go (yes l) = inl l
    go (no g) = inr (omega arith)

pub equal_or_not : (m n : ℕ) → (m ≡ n) ⊎ (m ≡ n → ⊥)
equal_or_not m n = go (ℕ_discrete m n)
  where
    go : Dec (m ≡ n) → (m ≡ n) ⊎ (m ≡ n → ⊥)
    go (yes e) = inl e
    go (no d) = inr d
