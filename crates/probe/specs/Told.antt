-- What a call leaves and answers: its work and 0, or nothing and 1 where a length is not the one wanted.
use Rattle.std.specs.Prelude.{◌≡◌, Bool, cond, List, ◌++◌, ℕ, zero, suc, eqb, length, drop}
use Rattle.cmac.specs.Cmac.{cmac_of}

pub record Told (fits : Bool) (work before after : List ℕ) (answer : ℕ) : Type 0 where
  pub left : after ≡ cond fits work before
  pub answered : answer ≡ cond fits 0 1

-- s has n bytes
abbrev pub sized : List ℕ → ℕ → Bool
sized s n = eqb (length s) n

-- f of x, n times
unfoldable pub repeated : (List ℕ → List ℕ) → List ℕ → ℕ → List ℕ
repeated f x zero = x
repeated f x (suc n) = f (repeated f x n)

-- a message with its tag in the place of its first 16 bytes
unfoldable pub retagged : List ℕ → List ℕ → List ℕ
retagged key m = cmac_of key m ++ drop 16 m
