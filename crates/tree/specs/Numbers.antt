-- Numbers as bytes, big-endian.
use Rattle.std.specs.Prelude.{ℕ, zero, suc, ◌/◌, ◌%◌, List, [], ◌∷◌, ◌++◌}

-- the low k bytes of x
unfoldable pub be : ℕ → ℕ → List ℕ
be zero x = []
be (suc k) x = be k (x / 256) ++ (x % 256 ∷ [])

-- a nonce
abbrev pub be8 : ℕ → List ℕ
be8 x = be 8 x
