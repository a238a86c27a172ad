-- A number in bytes, the lowest one first, shifted left by one bit.
use Rattle.std.specs.Prelude.{ℕ, ◌+◌, ◌*◌, ◌/◌, ◌%◌, List, [], ◌∷◌}

-- with the bit c coming in
abbrev pub shifted_up : ℕ → List ℕ → List ℕ
shifted_up c [] = []
shifted_up c (x ∷ xs) = (x % 0x80 * 2 + c) ∷ shifted_up (x / 0x80) xs
