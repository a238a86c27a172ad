-- FIPS 197, section 5.1.1: the substitution of a byte, the inverse and then the affine map.
use Rattle.std.specs.Prelude.{ℕ, zero, suc, ◌+◌, ◌*◌, ◌/◌, ◌%◌, ◌^◌}
use Rattle.tables.specs.Field.{inverse}

-- bit i of b
abbrev pub bit : ℕ → ℕ → ℕ
bit b i = b / 2 ^ i % 2

-- bit i of what the affine map makes of b
abbrev pub affine_bit : ℕ → ℕ → ℕ
affine_bit b i =
    (bit b i + bit b ((i + 4) % 8) + bit b ((i + 5) % 8) + bit b ((i + 6) % 8) + bit b ((i + 7) % 8) + bit 0x63 i) % 2

-- the number whose bits below n are f 0, f 1, ..
abbrev pub of_bits : ℕ → (ℕ → ℕ) → ℕ
of_bits zero f = 0
of_bits (suc n) f = of_bits n f + f n * 2 ^ n

unfoldable pub affine : ℕ → ℕ
affine b = of_bits 8 (affine_bit b)

unfoldable pub s_box : ℕ → ℕ
s_box b = affine (inverse b)
