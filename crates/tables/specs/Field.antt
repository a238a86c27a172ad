-- FIPS 197, section 4: the field with 256 elements. A byte is the polynomial whose coefficients are its bits; sums are `bit_xor`, and
-- products are taken modulo z^8 + z^4 + z^3 + z + 1.
use Rattle.std.specs.Prelude.{ℕ, zero, suc, ◌*◌, ◌/◌, ◌%◌, cond, ltb}
use Rattle.std.specs.Int.Bits.{bit_xor}

-- 4.2, x_times: b times z
unfoldable pub x_times : ℕ → ℕ
x_times b = cond (ltb b 0x80) (2 * b) (bit_xor 0x1b (2 * b % 0x100))

-- b times the polynomial of the n low bits of c
unfoldable pub times_low : ℕ → ℕ → ℕ → ℕ
times_low zero b c = 0
times_low (suc n) b c = bit_xor (c % 2 * b) (times_low n (x_times b) (c / 2))

-- 4.2: the product of b and c
unfoldable pub times : ℕ → ℕ → ℕ
times b c = times_low 8 b c

-- 4.4: b to the power 254, which is the inverse of b, and 0 where b is 0
unfoldable pub inverse : ℕ → ℕ
inverse b =
    let b2 = times b b in
    let b4 = times b2 b2 in
    let b8 = times b4 b4 in
    let b16 = times b8 b8 in
    let b32 = times b16 b16 in
    let b64 = times b32 b32 in
    let b128 = times b64 b64 in
    times (times (times b2 b4) (times b8 b16)) (times (times b32 b64) b128)
