-- The order of the terms of a `bit_xor` does not matter.
use mathlib.Core.Path.{◌≡◌, refl, sym, ap, ◌∙◌}
use Prim.Native.Nat.{ℕ, zero, suc, ◌/◌, ◌%◌, ◌<◌}
use native.Mathlib.Omega.{arith}
use lib.Arith.{bin_ind}
use lib.Bits.{bit_xor, xor_zero_r, xor_comm, xor_shr, xor_mod}

of-bits : (a b c : ℕ) → a < 2 → b < 2 → c < 2 → bit_xor (bit_xor a b) c ≡ bit_xor (bit_xor a c) b
of-bits zero b c ha hb hc = xor_comm b c
of-bits (suc zero) zero c ha hb hc = sym (xor_zero_r (bit_xor 1 c))
of-bits (suc zero) (suc zero) zero ha hb hc = refl
of-bits (suc zero) (suc zero) (suc zero) ha hb hc = refl
of-bits (suc zero) (suc zero) (suc (suc c)) ha hb hc = absurd (omega arith)
of-bits (suc zero) (suc (suc b)) c ha hb hc = absurd (omega arith)
of-bits (suc (suc a)) b c ha hb hc = absurd (omega arith)

half : (x y z : ℕ) → bit_xor (bit_xor x y) z / 2 ≡ bit_xor (bit_xor (x / 2) (y / 2)) (z / 2)
half x y z = xor_shr (bit_xor x y) z 1 ∙ ap (λ (v : ℕ). bit_xor v (z / 2)) (xor_shr x y 1)

low : (x y z : ℕ) → bit_xor (bit_xor x y) z % 2 ≡ bit_xor (bit_xor (x % 2) (y % 2)) (z % 2)
low x y z = xor_mod (bit_xor x y) z 1 ∙ ap (λ (v : ℕ). bit_xor v (z % 2)) (xor_mod x y 1)

-- the last two terms change places
pub xor-turn : (x y z : ℕ) → bit_xor (bit_xor x y) z ≡ bit_xor (bit_xor x z) y
xor-turn =
    bin_ind (λ (x : ℕ). (y z : ℕ) → bit_xor (bit_xor x y) z ≡ bit_xor (bit_xor x z) y) (λ y z. xor_comm y z)
    (λ x more y z.
    let h : bit_xor (bit_xor x y) z / 2 ≡ bit_xor (bit_xor x z) y / 2 = half x y z ∙ more (y / 2) (z / 2) ∙ sym (half x z y) in
    let l : bit_xor (bit_xor x y) z % 2 ≡ bit_xor (bit_xor x z) y % 2 =
    low x y z ∙ of-bits (x % 2) (y % 2) (z % 2) (omega arith) (omega arith) (omega arith) ∙ sym (low x z y) in
    omega arith)
