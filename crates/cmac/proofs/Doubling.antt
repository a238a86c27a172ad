-- Doubling, as two numbers of eight bytes shifted left.
use mathlib.Core.Path.{◌≡◌, refl, sym, ap, ap₂, ◌∙◌}
use mathlib.Core.Bool.{cond}
use mathlib.Core.List.{List, ◌∷◌, ◌++◌, reverse}
use mathlib.Core.Logic.{⊎_elim}
use Prim.Native.Nat.{ℕ, zero, suc, ◌+◌, ◌*◌, ◌/◌, ◌%◌, ◌<◌, ◌≤◌}
use native.Mathlib.Omega.{arith}
use borrow.Author.Tests.{lt-ltb, le-ltb}
use lib.Bits.{bit_xor, xor_zero_r}
use lib.Dec.{ltb}
use Rattle.words.specs.Bytes.{at, xor_block}
use Rattle.words.specs.Words.{bytes}
use Rattle.cmac.specs.Cmac.{shifted, rb, double}
use Rattle.cmac.specs.Shifted.{shifted_up}
use Rattle.words.proofs.Bytes.{bytes-mod, xors, bytes-xor}
use Rattle.words.proofs.Cases.{below_or_not}

twice_bytes : (n v c : ℕ) → c < 2 → bytes n (2 * v + c) ≡ shifted_up c (bytes n v)
twice_bytes zero v c h = refl
twice_bytes (suc n) v c h =
    let e : (2 * v + c) % 256 ≡ v % 256 % 0x80 * 2 + c = omega arith in
    let q : (2 * v + c) / 256 ≡ 2 * (v / 256) + v % 256 / 0x80 = omega arith in
    ap₂ ◌∷◌ e (ap (bytes n) q ∙ twice_bytes n (v / 256) (v % 256 / 0x80) (omega arith))

-- a number shifted left, without the bit that leaves it
pub shifted-bytes : (w c : ℕ) → c < 2 → bytes 8 (w % 9223372036854775808 * 2 + c) ≡ shifted_up c (bytes 8 w)
shifted-bytes w c h =
    let e : w % 9223372036854775808 * 2 + c ≡ (2 * w + c) % 18446744073709551616 = omega arith in
    ap (bytes 8) e ∙ bytes-mod 8 (2 * w + c) ∙ twice_bytes 8 w c h

-- the highest bit of a number is that of the first byte, where the bytes stand in the other order
first_bit : (v w : ℕ) → v < 18446744073709551616 → bytes 8 v ≡ reverse (bytes 8 w) → v / 9223372036854775808 ≡ w % 256 / 0x80
first_bit v w h e =
    let b : at (bytes 8 v) 7 ≡ w % 256 = ap (λ (l : List ℕ). at l 7) e in
    let d : v / 9223372036854775808 ≡ at (bytes 8 v) 7 / 0x80 = omega arith in
    d ∙ ap (λ (x : ℕ). x / 0x80) b

-- the halves p and q of a block, and those of the shifted one
module _ (p q : ℕ) where
  abbrev head : List ℕ
  head = reverse (shifted_up (q % 256 / 0x80) (reverse (bytes 8 p)))

  abbrev tail : List ℕ
  tail = shifted_up 0 (reverse (bytes 8 q))

  shifted-halves : shifted (bytes 8 p ++ bytes 8 q) ≡ head ++ reverse tail
  shifted-halves = refl

  xor-rb : xor_block (head ++ reverse tail) rb ≡ head ++ reverse (xors tail (bytes 8 0x87))
  unfolding xor_block
  xor-rb = simp xor_zero_r

  double-low : p % 256 < 0x80 → double (bytes 8 p ++ bytes 8 q) ≡ head ++ reverse tail
  unfolding double
  double-low l = rw (lt-ltb (p % 256) 0x80 l) shifted-halves

  double-high : 0x80 ≤ p % 256 → double (bytes 8 p ++ bytes 8 q) ≡ head ++ reverse (xors tail (bytes 8 0x87))
  unfolding double
  double-high l = rw (le-ltb (p % 256) 0x80 l) xor-rb

  pub doubling : (h t m n k x y : ℕ) → h < 18446744073709551616 → t < 18446744073709551616
      → bytes 8 h ≡ reverse (bytes 8 p) → bytes 8 t ≡ reverse (bytes 8 q)
      → bytes 8 m ≡ shifted_up (t / 9223372036854775808) (bytes 8 h) → bytes 8 n ≡ shifted_up 0 (bytes 8 t)
      → k ≡ cond (ltb h 9223372036854775808) 0 0x87
      → bytes 8 x ≡ reverse (bytes 8 m) → bytes 8 y ≡ reverse (bytes 8 (bit_xor n k))
      → bytes 8 x ++ bytes 8 y ≡ double (bytes 8 p ++ bytes 8 q)
  doubling h t m n k x y fh ft eh et em en ek ex ey =
      let b : h / 9223372036854775808 ≡ p % 256 / 0x80 = first_bit h p fh eh in
      let eh' : bytes 8 x ≡ head = ex ∙ ap reverse (em ∙ ap₂ shifted_up (first_bit t q ft et) eh) in
      let en' : bytes 8 n ≡ tail = en ∙ ap (shifted_up 0) et in
      ⊎_elim
      (λ (l : p % 256 < 0x80).
      let z : k ≡ 0 = ek ∙ rw (lt-ltb h 9223372036854775808 (omega arith)) in
      ap₂ ◌++◌ eh' (ey ∙ ap (λ (v : ℕ). reverse (bytes 8 v)) (ap (bit_xor n) z ∙ xor_zero_r n) ∙ ap reverse en') ∙ sym (double-low l))
      (λ (l : 0x80 ≤ p % 256).
      let z : k ≡ 0x87 = ek ∙ rw (le-ltb h 9223372036854775808 (omega arith)) in
      ap₂ ◌++◌ eh'
      (ey ∙ ap reverse (ap (λ (v : ℕ). bytes 8 (bit_xor n v)) z ∙ bytes-xor 8 n 0x87 ∙ ap (λ (l : List ℕ). xors l (bytes 8 0x87)) en'))
      ∙ sym (double-high l))
      (below_or_not (p % 256) 0x80)
