-- Bits of a number, by halving it: one that is set anew, and all of the lowest.
use mathlib.Core.Path.{◌≡◌, refl, sym, ap, ◌∙◌}
use Prim.Native.Nat.{ℕ, zero, suc, ◌+◌, ◌*◌, ◌-◌, ◌/◌, ◌%◌, ◌^◌, ◌<◌}
use native.Mathlib.Nat.{pow-suc, div-one}
use native.Mathlib.Omega.{arith}
use lib.Pow.{shr-shr, mod-pow-add, pow_pos}
use Rattle.plan.specs.Places.{bit}

unfoldable halved : ℕ → ℕ → ℕ
halved zero f = f % 2
halved (suc k) f = halved k (f / 2)

unfoldable raised : ℕ → ℕ → ℕ
raised zero f = 2 * (f / 2) + 1
raised (suc k) f = 2 * raised k (f / 2) + f % 2

halved_is : (k f : ℕ) → halved k f ≡ bit k f
unfolding halved
halved_is zero f = ap (λ (x : ℕ). x % 2) (sym (div-one f))
halved_is (suc k) f =
    let e : 1 + k ≡ suc k = omega arith in
    halved_is k (f / 2) ∙ ap (λ (x : ℕ). x % 2) (shr-shr f 1 k ∙ ap (λ (j : ℕ). f / 2 ^ j) e)

raised_is : (k f : ℕ) → halved k f ≡ 0 → raised k f ≡ f + 2 ^ k
unfolding halved raised
raised_is zero f e = omega arith
raised_is (suc k) f e = let p = raised_is k (f / 2) e in let q = pow-suc 2 k in omega arith

same : (k f : ℕ) → halved k (raised k f) ≡ 1
unfolding halved raised
same zero f = omega arith
same (suc k) f = let e : (2 * raised k (f / 2) + f % 2) / 2 ≡ raised k (f / 2) = omega arith in ap (halved k) e ∙ same k (f / 2)

other : (j k f : ℕ) → (j ≡ k → ⊥) → halved j (raised k f) ≡ halved j f
unfolding halved raised
other zero zero f d = absurd (d refl)
other zero (suc k) f d = omega arith
other (suc j) zero f d = let e : (2 * (f / 2) + 1) / 2 ≡ f / 2 = omega arith in ap (halved j) e
other (suc j) (suc k) f d =
    let e : (2 * raised k (f / 2) + f % 2) / 2 ≡ raised k (f / 2) = omega arith in
    ap (halved j) e ∙ other j k (f / 2) (λ p. d (ap suc p))

-- a bit that is not set, set
module _ (k f : ℕ) (unset : bit k f ≡ 0) where
  added : raised k f ≡ f + 2 ^ k
  added = raised_is k f (halved_is k f ∙ unset)

  pub set_same : bit k (f + 2 ^ k) ≡ 1
  set_same = ap (bit k) (sym added) ∙ sym (halved_is k (raised k f)) ∙ same k f

  pub set_other : (j : ℕ) → (j ≡ k → ⊥) → bit j (f + 2 ^ k) ≡ bit j f
  set_other j d = ap (bit j) (sym added) ∙ sym (halved_is j (raised k f)) ∙ other j k f d ∙ halved_is j f

-- in as many bits
raised-fits : (k m f : ℕ) → k < m → f < 2 ^ m → raised k f < 2 ^ m
unfolding raised
raised-fits k zero f l h = absurd (omega arith)
raised-fits zero (suc m) f l h = let q = pow-suc 2 m in omega arith
raised-fits (suc k) (suc m) f l h =
    let q = pow-suc 2 m in
    let p = raised-fits k m (f / 2) (omega arith) (omega arith) in
    omega arith

pub set-fits : (k m f : ℕ) → bit k f ≡ 0 → k < m → f < 2 ^ m → f + 2 ^ k < 2 ^ m
set-fits k m f unset l h = let p = raised-fits k m f l h in let q = added k f unset in omega arith

-- 0 has none
halved_none : (k : ℕ) → halved k 0 ≡ 0
unfolding halved
halved_none zero = refl
halved_none (suc k) = halved_none k

pub none-set : (k : ℕ) → bit k 0 ≡ 0
none-set k = sym (halved_is k 0) ∙ halved_none k

low_bits : (m f : ℕ) → f % 2 ^ suc m ≡ (f / 2 % 2 ^ m) * 2 + f % 2
low_bits m f = let e : suc m ≡ m + 1 = omega arith in ap (λ (j : ℕ). f % 2 ^ j) e ∙ mod-pow-add f m 1

all_set : (m f : ℕ) → ((k : ℕ) → k < m → halved k f ≡ 1) → f % 2 ^ m ≡ 2 ^ m - 1
unfolding halved
all_set zero f h = omega arith
all_set (suc m) f h =
    let p = all_set m (f / 2) (λ k l. h (suc k) (omega arith)) in
    let b = h 0 (omega arith) in
    let q = pow-suc 2 m in
    let o = pow_pos m in
    low_bits m f ∙ omega arith

set_all : (m f : ℕ) → f % 2 ^ m ≡ 2 ^ m - 1 → (k : ℕ) → k < m → halved k f ≡ 1
unfolding halved
set_all zero f e k l = absurd (omega arith)
set_all (suc m) f e zero l =
    let p = low_bits m f in
    let q = pow-suc 2 m in
    let o = pow_pos m in
    omega arith
set_all (suc m) f e (suc k) l =
    let p = low_bits m f in
    let q = pow-suc 2 m in
    let o = pow_pos m in
    set_all m (f / 2) (omega arith) k (omega arith)

-- the m lowest bits are all set exactly where the remainder is the greatest
pub ones : (m f : ℕ) → ((k : ℕ) → k < m → bit k f ≡ 1) → f % 2 ^ m ≡ 2 ^ m - 1
ones m f h = all_set m f (λ k l. halved_is k f ∙ h k l)

pub of_ones : (m f : ℕ) → f % 2 ^ m ≡ 2 ^ m - 1 → (k : ℕ) → k < m → bit k f ≡ 1
of_ones m f e k l = sym (halved_is k f) ∙ set_all m f e k l
