-- Numbers in bytes, and what the calls for C come to where the anchor has its length and where not.
use mathlib.Core.Path.{◌≡◌, refl, sym, ap, ◌∙◌}
use mathlib.Core.Bool.{true}
use mathlib.Core.List.{List, [], ◌∷◌, ◌++◌}
use Prim.Native.Nat.{ℕ, zero, suc, ◌+◌, ◌*◌, ◌/◌, ◌%◌, ◌^◌, ◌<◌}
use native.Mathlib.Nat.{pow-suc, mul_assoc}
use native.Mathlib.Omega.{arith}
use borrow.Author.Tests.{eq-eqb, ne_eqb}
use lib.ListN.{length, length-append}
use Rattle.cmac.specs.Cmac.{cmac_of}
use Rattle.tree.specs.Numbers.{be}
use Rattle.tree.specs.Calls.{Call, lent_to, renews, outcome, format}
use Rattle.host_bytes.specs.Host.{anchor_bytes, refused_length, number, anchor_of, Host, hosted, measured, host_call, host_format, Hosts}

-- Numbers

number-snoc : (xs : List ℕ) (b : ℕ) → number (xs ++ (b ∷ [])) ≡ number xs * 256 + b
unfolding number
number-snoc [] b = omega arith
number-snoc (x ∷ xs) b =
    let l : length (xs ++ (b ∷ [])) ≡ suc (length xs) = length-append xs (b ∷ []) ∙ omega arith in
    let p : x * 256 ^ suc (length xs) ≡ x * 256 ^ length xs * 256 =
    ap (λ (y : ℕ). x * y) (pow-suc 256 (length xs)) ∙ sym (mul_assoc x (256 ^ length xs) 256) in
    omega (arith, ap (λ (k : ℕ). x * 256 ^ k) l, p, number-snoc xs b)

-- the number that the bytes of a number stand for
pub number-be : (k x : ℕ) → x < 256 ^ k → number (be k x) ≡ x
unfolding be number
number-be zero x h = omega arith
number-be (suc k) x h =
    let p = pow-suc 256 k in
    number-snoc (be k (x / 256)) (x % 256) ∙ omega (arith, number-be k (x / 256) (omega arith))

-- Lengths

pub measured-in : (anchor card lent : List ℕ) (h : Host) → length anchor ≡ anchor_bytes → measured anchor card lent h ≡ h
measured-in anchor card lent h e = rw (eq-eqb (length anchor) anchor_bytes e)

pub measured-out : (anchor card lent : List ℕ) (h : Host) → (length anchor ≡ anchor_bytes → ⊥)
    → Hosts (measured anchor card lent h) refused_length anchor card lent
measured-out anchor card lent h d =
    rw (ne_eqb (length anchor) anchor_bytes d) (record { coded = refl; anchored = refl; left = refl; filled = refl })

-- Calls

module _ (anchor card : List ℕ) (long : length anchor ≡ anchor_bytes) where
  pub host-call : (c : Call) →
      let a = anchor_of anchor in host_call anchor card c ≡ hosted (renews c) anchor (outcome (cmac_of a.key) a card c)
  unfolding host_call
  host-call c = measured-in anchor card (lent_to c) _ long

  pub host-format :
      let a = anchor_of anchor in host_format anchor card ≡ hosted true anchor (format (cmac_of a.key) a.key a.depth card)
  unfolding host_format
  host-format = measured-in anchor card [] _ long
