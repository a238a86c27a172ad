-- Comparing byte strings.
use mathlib.Core.Path.{◌≡◌, refl, sym, ap, ap₂, ◌∙◌}
use mathlib.Core.Bool.{Bool, true, false, ◌&&◌}
use mathlib.Core.List.{List, [], ◌∷◌, ◌++◌}
use mathlib.Core.Logic.{◌⊎◌, inl, inr}
use Prim.Native.Nat.{ℕ, ◌^◌, ◌<◌}
use native.Mathlib.Omega.{arith}
use borrow.Author.Tests.{eq-eqb, ne_eqb, eqb-true}
use lib.Dec.{eqb}
use lib.ListN.{take, drop}
use Rattle.words.specs.Bytes.{same}
use Rattle.words.specs.Words.{bytes}
use Rattle.words.proofs.Bytes.{bytes-inj}
use Rattle.words.proofs.Cases.{equal_or_not}

pub same-is : (xs ys : List ℕ) → same xs ys ≡ true → xs ≡ ys
unfolding same
same-is [] [] e = refl
same-is [] (y ∷ ys) e = let z : ◌≡◌ {A = ℕ} 0 1 = cc in absurd (omega arith)
same-is (x ∷ xs) [] e = let z : ◌≡◌ {A = ℕ} 0 1 = cc in absurd (omega arith)
same-is (x ∷ xs) (y ∷ ys) e = go (same-is xs ys) (eqb x y) refl e
  where
    go : (same xs ys ≡ true → xs ≡ ys) → (b : Bool) → eqb x y ≡ b → (b && same xs ys) ≡ true → x ∷ xs ≡ y ∷ ys
    go rest true p e = ap₂ ◌∷◌ (eqb-true x y p) (rest e)
    go rest false p e = let z : ◌≡◌ {A = ℕ} 0 1 = cc in absurd (omega arith)

pub same_refl : (xs : List ℕ) → same xs xs ≡ true
unfolding same
same_refl [] = refl
same_refl (x ∷ xs) = rw (eq-eqb x x refl) (same_refl xs)

-- words of eight bytes are equal where their bytes are
module _ (a b c d : ℕ) (ha : a < 256 ^ 8) (hb : b < 256 ^ 8) (hc : c < 256 ^ 8) (hd : d < 256 ^ 8) where
  abbrev left : List ℕ
  left = bytes 8 a ++ bytes 8 b

  abbrev right : List ℕ
  right = bytes 8 c ++ bytes 8 d

  words-go : (s : Bool) → same left right ≡ s → (a ≡ c) ⊎ (a ≡ c → ⊥) → (b ≡ d) ⊎ (b ≡ d → ⊥) → (eqb a c && eqb b d) ≡ s
  words-go true e p q =
      let l = same-is left right e in
      rw (eq-eqb a c (bytes-inj 8 a c ha hc (ap (take 8) l)), eq-eqb b d (bytes-inj 8 b d hb hd (ap (drop 8) l)))
  words-go false e (inl p) (inl q) =
      let l : left ≡ right = ap₂ (λ (v w : ℕ). bytes 8 v ++ bytes 8 w) p q in
      let z : true ≡ false = sym (same_refl left) ∙ ap (same left) l ∙ e in
      let y : ◌≡◌ {A = ℕ} 0 1 = cc in absurd (omega arith)
  words-go false e (inr p) q = rw (ne_eqb a c p)
  words-go false e (inl p) (inr q) = rw (eq-eqb a c p, ne_eqb b d q)

  pub same-words : (eqb a c && eqb b d) ≡ same left right
  same-words = words-go (same left right) refl (equal_or_not a c) (equal_or_not b d)
