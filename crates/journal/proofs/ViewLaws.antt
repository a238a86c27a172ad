-- Parts of a journal as the code reads and puts them.
use mathlib.Core.Path.{◌≡◌, refl, sym, ap, ◌∙◌}
use mathlib.Core.Bool.{Bool, true, false}
use mathlib.Core.List.{List, ◌++◌, append-nil}
use mathlib.Core.Logic.{⊎_elim}
use Prim.Native.Nat.{ℕ, ◌+◌, ◌^◌, ◌<◌}
use native.Mathlib.Omega.{arith}
use borrow.Author.Tests.{eq-eqb, ne_eqb}
use lib.Dec.{eqb}
use lib.ListN.{length, take, drop, length-drop, drop_of_length-le}
use lib.Seq.{sets, sets-eq}
use Rattle.std.proofs.lemmas.List.{take_all}
use Rattle.words.specs.Bytes.{part, same}
use Rattle.words.specs.Words.{bytes}
use Rattle.words.proofs.Bytes.{bytes-inj}
use Rattle.words.proofs.Cases.{equal_or_not}
use Rattle.words.proofs.Same.{same-is, same_refl}

-- two words of eight bytes, compared
pub word-same : (v w : ℕ) → v < 2 ^ 64 → w < 2 ^ 64 → eqb v w ≡ same (bytes 8 v) (bytes 8 w)
word-same v w hv hw =
    ⊎_elim (λ (e : v ≡ w). eq-eqb v w e ∙ sym (same_refl (bytes 8 w)) ∙ ap (λ (x : ℕ). same (bytes 8 x) (bytes 8 w)) (sym e))
    (λ (d : v ≡ w → ⊥). ne_eqb v w d ∙ sym (differ d (same (bytes 8 v) (bytes 8 w)) refl)) (equal_or_not v w)
  where
    differ : (v ≡ w → ⊥) → (b : Bool) → same (bytes 8 v) (bytes 8 w) ≡ b → b ≡ false
    differ d true e = absurd (d (bytes-inj 8 v w hv hw (same-is (bytes 8 v) (bytes 8 w) e)))
    differ d false e = refl

-- the last bytes of a string
pub part-last : (s : List ℕ) (o k : ℕ) → length s ≡ o + k → part s o k ≡ drop o s
part-last s o k h = take_all k (drop o s) (omega (arith, length-drop o s))

pub sets-last : (s x : List ℕ) (o : ℕ) → length s ≡ o + length x → sets s o x ≡ take o s ++ x
sets-last s x o h =
    sets-eq x s o (omega arith) ∙ ap (λ (rest : List ℕ). take o s ++ x ++ rest) (drop_of_length-le s (omega arith))
    ∙ append-nil (take o s ++ x)
