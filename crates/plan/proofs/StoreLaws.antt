-- Stores that do not meet can change places, one made again changes nothing, and what was stored is there.
use mathlib.Core.Path.{◌≡◌, refl, sym, ap, ◌∙◌}
use mathlib.Core.List.{List, [], ◌∷◌, append-nil}
use mathlib.Core.Logic.{◌⊎◌, inl, inr, ⊎_elim}
use Prim.Native.Nat.{ℕ, zero, suc, ◌+◌, ◌<◌, ◌≤◌}
use native.Mathlib.Omega.{arith}
use lib.ListN.{length, set}
use lib.Seq.{sets}
use Rattle.words.specs.Bytes.{part}
use Rattle.tree.proofs.ByteLaws.{part-sets-first}

-- a byte beside a byte
set-swap : (c : List ℕ) (j k a b : ℕ) → (j ≡ k → ⊥) → set (set c j a) k b ≡ set (set c k b) j a
set-swap [] j k a b d = refl
set-swap (x ∷ c) zero zero a b d = absurd (d refl)
set-swap (x ∷ c) zero (suc k) a b d = refl
set-swap (x ∷ c) (suc j) zero a b d = refl
set-swap (x ∷ c) (suc j) (suc k) a b d = ap (λ (l : List ℕ). x ∷ l) (set-swap c j k a b (λ e. d (ap suc e)))

set-again : (c : List ℕ) (j a : ℕ) → set (set c j a) j a ≡ set c j a
set-again [] j a = refl
set-again (x ∷ c) zero a = refl
set-again (x ∷ c) (suc j) a = ap (λ (l : List ℕ). x ∷ l) (set-again c j a)

-- a byte beside a run of bytes
set_past : (y c : List ℕ) (j a p : ℕ) → (j < p) ⊎ (p + length y ≤ j) → sets (set c j a) p y ≡ set (sets c p y) j a
set_past [] c j a p h = refl
set_past (b ∷ y) c j a p h =
    ap (λ (l : List ℕ). sets l (suc p) y)
    (set-swap c j p a b (λ (e : j ≡ p). ⊎_elim (λ (l : j < p). omega arith) (λ (g : p + length (b ∷ y) ≤ j). omega arith) h))
    ∙ set_past y (set c p b) j a (suc p)
    (⊎_elim (λ (l : j < p). inl (omega arith)) (λ (g : p + length (b ∷ y) ≤ j). inr (omega arith)) h)

pub sets-swap : (x y c : List ℕ) (o p : ℕ) → (o + length x ≤ p) ⊎ (p + length y ≤ o) → sets (sets c o x) p y ≡ sets (sets c p y) o x
sets-swap [] y c o p h = refl
sets-swap (a ∷ x) y c o p h =
    sets-swap x y (set c o a) (suc o) p
    (⊎_elim (λ (l : o + length (a ∷ x) ≤ p). inl (omega arith)) (λ (g : p + length y ≤ o). inr (omega arith)) h)
    ∙ ap (λ (l : List ℕ). sets l (suc o) x)
    (set_past y c o a p (⊎_elim (λ (l : o + length (a ∷ x) ≤ p). inl (omega arith)) (λ (g : p + length y ≤ o). inr g) h))

pub sets-again : (x c : List ℕ) (o : ℕ) → sets (sets c o x) o x ≡ sets c o x
sets-again [] c o = refl
sets-again (a ∷ x) c o =
    let rest : List ℕ → List ℕ = λ l. sets l (suc o) x in
    let d = set c o a in
    ap rest (sym (set_past x d o a (suc o) (inl (omega arith))) ∙ ap rest (set-again c o a)) ∙ sets-again x d (suc o)

pub part-sets : (x c : List ℕ) (o : ℕ) → o + length x ≤ length c → part (sets c o x) o (length x) ≡ x
part-sets x c o h =
    ap (λ (y : List ℕ). part (sets c o y) o (length x)) (sym (append-nil x))
    ∙ part-sets-first x [] c o (let e = ap length (append-nil x) in omega arith)
