-- Byte strings: numbers as bytes, parts, and parts after a store.
use mathlib.Core.Path.{◌≡◌, refl, sym, ap, ◌∙◌}
use mathlib.Core.List.{List, [], ◌∷◌, ◌++◌, reverse, append_assoc, append-nil}
use mathlib.Core.Logic.{◌⊎◌, inl, inr, ⊎_elim}
use Prim.Native.Nat.{ℕ, zero, suc, ◌+◌, ◌/◌, ◌%◌, ◌^◌, ◌<◌, ◌≤◌}
use native.Mathlib.Nat.{pow-suc}
use native.Mathlib.Omega.{arith}
use Rattle.std.proofs.lemmas.List.{reverse-append}
use lib.ListN.{length, take, drop, set, length-append, length-take, length-drop, drop_of_length-le, take-append-drop}
use lib.Seq.{take-append_seam, drop-append_seam, take_at, drop_at, get_or-take, get_or-drop, get_or-set_other}
use lib.Seq.{ext_get_or, drop-drop, length-take-le, take-add, sets, length-sets, sets-eq}
use Rattle.words.specs.Bytes.{at, part}
use Rattle.words.specs.Words.{bytes}
use Rattle.tree.specs.Numbers.{be}

pub append_inj : {A : Type 0} (a b c d : List A) → length a ≡ length c → a ++ b ≡ c ++ d → (a ≡ c) × (b ≡ d)
append_inj a b c d h e =
    let n = length a in (
      sym (take-append_seam a b) ∙ ap (take n) e ∙ take_at c d n (sym h),
      sym (drop-append_seam a b) ∙ ap (drop n) e ∙ drop_at c d n (sym h),
    )

pub length-be : (k x : ℕ) → length (be k x) ≡ k
unfolding be
length-be zero x = refl
length-be (suc k) x = length-append (be k (x / 256)) (x % 256 ∷ []) ∙ omega (arith, length-be k (x / 256))

pub be-inj : (k x y : ℕ) → x < 256 ^ k → y < 256 ^ k → be k x ≡ be k y → x ≡ y
unfolding be
be-inj zero x y hx hy e = omega arith
be-inj (suc k) x y hx hy e =
    let p = pow-suc 256 k in
    let q = append_inj (be k (x / 256)) (x % 256 ∷ []) (be k (y / 256)) (y % 256 ∷ [])
    (length-be k (x / 256) ∙ sym (length-be k (y / 256))) e in
    let high : x / 256 ≡ y / 256 = be-inj k (x / 256) (y / 256) (omega arith) (omega arith) q.0 in
    let low : x % 256 ≡ y % 256 = cc q.1 in
    omega arith

-- the bytes of a word, in turn
pub reverse-bytes : (k x : ℕ) → reverse (bytes k x) ≡ be k x
unfolding be
reverse-bytes zero x = refl
reverse-bytes (suc k) x = reverse-append (x % 256 ∷ []) (bytes k (x / 256)) ∙ ap (λ (s : List ℕ). s ++ (x % 256 ∷ [])) (reverse-bytes k (x / 256))

-- a word that holds another's bytes in turn
pub be-turned : (v w : ℕ) → bytes 8 v ≡ be 8 w → be 8 v ≡ bytes 8 w
unfolding be
be-turned v w e = ap reverse e

-- a store changes nothing beside it
pub at-sets-apart : (x c : List ℕ) (o j : ℕ) → (j < o) ⊎ (o + length x ≤ j) → at (sets c o x) j ≡ at c j
at-sets-apart [] c o j h = refl
at-sets-apart (v ∷ x) c o j (inl h) =
    at-sets-apart x (set c o v) (suc o) j (inl (omega arith)) ∙ get_or-set_other c o j v 0 (λ (e : j ≡ o). omega arith)
at-sets-apart (v ∷ x) c o j (inr h) =
    at-sets-apart x (set c o v) (suc o) j (inr (omega arith)) ∙ get_or-set_other c o j v 0 (λ (e : j ≡ o). omega arith)

-- parts of two strings of one length are equal where their bytes are
pub part_ext : (s t : List ℕ) (o n : ℕ) → length s ≡ length t → ((j : ℕ) → j < n → at s (o + j) ≡ at t (o + j)) → part s o n ≡ part t o n
part_ext s t o n e f =
    ext_get_or 0 (part s o n) (part t o n) (simp (length-take, length-drop) (omega arith))
    (λ j h.
    let l : j < n = omega (arith, length-take n (drop o s)) in
    get_or-take n (drop o s) j 0 l ∙ get_or-drop o s j 0 ∙ f j l ∙ sym (get_or-take n (drop o t) j 0 l ∙ get_or-drop o t j 0))

pub part-sets-apart : (x c : List ℕ) (o p n : ℕ) → (p + n ≤ o) ⊎ (o + length x ≤ p) → part (sets c o x) p n ≡ part c p n
part-sets-apart x c o p n h =
    part_ext (sets c o x) c p n (length-sets c o x)
    (λ j l. at-sets-apart x c o (p + j) (⊎_elim (λ (b : p + n ≤ o). inl (omega arith)) (λ (a : o + length x ≤ p). inr (omega arith)) h))

-- what was stored is there: its first part and its second
module _ (x y c : List ℕ) (o : ℕ) (fits : o + length (x ++ y) ≤ length c) where
  stored : drop o (sets c o (x ++ y)) ≡ x ++ (y ++ drop (o + length (x ++ y)) c)
  stored =
      let r = drop (o + length (x ++ y)) c in
      let n : length (take o c) ≡ o = length-take-le o c (omega arith) in
      ap (drop o) (sets-eq (x ++ y) c o fits ∙ append_assoc (take o c) (x ++ y) r)
      ∙ drop_at (take o c) (x ++ y ++ r) o n ∙ append_assoc x y r

  pub part-sets-first : part (sets c o (x ++ y)) o (length x) ≡ x
  part-sets-first = ap (take (length x)) stored ∙ take-append_seam x (y ++ drop (o + length (x ++ y)) c)

  pub part-sets-second : part (sets c o (x ++ y)) (o + length x) (length y) ≡ y
  part-sets-second =
      let r = drop (o + length (x ++ y)) c in
      ap (take (length y)) (sym (drop-drop (length x) o (sets c o (x ++ y))) ∙ ap (drop (length x)) stored ∙ drop-append_seam x (y ++ r))
      ∙ take-append_seam y r

  pub at-sets-first : (k : ℕ) → k < length x → at (sets c o (x ++ y)) (o + k) ≡ at x k
  at-sets-first k h =
      sym (get_or-take (length x) (drop o (sets c o (x ++ y))) k 0 h ∙ get_or-drop o (sets c o (x ++ y)) k 0)
      ∙ ap (λ (z : List ℕ). at z k) part-sets-first

-- a string stored over one of its length
pub sets-whole : (x c : List ℕ) → length c ≡ length x → sets c 0 x ≡ x
sets-whole x c h =
    let e : length c ≤ 0 + length x = omega arith in
    sets-eq x c 0 (omega arith) ∙ ap (◌++◌ x) (drop_of_length-le c e) ∙ append-nil x

-- putting what is there changes nothing
pub sets-there : (x c : List ℕ) (o : ℕ) → o + length x ≤ length c → part c o (length x) ≡ x → sets c o x ≡ c
sets-there x c o h e =
    let rest = drop (o + length x) c in
    sets-eq x c o h ∙ ap (λ (z : List ℕ). take o c ++ z ++ rest) (sym e) ∙ ap (λ (z : List ℕ). z ++ rest) (sym (take-add o (length x) c))
    ∙ take-append-drop (o + length x) c
