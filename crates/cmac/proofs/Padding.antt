-- A short block with its padding.
use Rattle.std.proofs.Common.{◌≡◌, ap, ◌∙◌, sym, ℕ, suc, ◌+◌, ◌-◌, ◌<◌, List, [], ◌∷◌, ◌++◌, length, arith}
use Rattle.std.proofs.Math.ListN.{take, set, replicate}
use Rattle.std.proofs.Math.Seq.{set-append_seam, take-suc, length-take-le}
use Rattle.std.proofs.lemmas.List.{length-append, length-replicate, take_all, append_assoc}
use native.Mathlib.Numerals.{add-one}
use Rattle.words.specs.Bytes.{at, part}
use Rattle.cmac.specs.Cmac.{padding}

-- one byte more of x, and the bit behind it
pub padding_more : (x : List ℕ) (i : ℕ) → i < length x → length x < 16
    → set (set (padding (take i x)) i (at x i)) (i + 1) 0x80 ≡ padding (take (i + 1) x)
unfolding padding
padding_more x i h k =
    let p = take i x in
    let v = at x i in
    let q = p ++ (v ∷ []) in
    let z : List ℕ = replicate (14 - i) 0 in
    let n : length p ≡ i = length-take-le i x (omega arith) in
    let m : length q ≡ i + 1 = simp (length-append) (omega (arith, n)) in
    let k1 : 15 - length p ≡ suc (14 - i) = omega (arith, n) in
    let k2 : 14 - i ≡ 15 - length q = omega (arith, m) in
    let r : 0x80 ∷ replicate (15 - length p) 0 ≡ 0x80 ∷ (0 ∷ z) = ap (λ (j : ℕ). 0x80 ∷ replicate j 0) k1 in
    let s : set (p ++ (0x80 ∷ (0 ∷ z))) i v ≡ q ++ (0 ∷ z) =
    ap (λ (j : ℕ). set (p ++ (0x80 ∷ (0 ∷ z))) j v) (sym n) ∙ set-append_seam p 0x80 (0 ∷ z) v ∙ sym (append_assoc p (v ∷ []) (0 ∷ z)) in
    let w : set (q ++ (0 ∷ z)) (i + 1) 0x80 ≡ q ++ (0x80 ∷ z) =
    ap (λ (j : ℕ). set (q ++ (0 ∷ z)) j 0x80) (sym m) ∙ set-append_seam q 0 z 0x80 in
    let e : take (i + 1) x ≡ q = ap (λ (j : ℕ). take j x) (add-one i) ∙ take-suc x i 0 h in
    ap (λ (y : List ℕ). set (set (p ++ y) i v) (i + 1) 0x80) r ∙ ap (λ (y : List ℕ). set y (i + 1) 0x80) s ∙ w
    ∙ ap (λ (j : ℕ). q ++ (0x80 ∷ replicate j 0)) k2
    ∙ ap (λ (y : List ℕ). y ++ (0x80 ∷ replicate (15 - length y) 0)) (sym e)

-- padded, a short block is whole
pub padding-whole : (x : List ℕ) → length x < 16 → part (padding x) 0 16 ≡ padding x
unfolding padding
padding-whole x h =
    let l : length (x ++ (0x80 ∷ replicate (15 - length x) 0)) ≡ 16 = simp (length-append, length-replicate) (omega arith) in
    take_all 16 (x ++ (0x80 ∷ replicate (15 - length x) 0)) (omega (arith, l))
