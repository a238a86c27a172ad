-- Laws of byte strings and of the bytes of a word.
use mathlib.Core.Path.{◌≡◌, refl, sym, ap, ap₂, ◌∙◌}
use mathlib.Core.List.{List, [], ◌∷◌, ◌++◌}
use Prim.Native.Nat.{ℕ, zero, suc, ◌+◌, ◌*◌, ◌/◌, ◌%◌, ◌^◌, ◌<◌, ◌≤◌}
use native.Mathlib.Nat.{zero-add, suc-add, pow-suc, mul_assoc}
use native.Mathlib.Numerals.{towards_suc}
use native.Mathlib.Omega.{arith}
use lib.Arith.{mod-mul}
use lib.Bits.{bit_xor, xor_shr, xor_mod}
use Rattle.std.proofs.lemmas.Nat.{shr-shr}
use lib.ListN.{length, take, drop}
use lib.Seq.{take-take, take-add, drop-drop, drop-cons}
use Rattle.words.specs.Bytes.{at, part}
use Rattle.words.specs.Words.{bytes}

-- a part is its first m bytes and the n after them
pub part-add : (s : List ℕ) (o m n : ℕ) → part s o (m + n) ≡ part s o m ++ part s (o + m) n
part-add s o m n = take-add m n (drop o s) ∙ ap (λ (l : List ℕ). part s o m ++ take n l) (drop-drop m o s)

part-take : (s : List ℕ) (n k m : ℕ) → k + m ≤ n → part (take n s) k m ≡ part s k m
part-take s n zero m h = take-take m n s (omega arith)
part-take s zero (suc k) m h = absurd (omega arith)
part-take [] (suc n) (suc k) m h = refl
part-take (x ∷ s) (suc n) (suc k) m h = part-take s n k m (omega arith)

-- a part of a part
pub part-part : (s : List ℕ) (o n k m : ℕ) → k + m ≤ n → part (part s o n) k m ≡ part s (o + k) m
part-part s o n k m h = part-take (drop o s) n k m h ∙ ap (take m) (drop-drop k o s)

-- four columns, each replaced
pub four-columns : {a b c d a' b' c' d' : List ℕ} → a ≡ a' → b ≡ b' → c ≡ c' → d ≡ d' → a ++ b ++ c ++ d ≡ a' ++ b' ++ c' ++ d'
four-columns p q r s = ap₂ ◌++◌ (ap₂ ◌++◌ (ap₂ ◌++◌ p q) r) s

-- a part of 16, in columns
pub part-columns : (s : List ℕ) (o : ℕ) → part s o 16 ≡ part s o 4 ++ part s (o + 4) 4 ++ part s (o + 8) 4 ++ part s (o + 12) 4
part-columns s o =
    part-add s o 12 4
    ∙ ap (λ (l : List ℕ). l ++ part s (o + 12) 4)
    (part-add s o 8 4 ∙ ap (λ (l : List ℕ). l ++ part s (o + 8) 4) (part-add s o 4 4))

-- a part of four, byte by byte
pub part-four : (s : List ℕ) (o : ℕ) → o + 4 ≤ length s → part s o 4 ≡ at s o ∷ at s (o + 1) ∷ at s (o + 2) ∷ at s (o + 3) ∷ []
part-four s o h =
    let e1 : drop o s ≡ at s o ∷ drop (suc o) s = drop-cons s o 0 (omega arith) in
    let e2 : drop (suc o) s ≡ at s (suc o) ∷ drop (suc (suc o)) s = drop-cons s (suc o) 0 (omega arith) in
    let e3 : drop (suc (suc o)) s ≡ at s (suc (suc o)) ∷ drop (suc (suc (suc o))) s = drop-cons s (suc (suc o)) 0 (omega arith) in
    let e4 : drop (suc (suc (suc o))) s ≡ at s (suc (suc (suc o))) ∷ drop (suc (suc (suc (suc o)))) s =
    drop-cons s (suc (suc (suc o))) 0 (omega arith) in
    simp (e1, e2, e3, e4, towards_suc)

-- byte by byte, as far as both go
abbrev pub xors : List ℕ → List ℕ → List ℕ
xors [] t = []
xors (a ∷ s) [] = []
xors (a ∷ s) (b ∷ t) = bit_xor a b ∷ xors s t

pub bytes-xor : (n v w : ℕ) → bytes n (bit_xor v w) ≡ xors (bytes n v) (bytes n w)
bytes-xor zero v w = refl
bytes-xor (suc n) v w =
    ap₂ ◌∷◌ (xor_mod v w 8) (ap (bytes n) (xor_shr v w 8) ∙ bytes-xor n (v / 256) (w / 256))

-- the bytes of a word of two parts
pub bytes-append : (m n low high : ℕ) → low < 256 ^ m → bytes (m + n) (low + high * 256 ^ m) ≡ bytes m low ++ bytes n high
bytes-append zero n low high h =
    let e : low + high * 1 ≡ high = omega arith in
    ap₂ bytes (zero-add n) e
bytes-append (suc m) n low high h =
    let p : 256 ^ suc m ≡ 256 ^ m * 256 = pow-suc 256 m in
    let l : low / 256 < 256 ^ m = omega arith in
    let e : high * 256 ^ suc m ≡ high * 256 ^ m * 256 = ap (λ (x : ℕ). high * x) p ∙ sym (mul_assoc high (256 ^ m) 256) in
    let d : (low + high * 256 ^ suc m) % 256 ≡ low % 256 = omega arith in
    let q : (low + high * 256 ^ suc m) / 256 ≡ low / 256 + high * 256 ^ m = omega arith in
    rw suc-add (ap₂ ◌∷◌ d (ap (bytes (m + n)) q ∙ bytes-append m n (low / 256) high l))

positive : (n : ℕ) → 0 < 256 ^ n
positive zero = omega arith
positive (suc n) = omega (arith, positive n, pow-suc 256 n)

-- a remainder keeps the bytes below it
pub bytes-inj : (n v w : ℕ) → v < 256 ^ n → w < 256 ^ n → bytes n v ≡ bytes n w → v ≡ w
bytes-inj zero v w hv hw e = omega arith
bytes-inj (suc n) v w hv hw e =
    let p = pow-suc 256 n in
    let low : v % 256 ≡ w % 256 = cc e in
    let rest : bytes n (v / 256) ≡ bytes n (w / 256) = cc e in
    let high = bytes-inj n (v / 256) (w / 256) (omega arith) (omega arith) rest in
    omega arith

pub bytes-mod : (n w : ℕ) → bytes n (w % 256 ^ n) ≡ bytes n w
bytes-mod zero w = refl
bytes-mod (suc n) w =
    let p : 256 ^ suc n ≡ 256 ^ n * 256 = pow-suc 256 n in
    let e : w % 256 ^ suc n ≡ (w / 256 % 256 ^ n) * 256 + w % 256 =
    ap (λ (m : ℕ). w % m) p ∙ mod-mul w (positive n) (omega arith) in
    let d : w % 256 ^ suc n % 256 ≡ w % 256 = omega arith in
    let q : w % 256 ^ suc n / 256 ≡ w / 256 % 256 ^ n = omega arith in
    ap₂ ◌∷◌ d (ap (bytes n) q ∙ bytes-mod n (w / 256))

-- one byte in a word
pub bytes-of-byte : (b : ℕ) → b < 256 → bytes 4 b ≡ b ∷ 0 ∷ 0 ∷ 0 ∷ []
bytes-of-byte b h =
    let e : b % 256 ≡ b = omega arith in
    let q : b / 256 ≡ 0 = omega arith in
    rw (e, q)

-- the two halves of a word of eight bytes
pub bytes_halves : (w : ℕ) → bytes 4 (w % 4294967296) ++ bytes 4 (w / 4294967296) ≡ bytes 8 w
bytes_halves w =
    let e : w % 4294967296 + w / 4294967296 * 4294967296 ≡ w = omega arith in
    sym (bytes-append 4 4 (w % 4294967296) (w / 4294967296) (omega arith)) ∙ ap (bytes 8) e

-- byte i of a word, shifted down
pub at-bytes : (n w i : ℕ) → i < n → at (bytes n w) i ≡ w / 2 ^ (8 * i) % 256
at-bytes zero w i h = absurd (omega arith)
at-bytes (suc n) w zero h = omega arith
at-bytes (suc n) w (suc i) h =
    let e : w / 256 / 2 ^ (8 * i) ≡ w / 2 ^ (8 * suc i) = shr-shr w 8 (8 * i) ∙ ap (λ (k : ℕ). w / 2 ^ k) (omega arith) in
    at-bytes n (w / 256) i (omega arith) ∙ ap (λ (v : ℕ). v % 256) e
