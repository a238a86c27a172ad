-- Where the lower leaf of a write's last pair of ranges starts tells the block.
use mathlib.Core.Path.{◌≡◌, refl, ap, subst, ◌∙◌}
use mathlib.Core.List.Memᴰ
use mathlib.Core.List.{List, Memᴰ, reverse}
use mathlib.Core.Logic.{⊎_elim}
use Prim.Native.Nat.{ℕ, suc, ◌+◌, ◌*◌, ◌-◌, ◌/◌, ◌^◌, ◌<◌, ◌≤◌}
use native.Mathlib.Nat.{pow-suc}
use native.Mathlib.Omega.{arith}
use lib.ListN.{take}
use lib.Seq.{take_at, drop_at}
use Rattle.words.specs.Bytes.{part}
use Rattle.words.specs.Words.{bytes}
use Rattle.words.proofs.Bytes.{bytes-inj}
use Rattle.words.proofs.Cases.{equal_or_not}
use Rattle.tree.specs.Numbers.{be}
use Rattle.tree.specs.Layout.{offset}
use Rattle.tree.specs.Nodes.{path_node}
use Rattle.tree.specs.Ranges.{Range, range_of, range_pair, ranges_to, ranges_of, encode}
use Rattle.tree.proofs.ByteLaws.{length-be}
use Rattle.tree.proofs.LayoutLaws.{leaf}
use Rattle.tree.proofs.NodeLaws.{path-leaf}
use Rattle.tree.proofs.RangeLaws.{encode-append, ranges-length, range-short, range-own, range_other}

-- a word that holds four bytes in turn
pub be4-turned : (v w : ℕ) → bytes 4 v ≡ be 4 w → be 4 v ≡ bytes 4 w
unfolding be
be4-turned v w e = ap reverse e

-- the number that is read where these bytes stand
pub number-read : (s : List ℕ) (o v w x : ℕ) → x < 2 ^ 32 → w < 2 ^ 32 → part s o 4 ≡ be 4 x → bytes 4 v ≡ part s o 4 → bytes 4 w ≡ be 4 v
    → w ≡ x
number-read s o v w x hx hw e f g = bytes-inj 4 w x hw hx (g ∙ be4-turned v x (f ∙ e))

-- the lower range of the pair at level k + 1
abbrev pub lower : ℕ → ℕ → ℕ → Range
lower n i k = let u = path_node n i (suc k) in range_of n u (2 * (u / 2))

-- where its start stands in the list
lower-part : (n i k : ℕ) → part (encode (ranges_to n i (suc k))) (16 * k) 4 ≡ be 4 (lower n i k).start
unfolding ranges_to encode
lower-part n i k =
    let x = encode (ranges_to n i k) in
    let r = lower n i k in
    let y = encode (range_pair n i (suc k)) in
    ap (λ (l : List ℕ). part l (16 * k) 4) (encode-append (ranges_to n i k) (range_pair n i (suc k)))
    ∙ ap (take 4) (drop_at x y (16 * k) (ranges-length n i k))
    ∙ take_at (be 4 r.start) _ 4 (length-be 4 r.start)

-- it is one of the ranges
lower-among : (n i k : ℕ) → Memᴰ (lower n i k) (ranges_to n i (suc k))
unfolding ranges_to
lower-among n i k = Memᴰ.append_right (ranges_to n i k) (Memᴰ.head refl)

-- at the leaves its start tells the block
lower-leaf : (n i u : ℕ) → 1 ≤ n → u ≡ 2 ^ n + i → ((range_of n u (2 * (u / 2))).start + 16 - offset n (2 ^ n)) / 80 ≡ i
lower-leaf n i u h e =
    let p = pow-suc 2 (n - 1) in
    let q : suc (n - 1) ≡ n = omega arith in
    let t = ap (λ (k : ℕ). 2 ^ k) q in
    let w = 2 * (u / 2) in
    let x = leaf n w (omega arith) in
    let y = leaf n (2 ^ n) (omega arith) in
    ⊎_elim (λ (f : w ≡ u). let r = range-own n u w f in omega (arith, r, x, y))
    (λ (f : w ≡ u → ⊥). let r = range_other n u w f in omega (arith, r, x, y)) (equal_or_not w u)

-- the block of a list of ranges, by the number at 16 (n - 1)
pub record Tells (n i : ℕ) (list : List ℕ) : Type 0 where
  pub start : ℕ
  pub short : start < 2 ^ 32
  pub here : part list (16 * (n - 1)) 4 ≡ be 4 start
  pub tells : (start + 16 - offset n (2 ^ n)) / 80 ≡ i

-- the list of a block does
pub lower-tells : (n i : ℕ) → 1 ≤ n → n ≤ 16 → i < 2 ^ n → Tells n i (encode (ranges_of n i))
lower-tells n i h l inside =
    let q : suc (n - 1) ≡ n = omega arith in
    let r = lower n i (n - 1) in
    let m : Memᴰ r (ranges_of n i) = subst (λ (k : ℕ). Memᴰ r (ranges_to n i k)) q (lower-among n i (n - 1)) in
    record {
      start = r.start;
      short = omega (arith, range-short n i inside h l r m);
      here = subst (λ (k : ℕ). part (encode (ranges_to n i k)) (16 * (n - 1)) 4 ≡ be 4 r.start) q (lower-part n i (n - 1));
      tells = lower-leaf n i (path_node n i (suc (n - 1))) h (ap (path_node n i) q ∙ path-leaf n i inside);
    }
