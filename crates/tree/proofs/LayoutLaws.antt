-- Where nodes lie: each on the card, none over another.
use mathlib.Core.Path.{◌≡◌, ap}
use mathlib.Core.List.{List, Memᴰ}
use mathlib.Core.Logic.{◌⊎◌, inl, inr, ⊎_elim}
use Prim.Native.Nat.{ℕ, ◌+◌, ◌*◌, ◌-◌, ◌^◌, ◌<◌, ◌≤◌}
use native.Mathlib.Nat.{eq-or-lt_of_le, le_of_eq}
use native.Mathlib.Omega.{arith}
use borrow.Author.Tests.{lt-ltb, le-ltb}
use lib.ListN.{length, length-take, length-drop}
use lib.Pow.{pow_mono}
use Rattle.words.proofs.Cases.{below_or_not}
use Rattle.tree.specs.Layout.{IsNode, IsCard, size, offset, card_length, label}

pub few-leaves : (n : ℕ) → n ≤ 16 → 2 ^ n ≤ 65536
few-leaves n h = pow_mono {j = 16} h

-- every one of a list is a node
abbrev pub AllNodes : ℕ → List ℕ → Type 0
AllNodes n us = (w : ℕ) → Memᴰ w us → IsNode n w

-- inner nodes and leaves
pub record Inner (n u : ℕ) : Type 0 where
  pub size_is : size n u ≡ 8
  pub offset-is : offset n u ≡ 24 * (u - 2)

pub record Leaf (n u : ℕ) : Type 0 where
  pub size_is : size n u ≡ 64
  pub offset-is : offset n u ≡ 24 * (2 ^ n - 2) + 80 * (u - 2 ^ n)

pub inner : (n u : ℕ) → u < 2 ^ n → Inner n u
unfolding size offset
inner n u h = record { size_is = rw (lt-ltb u (2 ^ n) h); offset-is = rw (lt-ltb u (2 ^ n) h) }

pub leaf : (n u : ℕ) → 2 ^ n ≤ u → Leaf n u
unfolding size offset
leaf n u h = record { size_is = rw (le-ltb u (2 ^ n) h); offset-is = rw (le-ltb u (2 ^ n) h) }

-- entries lie in the order of their nodes
pub entry-before : (n u w : ℕ) → 2 ≤ u → u < w → offset n u + (size n u + 16) ≤ offset n w
entry-before n u w h l =
    ⊎_elim
    (λ (a : w < 2 ^ n).
    let b : u < 2 ^ n = omega arith in
    omega (arith, inner n u b, inner n w a))
    (λ (a : 2 ^ n ≤ w).
    ⊎_elim
    (λ (b : u < 2 ^ n). omega (arith, inner n u b, leaf n w a))
    (λ (b : 2 ^ n ≤ u). omega (arith, leaf n u b, leaf n w a))
    (below_or_not u (2 ^ n)))
    (below_or_not w (2 ^ n))

pub offset-mono : (n u w : ℕ) → 2 ≤ u → u ≤ w → offset n u ≤ offset n w
offset-mono n u w h l =
    ⊎_elim (λ (e : u ≡ w). le_of_eq (ap (offset n) e)) (λ (g : u < w). omega (arith, entry-before n u w h g)) (eq-or-lt_of_le l)

-- the card ends where a node after the last leaf would lie
pub card-end : (n : ℕ) → 1 ≤ n → offset n (2 * 2 ^ n) ≡ card_length n
card-end n h = let p : 2 ^ 1 ≤ 2 ^ n = pow_mono h in omega (arith, leaf n (2 * 2 ^ n) (omega arith))

pub entry-fits : (n u : ℕ) → IsNode n u → offset n u + (size n u + 16) ≤ card_length n
entry-fits n u h = omega (arith, entry-before n u (2 * 2 ^ n) h.low h.high, leaf n (2 * 2 ^ n) (omega arith), h)

pub entry-small : (n u : ℕ) → n ≤ 16 → IsNode n u → offset n u + (size n u + 16) ≤ 6815696
entry-small n u l h = omega (arith, entry-fits n u h, few-leaves n l)

pub ruleset small_entries = (entry-small)

-- the same of a card
pub entry-on : (n : ℕ) (card : List ℕ) (u : ℕ) → IsCard n card → IsNode n u → offset n u + (size n u + 16) ≤ length card
entry-on n card u d h = omega (arith, entry-fits n u h, d.full)

pub size_low : (n u : ℕ) → size n u ≤ 64
size_low n u =
    ⊎_elim (λ (l : u < 2 ^ n). omega (arith, inner n u l)) (λ (g : 2 ^ n ≤ u). omega (arith, leaf n u g)) (below_or_not u (2 ^ n))

pub entry-apart : (n u w : ℕ) → IsNode n u → IsNode n w → (u ≡ w → ⊥)
    → (offset n u + (size n u + 16) ≤ offset n w) ⊎ (offset n w + (size n w + 16) ≤ offset n u)
entry-apart n u w hu hw d =
    ⊎_elim (λ (l : u < w). inl (entry-before n u w hu.low l)) (λ (g : w ≤ u). inr (entry-before n w u hw.low (omega arith)))
    (below_or_not u w)

pub length_label : (n : ℕ) (card : List ℕ) (u : ℕ) → length card ≡ card_length n → IsNode n u → length (label n card u) ≡ size n u
unfolding label
length_label n card u e h = simp (length-take, length-drop) (omega (arith, entry-fits n u h))
