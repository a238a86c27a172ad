-- Document 01's table, rows a to m, as one statement. Its T stands for the reserved nonce too, as it does after a format and after every
-- accepted write: no nonces are lost.
use Rattle.std.specs.Prelude.{◌≡◌, List, [], ◌∷◌, ◌++◌, ℕ, ◌*◌, ◌-◌, ◌^◌, length, replicate}
use Rattle.std.proofs.Math.Option.{Option, none, some}
use Rattle.words.specs.Bytes.{at}
use Rattle.tables.specs.Tables.{IsSBox}
use Rattle.cmac.specs.Cmac.{double}
use Rattle.tree.specs.Numbers.{be8}
use Rattle.tree.specs.Layout.{card_length, label}
use Rattle.tree.specs.Ranges.{Range, ranges_of}
use Rattle.tree.specs.Answer.{refusal_number}
use Rattle.tree.specs.Limits.{first_failing}
use Rattle.tree.specs.Calls.{write, limits, Outcome, outcome, format}
use Rattle.tree.specs.declared.Anchor.{Anchor}
use Rattle.tree.specs.declared.Refusal.{Refusal}
use Rattle.tree.specs.Answer.{Whole}

abbrev pub range : ℕ → ℕ → Range
range o l = record { start = o; count = l }

-- the root nonce t, and h the reserved one
abbrev pub anchor : List ℕ → ℕ → ℕ → ℕ → Anchor
anchor key n t h = record { key = key; depth = n; root = record { 0 = t }; reserved = record { 0 = h } }

abbrev pub number_or_0 : Option Refusal → ℕ
number_or_0 none = 0
number_or_0 (some r) = refusal_number r

-- rows h to k: the number of the first limit that a write of block i fails, 0 if it fits: depth n, root nonce t, reserved nonce h, a card
-- of len bytes
unfoldable pub refused : ℕ → ℕ → ℕ → ℕ → ℕ → ℕ
refused n t h len i =
    number_or_0 (first_failing (limits (anchor (replicate 16 0) n t h) (replicate len 0) (write i (replicate 64 0) (replicate (16 * n) 0))))

-- Rows f and g: with any tags of 16 bytes, any key, any new blocks and range buffers of 16 n bytes, the writes are accepted on the card
-- that a format leaves; and on every card on which they are, they leave these nonces.

module _ (F : List ℕ → List ℕ) (key : List ℕ) where
  -- row f: depth 3, block 5 is written
  abbrev pub once : List ℕ → List ℕ → List ℕ → Outcome
  once card b r = outcome F (anchor key 3 0 0) card (write 5 b r)

  pub record RowF (b r : List ℕ) : Type 0 where
    pub accepted : (card : List ℕ) → length card ≡ card_length 3 → (once (format F key 3 card).card b r).answer ≡ Whole
    pub nonces : (card : List ℕ) → (once card b r).answer ≡ Whole
        → (label 3 (once card b r).card 3 ≡ be8 2) × (label 3 (once card b r).card 6 ≡ be8 1) × ((once card b r).anchor ≡ anchor key 3 3 3)

  -- row g: depth 2, block 2 is written and then block 0
  abbrev pub first : List ℕ → List ℕ → List ℕ → Outcome
  first card b r = outcome F (anchor key 2 0 0) card (write 2 b r)

  abbrev pub second : Outcome → List ℕ → List ℕ → Outcome
  second o c s = outcome F o.anchor o.card (write 0 c s)

  pub record RowG (b r c s : List ℕ) : Type 0 where
    pub accepted : (card : List ℕ) → length card ≡ card_length 2 →
        let o = first (format F key 2 card).card b r in
        (o.answer ≡ Whole) × ((second o c s).answer ≡ Whole)
    pub nonces : (card : List ℕ) → (first card b r).answer ≡ Whole → (second (first card b r) c s).answer ≡ Whole →
        let p = second (first card b r) c s in
        (label 2 p.card 3 ≡ be8 1) × (label 2 p.card 2 ≡ be8 3) × (p.anchor ≡ anchor key 2 4 4)

pub record Table : Type 0 where
  pub a : card_length 1 ≡ 160
  pub b : card_length 16 ≡ 6815696
  pub c : ranges_of 2 2 ≡ range 8 16 ∷ range 24 24 ∷ range 208 80 ∷ range 352 16 ∷ []
  pub d : ranges_of 3 5 ≡ range 8 16 ∷ range 24 24 ∷ range 96 24 ∷ range 128 16 ∷ range 528 16 ∷ range 544 80 ∷ []
  pub e : ranges_of 1 0 ≡ range 0 80 ∷ range 144 16 ∷ []
  pub f : (F : List ℕ → List ℕ) → ((m : List ℕ) → length (F m) ≡ 16) → (key b r : List ℕ) → length b ≡ 64 → length r ≡ 16 * 3
      → RowF F key b r
  pub g : (F : List ℕ → List ℕ) → ((m : List ℕ) → length (F m) ≡ 16) → (key b r c s : List ℕ) → length b ≡ 64 → length r ≡ 16 * 2
      → length c ≡ 64 → length s ≡ 16 * 2 → RowG F key b r c s
  pub h : (refused 2 (2 ^ 64 - 4) (2 ^ 64 - 4) 368 0 ≡ 0) × (refused 2 (2 ^ 64 - 2) (2 ^ 64 - 2) 368 0 ≡ 7)
  pub i : refused 2 3 3 368 0 ≡ 2
  pub j : (refused 2 0 0 367 0 ≡ 3) × (refused 2 0 0 368 0 ≡ 0) × (refused 2 0 0 369 0 ≡ 3)
  pub k : (refused 2 0 0 368 3 ≡ 0) × (refused 2 0 0 368 4 ≡ 4)
  pub l : double (0x80 ∷ replicate 15 0) ≡ replicate 15 0 ++ (0x87 ∷ [])
  pub m : (s : List ℕ) → IsSBox s → (at s 0x00 ≡ 0x63) × (at s 0x53 ≡ 0xed)
