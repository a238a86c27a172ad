-- Document 02, T-01, sentence by sentence, for every anchor and every card.
use Rattle.std.specs.Prelude.{◌≡◌, List, [], ◌∷◌, ◌⊎◌, ℕ, ◌+◌, ◌%◌, ◌^◌, ◌<◌, ◌≤◌, length, replicate}
use Rattle.cmac.specs.Cmac.{cmac_of}
use Rattle.tree.specs.Numbers.{be8}
use Rattle.tree.specs.Layout.{IsNode, card_length, label, tag}
use Rattle.tree.specs.Labels.{message, labels}
use Rattle.tree.specs.Answer.{number_of}
use Rattle.tree.specs.Calls.{wipe, limits, checks, outcome, format}
use Rattle.tree.specs.declared.Anchor.{Anchor}
use Rattle.tree.specs.Answer.{Whole}
use Rattle.scope.specs.Rules.{numbers}

-- an empty card of depth n at the nonce t, under a key
pub record Empty (key : List ℕ) (n t : ℕ) (card : List ℕ) : Type 0 where
  pub long : length card ≡ card_length n
  -- "zeroes all blocks"
  pub blocks : (i : ℕ) → i < 2 ^ n → label n card (2 ^ n + i) ≡ replicate 64 0
  -- "sets the root and all inner serials"
  pub nonces : (u : ℕ) → 2 ≤ u → u < 2 ^ n → label n card u ≡ be8 t
  -- "makes all marks anew"
  pub tags : (u : ℕ) → IsNode n u → tag n card u ≡ cmac_of key (message (labels n t card) u)

-- what 2 asks: both nonces are multiples of the depth, and the reserved one is not below the root nonce
pub record NoncesFit (a : Anchor) : Type 0 where
  pub root : a.root.0 % a.depth ≡ 0
  pub reserved : a.reserved.0 % a.depth ≡ 0
  pub not_below : a.root.0 ≤ a.reserved.0

-- what 1, 2, 3 and 7 ask
pub record Within (a : Anchor) (card : List ℕ) : Type 0 where
  pub deep : 1 ≤ a.depth
  pub shallow : a.depth ≤ 16
  pub nonces : NoncesFit a
  pub full : length card ≡ card_length a.depth
  pub unspent : a.reserved.0 + a.depth < 2 ^ 64

pub record WipeRule (a : Anchor) (card : List ℕ) : Type 0 where
  -- "It is refused by 1, 2, 3 or 7, in that sequence", and "checks no mark on the card"
  pub order : numbers (limits a card wipe) ≡ 1 ∷ 2 ∷ 3 ∷ 7 ∷ []
  pub unchecked : checks a.depth wipe ≡ []
  pub depth : (a.depth ≡ 0) ⊎ (16 < a.depth) → number_of (outcome (cmac_of a.key) a card wipe).answer ≡ 1
  pub nonce : 1 ≤ a.depth → a.depth ≤ 16 → (NoncesFit a → ⊥) → number_of (outcome (cmac_of a.key) a card wipe).answer ≡ 2
  pub length-of-card : 1 ≤ a.depth → a.depth ≤ 16 → NoncesFit a → (length card ≡ card_length a.depth → ⊥)
      → number_of (outcome (cmac_of a.key) a card wipe).answer ≡ 3
  pub spent : 1 ≤ a.depth → a.depth ≤ 16 → NoncesFit a → length card ≡ card_length a.depth
      → 2 ^ 64 ≤ a.reserved.0 + a.depth → number_of (outcome (cmac_of a.key) a card wipe).answer ≡ 7
  -- refused, it changes nothing
  pub kept : ((outcome (cmac_of a.key) a card wipe).answer ≡ Whole → ⊥)
      → ((outcome (cmac_of a.key) a card wipe).anchor ≡ a) × ((outcome (cmac_of a.key) a card wipe).card ≡ card)
  pub if-within : Within a card → (outcome (cmac_of a.key) a card wipe).answer ≡ Whole
  pub only_if : (outcome (cmac_of a.key) a card wipe).answer ≡ Whole → Within a card
  -- "Wipe zeroes all blocks, sets the root and all inner serials to T + n and makes all marks anew"; T-05 has H for T, and T is H then
  pub root : (outcome (cmac_of a.key) a card wipe).answer ≡ Whole
      → (outcome (cmac_of a.key) a card wipe).anchor
      ≡ record {
        key = a.key;
        depth = a.depth;
        root = record { 0 = a.reserved.0 + a.depth };
        reserved = record { 0 = a.reserved.0 + a.depth };
      }
  pub empty : (outcome (cmac_of a.key) a card wipe).answer ≡ Whole
      → Empty a.key a.depth (a.reserved.0 + a.depth) (outcome (cmac_of a.key) a card wipe).card

-- A format makes the same card at 0.
pub record FormatRule (key : List ℕ) (n : ℕ) (card : List ℕ) : Type 0 where
  pub empty : (format (cmac_of key) key n card).answer ≡ Whole → Empty key n 0 (format (cmac_of key) key n card).card
