-- What a probe leaves and answers: what the call leaves, and its count; or nothing and 0 where the key has not 16 bytes.
use Rattle.std.specs.Prelude.{ℕ, ◌≡◌, Bool, cond, ◌&&◌, List, ◌++◌, eqb, length, drop}
use Rattle.cmac.specs.Cmac.{cmac_of}
use Rattle.cmac.specs.Traced.{subkeys_count, cmac_count}
use Rattle.tree.specs.Calls.{Call, lent_to, outcome, count_of}
use Rattle.tree.specs.declared.Anchor.{Anchor}
use Rattle.plan.specs.Split.{planned, joined, message_room}

-- the anchor of its four parts
abbrev pub anchor_of : List ℕ → ℕ → ℕ → ℕ → Anchor
anchor_of key n t h = record { key = key; depth = n; root = record { 0 = t }; reserved = record { 0 = h } }

pub record Counted (key : List ℕ) (n t h : ℕ) (card : List ℕ) (c : Call) (answer : ℕ) (left lent : List ℕ) : Type 0 where
  pub answered :
      let o = outcome (cmac_of key) (anchor_of key n t h) card c in
      answer ≡ cond (eqb (length key) 16) (count_of (subkeys_count key) (cmac_count key) o) 0
  pub leaves : left ≡ cond (eqb (length key) 16) (outcome (cmac_of key) (anchor_of key n t h) card c).card card
  pub lends : lent ≡ cond (eqb (length key) 16) (outcome (cmac_of key) (anchor_of key n t h) card c).lent (lent_to c)

-- the key has its 16 bytes, and the buffer room for the messages
abbrev pub measured : List ℕ → List ℕ → Bool
measured key buffer = eqb (length key) 16 && eqb (length buffer) message_room

-- the same of a plan
pub record CountedPlan (key : List ℕ) (n t h : ℕ) (card : List ℕ) (i : ℕ) (block ranges buffer : List ℕ) (answer : ℕ)
    (left lent messages : List ℕ) : Type 0 where
  pub answered :
      let o = (planned (cmac_of key) (anchor_of key n t h) card i block ranges).call in
      answer ≡ cond (measured key buffer) (count_of (subkeys_count key) (cmac_count key) o) 0
  pub leaves : left ≡ cond (measured key buffer) (planned (cmac_of key) (anchor_of key n t h) card i block ranges).call.card card
  pub lends : lent ≡ cond (measured key buffer) (planned (cmac_of key) (anchor_of key n t h) card i block ranges).call.lent ranges
  pub gives :
      let ms = joined (planned (cmac_of key) (anchor_of key n t h) card i block ranges).messages in
      messages ≡ cond (measured key buffer) (ms ++ drop (length ms) buffer) buffer
