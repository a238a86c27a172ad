-- Theorem 1: in whatever order the tags come back, a plan with its puts ends as the plain write does.
use Rattle.std.specs.Prelude.{ℕ, ◌≡◌, cond, eqb}
use mathlib.Core.List.{List, [], ◌∷◌, map, Memᴰ}
use Rattle.tree.specs.Calls.{write, outcome}
use Rattle.tree.specs.declared.Anchor.{Anchor}
use Rattle.plan.specs.Split.{Given, planned}
use Rattle.plan.specs.Puts.{PutStep, Going, begun, after_put, after_all_puts, Placed, EachPut}

-- no number twice
abbrev pub Apart : List ℕ → Type 0
Apart [] = Unit {0}
Apart (u ∷ us) = (Memᴰ u us → ⊥) × Apart us

-- the same numbers, none twice, in any order
pub record Rearranged (us vs : List ℕ) : Type 0 where
  pub apart : Apart us
  pub among : (u : ℕ) → Memᴰ u us → Memᴰ u vs
  pub all : (u : ℕ) → Memᴰ u vs → Memᴰ u us

-- the message for node u
unfoldable pub message_for : ℕ → List Given → List ℕ
message_for u [] = []
message_for u (m ∷ ms) = cond (eqb u m.node) m.message (message_for u ms)

-- the tags M put at nodes one after another, each on the card as the step before left it
unfoldable pub in_turn : Going → (ℕ → List ℕ) → List ℕ → List PutStep
in_turn g M [] = []
in_turn g M (u ∷ us) =
    let x : PutStep = record { card = g.left; node = u; tag = M u } in
    x ∷ in_turn (after_put g x) M us

module _ (F : List ℕ → List ℕ) (a : Anchor) (card : List ℕ) (i : ℕ) (block ranges us : List ℕ) where
  -- the puts of a plan whose tags, made by F of the messages that it gave, come back in the order us
  abbrev pub returned : List PutStep
  returned =
      let o = planned F a card i block ranges in
      in_turn (begun o) (λ u. F (message_for u o.messages)) us

  abbrev pub ends : Going
  ends = after_all_puts (begun (planned F a card i block ranges)) returned

  -- the puts are at us, in that order; every one is accepted, and in the end card, anchor and ranges are those of the plain write
  pub record LikeWrite : Type 0 where
    pub in_order : map (λ (x : PutStep). x.node) returned ≡ us
    pub each : EachPut Placed (begun (planned F a card i block ranges)) returned
    pub card-is : ends.left ≡ (outcome F a card (write i block ranges)).card
    pub anchor-is : ends.anchor ≡ (outcome F a card (write i block ranges)).anchor
    pub ranges-are : (planned F a card i block ranges).call.lent ≡ (outcome F a card (write i block ranges)).lent
