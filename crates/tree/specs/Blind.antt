-- A wipe, like a format, looks at no byte of the card: what it answers and makes is the same for all cards of one length.
use Rattle.std.specs.Prelude.{ℕ, ◌≡◌, List, length}
use Rattle.std.proofs.Math.Option.{none}
use Rattle.tree.specs.Limits.{first_failing}
use Rattle.tree.specs.Calls.{wipe, limits, verdict, outcome, format}
use Rattle.tree.specs.declared.Anchor.{Anchor}
use Rattle.tree.specs.Answer.{Whole}

pub record Blind (F : List ℕ → List ℕ) (a : Anchor) : Type 0 where
  -- a limit alone refuses a wipe
  pub limited : (card : List ℕ) → (outcome F a card wipe).answer ≡ verdict (first_failing (limits a card wipe)) none
  pub answered : (c d : List ℕ) → length c ≡ length d → (outcome F a c wipe).answer ≡ (outcome F a d wipe).answer
  pub made : (c d : List ℕ) → length c ≡ length d → (outcome F a c wipe).answer ≡ Whole → outcome F a c wipe ≡ outcome F a d wipe

pub record BlindFormat (F : List ℕ → List ℕ) (key : List ℕ) (n : ℕ) : Type 0 where
  pub answered : (c d : List ℕ) → length c ≡ length d → (format F key n c).answer ≡ (format F key n d).answer
  pub made : (c d : List ℕ) → length c ≡ length d → (format F key n c).answer ≡ Whole → format F key n c ≡ format F key n d
