-- The recovery of a card with a journal: what it does, on every input.
use Rattle.std.specs.Prelude.{ℕ, Bool, true, false, cond, ◌&&◌, List, [], ◌∷◌, ◌++◌, length}
use Rattle.std.proofs.Math.Option.{Option, none, some}
use Rattle.tree.specs.Ranges.{Range, ranges_of}
use Rattle.tree.specs.Limits.{Limit, first_failing}
use Rattle.tree.specs.Answer.{Answer, is_whole}
use Rattle.tree.specs.Calls.{first_limits, verdict, Outcome}
use Rattle.tree.specs.declared.Anchor.{Anchor}
use Rattle.tree.specs.declared.Refusal.TheVariants.{Journal}
use Rattle.journal.specs.Journal.{scattered, list_of, new_bytes, block_of, applies}
use Rattle.journal.specs.Journalled.{journal_limit}

abbrev pub is_none : Option ℕ → Bool
is_none none = true
is_none (some i) = false

-- the ranges of a block's write, and none where there is no block
abbrev pub ranges_for : ℕ → Option ℕ → List Range
ranges_for n none = []
ranges_for n (some i) = ranges_of n i

module _ (F : List ℕ → List ℕ) where
  -- 10: the journal is to be applied, and no single write has its ranges
  abbrev pub list_limit : ℕ → ℕ → List ℕ → Limit
  list_limit n t journal = record { fails = applies F n t journal && is_none (block_of n (list_of n journal)); refusal = Journal }

  -- 1, 2 and 3, and then 10 for the one and the other
  abbrev pub recovery_limits : Anchor → List ℕ → List ℕ → List Limit
  recovery_limits a card journal =
      first_limits a (length card) ++ (journal_limit a.depth (length journal) ∷ list_limit a.depth a.root.0 journal ∷ [])

  -- it checks no tag of the card
  unfoldable pub recovery_answer : Anchor → List ℕ → List ℕ → Answer
  recovery_answer a card journal = verdict (first_failing (recovery_limits a card journal)) none

  -- the ranges that a journal has new bytes for: none where it is not to be applied
  abbrev pub pending : ℕ → ℕ → List ℕ → List Range
  pending n t journal = cond (applies F n t journal) (ranges_for n (block_of n (list_of n journal))) []

  -- the card with the journal's bytes in their ranges
  unfoldable pub mended : ℕ → ℕ → List ℕ → List ℕ → List ℕ
  mended n t journal card = scattered (pending n t journal) (new_bytes n journal) card

  -- Accepted, it leaves that card; refused, the card as it was. The anchor stays, and nothing is counted.
  unfoldable pub recovered : Anchor → List ℕ → List ℕ → Outcome
  recovered a card journal =
      let x = recovery_answer a card journal in
      record {
        answer = x;
        anchor = a;
        card = cond (is_whole x) (mended a.depth a.root.0 journal card) card;
        lent = [];
        counted = [];
      }
