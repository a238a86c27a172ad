-- Document 02, T-05, on the recovery of a card with a journal, sentence by sentence, at CMAC and for every input.
use Rattle.std.specs.Prelude.{◌≡◌, ◌⊎◌, List, [], ◌∷◌, ℕ, ◌+◌, ◌*◌, ◌^◌, ◌<◌, length, take}
use Rattle.std.proofs.Math.Option.{none, some}
use Rattle.words.specs.Bytes.{at, part}
use Rattle.cmac.specs.Cmac.{cmac_of}
use Rattle.tree.specs.Numbers.{be8}
use Rattle.tree.specs.Ranges.{ranges_of, encode}
use Rattle.tree.specs.Limits.{first_failing}
use Rattle.tree.specs.Answer.{refusal_number}
use Rattle.tree.specs.Calls.{first_limits, Outcome}
use Rattle.tree.specs.declared.Anchor.{Anchor}
use Rattle.tree.specs.declared.Refusal.{Refusal}
use Rattle.tree.specs.declared.Refusal.TheVariants.{Journal}
use Rattle.tree.specs.Answer.{Whole, Refused}
use Rattle.journal.specs.Recovery.{recovery_limits, recovered}
use Rattle.scope.specs.Rules.{numbers}
use Rattle.scope.specs.Ordered.{InOrder, OutOf}
use Rattle.scope.specs.JournalRule.{wrote}

-- the journal "has its T and a right mark"
pub record Fits (a : Anchor) (journal : List ℕ) : Type 0 where
  pub root : part journal 0 8 ≡ be8 a.root.0
  pub tag : part journal (56 * a.depth + 64) 16 ≡ cmac_of a.key (take (56 * a.depth + 64) journal)

-- its ranges are those of the write of block i
pub record For (a : Anchor) (journal : List ℕ) (i : ℕ) : Type 0 where
  pub inside : i < 2 ^ a.depth
  pub listed : part journal 8 (16 * a.depth) ≡ encode (ranges_of a.depth i)

module _ (a : Anchor) (card journal : List ℕ) where
  abbrev pub mended_by : Outcome
  mended_by = recovered (cmac_of a.key) a card journal

  -- the journal's new bytes stand in the ranges of block i's write, in their order, and every other byte of the card as it stood
  pub record Mended (i : ℕ) (card' : List ℕ) : Type 0 where
    pub long : length card' ≡ length card
    pub new : InOrder (ranges_of a.depth i) (part journal (8 + 16 * a.depth) (40 * a.depth + 56)) card'
    pub others : (j : ℕ) → OutOf (ranges_of a.depth i) j → at card' j ≡ at card j

  pub record RecoveryRule : Type 0 where
    -- the order of its refusals, and 1, 2 and 3 among them
    pub order : numbers (recovery_limits (cmac_of a.key) a card journal) ≡ 1 ∷ 2 ∷ 3 ∷ 10 ∷ 10 ∷ []
    pub limited : (r : Refusal) → first_failing (first_limits a (length card)) ≡ some r → mended_by.answer ≡ Refused r
    -- "10, a journal of another length, or one to be applied whose ranges no single write has, tested after 3": these, and no other
    pub other-length : first_failing (first_limits a (length card)) ≡ none → (length journal ≡ 56 * a.depth + 80 → ⊥)
        → mended_by.answer ≡ Refused Journal
    pub no-write : first_failing (first_limits a (length card)) ≡ none → length journal ≡ 56 * a.depth + 80 → Fits a journal
        → ((i : ℕ) → For a journal i → ⊥) → mended_by.answer ≡ Refused Journal
    pub ten : mended_by.answer ≡ Refused Journal
        → (length journal ≡ 56 * a.depth + 80 → ⊥) ⊎ (Fits a journal × ((i : ℕ) → For a journal i → ⊥))
    pub ten-number : refusal_number Journal ≡ 10
    -- "applies a journal that has its T and a right mark",
    pub applied : first_failing (first_limits a (length card)) ≡ none → length journal ≡ 56 * a.depth + 80 → Fits a journal
        → (i : ℕ) → For a journal i → (mended_by.answer ≡ Whole) × Mended i mended_by.card
    -- "and otherwise changes nothing"
    pub idle : first_failing (first_limits a (length card)) ≡ none → length journal ≡ 56 * a.depth + 80 → (Fits a journal → ⊥)
        → (mended_by.answer ≡ Whole) × (mended_by.card ≡ card)
    pub kept : (mended_by.answer ≡ Whole → ⊥) → mended_by.card ≡ card
    pub anchor-kept : mended_by.anchor ≡ a
    -- it checks no tag of the card: what it answers is the same for all cards of one length
    pub blind : (other : List ℕ) → length other ≡ length card → (recovered (cmac_of a.key) a other journal).answer ≡ mended_by.answer
    pub uncounted : mended_by.counted ≡ []

-- Of an accepted journalled write: wherever its ranges were torn, recovery with its journal and the final anchor leaves the new card, and
-- with the raised anchor it leaves any card as it is.
pub record FinishRule (a : Anchor) (card : List ℕ) (i : ℕ) (block ranges journal : List ℕ) : Type 0 where
  pub finished : (wrote a card i block ranges journal).call.answer ≡ Whole →
      let o = wrote a card i block ranges journal in
      (torn : List ℕ) → length torn ≡ length card → ((j : ℕ) → OutOf (ranges_of a.depth i) j → at torn j ≡ at card j)
      → ((recovered (cmac_of a.key) o.call.anchor torn o.journal).answer ≡ Whole)
      × ((recovered (cmac_of a.key) o.call.anchor torn o.journal).card ≡ o.call.card)
  pub begun : (wrote a card i block ranges journal).call.answer ≡ Whole →
      let o = wrote a card i block ranges journal in
      (other : List ℕ) → length other ≡ length card
      → ((recovered (cmac_of a.key) o.raised other o.journal).answer ≡ Whole)
      × ((recovered (cmac_of a.key) o.raised other o.journal).card ≡ other)
