-- Document 02, T-05, on a journalled write, sentence by sentence, at CMAC and for every input.
use Rattle.std.specs.Prelude.{◌≡◌, List, [], ◌∷◌, ℕ, ◌+◌, ◌*◌, length, take}
use Rattle.std.proofs.Math.Option.{none, some}
use Rattle.words.specs.Bytes.{part}
use Rattle.cmac.specs.Cmac.{cmac_of}
use Rattle.cmac.specs.Traced.{subkeys_count, cmac_count}
use Rattle.tree.specs.Numbers.{be8}
use Rattle.tree.specs.Ranges.{ranges_of}
use Rattle.tree.specs.Limits.{first_failing}
use Rattle.tree.specs.Calls.{write, first_limits, outcome, count_of}
use Rattle.tree.specs.declared.Anchor.{Anchor}
use Rattle.tree.specs.declared.Refusal.{Refusal}
use Rattle.tree.specs.declared.Refusal.TheVariants.{Journal}
use Rattle.tree.specs.Answer.{Whole, Refused}
use Rattle.journal.specs.Journalled.{Journalled, journalled_limits, journalled}
use Rattle.scope.specs.Rules.{numbers}
use Rattle.scope.specs.CountRule.{count}
use Rattle.scope.specs.Ordered.{InOrder}

module _ (a : Anchor) (card : List ℕ) (i : ℕ) (block ranges journal : List ℕ) where
  abbrev pub wrote : Journalled
  wrote = journalled (cmac_of a.key) a card i block ranges journal

  -- the count that goes with it
  abbrev pub journalled_count : ℕ
  journalled_count = count_of (subkeys_count a.key) (cmac_count a.key) wrote.call

  -- Of an accepted one o: "a journal holds the new root serial (8 bytes), 16n bytes of ranges, the ranges' new bytes (40n + 56), and a CMAC
  -- over all that, 56n + 80 bytes together". The ranges are those that the range buffer gets, and their bytes those of the card that the
  -- write leaves.
  pub record Holds (o : Journalled) : Type 0 where
    pub long : length o.journal ≡ 56 * a.depth + 80
    pub root : part o.journal 0 8 ≡ be8 (a.reserved.0 + a.depth)
    pub listed : part o.journal 8 (16 * a.depth) ≡ take (16 * a.depth) o.call.lent
    pub new : InOrder (ranges_of a.depth i) (part o.journal (8 + 16 * a.depth) (40 * a.depth + 56)) o.call.card
    pub tag : part o.journal (56 * a.depth + 64) 16 ≡ cmac_of a.key (take (56 * a.depth + 64) o.journal)

  -- "A journalled write is a write that also fills a lent journal": accepted, it is the write, with its card, ranges and answer,
  pub record Filled (o : Journalled) : Type 0 where
    pub is-write : o.call ≡ outcome (cmac_of a.key) a card (write i block ranges)
    -- and hands out the anchor with H raised, and the one with the new T
    pub raised : o.raised
        ≡ record { key = a.key; depth = a.depth; root = a.root; reserved = record { 0 = a.reserved.0 + a.depth } }
    pub final : o.call.anchor
        ≡ record {
          key = a.key;
          depth = a.depth;
          root = record { 0 = a.reserved.0 + a.depth };
          reserved = record { 0 = a.reserved.0 + a.depth };
        }
    pub holds : Holds o

  pub record JournalRule : Type 0 where
    -- the order of its refusals; 10 is "a journal of another length", "tested after 3"
    pub order : numbers (journalled_limits a (length card) i (length block) (length ranges) (length journal))
        ≡ 1 ∷ 2 ∷ 3 ∷ 10 ∷ 4 ∷ 5 ∷ 6 ∷ 7 ∷ []
    pub limited : (r : Refusal) → first_failing (first_limits a (length card)) ≡ some r → wrote.call.answer ≡ Refused r
    pub ten : first_failing (first_limits a (length card)) ≡ none → (length journal ≡ 56 * a.depth + 80 → ⊥)
        → wrote.call.answer ≡ Refused Journal
    -- behind these it answers what the write does, and counts what the write does: "its mark stays outside the cipher count"
    pub answers : first_failing (first_limits a (length card)) ≡ none → length journal ≡ 56 * a.depth + 80
        → wrote.call.answer ≡ (outcome (cmac_of a.key) a card (write i block ranges)).answer
    pub counts : first_failing (first_limits a (length card)) ≡ none → length journal ≡ 56 * a.depth + 80
        → journalled_count ≡ count a card (write i block ranges)
    pub counts-none : (r : Refusal) → wrote.call.answer ≡ Refused r → journalled_count ≡ 0
    pub counts-whole : wrote.call.answer ≡ Whole → journalled_count ≡ 8 * a.depth + 8
    -- refused, it changes nothing
    pub kept : (wrote.call.answer ≡ Whole → ⊥)
        → (wrote.call.anchor ≡ a) × (wrote.raised ≡ a) × (wrote.call.card ≡ card) × (wrote.call.lent ≡ ranges) × (wrote.journal ≡ journal)
    pub accepted : wrote.call.answer ≡ Whole → Filled wrote
