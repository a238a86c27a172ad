-- A write that fills a journal: what it does, on every input.
use Rattle.std.specs.Prelude.{ℕ, ◌≡◌, not, List, ◌∷◌, ◌++◌, eqb, length}
use Rattle.tree.specs.Limits.{Limit, first_failing}
use Rattle.tree.specs.Answer.{Answer, Whole, Wrong, Refused}
use Rattle.tree.specs.Card.{first_wrong}
use Rattle.tree.specs.Calls.{write, first_limits, write_limits, checks, verdict, Outcome, Reports, raise, done, settled}
use Rattle.tree.specs.declared.Anchor.{Anchor}
use Rattle.tree.specs.declared.Refusal.TheVariants.{Journal}
use Rattle.journal.specs.Journal.{journal_length, journal_of}

-- what a journalled write answers and leaves, like a write; the anchor with the reserved nonce raised and the old root nonce; the journal
pub record Journalled : Type 0 where
  pub call : Outcome
  pub raised : Anchor
  pub journal : List ℕ

-- 10: the journal has another length
abbrev pub journal_limit : ℕ → ℕ → Limit
journal_limit n len = record { fails = not (eqb len (journal_length n)); refusal = Journal }

-- 1, 2 and 3, then 10, then 4 to 7, by the lengths of the card, of the block, of the range buffer and of the journal
abbrev pub journalled_limits : Anchor → ℕ → ℕ → ℕ → ℕ → ℕ → List Limit
journalled_limits a len i block ranges journal = first_limits a len ++ (journal_limit a.depth journal ∷ write_limits a i block ranges)

module _ (F : List ℕ → List ℕ) where
  -- behind its limits it checks what a write checks
  unfoldable pub journalled_answer : Anchor → List ℕ → ℕ → List ℕ → List ℕ → List ℕ → Answer
  journalled_answer a card i block ranges journal =
      verdict (first_failing (journalled_limits a (length card) i (length block) (length ranges) (length journal)))
      (first_wrong F a.depth a.root.0 card (checks a.depth (write i block ranges)))

  -- accepted, it is the write, and fills the journal for the new root nonce and the card that it leaves
  abbrev pub journalled_done : Anchor → List ℕ → ℕ → List ℕ → List ℕ → Journalled
  journalled_done a card i block ranges =
      let o = done F a card (write i block ranges) in
      record { call = o; raised = raise a; journal = journal_of F a.depth o.anchor.root.0 i o.card }

  -- refused, it leaves everything as it was
  abbrev pub journalled_refused : Answer → Anchor → List ℕ → ℕ → List ℕ → List ℕ → List ℕ → Journalled
  journalled_refused x a card i block ranges journal =
      record { call = settled F x a card (write i block ranges); raised = a; journal = journal }

  abbrev pub journalled_settled : Answer → Anchor → List ℕ → ℕ → List ℕ → List ℕ → List ℕ → Journalled
  journalled_settled Whole a card i block ranges journal = journalled_done a card i block ranges
  journalled_settled (Wrong u) a card i block ranges journal = journalled_refused (Wrong u) a card i block ranges journal
  journalled_settled (Refused r) a card i block ranges journal = journalled_refused (Refused r) a card i block ranges journal

  unfoldable pub journalled : Anchor → List ℕ → ℕ → List ℕ → List ℕ → List ℕ → Journalled
  journalled a card i block ranges journal =
      journalled_settled (journalled_answer a card i block ranges journal) a card i block ranges journal

-- That a journalled write was reported so, with its count, and left the raised anchor and the journal so. Its contract is this record.
pub record Journals (subkeys : ℕ) (each : List ℕ → ℕ) (o : Journalled) (answer : Answer) (count : ℕ) (raised anchor : Anchor)
    (card lent journal : List ℕ) : Type 0 where
  pub reports : Reports subkeys each o.call answer count anchor card lent
  pub raises : raised ≡ o.raised
  pub journals : journal ≡ o.journal
