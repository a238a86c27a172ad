-- The journal of a write (document 02, T-05): the new root nonce in eight bytes, the ranges as the range buffer has them, their new bytes,
-- and the tag of all that.
use Rattle.std.specs.Prelude.{ℕ, zero, suc, ◌+◌, ◌*◌, ◌^◌, Bool, cond, ◌&&◌, List, [], ◌∷◌, ◌++◌, take, drop}
use Rattle.std.proofs.Math.Option.{Option, none, some}
use Rattle.std.proofs.lemmas.List.Edits.{sets}
use Rattle.words.specs.Bytes.{part, same}
use Rattle.tree.specs.Numbers.{be8}
use Rattle.tree.specs.Ranges.{Range, ranges_of, encode}

-- the bytes of a card in ranges, in their order
unfoldable pub gathered : List Range → List ℕ → List ℕ
gathered [] card = []
gathered (r ∷ rs) card = part card r.start r.count ++ gathered rs card

-- such bytes put into the ranges of a card
unfoldable pub scattered : List Range → List ℕ → List ℕ → List ℕ
scattered [] new card = card
scattered (r ∷ rs) new card = scattered rs (drop r.count new) (sets card r.start (take r.count new))

-- how many bytes the message of a journal has: 8, 16 n and 40 n + 56
abbrev pub message_length : ℕ → ℕ
message_length n = 56 * n + 64

-- and a journal, with its tag
abbrev pub journal_length : ℕ → ℕ
journal_length n = 56 * n + 80

-- the message, for a write to block i: t is the new root nonce, and card the one that the write leaves
unfoldable pub journal_message : ℕ → ℕ → ℕ → List ℕ → List ℕ
journal_message n t i card = be8 t ++ (encode (ranges_of n i) ++ gathered (ranges_of n i) card)

-- the parts of a journal: its message and its tag, and of the message the ranges and their new bytes
abbrev pub message_of : ℕ → List ℕ → List ℕ
message_of n journal = take (message_length n) journal

abbrev pub tag_of : ℕ → List ℕ → List ℕ
tag_of n journal = drop (message_length n) journal

abbrev pub list_of : ℕ → List ℕ → List ℕ
list_of n journal = part journal 8 (16 * n)

abbrev pub new_bytes : ℕ → List ℕ → List ℕ
new_bytes n journal = part journal (8 + 16 * n) (40 * n + 56)

-- the first of k blocks, from i on, whose write has this list of ranges
unfoldable pub block_from : ℕ → ℕ → ℕ → List ℕ → Option ℕ
block_from n zero i list = none
block_from n (suc k) i list = cond (same list (encode (ranges_of n i))) (some i) (block_from n k (suc i) list)

-- the block whose write has this list of ranges
abbrev pub block_of : ℕ → List ℕ → Option ℕ
block_of n list = block_from n (2 ^ n) 0 list

module _ (F : List ℕ → List ℕ) where
  -- the journal of a write
  abbrev pub journal_of : ℕ → ℕ → ℕ → List ℕ → List ℕ
  journal_of n t i card = journal_message n t i card ++ F (journal_message n t i card)

  -- a journal is to be applied where it has the root nonce t and a right tag
  abbrev pub applies : ℕ → ℕ → List ℕ → Bool
  applies n t journal = same (take 8 journal) (be8 t) && same (F (message_of n journal)) (tag_of n journal)
