-- What the calls do, on every input: the answer, the anchor, the card and the lent buffer as they leave it, and how often they call the
-- cipher.
use Rattle.std.specs.Prelude.{ℕ, ◌+◌, ◌^◌, ◌≡◌, Bool, true, false, List, [], ◌∷◌, ◌++◌, map, length}
use Rattle.std.proofs.Math.Option.{Option, none, some}
use Rattle.tree.specs.Layout.{label}
use Rattle.tree.specs.Nodes.{path, pairs, pairs_but_leaf, all_nodes}
use Rattle.tree.specs.Labels.{message, blank_labels, written_labels}
use Rattle.tree.specs.Card.{blanked, written, first_wrong, checked}
use Rattle.tree.specs.Ranges.{listed}
use Rattle.tree.specs.Limits.{Limit, depth_limit, nonce_limit, card_limit, block_limit, length_limit, range_limit, spent_limit, first_failing}
use Rattle.tree.specs.declared.Anchor.{Anchor}
use Rattle.tree.specs.declared.Refusal.{Refusal}
use Rattle.tree.specs.Answer.{Answer}
use Rattle.tree.specs.Answer.{Whole, Wrong, Refused}

-- A call after format, with what it is lent: a buffer of any bytes to a read, a new block and a range buffer to a write. A wipe empties
-- the card under the same key.
pub data Call : Type 0 where
  read : (i : ℕ) (buffer : List ℕ) → Call
  write : (i : ℕ) (block ranges : List ℕ) → Call
  check : Call
  wipe : Call

-- the buffer that a call may change
abbrev pub lent_to : Call → List ℕ
lent_to (read i buffer) = buffer
lent_to (write i block ranges) = ranges
lent_to check = []
lent_to wipe = []

-- a write
abbrev pub is_write : Call → Bool
is_write (read i buffer) = false
is_write (write i block ranges) = true
is_write check = false
is_write wipe = false

-- the calls that move the anchor and the card
abbrev pub renews : Call → Bool
renews (read i buffer) = false
renews (write i block ranges) = true
renews check = false
renews wipe = true

-- 1, 2 and 3, with which every call after format begins; len is the card's length
abbrev pub first_limits : Anchor → ℕ → List Limit
first_limits a len = depth_limit a.depth ∷ nonce_limit a.depth a.root.0 a.reserved.0 ∷ card_limit a.depth len ∷ []

-- 4 to 7, which a write tests behind them, by the lengths of the block and of the range buffer
abbrev pub write_limits : Anchor → ℕ → ℕ → ℕ → List Limit
write_limits a i block ranges =
    block_limit a.depth i ∷ length_limit block ∷ range_limit a.depth ranges ∷ spent_limit a.depth a.reserved.0 ∷ []

-- the limits that a call tests behind 1, 2 and 3, in this order
abbrev pub own_limits : Anchor → Call → List Limit
own_limits a (read i buffer) = block_limit a.depth i ∷ length_limit (length buffer) ∷ []
own_limits a (write i block ranges) = write_limits a i (length block) (length ranges)
own_limits a check = []
own_limits a wipe = spent_limit a.depth a.reserved.0 ∷ []

unfoldable pub limits : Anchor → List ℕ → Call → List Limit
limits a card c = first_limits a (length card) ++ own_limits a c

-- the nodes whose tags a call checks, in this order
unfoldable pub checks : ℕ → Call → List ℕ
checks n (read i buffer) = path n i
checks n (write i block ranges) = pairs_but_leaf n i
checks n check = all_nodes n
checks n wipe = []

-- the nodes that an accepted call tags
abbrev pub tags : ℕ → Call → List ℕ
tags n (read i buffer) = []
tags n (write i block ranges) = pairs n i
tags n check = []
tags n wipe = all_nodes n

-- the messages that it tags: on the labels that it puts on the card
abbrev pub tagged : Anchor → List ℕ → Call → List (List ℕ)
tagged a card (read i buffer) = []
tagged a card (write i block ranges) =
    map (message (written_labels a.depth a.root.0 a.reserved.0 card i block)) (tags a.depth (write i block ranges))
tagged a card check = []
tagged a card wipe =
    let n = a.depth in
    map (message (blank_labels n (a.reserved.0 + n))) (tags n wipe)

-- the first limit that fails; else the first wrong node; else whole
abbrev pub verdict : Option Refusal → Option ℕ → Answer
verdict (some r) w = Refused r
verdict none (some u) = Wrong (record { 0 = u })
verdict none none = Whole

-- format tests these limits, and checks no tag
unfoldable pub format_answer : ℕ → List ℕ → Answer
format_answer n card = verdict (first_failing (depth_limit n ∷ card_limit n (length card) ∷ [])) none

pub record Outcome : Type 0 where
  pub answer : Answer
  pub anchor : Anchor
  pub card : List ℕ
  pub lent : List ℕ
  -- the messages whose tags the call makes and counts, in order; format counts none
  pub counted : List (List ℕ)

-- That a call answered, and left the anchor, the card and the lent buffer, as an outcome says. Format's contract is this record.
pub record Gives (o : Outcome) (answer : Answer) (anchor : Anchor) (card lent : List ℕ) : Type 0 where
  pub answered : answer ≡ o.answer
  pub anchored : anchor ≡ o.anchor
  pub left : card ≡ o.card
  pub filled : lent ≡ o.lent

-- what the items of a list take together, where `each` tells what one takes
unfoldable pub total : {A : Type 0} → (A → ℕ) → List A → ℕ
total each [] = 0
total each (x ∷ xs) = each x + total each xs

-- How many times a call goes through the cipher (document 02: the count): not once where a limit refuses it; else as often as the subkeys
-- take, which are made once, and as each message takes.
abbrev pub count_in : ℕ → (List ℕ → ℕ) → Answer → List (List ℕ) → ℕ
count_in subkeys each Whole ms = subkeys + total each ms
count_in subkeys each (Wrong u) ms = subkeys + total each ms
count_in subkeys each (Refused r) ms = 0

abbrev pub count_of : ℕ → (List ℕ → ℕ) → Outcome → ℕ
count_of subkeys each o = count_in subkeys each o.answer o.counted

-- That a call gave what an outcome says, and told its count. The contracts of the calls after format are this record.
pub record Reports (subkeys : ℕ) (each : List ℕ → ℕ) (o : Outcome) (answer : Answer) (count : ℕ) (anchor : Anchor) (card lent : List ℕ)
    : Type 0 where
  pub gives : Gives o answer anchor card lent
  pub counted : count ≡ count_of subkeys each o

-- the anchor that a format makes
abbrev pub formatted : List ℕ → ℕ → Anchor
formatted key n = record { key = key; depth = n; root = record { 0 = 0 }; reserved = record { 0 = 0 } }

-- the anchor with another root nonce
abbrev pub rooted : Anchor → ℕ → Anchor
rooted a t = record { key = a.key; depth = a.depth; root = record { 0 = t }; reserved = a.reserved }

-- with n nonces more reserved: every accepted write and wipe does that first, and so does a plan
abbrev pub raise : Anchor → Anchor
raise a = record { key = a.key; depth = a.depth; root = a.root; reserved = record { 0 = a.reserved.0 + a.depth } }

-- the anchor behind a write or a wipe: T is what H was raised to
abbrev pub renew : Anchor → Anchor
renew a = rooted (raise a) (raise a).reserved.0

module _ (F : List ℕ → List ℕ) where
  unfoldable pub answer_of : Anchor → List ℕ → Call → Answer
  answer_of a card c = verdict (first_failing (limits a card c)) (first_wrong F a.depth a.root.0 card (checks a.depth c))

  -- the messages that a call checks, up to and including the first whose tag is wrong
  abbrev pub checked_by : Anchor → List ℕ → Call → List (List ℕ)
  checked_by a card c = checked F a.depth a.root.0 card (checks a.depth c)

  -- those that an accepted call makes tags of: to compare, and then to put
  abbrev pub made_by : Anchor → List ℕ → Call → List (List ℕ)
  made_by a card c = checked_by a card c ++ tagged a card c

  -- what an accepted call does
  abbrev pub done : Anchor → List ℕ → Call → Outcome
  done a card (read i buffer) =
      record {
        answer = Whole;
        anchor = a;
        card = card;
        lent = label a.depth card (2 ^ a.depth + i);
        counted = made_by a card (read i buffer);
      }
  done a card (write i block ranges) =
      record {
        answer = Whole;
        anchor = renew a;
        card = written F a.depth a.root.0 a.reserved.0 card i block;
        lent = listed a.depth i ranges;
        counted = made_by a card (write i block ranges);
      }
  done a card check = record { answer = Whole; anchor = a; card = card; lent = []; counted = made_by a card check }
  done a card wipe =
      let b = renew a in
      record {
        answer = Whole;
        anchor = b;
        card = blanked F a.depth b.root.0 card;
        lent = [];
        counted = made_by a card wipe;
      }

  -- a refused call answers why and leaves everything as it was
  abbrev pub settled : Answer → Anchor → List ℕ → Call → Outcome
  settled Whole a card c = done a card c
  settled (Wrong u) a card c = record { answer = Wrong u; anchor = a; card = card; lent = lent_to c; counted = checked_by a card c }
  settled (Refused r) a card c = record { answer = Refused r; anchor = a; card = card; lent = lent_to c; counted = [] }

  unfoldable pub outcome : Anchor → List ℕ → Call → Outcome
  outcome a card c = settled (answer_of a card c) a card c

  -- Format makes the anchor of a key and a depth. Refused, it leaves the card as it was.
  abbrev pub format_card : Answer → ℕ → List ℕ → List ℕ
  format_card Whole n card = blanked F n 0 card
  format_card (Wrong u) n card = card
  format_card (Refused r) n card = card

  unfoldable pub format : List ℕ → ℕ → List ℕ → Outcome
  format key n card =
      record {
        answer = format_answer n card;
        anchor = formatted key n;
        card = format_card (format_answer n card) n card;
        lent = [];
        counted = [];
      }
