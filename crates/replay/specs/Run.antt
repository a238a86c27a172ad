-- A list of calls after a format, and what becomes known along it, for any function F that makes a tag of a message.
use Rattle.std.specs.Prelude.{ℕ, ◌+◌, ◌^◌, Bool, true, false, not, cond, ◌&&◌, List, [], ◌∷◌, ◌++◌, map, length}
use Rattle.tree.specs.Nodes.{all_nodes}
use Rattle.tree.specs.Labels.{message, labels}
use Rattle.tree.specs.Limits.{Limit}
use Rattle.tree.specs.Answer.{is_whole}
use Rattle.tree.specs.Calls.{Call, read, write, check, wipe, renews, limits, tags, Outcome, outcome, format}
use Rattle.journal.specs.Journal.{journal_message}
use Rattle.journal.specs.Journalled.{Journalled, journalled_limits, journalled}
use Rattle.tree.specs.declared.Anchor.{Anchor}
use Rattle.plan.specs.Places.{full}
use Rattle.plan.specs.Split.{Given, Planned, planned}
use Rattle.plan.specs.Puts.{PutStep, begun, after_all_puts}
use Rattle.replay.specs.Array
use Rattle.replay.specs.Array.{Told, Array, zeroed, moved}

-- How far an attempt, a journalled write, came before the power went: not so far that the chip had the raised anchor; to that, but not to the
-- anchor with the new root nonce; or so far. One that is not cut stood.
pub data Fate : Type 0 where
  unheard : Fate
  lost : Fate
  stood : Fate

-- A call, and the card that it is given: any bytes, of any number. Or a write that is split: a plan with its card, and its puts, each with
-- a card of its own; no other call stands between a plan and its last put, and where the puts do not fill the plan it is lost. Or an
-- attempt, and how far it came.
pub data Step : Type 0 where
  call : (card : List ℕ) (c : Call) → Step
  split : (card : List ℕ) (i : ℕ) (block ranges : List ℕ) (puts : List PutStep) → Step
  attempt : (card : List ℕ) (i : ℕ) (block ranges journal : List ℕ) (fate : Fate) → Step

-- the card that is checked: the call's, the plan's or the attempt's
abbrev pub card_of : Step → List ℕ
card_of (call card c) = card
card_of (split card i block ranges puts) = card
card_of (attempt card i block ranges journal fate) = card

-- the call; a split write and an attempt are writes
abbrev pub call_of : Step → Call
call_of (call card c) = c
call_of (split card i block ranges puts) = write i block ranges
call_of (attempt card i block ranges journal fate) = write i block ranges

-- the limits that it tests
abbrev pub limits_of : Anchor → Step → List Limit
limits_of a (call card c) = limits a card c
limits_of a (split card i block ranges puts) = limits a card (write i block ranges)
limits_of a (attempt card i block ranges journal fate) =
    journalled_limits a (length card) i (length block) (length ranges) (length journal)

-- what the array is told of a call
abbrev pub told : Call → Told
told (read i buffer) = Array.read i
told (write i block ranges) = Array.write i block
told check = Array.check
told wipe = Array.wipe

-- the messages of nodes, built from a card and an anchor
abbrev pub messages : Anchor → List ℕ → List ℕ → List (List ℕ)
messages a card us = map (message (labels a.depth a.root.0 card)) us

-- what is known of a store
pub record Store : Type 0 where
  -- as the chip has it
  pub anchor : Anchor
  pub array : Array
  -- the card as the format, or the last write or wipe that stands, left it; a split write's is the one after its last accepted put, and an
  -- attempt's the one with all its ranges out
  pub left : List ℕ

pub record State : Type 0 where
  pub store : Store
  -- every message tagged so far (document 01: marked messages)
  pub tagged : List (List ℕ)

-- the store that a call moves to, whose outcome is o, and which stands or does not
abbrev pub moves : Store → Call → Bool → Outcome → Store
moves s c stands o =
    record {
      anchor = o.anchor;
      array = moved s.array (told c) stands;
      left = cond (stands && renews c) o.card s.left;
    }

-- What a split write answers and leaves: the plan's answer, ranges and count, and where it is accepted the anchor and the card after its
-- puts. A refused plan is a refused write: puts after it count for nothing.
abbrev pub finished : Planned → List PutStep → Outcome
finished o puts =
    let g = after_all_puts (begun o) puts in
    record { answer = o.call.answer; anchor = g.anchor; card = g.left; lent = o.call.lent; counted = o.call.counted }

abbrev pub split_outcome : Planned → List PutStep → Outcome
split_outcome o puts = cond (is_whole o.call.answer) (finished o puts) o.call

-- the puts fill the plan
abbrev pub fills : Planned → List PutStep → Bool
fills o puts = full o.call.anchor.depth (after_all_puts (begun o) puts).plan

-- What an attempt answers and leaves: what the journalled write does, and the anchor that the chip has then.
abbrev pub anchor_after : Anchor → Journalled → Fate → Anchor
anchor_after a o unheard = a
anchor_after a o lost = o.raised
anchor_after a o stood = o.call.anchor

abbrev pub attempt_outcome : Anchor → Journalled → Fate → Outcome
attempt_outcome a o fate =
    record {
      answer = o.call.answer;
      anchor = anchor_after a o fate;
      card = o.call.card;
      lent = o.call.lent;
      counted = o.call.counted;
    }

-- the chip had the raised anchor
abbrev pub heard : Fate → Bool
heard unheard = false
heard lost = true
heard stood = true

-- and the one with the new root nonce
abbrev pub has_stood : Fate → Bool
has_stood unheard = false
has_stood lost = false
has_stood stood = true

module _ (F : List ℕ → List ℕ) where
  -- after the format, which tags all nodes
  unfoldable pub start : List ℕ → ℕ → List ℕ → State
  start key n card =
      let o = format F key n card in
      record {
        store = record { anchor = o.anchor; array = zeroed (2 ^ n); left = o.card };
        tagged = messages o.anchor o.card (all_nodes n);
      }

  -- what a step answers and leaves
  abbrev pub result : Store → Step → Outcome
  result s (call card c) = outcome F s.anchor card c
  result s (split card i block ranges puts) = split_outcome (planned F s.anchor card i block ranges) puts
  result s (attempt card i block ranges journal fate) = attempt_outcome s.anchor (journalled F s.anchor card i block ranges journal) fate

  -- Whether a step stands: it is accepted, and of a write that goes out in steps the new root nonce stood.
  abbrev pub stands : Store → Step → Bool
  stands s (call card c) = is_whole (outcome F s.anchor card c).answer
  stands s (split card i block ranges puts) =
      let o = planned F s.anchor card i block ranges in is_whole o.call.answer && fills o puts
  stands s (attempt card i block ranges journal fate) =
      is_whole (journalled F s.anchor card i block ranges journal).call.answer && has_stood fate

  -- Whether it reserved nonces: it is accepted, it is a write or a wipe, and of an attempt the raised anchor stood.
  abbrev pub reserves : Store → Step → Bool
  reserves s (call card c) = is_whole (outcome F s.anchor card c).answer && renews c
  reserves s (split card i block ranges puts) = is_whole (planned F s.anchor card i block ranges).call.answer
  reserves s (attempt card i block ranges journal fate) =
      is_whole (journalled F s.anchor card i block ranges journal).call.answer && heard fate

  -- The messages that it tags: those of its nodes, on the card that it left and with its new root nonce. A split write's are those that the
  -- plan gave, whatever the card became meanwhile. An attempt's are those of its nodes, on the card with all its ranges out, and its
  -- journal's; and where the raised anchor never stood it has none.
  abbrev pub new_tags : Store → Step → List (List ℕ)
  new_tags s (call card c) =
      let o = outcome F s.anchor card c in
      cond (is_whole o.answer) (messages o.anchor o.card (tags o.anchor.depth c)) []
  new_tags s (split card i block ranges puts) = map (λ (g : Given). g.message) (planned F s.anchor card i block ranges).messages
  new_tags s (attempt card i block ranges journal fate) =
      let o = (journalled F s.anchor card i block ranges journal).call in
      let n = o.anchor.depth in
      cond (is_whole o.answer && heard fate)
      (messages o.anchor o.card (tags n (write i block ranges)) ++ (journal_message n o.anchor.root.0 i o.card ∷ [])) []

  unfoldable pub next : State → Step → State
  next s x =
      record { store = moves s.store (call_of x) (stands s.store x) (result s.store x); tagged = new_tags s.store x ++ s.tagged }

  -- after the steps of a list
  unfoldable pub after : State → List Step → State
  after s [] = s
  after s (x ∷ xs) = after (next s x) xs

  -- how many of them are writes and wipes that stand
  unfoldable pub renewals : State → List Step → ℕ
  renewals s [] = 0
  renewals s (x ∷ xs) = cond (stands s.store x && renews (call_of x)) 1 0 + renewals (next s x) xs

  -- and how many were lost: they reserved nonces, and do not stand
  unfoldable pub losses : State → List Step → ℕ
  losses s [] = 0
  losses s (x ∷ xs) = cond (reserves s.store x && not (stands s.store x)) 1 0 + losses (next s x) xs
