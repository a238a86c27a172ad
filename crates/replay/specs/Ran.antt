-- Calls of the code as they ran: what each was given and what it gave back, as its contract has it.
use Rattle.std.specs.Prelude.{◌≡◌, cond, List, [], ◌∷◌, ◌++◌, map, ℕ, length, drop}
use Rattle.cmac.specs.Cmac.{cmac_of}
use Rattle.cmac.specs.Traced.{subkeys_count, cmac_count}
use Rattle.tree.specs.Answer.{Answer, Whole, is_whole}
use Rattle.tree.specs.Calls.{Call, wipe, Outcome, Gives, Reports, outcome, format}
use Rattle.tree.specs.declared.Anchor.{Anchor}
use Rattle.plan.specs.Split.{planned, joined, Plans, put, Puts}
use Rattle.plan.specs.Puts.{PutStep}
use Rattle.plan.specs.declared.Plan.{Plan}
use Rattle.replay.specs.Places.{Place}
use Rattle.journal.specs.Journal.{journal_of}
use Rattle.journal.specs.Journalled.{journalled, Journals}
use Rattle.replay.specs.Run
use Rattle.replay.specs.Run.{Fate, unheard, lost, stood, Step, call_of, start, result, after}
use Rattle.replay.specs.Claim.{Accepted, known, Demand3}
use Rattle.replay.specs.Tagged.{Unforged, Afresh}

-- what it answered, counted and left
pub record Back : Type 0 where
  pub answer : Answer
  pub count : ℕ
  pub anchor : Anchor
  pub card : List ℕ
  pub lent : List ℕ

-- a plan: what it was given, with the buffer for its messages, and what it gave back
pub record PlanRan : Type 0 where
  pub card : List ℕ
  pub index : ℕ
  pub block : List ℕ
  pub ranges : List ℕ
  pub buffer : List ℕ
  pub back : Back
  pub plan : Plan
  pub messages : List ℕ

-- a put: what it was given, and what it answered and left
pub record PutRan : Type 0 where
  pub step : PutStep
  pub answer : Answer
  pub anchor : Anchor
  pub plan : Plan
  pub card : List ℕ

-- an attempt: what the journalled write was given, with the lent journal, what it gave back, with the raised anchor and the journal as it
-- left it, and how far it came
pub record AttemptRan : Type 0 where
  pub card : List ℕ
  pub index : ℕ
  pub block : List ℕ
  pub ranges : List ℕ
  pub journal : List ℕ
  pub back : Back
  pub raised : Anchor
  pub filled : List ℕ
  pub fate : Fate

-- a call with its card, a plan with its puts, or an attempt
pub data Ran : Type 0 where
  call : (card : List ℕ) (c : Call) (back : Back) → Ran
  split : (p : PlanRan) (qs : List PutRan) → Ran
  attempt : (t : AttemptRan) → Ran

abbrev pub step_of : Ran → Step
step_of (call card c back) = Run.call card c
step_of (split p qs) = Run.split p.card p.index p.block p.ranges (map (λ (q : PutRan). q.step) qs)
step_of (attempt t) = Run.attempt t.card t.index t.block t.ranges t.journal t.fate

abbrev pub steps : List Ran → List Step
steps rs = map step_of rs

-- the anchor as the last put returned it, and the card as the last accepted one left it
abbrev pub last_anchor : Anchor → List PutRan → Anchor
last_anchor a [] = a
last_anchor a (q ∷ qs) = last_anchor q.anchor qs

abbrev pub last_card : List ℕ → List PutRan → List ℕ
last_card card [] = card
last_card card (q ∷ qs) = last_card (cond (is_whole q.answer) q.card card) qs

-- the anchor that the chip has after an attempt that was given a: by how far it came, that one, the raised one or the final one
abbrev pub chip_anchor : Anchor → AttemptRan → Fate → Anchor
chip_anchor a t unheard = a
chip_anchor a t lost = t.raised
chip_anchor a t stood = t.back.anchor

-- What a step that was given the anchor a gave back; a split write the plan's answer, count and ranges, and anchor and card as they are
-- after its puts; an attempt what it gave back, and the anchor that the chip has then.
abbrev pub back_of : Anchor → Ran → Back
back_of a (call card c back) = back
back_of a (split p qs) =
    record {
      answer = p.back.answer;
      count = p.back.count;
      anchor = last_anchor p.back.anchor qs;
      card = last_card p.back.card qs;
      lent = p.back.lent;
    }
back_of a (attempt t) =
    record {
      answer = t.back.answer;
      count = t.back.count;
      anchor = chip_anchor a t t.fate;
      card = t.back.card;
      lent = t.back.lent;
    }

-- what a contract with an outcome says of what was given back
abbrev pub Tells : List ℕ → Outcome → Back → Type 0
Tells key o b = Reports (subkeys_count key) (cmac_count key) o b.answer b.count b.anchor b.card b.lent

-- puts one after another, each given the anchor and the plan as last returned
abbrev pub PutsMeet : Anchor → Plan → List PutRan → Type 0
PutsMeet a p [] = Unit {0}
PutsMeet a p (q ∷ qs) =
    Puts (put a p q.step.card q.step.node q.step.tag) q.answer q.anchor q.plan q.card
    × PutsMeet q.anchor q.plan qs

-- what the contract of a plan says
abbrev pub PlanMeets : Anchor → PlanRan → Type 0
PlanMeets a p =
    let b = p.back in
    Plans (subkeys_count a.key) (cmac_count a.key) (planned (cmac_of a.key) a p.card p.index p.block p.ranges)
    p.buffer b.answer b.count b.anchor p.plan b.card b.lent p.messages

-- what the contract of a journalled write says
abbrev pub AttemptMeets : Anchor → AttemptRan → Type 0
AttemptMeets a t =
    let b = t.back in
    Journals (subkeys_count a.key) (cmac_count a.key) (journalled (cmac_of a.key) a t.card t.index t.block t.ranges t.journal)
    b.answer b.count t.raised b.anchor b.card b.lent t.filled

-- what the contracts say of a step that was given the anchor a
abbrev pub Meets : Anchor → Ran → Type 0
Meets a (call card c back) = Tells a.key (outcome (cmac_of a.key) a card c) back
Meets a (split p qs) = PlanMeets a p × PutsMeet p.back.anchor p.plan qs
Meets a (attempt t) = AttemptMeets a t

-- what the contract of format says
abbrev pub Formatted : List ℕ → ℕ → List ℕ → Answer → Anchor → List ℕ → Type 0
Formatted key n card answer anchor left = Gives (format (cmac_of key) key n card) answer anchor left []

-- steps one after another, each given the anchor that the chip has after the one before it
abbrev pub History : Anchor → List Ran → Type 0
History a [] = Unit {0}
History a (r ∷ rs) = Meets a r × History (back_of a r).anchor rs

-- a history of the steps xs from the anchor a: there is one for every anchor and every list
pub record Runs (a : Anchor) (xs : List Step) : Type 0 where
  pub calls : List Ran
  pub ran : History a calls
  pub are : steps calls ≡ xs

-- Of the calls that ran after a format, every split write among them complete: demand 3 holds of their list, what is tagged is as stated, a
-- wipe stands where the format did, each plan handed out its messages and each attempt its journal, and each step answered, counted and
-- left what the list has at its place.
pub record Demand3Of (key : List ℕ) (n : ℕ) (card : List ℕ) (rs : List Ran) : Type 0 where
  pub demand : Demand3 (cmac_of key) (start (cmac_of key) key n card) (steps rs)
  pub unforged : Unforged (cmac_of key) (start (cmac_of key) key n card) n (steps rs)
  pub afresh : (p : Place (steps rs)) → Accepted (cmac_of key) (known (cmac_of key) (start (cmac_of key) key n card) p).store p.item
      → call_of p.item ≡ wipe → Afresh (cmac_of key) (start (cmac_of key) key n card) n p
  -- the bytes that a plan handed out begin with its messages, and are behind them what the buffer had
  pub gave : (p : Place rs) (q : PlanRan) (qs : List PutRan) → p.item ≡ split q qs →
      let a = (after (cmac_of key) (start (cmac_of key) key n card) (steps p.before)).store.anchor in
      let given = joined (planned (cmac_of key) a q.card q.index q.block q.ranges).messages in
      q.messages ≡ given ++ drop (length given) q.buffer
  -- and an accepted attempt the journal of its write, under the new root nonce and with the card that it leaves
  pub journals : (p : Place rs) (t : AttemptRan) → p.item ≡ attempt t → t.back.answer ≡ Whole →
      let a = (after (cmac_of key) (start (cmac_of key) key n card) (steps p.before)).store.anchor in
      t.filled ≡ journal_of (cmac_of key) a.depth t.back.anchor.root.0 t.index t.back.card
  pub told : (p : Place rs) →
      let s = (after (cmac_of key) (start (cmac_of key) key n card) (steps p.before)).store in
      Tells key (result (cmac_of key) s (step_of p.item)) (back_of s.anchor p.item)
