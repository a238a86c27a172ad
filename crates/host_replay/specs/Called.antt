-- The functions for C as they ran: what each was given and what it answered and left, as its contract has it.
use Rattle.std.specs.Prelude.{◌≡◌, cond, List, [], ◌∷◌, ◌++◌, map, ℕ, eqb, length, drop}
use Rattle.cmac.specs.Cmac.{cmac_of}
use Rattle.tree.specs.Calls.{Call, wipe, outcome}
use Rattle.tree.specs.declared.Anchor.{Anchor}
use Rattle.plan.specs.Split.{planned, joined, message_room}
use Rattle.plan.specs.Puts.{PutStep}
use Rattle.replay.specs.Places.{Place}
use Rattle.replay.specs.Run
use Rattle.replay.specs.Run.{Fate, unheard, lost, stood, Step, call_of, State, start, result, after}
use Rattle.replay.specs.Claim.{Accepted, known, Demand3}
use Rattle.replay.specs.Nonces.{NonceRule}
use Rattle.replay.specs.Tagged.{Unforged, Afresh}
use Rattle.journal.specs.Journal.{journal_of}
use Rattle.host_bytes.specs.Host.{anchor_bytes, anchor_of, host_call, host_format, Hosts, Codes}
use Rattle.host_bytes.specs.Journal.{host_journalled, HostsJournalled}
use Rattle.host_bytes.specs.Split.{plan_bytes, tag_bytes, host_plan, HostsPlan, host_put, HostsPut}
use Rattle.host_bytes.specs.RoundTrip.{Stands}

-- The anchor as a function for C has it: bytes, or a struct in memory of the caller's own.
pub data Held : Type 0 where
  bytes : (anchor : List ℕ) → Held
  struct : (anchor : Anchor) → Held

-- the anchor that it stands for
abbrev pub anchor_in : Held → Anchor
anchor_in (bytes s) = anchor_of s
anchor_in (struct a) = a

-- what a call answered and left
pub record Back : Type 0 where
  pub code : ℕ
  pub anchor : Held
  pub card : List ℕ
  pub lent : List ℕ

-- pat_plan: what it was given beside the anchor, and what it answered and left
pub record PlanCalled : Type 0 where
  pub card : List ℕ
  pub index : ℕ
  pub block : List ℕ
  pub ranges : List ℕ
  -- the buffers for the plan and for its messages
  pub room : List ℕ
  pub buffer : List ℕ
  pub code : ℕ
  pub anchor : List ℕ
  pub left : List ℕ
  pub lent : List ℕ
  pub plan : List ℕ
  pub messages : List ℕ

-- pat_put_tag: the card, node and tag that it was given, and what it answered and left
pub record PutCalled : Type 0 where
  pub step : PutStep
  pub code : ℕ
  pub anchor : List ℕ
  pub plan : List ℕ
  pub card : List ℕ

-- pat_write_journalled: what it was given beside the anchor, what it answered and left, with both anchors, and how far the attempt came;
-- one that is not cut stood
pub record AttemptCalled : Type 0 where
  pub card : List ℕ
  pub index : ℕ
  pub block : List ℕ
  pub ranges : List ℕ
  -- the buffers for the raised anchor and for the journal
  pub room : List ℕ
  pub journal : List ℕ
  pub code : ℕ
  pub anchor : List ℕ
  pub raised : List ℕ
  pub left : List ℕ
  pub lent : List ℕ
  pub filled : List ℕ
  pub fate : Fate

-- A call with the anchor and the card that it was given; or a split write: a plan with its anchor, and its puts; or an attempt. A
-- pat_recover changes no anchor and no array, and any call may be given any card: so it is none of them.
pub data Called : Type 0 where
  call : (given : Held) (card : List ℕ) (c : Call) (back : Back) → Called
  split : (given : List ℕ) (p : PlanCalled) (qs : List PutCalled) → Called
  attempt : (given : List ℕ) (t : AttemptCalled) → Called

abbrev pub given_to : Called → Held
given_to (call given card c back) = given
given_to (split given p qs) = bytes given
given_to (attempt given t) = bytes given

abbrev pub put_steps : List PutCalled → List PutStep
put_steps qs = map (λ (q : PutCalled). q.step) qs

abbrev pub step_of : Called → Step
step_of (call given card c back) = Run.call card c
step_of (split given p qs) = Run.split p.card p.index p.block p.ranges (put_steps qs)
step_of (attempt given t) = Run.attempt t.card t.index t.block t.ranges t.journal t.fate

abbrev pub steps : List Called → List Step
steps rs = map step_of rs

-- the anchor's bytes as the last put left them, and the card as the last one that answered 0 left it
abbrev pub last_anchor : List ℕ → List PutCalled → List ℕ
last_anchor s [] = s
last_anchor s (q ∷ qs) = last_anchor q.anchor qs

abbrev pub last_card : List ℕ → List PutCalled → List ℕ
last_card card [] = card
last_card card (q ∷ qs) = last_card (cond (eqb q.code 0) q.card card) qs

-- the anchor's bytes that the chip has after an attempt that was given s and answered 0: by how far it came, those, the raised ones or the
-- final ones
abbrev pub reached : List ℕ → AttemptCalled → Fate → List ℕ
reached s t unheard = s
reached s t lost = t.raised
reached s t stood = t.anchor

-- and after one that was refused those that it was given
abbrev pub chip_anchor : List ℕ → AttemptCalled → List ℕ
chip_anchor s t = cond (eqb t.code 0) (reached s t t.fate) s

-- What was answered and left; by a split write the plan's code and ranges, and anchor and card as they are after its puts; of an attempt's
-- anchors it is the one that the chip has then.
abbrev pub back_of : Called → Back
back_of (call given card c back) = back
back_of (split given p qs) =
    record { code = p.code; anchor = bytes (last_anchor p.anchor qs); card = last_card p.left qs; lent = p.lent }
back_of (attempt given t) = record { code = t.code; anchor = bytes (chip_anchor given t); card = t.left; lent = t.lent }

-- what the contract says: that of pat_read, pat_write, pat_check and pat_wipe on bytes, and that of pat_write_in_place on a struct
abbrev pub Says : Held → Held → List ℕ → Call → ℕ → List ℕ → List ℕ → Type 0
Says (bytes s) (bytes e) card c code left lent = Hosts (host_call s card c) code e left lent
Says (bytes s) (struct b) card c code left lent = ⊥
Says (struct a) (bytes e) card c code left lent = ⊥
Says (struct a) (struct b) card c code left lent = Codes (outcome (cmac_of a.key) a card c) code b left lent

-- That of pat_plan. With buffers of another length it is refused 5 and changes nothing: such a call is no step of a history.
pub record PlanMeets (s : List ℕ) (p : PlanCalled) : Type 0 where
  pub plan-room : length p.room ≡ plan_bytes
  pub message-room : length p.buffer ≡ message_room
  pub says : HostsPlan (host_plan s p.card p.index p.block p.ranges p.room p.buffer)
      p.code p.anchor p.plan p.left p.lent p.messages

-- That of pat_put_tag. A tag of another length is refused 5 in the same way. Each put is given anchor and plan as the step before left
-- them.
abbrev pub PutsMeet : List ℕ → List ℕ → List PutCalled → Type 0
PutsMeet s b [] = Unit {0}
PutsMeet s b (q ∷ qs) =
    (length q.step.tag ≡ tag_bytes)
    × HostsPut (host_put s b q.step.card q.step.node q.step.tag) q.code q.anchor q.plan q.card
    × PutsMeet q.anchor q.plan qs

-- That of pat_write_journalled. With a buffer of another length for the raised anchor it is refused 5 in the same way.
pub record AttemptMeets (s : List ℕ) (t : AttemptCalled) : Type 0 where
  pub raised-room : length t.room ≡ anchor_bytes
  pub says : HostsJournalled (host_journalled s t.room t.card t.index t.block t.ranges t.journal)
      t.code t.anchor t.raised t.left t.lent t.filled

-- no put answered 0
abbrev pub NonePut : List PutCalled → Type 0
NonePut [] = Unit {0}
NonePut (q ∷ qs) = (q.code ≡ 0 → ⊥) × NonePut qs

-- A plan that was refused leaves whatever bytes its buffer had, which may be those of some other plan: no put with them answered 0.
abbrev pub Meets : Called → Type 0
Meets (call given card c back) = Says given back.anchor card c back.code back.card back.lent
Meets (split given p qs) = PlanMeets given p × PutsMeet p.anchor p.plan qs × ((p.code ≡ 0 → ⊥) → NonePut qs)
Meets (attempt given t) = AttemptMeets given t

-- what the contract of pat_format says
abbrev pub Formatted : List ℕ → List ℕ → ℕ → List ℕ → List ℕ → Type 0
Formatted anchor card code made left = Hosts (host_format anchor card) code made left []

-- A call is given the anchor as the one before it left it, or as the chip has it after an attempt; only between bytes and a struct does the
-- caller make it anew.
abbrev pub Handed : Held → Held → Type 0
Handed (bytes s) (bytes e) = e ≡ s
Handed (bytes s) (struct b) = b ≡ anchor_of s
Handed (struct a) (bytes e) = Stands e a
Handed (struct a) (struct b) = b ≡ a

-- calls, split writes and attempts one after another, the first of which is given the anchor h
abbrev pub History : Held → List Called → Type 0
History h [] = Unit {0}
History h (r ∷ rs) = Handed h (given_to r) × Meets r × History (back_of r).anchor rs

-- a call, and the form in which it is given its anchor; or a split write or an attempt, which is given bytes
pub data Form : Type 0 where
  by_bytes in_place : Form

pub data Turn : Type 0 where
  call : (form : Form) (card : List ℕ) (c : Call) → Turn
  split : (card : List ℕ) (i : ℕ) (block ranges : List ℕ) (puts : List PutStep) → Turn
  attempt : (card : List ℕ) (i : ℕ) (block ranges journal : List ℕ) (fate : Fate) → Turn

abbrev pub form_of : Held → Form
form_of (bytes s) = by_bytes
form_of (struct a) = in_place

abbrev pub turn_of : Called → Turn
turn_of (Called.call given card c back) = call (form_of given) card c
turn_of (Called.split given p qs) = split p.card p.index p.block p.ranges (put_steps qs)
turn_of (Called.attempt given t) = attempt t.card t.index t.block t.ranges t.journal t.fate

abbrev pub turns : List Called → List Turn
turns rs = map turn_of rs

-- every tag has its length
abbrev pub TagsFit : List PutStep → Type 0
TagsFit [] = Unit {0}
TagsFit (x ∷ xs) = (length x.tag ≡ tag_bytes) × TagsFit xs

abbrev pub Fits : Turn → Type 0
Fits (call form card c) = Unit {0}
Fits (split card i block ranges puts) = TagsFit puts
Fits (attempt card i block ranges journal fate) = Unit {0}

abbrev pub AllFit : List Turn → Type 0
AllFit [] = Unit {0}
AllFit (t ∷ ts) = Fits t × AllFit ts

-- A history of such turns from the anchor h: there is one for every list whose tags have their length, from all bytes of an anchor's
-- length.
pub record Runs (h : Held) (ts : List Turn) : Type 0 where
  pub calls : List Called
  pub ran : History h calls
  pub are : turns calls ≡ ts

-- after a format of a card with the key and the depth of an anchor's bytes
abbrev pub begin : List ℕ → List ℕ → State
begin anchor card = start (cmac_of (anchor_of anchor).key) (anchor_of anchor).key (anchor_of anchor).depth card

-- Of the calls that ran after an accepted pat_format, every split write among them complete: demand 3 holds of their list, what is tagged
-- is as stated, a wipe stands where the format did, the nonces are by rule, each plan handed out its messages and each attempt its journal,
-- and each step answered and left what the list has at its place.
pub record Demand3Of (anchor card made left : List ℕ) (rs : List Called) : Type 0 where
  pub begun : Stands made (begin anchor card).store.anchor
  pub formatted : left ≡ (begin anchor card).store.left
  pub demand : Demand3 (cmac_of (anchor_of anchor).key) (begin anchor card) (steps rs)
  pub unforged : Unforged (cmac_of (anchor_of anchor).key) (begin anchor card) (anchor_of anchor).depth (steps rs)
  pub afresh : (p : Place (steps rs))
      → Accepted (cmac_of (anchor_of anchor).key) (known (cmac_of (anchor_of anchor).key) (begin anchor card) p).store p.item
      → call_of p.item ≡ wipe
      → Afresh (cmac_of (anchor_of anchor).key) (begin anchor card) (anchor_of anchor).depth p
  pub nonces : NonceRule (cmac_of (anchor_of anchor).key) (begin anchor card) (anchor_of anchor).depth (steps rs)
  -- the bytes that a plan handed out begin with its messages, and are behind them what the buffer had
  pub gave : (p : Place rs) (given : List ℕ) (q : PlanCalled) (qs : List PutCalled) → p.item ≡ split given q qs →
      let F = cmac_of (anchor_of anchor).key in
      let ms = joined (planned F (after F (begin anchor card) (steps p.before)).store.anchor q.card q.index q.block q.ranges).messages in
      q.messages ≡ ms ++ drop (length ms) q.buffer
  -- and an attempt that answered 0 the journal of its write, under the new root nonce and with the card that it leaves
  pub journals : (p : Place rs) (given : List ℕ) (t : AttemptCalled) → p.item ≡ attempt given t → t.code ≡ 0
      → t.filled ≡ journal_of (cmac_of (anchor_of anchor).key) (anchor_of anchor).depth (anchor_of t.anchor).root.0 t.index t.left
  pub told : (p : Place rs)
      → let b = back_of p.item in
      Codes (result (cmac_of (anchor_of anchor).key) (after (cmac_of (anchor_of anchor).key) (begin anchor card) (steps p.before)).store
      (step_of p.item))
      b.code (anchor_in b.anchor) b.card b.lent
