-- Demand 3 of the functions for C in their own terms: answers, bytes and a plain array.
use Rattle.std.specs.Prelude.{ℕ, ◌+◌, ◌*◌, ◌%◌, ◌^◌, ◌<◌, ◌≤◌, ◌≡◌, Bool, true, false, not, cond, ◌&&◌, ◌||◌, ◌⊎◌, eqb, length, take, drop}
use mathlib.Core.List.{List, [], ◌∷◌, ◌++◌, Memᴰ}
use Rattle.words.specs.Bytes.{at}
use Rattle.cmac.specs.Cmac.{cmac_of}
use Rattle.std.proofs.Math.Option.{none}
use Rattle.tree.specs.Layout.{size, label}
use Rattle.tree.specs.Ranges.{ranges_of}
use Rattle.tree.specs.Calls
use Rattle.tree.specs.Limits.{first_failing}
use Rattle.tree.specs.Calls.{Call, is_write, renews}
use Rattle.tree.specs.declared.Anchor.{Anchor}
use Rattle.plan.specs.Places.{plan_nodes, every}
use Rattle.plan.specs.Split.{message_room}
use Rattle.plan.specs.Orders.{Rearranged}
use Rattle.scope.specs.Ordered.{OutOf}
use Rattle.replay.specs.Array.{Told, read, write, check, wipe, Array, zeroed, block_at, moved}
use Rattle.replay.specs.Places.{Place, Behind}
use Rattle.plan.specs.Puts.{PutStep}
use Rattle.replay.specs.Run.{Fate, unheard, lost, stood, card_of, call_of, limits_of, told, heard, has_stood}
use Rattle.replay.specs.Claim.{Forgery}
use Rattle.host_bytes.specs.Host.{anchor_bytes, anchor_of, with_reserved, host_call, Hosts}
use Rattle.host_bytes.specs.Journal.{host_journalled, HostsJournalled, host_recovery}
use Rattle.host_bytes.specs.Split.{plan_bytes, tag_bytes, host_plan, HostsPlan, host_put, HostsPut}
use Rattle.host_replay.specs.Called.{Held, bytes, anchor_in, Back, PlanCalled, PutCalled, AttemptCalled, Called, call, split, attempt}
use Rattle.host_replay.specs.Called.{given_to, step_of, steps, last_anchor, last_card, back_of, PlanMeets, PutsMeet, AttemptMeets, Meets}
use Rattle.host_replay.specs.Called.{begin, Form, Turn, TagsFit, Fits}

-- the call; a split write and an attempt are writes
abbrev pub called : Called → Call
called r = call_of (step_of r)

-- the card that the call, the plan or the attempt was given
abbrev pub shown : Called → List ℕ
shown r = card_of (step_of r)

-- a put of node u answered 0
unfoldable pub put_at : ℕ → List PutCalled → Bool
put_at u [] = false
put_at u (q ∷ qs) = (eqb q.step.node u && eqb q.code 0) || put_at u qs

-- and one of each of the 2n nodes of a plan that was given the anchor s
abbrev pub all_put : List ℕ → PlanCalled → List PutCalled → Bool
all_put s p qs = every (λ u. put_at u qs) (plan_nodes (anchor_of s).depth p.index)

-- Whether a call stands: it answered 0, and of a write that goes out in steps the new root nonce stood.
abbrev pub stands : Called → Bool
stands (call given card c back) = eqb back.code 0
stands (split given p qs) = eqb p.code 0 && all_put given p qs
stands (attempt given t) = eqb t.code 0 && has_stood t.fate

-- Whether it reserved nonces: it answered 0, it is a write or a wipe, and of an attempt the raised anchor stood.
abbrev pub reserves : Called → Bool
reserves (call given card c back) = eqb back.code 0 && renews c
reserves (split given p qs) = eqb p.code 0
reserves (attempt given t) = eqb t.code 0 && heard t.fate

-- The card as the format, or the last write or wipe that stands, left it; a split write leaves it after its last put that answered 0, an
-- attempt with all its ranges out.
abbrev pub left_by : List ℕ → List Called → List ℕ
left_by left [] = left
left_by left (r ∷ rs) = left_by (cond (stands r && renews (called r)) (back_of r).card left) rs

-- the plain array, told each call and whether it stands; a split write moves it once
abbrev pub array_by : Array → List Called → Array
array_by a [] = a
array_by a (r ∷ rs) = array_by (moved a (told (called r)) (stands r)) rs

-- how many writes and wipes stand
abbrev pub renewals_by : List Called → ℕ
renewals_by [] = 0
renewals_by (r ∷ rs) = cond (stands r && renews (called r)) 1 0 + renewals_by rs

-- and how many were lost: they reserved nonces, and do not stand
abbrev pub losses_by : List Called → ℕ
losses_by [] = 0
losses_by (r ∷ rs) = cond (reserves r && not (stands r)) 1 0 + losses_by rs

-- What a call on a card of depth n gave is what the array, told of it, holds. It is said anew here, and proved of what `replay` says.
abbrev pub Shows : ℕ → Array → List ℕ → List ℕ → Told → Type 0
Shows n a card given (read i) = given ≡ block_at a i
Shows n a card given (write i block) = Unit {0}
Shows n a card given check = (i : ℕ) → i < 2 ^ n → label n card (2 ^ n + i) ≡ block_at a i
Shows n a card given wipe = Unit {0}

-- of each call and those before it
abbrev pub Each : List Called → (List Called → Called → Type 0) → Type 0
Each rs P = (p : Place rs) → P p.before p.item

-- every call that answered 0 agrees with the array
abbrev pub Agreed : ℕ → List Called → Type 0
Agreed n rs =
    Each rs (λ before r. (back_of r).code ≡ 0 → Shows n (array_by (zeroed (2 ^ n)) before) (shown r) (back_of r).lent (told (called r)))

-- each put that answered 0 was given the card as the step before it left it
abbrev pub PutsUntouched : List ℕ → List PutCalled → Type 0
PutsUntouched left [] = Unit {0}
PutsUntouched left (q ∷ qs) = (q.code ≡ 0 → q.step.card ≡ left) × PutsUntouched (last_card left (q ∷ [])) qs

-- it was given the card as it was last left, and so was each put of a split write
abbrev pub Untouched : List ℕ → Called → Type 0
Untouched left (call given card c back) = card ≡ left
Untouched left (split given p qs) = (p.card ≡ left) × PutsUntouched p.left qs
Untouched left (attempt given t) = t.card ≡ left

-- every call that stands, but a wipe, was given the card as it was last left
abbrev pub AllUntouched : List ℕ → List Called → Type 0
AllUntouched left rs = Each rs (λ before r. stands r ≡ true → (called r ≡ Calls.wipe → ⊥) → Untouched (left_by left before) r)

-- no wipe that answered 0 stands behind that call
abbrev pub Unwiped : {rs : List Called} → Place rs → Type 0
Unwiped {rs} p = (q : Place rs) → Behind p q → (back_of q.item).code ≡ 0 → called q.item ≡ Calls.wipe → ⊥

-- since the last such wipe, or the format if there is none, every write that stands was given the card as it was last left
abbrev pub WritesUntouched : List ℕ → List Called → Type 0
WritesUntouched left rs =
    (p : Place rs) → Unwiped p → stands p.item ≡ true → is_write (called p.item) ≡ true → Untouched (left_by left p.before) p.item

-- The message for node u in a buffer that has those for the nodes us end to end: a label and 9 bytes more, so 17 for an inner node and 73
-- for a leaf.
unfoldable pub message_for : ℕ → List ℕ → ℕ → List ℕ → List ℕ
message_for n [] u buffer = []
message_for n (w ∷ us) u buffer = cond (eqb u w) (take (size n w + 9) buffer) (message_for n us u (drop (size n w + 9) buffer))

-- the tag of the message for node u that a plan gave which was given the anchor s
abbrev pub tag_for : List ℕ → PlanCalled → ℕ → List ℕ
tag_for s p u = let a = anchor_of s in cmac_of a.key (message_for a.depth (plan_nodes a.depth p.index) u p.messages)

-- each put that answered 0 had the tag of its message
abbrev pub RightTags : List ℕ → PlanCalled → List PutCalled → Type 0
RightTags s p qs = (q : PutCalled) → Memᴰ q qs → q.code ≡ 0 → q.step.tag ≡ tag_for s p q.step.node

-- What is asked of a split write that stands. A plan left unfinished is lost, and nothing is asked of its puts.
abbrev pub FilledIn : Called → Type 0
FilledIn (call given card c back) = Unit {0}
FilledIn (split given p qs) = stands (split given p qs) ≡ true → RightTags given p qs
FilledIn (attempt given t) = Unit {0}

abbrev pub AllFilled : List Called → Type 0
AllFilled rs = Each rs (λ before r. FilledIn r)

-- puts at the nodes us, in this order, each on the card as the step before left it and with the tag of the message that the plan gave
abbrev pub InTurn : List ℕ → PlanCalled → List ℕ → List ℕ → List PutCalled → Type 0
InTurn s p left [] [] = Unit {0}
InTurn s p left [] (q ∷ qs) = ⊥
InTurn s p left (u ∷ us) [] = ⊥
InTurn s p left (u ∷ us) (q ∷ qs) =
    (q.step.card ≡ left) × (q.step.node ≡ u) × (q.step.tag ≡ tag_for s p u) × InTurn s p (last_card left (q ∷ [])) us qs

-- there are such puts for every plan and all nodes
pub record RunsInTurn (s : List ℕ) (p : PlanCalled) (us : List ℕ) : Type 0 where
  pub puts : List PutCalled
  pub ran : PutsMeet p.anchor p.plan puts
  pub turn : InTurn s p p.left us puts

-- what is answered and left is what pat_write answers and leaves, byte for byte
abbrev pub LikeWrite : List ℕ → PlanCalled → List PutCalled → Type 0
LikeWrite s p qs =
    Hosts (host_call s p.card (Calls.write p.index p.block p.ranges))
    p.code (last_anchor p.anchor qs) (last_card p.left qs) p.lent

-- Of a plan that was given the anchor s and answered 0, and its puts: it leaves s with the reserved nonce raised, and so that stays where
-- the puts do not fill it; filled on untouched cards it ends as pat_write does, whatever refused puts stand among the others; and puts in
-- turn, in any order of its nodes, all answer 0 and fill it so.
pub record SplitGoesOn (s : List ℕ) (p : PlanCalled) (qs : List PutCalled) : Type 0 where
  pub raises : p.anchor ≡ with_reserved s ((anchor_of s).reserved.0 + (anchor_of s).depth)
  pub lost-stays : all_put s p qs ≡ false → last_anchor p.anchor qs ≡ p.anchor
  pub like-write : all_put s p qs ≡ true → RightTags s p qs → PutsUntouched p.left qs → LikeWrite s p qs
  pub in-turn : (us : List ℕ) → Rearranged us (plan_nodes (anchor_of s).depth p.index) → InTurn s p p.left us qs
      → ((q : PutCalled) → Memᴰ q qs → q.code ≡ 0) × (all_put s p qs ≡ true) × RightTags s p qs × PutsUntouched p.left qs

-- Of an attempt that was given the anchor s and answered 0: card, ranges and final anchor are as pat_write leaves them, byte for byte, and
-- the anchor that is stored first is s with the reserved nonce raised.
pub record AttemptLikeWrite (s : List ℕ) (t : AttemptCalled) : Type 0 where
  pub wrote : Hosts (host_call s t.card (Calls.write t.index t.block t.ranges)) t.code t.anchor t.left t.lent
  pub raises : t.raised ≡ with_reserved s ((anchor_of s).reserved.0 + (anchor_of s).depth)
  -- Wherever the power went while the ranges were put out: pat_recover with the final anchor and the journal brings the card to the one
  -- that the write left, and with the raised anchor it leaves every card of that length as it is; both answer 0 and leave the anchor.
  pub finished : (torn : List ℕ) → length torn ≡ length t.card
      → ((j : ℕ) → OutOf (ranges_of (anchor_of s).depth t.index) j → at torn j ≡ at t.card j)
      → (code : ℕ) (e left : List ℕ) → Hosts (host_recovery t.anchor torn t.filled) code e left []
      → (code ≡ 0) × (e ≡ t.anchor) × (left ≡ t.left)
  pub begun : (other : List ℕ) → length other ≡ length t.card → (code : ℕ) (e left : List ℕ)
      → Hosts (host_recovery t.raised other t.filled) code e left [] → (code ≡ 0) × (e ≡ t.raised) × (left ≡ other)

-- The anchor a that the calls of a list leave, at depth n: its reserved nonce is n times the writes and wipes that stand and the lost ones;
-- the root nonce is at most that; both are multiples of n; and where nothing was lost the root nonce is n times those that stand.
pub record PlainNonces (n : ℕ) (rs : List Called) (a : Anchor) : Type 0 where
  pub reserved : a.reserved.0 ≡ (renewals_by rs + losses_by rs) * n
  pub within : a.root.0 ≤ a.reserved.0
  pub multiple : a.root.0 % n ≡ 0
  pub reserved_multiple : a.reserved.0 % n ≡ 0
  pub root : losses_by rs ≡ 0 → a.root.0 ≡ renewals_by rs * n

-- Of the calls that ran after a pat_format, which answered 0 and left the card so, every split write that stands filled with right tags.
pub record PlainDemand (anchor card left : List ℕ) (rs : List Called) : Type 0 where
  pub safe : Agreed (anchor_of anchor).depth rs ⊎ Forgery (cmac_of (anchor_of anchor).key) (begin anchor card) (steps rs)
  -- where every card but a wiped one was as last left the calls agree outright
  pub honest : AllUntouched left rs → Agreed (anchor_of anchor).depth rs
  -- no tag is wrong on a card as last left: no answer is 8 plus 256 times a node
  pub quiet : Each rs (λ before r.
      WritesUntouched left before → shown r ≡ left_by left before → (u : ℕ) → (back_of r).code ≡ 8 + 256 * u → ⊥)
  -- and so a call is accepted where none of its limits fails
  pub accepted : Each rs (λ before r.
      WritesUntouched left before → shown r ≡ left_by left before
      → first_failing (limits_of (anchor_in (given_to r)) (step_of r)) ≡ none → (back_of r).code ≡ 0)
  -- the nonces that each call leaves; and one that does not stand leaves the root nonce as it was
  pub nonces : Each rs (λ before r. PlainNonces (anchor_of anchor).depth (before ++ (r ∷ [])) (anchor_in (back_of r).anchor))
  pub root-kept : Each rs (λ before r. stands r ≡ false → (anchor_in (back_of r).anchor).root ≡ (anchor_in (given_to r)).root)
  -- a wipe that answered 0 leaves the array of after a format
  pub emptied : Each rs (λ before r.
      (back_of r).code ≡ 0 → called r ≡ Calls.wipe
      → array_by (zeroed (2 ^ (anchor_of anchor).depth)) (before ++ (r ∷ [])) ≡ zeroed (2 ^ (anchor_of anchor).depth))

-- Lists of calls on untouched cards are as many as the paper allows: one may go on with any call and any attempt on the card as last left,
-- with any that does not stand on any card, and with a wipe of any card; and where it answers 0 it frees the calls before it. Of a split
-- write that stands it is asked too that its puts had right tags, as they have in turn.
pub record PlainGoesOn (left : List ℕ) : Type 0 where
  pub all_none : AllUntouched left []
  pub all_more : (rs : List Called) (r : Called) → AllUntouched left rs
      → (stands r ≡ true → Untouched (left_by left rs) r) → AllUntouched left (rs ++ (r ∷ []))
  pub all-wiped : (rs : List Called) (r : Called) → AllUntouched left rs → called r ≡ Calls.wipe → AllUntouched left (rs ++ (r ∷ []))
  pub writes-none : WritesUntouched left []
  pub writes_more : (rs : List Called) (r : Called) → WritesUntouched left rs
      → (stands r ≡ true → is_write (called r) ≡ true → Untouched (left_by left rs) r) → WritesUntouched left (rs ++ (r ∷ []))
  pub writes-wiped : (rs : List Called) (r : Called) → (back_of r).code ≡ 0 → called r ≡ Calls.wipe → WritesUntouched left (rs ++ (r ∷ []))
  -- a call and an attempt are untouched by their card alone; a split write by the plan's and by that of every put that answered 0
  pub untouched-call : (s : Held) (c : Call) (back : Back) → Untouched left (call s left c back)
  pub untouched-split : (s : List ℕ) (p : PlanCalled) (qs : List PutCalled) → p.card ≡ left
      → ((k : Place qs) → k.item.code ≡ 0 → k.item.step.card ≡ last_card p.left k.before) → Untouched left (split s p qs)
  pub untouched-attempt : (s : List ℕ) (t : AttemptCalled) → t.card ≡ left → Untouched left (attempt s t)
  -- A plan that answered 0 stands where each of its nodes has a put that did, and is lost where one has none.
  pub split-stands : (s : List ℕ) (p : PlanCalled) (qs : List PutCalled) → p.code ≡ 0
      → ((u : ℕ) → Memᴰ u (plan_nodes (anchor_of s).depth p.index) → put_at u qs ≡ true) → stands (split s p qs) ≡ true
  pub put-here : (q : PutCalled) (qs : List PutCalled) → Memᴰ q qs → q.code ≡ 0 → put_at q.step.node qs ≡ true
  pub split-lost : (s : List ℕ) (p : PlanCalled) (qs : List PutCalled) (u : ℕ) → Memᴰ u (plan_nodes (anchor_of s).depth p.index)
      → ((q : PutCalled) → Memᴰ q qs → q.code ≡ 0 → q.step.node ≡ u → ⊥) → stands (split s p qs) ≡ false
  -- An attempt that answered 0 stands where it came to its new root nonce, and not where it was lost, or where its raised anchor never
  -- stood; the next call is given its final anchor, its raised one, or the one that it was given.
  pub attempt-stands : (s : List ℕ) (t : AttemptCalled) → t.code ≡ 0 → t.fate ≡ stood
      → (stands (attempt s t) ≡ true) × ((back_of (attempt s t)).anchor ≡ bytes t.anchor)
  pub attempt-lost : (s : List ℕ) (t : AttemptCalled) → t.fate ≡ lost
      → (stands (attempt s t) ≡ false) × (t.code ≡ 0 → (back_of (attempt s t)).anchor ≡ bytes t.raised)
  pub attempt-unheard : (s : List ℕ) (t : AttemptCalled) → t.fate ≡ unheard
      → (stands (attempt s t) ≡ false) × ((back_of (attempt s t)).anchor ≡ bytes s)
  -- what does not stand leaves the array and the card as last left
  pub stays : (rs : List Called) (r : Called) → stands r ≡ false → (a : Array)
      → (array_by a (rs ++ (r ∷ [])) ≡ array_by a rs) × (left_by left (rs ++ (r ∷ [])) ≡ left_by left rs)
  -- nothing is asked of calls, of attempts and of what does not stand; of a split write that stands that each put which answered 0 had its
  -- message's tag
  pub filled-call : (s : Held) (card : List ℕ) (c : Call) (back : Back) → FilledIn (call s card c back)
  pub filled-split : (s : List ℕ) (p : PlanCalled) (qs : List PutCalled)
      → (stands (split s p qs) ≡ true → (q : PutCalled) → Memᴰ q qs → q.code ≡ 0 → q.step.tag ≡ tag_for s p q.step.node)
      → FilledIn (split s p qs)
  pub filled-attempt : (s : List ℕ) (t : AttemptCalled) → FilledIn (attempt s t)
  pub filled_none : AllFilled []
  pub filled_more : (rs : List Called) (r : Called) → AllFilled rs → FilledIn r → AllFilled (rs ++ (r ∷ []))
  pub split-goes-on : (s : List ℕ) → length s ≡ anchor_bytes → (p : PlanCalled) (qs : List PutCalled) → Meets (split s p qs) → p.code ≡ 0
      → SplitGoesOn s p qs
  pub turns-run : (s : List ℕ) (p : PlanCalled) (us : List ℕ) → RunsInTurn s p us
  pub attempt-like-write : (s : List ℕ) → length s ≡ anchor_bytes → (t : AttemptCalled) → AttemptMeets s t → t.code ≡ 0
      → AttemptLikeWrite s t
  -- Every call and every attempt is a turn that runs, and a split write where each tag has its length.
  pub fits-call : (form : Form) (card : List ℕ) (c : Call) → Fits (Turn.call form card c)
  pub fits-split : (card : List ℕ) (i : ℕ) (block ranges : List ℕ) (puts : List PutStep) → TagsFit puts
      → Fits (Turn.split card i block ranges puts)
  pub fits-attempt : (card : List ℕ) (i : ℕ) (block ranges journal : List ℕ) (fate : Fate)
      → Fits (Turn.attempt card i block ranges journal fate)
  -- whatever bytes the buffers of a plan and of an attempt had, and whatever plan, card, node and tag a put was given, it may stand in a
  -- history
  pub plan-meets : (s : List ℕ) (p : PlanCalled) → length p.room ≡ plan_bytes → length p.buffer ≡ message_room
      → HostsPlan (host_plan s p.card p.index p.block p.ranges p.room p.buffer) p.code p.anchor p.plan p.left p.lent p.messages
      → PlanMeets s p
  pub put-meets : (s b : List ℕ) (q : PutCalled) → length q.step.tag ≡ tag_bytes
      → HostsPut (host_put s b q.step.card q.step.node q.step.tag) q.code q.anchor q.plan q.card → PutsMeet s b (q ∷ [])
  pub attempt-meets : (s : List ℕ) (t : AttemptCalled) → length t.room ≡ anchor_bytes
      → HostsJournalled (host_journalled s t.room t.card t.index t.block t.ranges t.journal) t.code t.anchor t.raised t.left t.lent t.filled
      → AttemptMeets s t
