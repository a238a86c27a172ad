-- From one call for C to the next: the bytes that a call leaves of the anchor, and of a plan, are those that the next one reads it from.
-- And what a call for C answers and leaves of the rest is what the call does, on every input.
use Rattle.std.specs.Prelude.{ℕ, ◌^◌, ◌<◌, ◌≡◌, List, [], ◌++◌, length, drop}
use Rattle.cmac.specs.Cmac.{cmac_of}
use Rattle.tree.specs.Calls.{Call, lent_to, outcome, format}
use Rattle.tree.specs.declared.Anchor.{Anchor}
use Rattle.plan.specs.Split.{planned, joined, message_room, put}
use Rattle.plan.specs.declared.Plan.{Plan}
use Rattle.journal.specs.Journalled.{journalled}
use Rattle.journal.specs.Recovery.{recovered}
use Rattle.host_bytes.specs.Host.{anchor_bytes, anchor_of, code_of, host_call, host_format, Hosts, Codes}
use Rattle.host_bytes.specs.Journal.{host_journalled, HostsJournalled, host_recovery}
use Rattle.host_bytes.specs.Split.{plan_bytes, plan_of, tag_bytes, host_plan, HostsPlan, host_put, HostsPut}

-- bytes of the right number that stand for the anchor a
pub record Stands (bytes : List ℕ) (a : Anchor) : Type 0 where
  pub long : length bytes ≡ anchor_bytes
  pub is : anchor_of bytes ≡ a

-- Of a call for C that was given s as its anchor, and a card.
pub record RoundTrip (s card : List ℕ) : Type 0 where
  -- an accepted format leaves bytes that stand for the anchor that it made, and any call bytes that stand for the outcome's
  pub format-stored : (e left : List ℕ) → Hosts (host_format s card) 0 e left []
      → Stands e (format (cmac_of (anchor_of s).key) (anchor_of s).key (anchor_of s).depth card).anchor
  pub call-stored : length s ≡ anchor_bytes → (c : Call) (code : ℕ) (e left lent : List ℕ) → Hosts (host_call s card c) code e left lent
      → Stands e (outcome (cmac_of (anchor_of s).key) (anchor_of s) card c).anchor
  -- the answer is the call's as one number, and the card and the lent buffer are as the call leaves them
  pub format-told : length s ≡ anchor_bytes → (code : ℕ) (e left : List ℕ) → Hosts (host_format s card) code e left [] →
      let o = format (cmac_of (anchor_of s).key) (anchor_of s).key (anchor_of s).depth card in
      (code ≡ code_of o.answer) × (left ≡ o.card)
  pub call-told : length s ≡ anchor_bytes → (c : Call) (code : ℕ) (e left lent : List ℕ) → Hosts (host_call s card c) code e left lent
      → Codes (outcome (cmac_of (anchor_of s).key) (anchor_of s) card c) code (anchor_of e) left lent
  -- a refused one leaves every byte as it was, whatever the anchor's length
  pub format-refused : (code : ℕ) (e left : List ℕ) → Hosts (host_format s card) code e left [] → (code ≡ 0 → ⊥) → (e ≡ s) × (left ≡ card)
  pub call-refused : (c : Call) (code : ℕ) (e left lent : List ℕ) → Hosts (host_call s card c) code e left lent → (code ≡ 0 → ⊥)
      → (e ≡ s) × (left ≡ card) × (lent ≡ lent_to c)

-- bytes of the right number that stand for the plan p, whose root nonce and filled places fit into 8 bytes each
pub record StandsPlan (bytes : List ℕ) (p : Plan) : Type 0 where
  pub long : length bytes ≡ plan_bytes
  pub is : plan_of bytes ≡ p
  pub root-fits : p.root.0 < 2 ^ 64
  pub filled-fits : p.filled < 2 ^ 64

-- Of pat_plan and pat_put_tag that were given s as the anchor, a card, and b as the plan.
pub record SplitTrip (s card b : List ℕ) : Type 0 where
  -- an accepted plan leaves bytes that stand for the anchor and the plan that it hands out, and so does any put
  pub plan-stored : (i : ℕ) (block ranges buffer e made left filled gave : List ℕ)
      → HostsPlan (host_plan s card i block ranges b buffer) 0 e made left filled gave →
      let o = planned (cmac_of (anchor_of s).key) (anchor_of s) card i block ranges in
      Stands e o.call.anchor × StandsPlan made o.plan
  pub put-stored : length s ≡ anchor_bytes → (p : Plan) → StandsPlan b p → (u : ℕ) (tag : List ℕ) → length tag ≡ tag_bytes
      → (code : ℕ) (e made left : List ℕ) → HostsPut (host_put s b card u tag) code e made left
      → Stands e (put (anchor_of s) p card u tag).anchor × StandsPlan made (put (anchor_of s) p card u tag).plan
  -- the answers are those of the plan and of the put as one number, and card, ranges and messages are as these leave them, the bytes behind
  -- the messages as they were
  pub plan-told : length s ≡ anchor_bytes → length b ≡ plan_bytes → (i : ℕ) (block ranges buffer : List ℕ) → length buffer ≡ message_room
      → (code : ℕ) (e made left filled gave : List ℕ) → HostsPlan (host_plan s card i block ranges b buffer) code e made left filled gave →
      let o = planned (cmac_of (anchor_of s).key) (anchor_of s) card i block ranges in
      (code ≡ code_of o.call.answer) × (left ≡ o.call.card) × (filled ≡ o.call.lent)
      × (gave ≡ joined o.messages ++ drop (length (joined o.messages)) buffer)
  pub put-told : length s ≡ anchor_bytes → (p : Plan) → StandsPlan b p → (u : ℕ) (tag : List ℕ) → length tag ≡ tag_bytes
      → (code : ℕ) (e made left : List ℕ) → HostsPut (host_put s b card u tag) code e made left
      → (code ≡ code_of (put (anchor_of s) p card u tag).answer) × (left ≡ (put (anchor_of s) p card u tag).card)
  -- a refused one leaves every byte as it was, whatever the lengths
  pub plan-refused : (i : ℕ) (block ranges buffer : List ℕ) (code : ℕ) (e made left filled gave : List ℕ)
      → HostsPlan (host_plan s card i block ranges b buffer) code e made left filled gave → (code ≡ 0 → ⊥)
      → (e ≡ s) × (made ≡ b) × (left ≡ card) × (filled ≡ ranges) × (gave ≡ buffer)
  pub put_refused : (u : ℕ) (tag : List ℕ) (code : ℕ) (e made left : List ℕ) → HostsPut (host_put s b card u tag) code e made left
      → (code ≡ 0 → ⊥) → (e ≡ s) × (made ≡ b) × (left ≡ card)

-- Of pat_write_journalled and pat_recover that were given s as the anchor, and a card.
pub record JournalTrip (s card : List ℕ) : Type 0 where
  -- any journalled write leaves bytes that stand for the outcome's anchor, an accepted one also for the anchor that is stored first, and a
  -- recovery leaves those that it was given
  pub write-stored : length s ≡ anchor_bytes → (r : List ℕ) → length r ≡ anchor_bytes → (i : ℕ) (block ranges journal : List ℕ) (code : ℕ)
      (e raised left filled kept : List ℕ)
      → HostsJournalled (host_journalled s r card i block ranges journal) code e raised left filled kept →
      let o = journalled (cmac_of (anchor_of s).key) (anchor_of s) card i block ranges journal in
      Stands e o.call.anchor × (code ≡ 0 → Stands raised o.raised)
  pub recovery-stored : (journal : List ℕ) (code : ℕ) (e left : List ℕ) → Hosts (host_recovery s card journal) code e left [] → e ≡ s
  -- the answers are those of the write and of the recovery as one number, and card, ranges and journal are as these leave them
  pub write-told : length s ≡ anchor_bytes → (r : List ℕ) → length r ≡ anchor_bytes → (i : ℕ) (block ranges journal : List ℕ) (code : ℕ)
      (e raised left filled kept : List ℕ)
      → HostsJournalled (host_journalled s r card i block ranges journal) code e raised left filled kept →
      let o = journalled (cmac_of (anchor_of s).key) (anchor_of s) card i block ranges journal in
      (code ≡ code_of o.call.answer) × (left ≡ o.call.card) × (filled ≡ o.call.lent) × (kept ≡ o.journal)
  pub recovery-told : length s ≡ anchor_bytes → (journal : List ℕ) (code : ℕ) (e left : List ℕ)
      → Hosts (host_recovery s card journal) code e left []
      → Codes (recovered (cmac_of (anchor_of s).key) (anchor_of s) card journal) code (anchor_of e) left []
  -- a refused one leaves every byte as it was, whatever the lengths
  pub write-refused : (r : List ℕ) (i : ℕ) (block ranges journal : List ℕ) (code : ℕ) (e raised left filled kept : List ℕ)
      → HostsJournalled (host_journalled s r card i block ranges journal) code e raised left filled kept → (code ≡ 0 → ⊥)
      → (e ≡ s) × (raised ≡ r) × (left ≡ card) × (filled ≡ ranges) × (kept ≡ journal)
  pub recovery-refused : (journal : List ℕ) (code : ℕ) (e left : List ℕ) → Hosts (host_recovery s card journal) code e left []
      → (code ≡ 0 → ⊥) → (e ≡ s) × (left ≡ card)
