-- What is tagged, both ways, so that a forgery is no empty word: a card that nobody touched shows tagged messages alone.
use Rattle.std.specs.Prelude.{ℕ, ◌+◌, ◌/◌, ◌^◌, ◌<◌, ◌≡◌, true, ◌⊎◌, length}
use mathlib.Core.List.{List, [], ◌∷◌, ◌++◌, Memᴰ}
use Rattle.std.proofs.Math.Option.{none, some}
use Rattle.tree.specs.Layout.{IsNode, card_length}
use Rattle.tree.specs.Nodes.{path_node}
use Rattle.tree.specs.Labels.{message, blank_labels, written_labels}
use Rattle.tree.specs.Limits.{first_failing}
use Rattle.tree.specs.Calls.{Call, read, write, check, wipe, is_write, tagged}
use Rattle.tree.specs.Card.{written}
use Rattle.journal.specs.Journal.{journal_message}
use Rattle.tree.specs.declared.Anchor.{Anchor}
use Rattle.tree.specs.declared.Refusal.{Refusal}
use Rattle.tree.specs.Answer.{Whole, Refused}
use Rattle.replay.specs.Places.{Place}
use Rattle.replay.specs.Array.{zeroed}
use Rattle.plan.specs.Places.{plan_nodes}
use Rattle.plan.specs.Split.{Given, planned, put}
use Rattle.plan.specs.Puts.{PutStep, Going, begun, after_all_puts}
use Rattle.plan.specs.Orders.{Rearranged, returned}
use Rattle.plan.specs.Rule.{Waits}
use Rattle.replay.specs.Run.{Fate, unheard, lost, stood, Step, call, split, attempt, card_of, call_of, State, limits_of, new_tags, result}
use Rattle.replay.specs.Run.{stands, next, after}
use Rattle.replay.specs.Claim.{GivenLeft, ChecksTagged, Complete, Untouched, Accepted, Stands, AgreesHere, known, Everywhere}
use Rattle.replay.specs.Claim.{AllComplete}
use Rattle.replay.specs.Claim.{Agreement, Forged, Forgery, Faithful, Demand3}

-- m is the message of a node of the blank card of depth n whose nonces are all t: a format tags these at 0, a wipe at its new root nonce
pub record BlankTags (n t : ℕ) (m : List ℕ) : Type 0 where
  pub node : ℕ
  pub is-node : IsNode n node
  pub is : m ≡ message (blank_labels n t) node

-- m is the new message of a child of one of u_0 to u_(n-1), after a write of a block on a card; t is the root nonce that the card was read
-- with, and r the last nonce used
pub record WriteTags (n t r : ℕ) (card : List ℕ) (i : ℕ) (block m : List ℕ) : Type 0 where
  pub node : ℕ
  pub level : ℕ
  pub high : level < n
  pub child : node / 2 ≡ path_node n i level
  pub is : m ≡ message (written_labels n t r card i block) node

-- an accepted call, given the anchor a, tags m
abbrev pub CallTags : Anchor → List ℕ → Call → List ℕ → Type 0
CallTags a card (read i buffer) m = ⊥
CallTags a card (write i block ranges) m = WriteTags a.depth a.root.0 a.reserved.0 card i block m
CallTags a card check m = ⊥
CallTags a card wipe m = BlankTags a.depth (a.reserved.0 + a.depth) m

-- m is the message of the journal of a write, for its new root nonce and the card that it leaves
abbrev pub JournalTags : (List ℕ → List ℕ) → Anchor → List ℕ → ℕ → List ℕ → List ℕ → Type 0
JournalTags F a card i block m =
    m ≡ journal_message a.depth (a.reserved.0 + a.depth) i (written F a.depth a.root.0 a.reserved.0 card i block)

-- An accepted step tags m: what its call does, and of an attempt whose raised anchor stood the journal's message besides. An attempt cut
-- before that tags nothing.
abbrev pub StepTags : (List ℕ → List ℕ) → Anchor → Step → List ℕ → Type 0
StepTags F a (call card c) m = CallTags a card c m
StepTags F a (split card i block ranges puts) m = CallTags a card (write i block ranges) m
StepTags F a (attempt card i block ranges journal unheard) m = ⊥
StepTags F a (attempt card i block ranges journal lost) m = CallTags a card (write i block ranges) m ⊎ JournalTags F a card i block m
StepTags F a (attempt card i block ranges journal stood) m = CallTags a card (write i block ranges) m ⊎ JournalTags F a card i block m

module _ (F : List ℕ → List ℕ) (s₀ : State) where
  -- every call that stands, but a wipe, had an untouched card
  abbrev pub Honest : List Step → Type 0
  Honest xs = Everywhere F s₀ xs (λ s x. Stands F s.store x → (call_of x ≡ wipe → ⊥) → Untouched F s.store x)

  -- an accepted step of the list tags m
  pub record ByCall (xs : List Step) (m : List ℕ) : Type 0 where
    pub place : Place xs
    pub accepted : Accepted F (known F s₀ place).store place.item
    pub tags : StepTags F (known F s₀ place).store.anchor place.item m

  -- Of a list of calls after a format of depth n.
  pub record Unforged (n : ℕ) (xs : List Step) : Type 0 where
    -- the format's messages and those of the accepted calls are tagged, and nothing else is
    pub format-tagged : (m : List ℕ) → BlankTags n 0 m → Memᴰ m (after F s₀ xs).tagged
    pub call-tagged : (m : List ℕ) → ByCall xs m → Memᴰ m (after F s₀ xs).tagged
    pub nothing-else : (m : List ℕ) → Memᴰ m (after F s₀ xs).tagged → BlankTags n 0 m ⊎ ByCall xs m
    -- what an accepted call tags is what its outcome counts as new tags, in that order; of a split write the engines count them
    pub counted : (p : Place xs) (card : List ℕ) (c : Call) → p.item ≡ call card c → Accepted F (known F s₀ p).store p.item
        → new_tags F (known F s₀ p).store p.item ≡ tagged (known F s₀ p).store.anchor card c
    -- where every write that stands since the last accepted wipe before a call had an untouched card, and so has the call, it checks tagged
    -- messages alone, and agrees, whatever was forged before that wipe
    pub checked : (p : Place xs) → Faithful F s₀ p.before → GivenLeft (known F s₀ p).store p.item
        → Accepted F (known F s₀ p).store p.item → ChecksTagged (known F s₀ p) p.item
    pub agrees : (p : Place xs) → Faithful F s₀ p.before → GivenLeft (known F s₀ p).store p.item
        → AgreesHere F (known F s₀ p) p.item
    -- and it is accepted where none of its limits fails
    pub accepts : (p : Place xs) → Faithful F s₀ p.before → GivenLeft (known F s₀ p).store p.item
        → first_failing (limits_of (known F s₀ p).store.anchor p.item) ≡ none
        → Accepted F (known F s₀ p).store p.item
    -- where one fails, any step is refused for the first that does, whatever was before
    pub limited : (s : State) (x : Step) (r : Refusal) → first_failing (limits_of s.store.anchor x) ≡ some r
        → (result F s.store x).answer ≡ Refused r
    -- where every call that stands, but a wipe, had an untouched card there is no forgery, and the agreement holds outright
    pub unforged : Honest xs → Forgery F s₀ xs → ⊥
    pub agreed : Honest xs → Agreement F s₀ xs
    -- a step that checks messages alone which were tagged before it is no forgery, whatever its card
    pub checks-unforged : (s : State) (x : Step) → ChecksTagged s x → Forged F s x → ⊥
    -- while nonces last, a wipe of any card of the right length is accepted after the list, whatever was done before
    pub wipes : (card : List ℕ) → length card ≡ card_length n → (after F s₀ xs).store.anchor.reserved.0 + n < 2 ^ 64
        → Accepted F (after F s₀ xs).store (call card wipe)

-- An accepted wipe stands where the format did: the array is empty again, and demand 3 holds anew of the calls behind it, whatever was
-- forged before it.
pub record Afresh (F : List ℕ → List ℕ) (s₀ : State) (n : ℕ) {xs : List Step} (p : Place xs) : Type 0 where
  pub emptied : (next F (known F s₀ p) p.item).store.array ≡ zeroed (2 ^ n)
  pub demand : Demand3 F (next F (known F s₀ p) p.item) p.behind

-- The put x, given the anchor and the plan as last returned, is accepted. It is `Placed`, said again here so that a reader has all that is
-- asked below, and so that none of it moves where `Placed` does.
abbrev pub Accepts : Going → PutStep → Type 0
Accepts g x = (put g.anchor g.plan x.card x.node x.tag).answer ≡ Whole

-- Such lists are as many as the paper allows: one may go on with any call on the card as last left, with any refused or lost one on any
-- card, and with a wipe of any card; and where a wipe is accepted, it frees the calls before it. Every call and every attempt is complete.
-- So is a split write, on any cards and with any refused puts, whose accepted puts had their messages' tags; any whose plan still waits for
-- a tag; and any whose plan is refused. It is untouched where the plan and every accepted put had the card as the step before left it, and
-- stands where the plan waits for no tag more. A plan with puts of its messages' tags in any order, each on the card as the step before
-- left it, is all three.
pub record GoesOn (F : List ℕ → List ℕ) (s₀ : State) : Type 0 where
  pub honest-none : Honest F s₀ []
  pub honest-more : (xs : List Step) (x : Step) → Honest F s₀ xs
      → (stands F (after F s₀ xs).store x ≡ true → Untouched F (after F s₀ xs).store x) → Honest F s₀ (xs ++ (x ∷ []))
  pub honest-wiped : (xs : List Step) (card : List ℕ) → Honest F s₀ xs → Honest F s₀ (xs ++ (call card wipe ∷ []))
  -- a call has an untouched card where it is the one as last left, whatever the call; and that is all which is asked of the step itself
  pub untouched-call : (xs : List Step) (c : Call) →
      let s = (after F s₀ xs).store in
      Untouched F s (call s.left c)
  pub given-left : (xs : List Step) (x : Step) → card_of x ≡ (after F s₀ xs).store.left → GivenLeft (after F s₀ xs).store x
  pub faithful-none : Faithful F s₀ []
  pub faithful-more : (xs : List Step) (x : Step) → Faithful F s₀ xs
      → (stands F (after F s₀ xs).store x ≡ true → is_write (call_of x) ≡ true → Untouched F (after F s₀ xs).store x)
      → Faithful F s₀ (xs ++ (x ∷ []))
  pub faithful-wiped : (xs : List Step) (card : List ℕ)
      → (result F (after F s₀ xs).store (call card wipe)).answer ≡ Whole
      → Faithful F s₀ (xs ++ (call card wipe ∷ []))
  pub complete-none : AllComplete F s₀ []
  pub complete-more : (xs : List Step) (x : Step) → AllComplete F s₀ xs → Complete F (after F s₀ xs).store x
      → AllComplete F s₀ (xs ++ (x ∷ []))
  pub complete-call : (xs : List Step) (card : List ℕ) (c : Call) → Complete F (after F s₀ xs).store (call card c)
  pub complete-split : (xs : List Step) (card : List ℕ) (i : ℕ) (block ranges : List ℕ) (puts : List PutStep) →
      let s = (after F s₀ xs).store in
      let o = planned F s.anchor card i block ranges in
      (o.call.answer ≡ Whole
      → (p : Place puts) → Accepts (after_all_puts (begun o) p.before) p.item
      → (m : Given) → Memᴰ m o.messages → m.node ≡ p.item.node → p.item.tag ≡ F m.message)
      → Complete F s (split card i block ranges puts)
  -- and so is any plan that still waits for a tag, whatever its puts were
  pub complete-lost : (xs : List Step) (card : List ℕ) (i : ℕ) (block ranges : List ℕ) (puts : List PutStep) (u : ℕ) →
      let s = (after F s₀ xs).store in
      let o = planned F s.anchor card i block ranges in
      (o.call.answer ≡ Whole → Waits s.anchor.depth (after_all_puts (begun o) puts).plan u)
      → Complete F s (split card i block ranges puts)
  -- a split write stands where its plan is accepted and waits for no tag more, and an attempt where it is accepted and was not cut before
  pub stands-split : (xs : List Step) (card : List ℕ) (i : ℕ) (block ranges : List ℕ) (puts : List PutStep) →
      let s = (after F s₀ xs).store in
      let o = planned F s.anchor card i block ranges in
      o.call.answer ≡ Whole → ((u : ℕ) → Waits s.anchor.depth (after_all_puts (begun o) puts).plan u → ⊥)
      → stands F s (split card i block ranges puts) ≡ true
  pub stands-attempt : (xs : List Step) (card : List ℕ) (i : ℕ) (block ranges journal : List ℕ) →
      let s = (after F s₀ xs).store in
      let x = attempt card i block ranges journal stood in
      (result F s x).answer ≡ Whole → stands F s x ≡ true
  -- every attempt is complete, however far it came, and untouched where it had the card as last left
  pub complete-attempt : (xs : List Step) (card : List ℕ) (i : ℕ) (block ranges journal : List ℕ) (fate : Fate)
      → Complete F (after F s₀ xs).store (attempt card i block ranges journal fate)
  pub untouched-attempt : (xs : List Step) (i : ℕ) (block ranges journal : List ℕ) (fate : Fate) →
      let s = (after F s₀ xs).store in
      Untouched F s (attempt s.left i block ranges journal fate)
  pub untouched-split : (xs : List Step) (i : ℕ) (block ranges : List ℕ) (puts : List PutStep) →
      let s = (after F s₀ xs).store in
      let o = planned F s.anchor s.left i block ranges in
      ((p : Place puts) →
      let g = after_all_puts (begun o) p.before in
      Accepts g p.item → p.item.card ≡ g.left)
      → Untouched F s (split s.left i block ranges puts)
  pub in-turn : (xs : List Step) (i : ℕ) (block ranges us : List ℕ) →
      let s = (after F s₀ xs).store in
      let x = split s.left i block ranges (returned F s.anchor s.left i block ranges us) in
      Rearranged us (plan_nodes s.anchor.depth i)
      → Complete F s x × Untouched F s x × ((result F s x).answer ≡ Whole → stands F s x ≡ true)
