-- Demand 3, as it is claimed of a list of calls, split writes and attempts. Every one is shown by its place in the list.
use Rattle.std.specs.Prelude.{ℕ, ◌+◌, ◌^◌, ◌<◌, ◌≡◌, true, ◌⊎◌}
use mathlib.Core.List.{List, Memᴰ}
use Rattle.tree.specs.Layout.{label, tag}
use Rattle.tree.specs.Labels.{message, labels}
use Rattle.tree.specs.Calls
use Rattle.tree.specs.Calls.{checks, is_write}
use Rattle.tree.specs.declared.Node.{Node}
use Rattle.tree.specs.Answer.{Whole, Wrong}
use Rattle.plan.specs.Split.{planned}
use Rattle.plan.specs.Puts.{begun, EachPut, PutUntouched, PutRight}
use Rattle.replay.specs.Array.{Told, read, write, check, wipe, Array, block_at}
use Rattle.replay.specs.Places.{Place, Behind}
use Rattle.replay.specs.Run.{Step, call, split, attempt, card_of, call_of, told, Store, State, fills, result, stands, after}

-- What a call on a card of depth n showed is what the array, told of the call, holds: the bytes that a read gave, and every block on the
-- card of a check.
abbrev pub Agrees : ℕ → Array → List ℕ → List ℕ → Told → Type 0
Agrees n array card given (read i) = given ≡ block_at array i
Agrees n array card given (write i block) = Unit {0}
Agrees n array card given check = (i : ℕ) → i < 2 ^ n → label n card (2 ^ n + i) ≡ block_at array i
Agrees n array card given wipe = Unit {0}

-- the call, or the plan, is given the card as last left
abbrev pub GivenLeft : Store → Step → Type 0
GivenLeft s x = card_of x ≡ s.left

-- the message of node u as a call or a plan sees it
abbrev pub seen : Store → Step → ℕ → List ℕ
seen s x u = message (labels s.anchor.depth s.anchor.root.0 (card_of x)) u

-- every message that it checks was tagged before it
abbrev pub ChecksTagged : State → Step → Type 0
ChecksTagged s x = (u : ℕ) → Memᴰ u (checks s.store.anchor.depth (call_of x)) → Memᴰ (seen s.store x u) s.tagged

module _ (F : List ℕ → List ℕ) where
  -- What is asked of an accepted plan whose puts fill it: every accepted put had the tag of its message. A plan left unfinished is lost, and
  -- nothing is asked of its puts.
  abbrev pub Complete : Store → Step → Type 0
  Complete s (call card c) = Unit {0}
  Complete s (split card i block ranges puts) =
      let o = planned F s.anchor card i block ranges in
      o.call.answer ≡ Whole → fills o puts ≡ true → EachPut (PutRight F o.messages) (begun o) puts
  Complete s (attempt card i block ranges journal fate) = Unit {0}

  -- the card is the one as last left, at the plan and at each of its puts
  abbrev pub Untouched : Store → Step → Type 0
  Untouched s (call card c) = card ≡ s.left
  Untouched s (split card i block ranges puts) =
      (card ≡ s.left) × EachPut PutUntouched (begun (planned F s.anchor card i block ranges)) puts
  Untouched s (attempt card i block ranges journal fate) = card ≡ s.left

  abbrev pub Accepted : Store → Step → Type 0
  Accepted s x = (result F s x).answer ≡ Whole

  abbrev pub Stands : Store → Step → Type 0
  Stands s x = stands F s x ≡ true

  -- if it is accepted, it agrees with the array
  abbrev pub AgreesHere : State → Step → Type 0
  AgreesHere s x =
      Accepted s.store x → Agrees s.store.anchor.depth s.store.array (card_of x) (result F s.store x).lent (told (call_of x))

  -- it was accepted, and stands, and checked a message that nothing before it tagged
  pub record Forged (s : State) (x : Step) : Type 0 where
    pub accepted : Accepted s.store x
    pub standing : Stands s.store x
    pub node : ℕ
    pub checked : Memᴰ node (checks s.store.anchor.depth (call_of x))
    pub right : F (seen s.store x node) ≡ tag s.store.anchor.depth (card_of x) node
    pub untagged : Memᴰ (seen s.store x node) s.tagged → ⊥

  -- if it is a write that stands, it had an untouched card
  abbrev pub WroteUntouched : State → Step → Type 0
  WroteUntouched s x = Stands s.store x → is_write (call_of x) ≡ true → Untouched s.store x

  -- it is an accepted wipe
  pub record AcceptedWipe (s : Store) (x : Step) : Type 0 where
    pub accepted : Accepted s x
    pub is-wipe : call_of x ≡ Calls.wipe

module _ (F : List ℕ → List ℕ) (s₀ : State) where
  -- what is known before a call
  abbrev pub known : {xs : List Step} → Place xs → State
  known p = after F s₀ p.before

  -- of every step of a list
  abbrev pub Everywhere : List Step → (State → Step → Type 0) → Type 0
  Everywhere xs P = (p : Place xs) → P (known p) p.item

  -- every split write that its puts fill had the tags of its messages
  abbrev pub AllComplete : List Step → Type 0
  AllComplete xs = Everywhere xs (λ s x. Complete F s.store x)

  -- every accepted read and check agrees with the array
  abbrev pub Agreement : List Step → Type 0
  Agreement xs = Everywhere xs (AgreesHere F)

  -- a call of the list forged
  pub record Forgery (xs : List Step) : Type 0 where
    pub place : Place xs
    pub forged : Forged F (known place) place.item

  -- no accepted wipe stands behind that call
  abbrev pub Unwiped : {xs : List Step} → Place xs → Type 0
  Unwiped {xs} p = (q : Place xs) → Behind p q → AcceptedWipe F (known q).store q.item → ⊥

  -- since the last accepted wipe, or the format if there is none, every write that stands had an untouched card
  abbrev pub Faithful : List Step → Type 0
  Faithful xs = (p : Place xs) → Unwiped p → WroteUntouched F (known p) p.item

  -- where that is so of the calls before one, and it is given the card as last left, it is not refused for a tag
  abbrev pub Quiet : List Step → Type 0
  Quiet xs =
      (p : Place xs) → Faithful p.before → GivenLeft (known p).store p.item
      → (u : Node) → (result F (known p).store p.item).answer ≡ Wrong u → ⊥

  pub record Demand3 (xs : List Step) : Type 0 where
    pub safe : Agreement xs ⊎ Forgery xs
    pub quiet : Quiet xs
