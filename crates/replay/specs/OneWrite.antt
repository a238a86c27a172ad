-- A plan whose puts fill it is one write for demand 3, and so is an attempt that stood; a lost one tags its messages and moves nothing but
-- the reserved nonce.
use Rattle.std.specs.Prelude.{ℕ, ◌≡◌, true, ◌⊎◌}
use mathlib.Core.List.{List, [], ◌∷◌, ◌++◌, Memᴰ}
use Rattle.tree.specs.Calls.{write, tagged, raise}
use Rattle.journal.specs.Journal.{message_of}
use Rattle.journal.specs.Journalled.{journalled}
use Rattle.tree.specs.Answer.{Whole}
use Rattle.plan.specs.Split.{Given, planned}
use Rattle.plan.specs.Puts.{PutStep, begun, after_all_puts, EachPut, PutUntouched}
use Rattle.replay.specs.Run.{Fate, unheard, lost, stood, Step, call, split, attempt, State, heard, result, new_tags, next}
use Rattle.replay.specs.Tagged.{StepTags, JournalTags}

-- Two steps answer and list the same, and move what is known alike, but for the card and the messages tagged: the anchor and the array.
pub record Alike (F : List ℕ → List ℕ) (s : State) (x y : Step) : Type 0 where
  pub answered : (result F s.store x).answer ≡ (result F s.store y).answer
  pub listed : (result F s.store x).lent ≡ (result F s.store y).lent
  pub anchored : (next F s x).store.anchor ≡ (next F s y).store.anchor
  pub moved : (next F s x).store.array ≡ (next F s y).store.array

-- So are a split write and the write, and they tag the same messages. The card as last left is the one after the last put; and it is the
-- write's where each accepted put had the card as the step before left it, whatever refused ones stand among them. It is a plan that is
-- refused, or whose puts fill it.
pub record OneWrite (F : List ℕ → List ℕ) (s : State) (card : List ℕ) (i : ℕ) (block ranges : List ℕ) (puts : List PutStep) : Type 0 where
  pub alike : Alike F s (split card i block ranges puts) (call card (write i block ranges))
  pub tagged : (m : List ℕ) → Memᴰ m (next F s (split card i block ranges puts)).tagged
      → Memᴰ m (next F s (call card (write i block ranges))).tagged
  pub all-tagged : (m : List ℕ) → Memᴰ m (next F s (call card (write i block ranges))).tagged
      → Memᴰ m (next F s (split card i block ranges puts)).tagged
  pub after_puts : (result F s.store (split card i block ranges puts)).answer ≡ Whole
      → (next F s (split card i block ranges puts)).store.left
      ≡ (after_all_puts (begun (planned F s.store.anchor card i block ranges)) puts).left
  pub left : EachPut PutUntouched (begun (planned F s.store.anchor card i block ranges)) puts
      → (next F s (split card i block ranges puts)).store.left ≡ (next F s (call card (write i block ranges))).store.left

-- What a lost write leaves: array, root nonce and the card as last left stay, its nonces are reserved, and what it tags is tagged.
pub record LostWrite (F : List ℕ → List ℕ) (s : State) (x : Step) : Type 0 where
  pub anchored : (next F s x).store.anchor ≡ raise s.store.anchor
  pub array-kept : (next F s x).store.array ≡ s.store.array
  pub left-kept : (next F s x).store.left ≡ s.store.left
  pub tagged : (m : List ℕ) → Memᴰ m (next F s x).tagged → StepTags F s.store.anchor x m ⊎ Memᴰ m s.tagged
  pub all-tagged : (m : List ℕ) → StepTags F s.store.anchor x m ⊎ Memᴰ m s.tagged → Memᴰ m (next F s x).tagged

-- A plan that its puts do not fill leaves that, and each message that it gave is tagged.
pub record LostPlan (F : List ℕ → List ℕ) (s : State) (card : List ℕ) (i : ℕ) (block ranges : List ℕ) (puts : List PutStep) : Type 0 where
  pub leaves : LostWrite F s (split card i block ranges puts)
  pub gave-tagged : (m : Given) → Memᴰ m (planned F s.store.anchor card i block ranges).messages
      → Memᴰ m.message (next F s (split card i block ranges puts)).tagged

-- An accepted attempt that stood is the write, with the write's card, and its journal's message is tagged besides.
pub record StoodWrite (F : List ℕ → List ℕ) (s : State) (card : List ℕ) (i : ℕ) (block ranges journal : List ℕ) : Type 0 where
  pub alike : Alike F s (attempt card i block ranges journal stood) (call card (write i block ranges))
  pub left : (next F s (attempt card i block ranges journal stood)).store.left ≡ (next F s (call card (write i block ranges))).store.left
  pub tagged : (m : List ℕ) → Memᴰ m (next F s (attempt card i block ranges journal stood)).tagged
      → JournalTags F s.store.anchor card i block m ⊎ Memᴰ m (next F s (call card (write i block ranges))).tagged
  pub all-tagged : (m : List ℕ) → JournalTags F s.store.anchor card i block m ⊎ Memᴰ m (next F s (call card (write i block ranges))).tagged
      → Memᴰ m (next F s (attempt card i block ranges journal stood)).tagged

-- "for the array a cut attempt is an accepted write exactly when its new T stood", and one "cut before its raised H stood has marked
-- nothing"; a refused one changes nothing, however far it came
pub record OneAttempt (F : List ℕ → List ℕ) (s : State) (card : List ℕ) (i : ℕ) (block ranges journal : List ℕ) : Type 0 where
  pub refused : (fate : Fate) → ((result F s.store (attempt card i block ranges journal fate)).answer ≡ Whole → ⊥)
      → next F s (attempt card i block ranges journal fate) ≡ s
  pub unheard-still : next F s (attempt card i block ranges journal unheard) ≡ s
  -- lost or not, it tags what the write counts as new tags, in that order, and then the message of the journal that it fills
  pub tags : (fate : Fate) → heard fate ≡ true → (result F s.store (attempt card i block ranges journal fate)).answer ≡ Whole
      → new_tags F s.store (attempt card i block ranges journal fate)
      ≡ tagged s.store.anchor card (write i block ranges)
      ++ (message_of s.store.anchor.depth (journalled F s.store.anchor card i block ranges journal).journal ∷ [])
  pub lost-leaves : (result F s.store (attempt card i block ranges journal lost)).answer ≡ Whole
      → LostWrite F s (attempt card i block ranges journal lost)
  pub stood-write : (result F s.store (attempt card i block ranges journal stood)).answer ≡ Whole
      → StoodWrite F s card i block ranges journal
