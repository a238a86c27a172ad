-- Lists of attempts and recoveries, each whole or cut anywhere, and whole calls and split writes between them, after a format.
use Rattle.std.specs.Prelude.{ℕ, ◌≡◌, true, cond}
use mathlib.Core.List.{List, [], ◌∷◌, ◌++◌}
use Rattle.tree.specs.Answer.{Whole, is_whole}
use Rattle.tree.specs.Calls.{Call, renews, Outcome, outcome, format}
use Rattle.journal.specs.Journalled.{Journalled, journalled}
use Rattle.journal.specs.Recovery.{recovered}
use Rattle.plan.specs.Split.{Planned, planned}
use Rattle.plan.specs.Puts.{PutStep, begun, EachPut, PutUntouched, PutRight}
use Rattle.replay.specs.Places.{Place}
use Rattle.replay.specs.Run.{Step, call, split, attempt, State, split_outcome, fills, start, after}
use Rattle.cuts.specs.Media.{Media, all_out, four_steps, one_step, Cut, fate_of}

-- an item went to its end, or it was cut, and then the media are these
pub data Ending : Type 0 where
  whole : Ending
  cut : Media → Ending

-- An attempt, a journalled write that is lent the journal on the media; a recovery; a call; or a split write. Each has the card on the
-- media. Of a plain call and a split write that is cut nothing is claimed: they are whole.
pub data Item : Type 0 where
  attempting : (i : ℕ) (block ranges : List ℕ) → Ending → Item
  recovering : Ending → Item
  calling : Call → Item
  splitting : (i : ℕ) (block ranges : List ℕ) (puts : List PutStep) → Item

pub record World : Type 0 where
  pub media : Media
  -- what demand 3 knows after the steps so far
  pub known : State

-- the media behind an item that was to leave m
abbrev pub ended : Ending → Media → Media
ended whole m = m
ended (cut w) m = w

-- with the anchor and the card that a call left
abbrev pub left_by : Media → Outcome → Media
left_by m o = record { anchor = o.anchor; journal = m.journal; card = o.card }

module _ (F : List ℕ → List ℕ) where
  -- What each does with what the media hold

  abbrev pub tried : Media → ℕ → List ℕ → List ℕ → Journalled
  tried m i block ranges = journalled F m.anchor m.card i block ranges m.journal

  abbrev pub recovery : Media → Outcome
  recovery m = recovered F m.anchor m.card m.journal

  abbrev pub laid_out : Media → ℕ → List ℕ → List ℕ → Planned
  laid_out m i block ranges = planned F m.anchor m.card i block ranges

  -- The media behind an item. Refused, an attempt or a recovery changes nothing, whatever the cut.
  unfoldable pub media_after : Media → Item → Media
  media_after m (attempting i block ranges e) =
      let o = tried m i block ranges in cond (is_whole o.call.answer) (ended e (all_out (four_steps o i) m)) m
  media_after m (recovering e) = let o = recovery m in cond (is_whole o.answer) (ended e (left_by m o)) m
  media_after m (calling c) = left_by m (outcome F m.anchor m.card c)
  media_after m (splitting i block ranges puts) = left_by m (split_outcome (laid_out m i block ranges) puts)

  -- The step of demand 3 that an item is. How far an attempt came is read off the chip. A recovery is none.
  abbrev pub steps_of : Media → Item → List Step
  steps_of m (attempting i block ranges e) =
      attempt m.card i block ranges m.journal (fate_of m.anchor (media_after m (attempting i block ranges e)).anchor) ∷ []
  steps_of m (recovering e) = []
  steps_of m (calling c) = call m.card c ∷ []
  steps_of m (splitting i block ranges puts) = split m.card i block ranges puts ∷ []

  unfoldable pub next_world : World → Item → World
  next_world w x = record { media = media_after w.media x; known = after F w.known (steps_of w.media x) }

  unfoldable pub world_after : World → List Item → World
  world_after w [] = w
  world_after w (x ∷ xs) = world_after (next_world w x) xs

  -- the list of demand 3 that a list of items is
  unfoldable pub steps : World → List Item → List Step
  steps w [] = []
  steps w (x ∷ xs) = steps_of w.media x ++ steps (next_world w x) xs

  -- after a format, with any bytes as the journal
  unfoldable pub begins : List ℕ → ℕ → List ℕ → List ℕ → World
  begins key n card journal =
      let o = format F key n card in
      record { media = record { anchor = o.anchor; journal = journal; card = o.card }; known = start F key n card }

-- Which lists the claim is about

-- it was cut
abbrev pub WasCut : Item → Type 0
WasCut (attempting i block ranges whole) = ⊥
WasCut (attempting i block ranges (cut w)) = Unit {0}
WasCut (recovering whole) = ⊥
WasCut (recovering (cut w)) = Unit {0}
WasCut (calling c) = ⊥
WasCut (splitting i block ranges puts) = ⊥

-- it is an attempt, or another write, or a wipe
abbrev pub Writes : Item → Type 0
Writes (attempting i block ranges e) = Unit {0}
Writes (recovering e) = ⊥
Writes (calling c) = renews c ≡ true
Writes (splitting i block ranges puts) = Unit {0}

-- a finished recovery is among them
pub record Finished (xs : List Item) : Type 0 where
  pub place : Place xs
  pub is : place.item ≡ recovering whole

-- no cut among them is open: a finished recovery stands behind each
abbrev pub Settled : List Item → Type 0
Settled xs = (p : Place xs) → WasCut p.item → Finished p.behind

module _ (F : List ℕ → List ℕ) where
  -- what is asked of a split write whose plan is accepted: each accepted put had the tag of its message and the card as the step before
  -- left it, and the puts fill the plan
  pub record GoesThrough (o : Planned) (puts : List PutStep) : Type 0 where
    pub right : EachPut (PutRight F o.messages) (begun o) puts
    pub untouched : EachPut PutUntouched (begun o) puts
    pub filled : fills o puts ≡ true

  -- the cut of an accepted attempt or recovery is one of its steps
  abbrev pub Possible : Media → Item → Type 0
  Possible m (attempting i block ranges whole) = Unit {0}
  Possible m (attempting i block ranges (cut w)) =
      let o = tried F m i block ranges in o.call.answer ≡ Whole → Cut (four_steps o i) m w
  Possible m (recovering whole) = Unit {0}
  Possible m (recovering (cut w)) = (recovery F m).answer ≡ Whole → Cut (one_step F m) m w
  Possible m (calling c) = Unit {0}
  Possible m (splitting i block ranges puts) =
      let o = laid_out F m i block ranges in o.call.answer ≡ Whole → GoesThrough o puts

module _ (F : List ℕ → List ℕ) (w₀ : World) where
  -- the world before an item
  abbrev pub before : {xs : List Item} → Place xs → World
  before p = world_after F w₀ p.before

  -- "if a finished recovery stands between a cut and the next attempt", or the next write or wipe
  pub record Lawful (xs : List Item) : Type 0 where
    pub possible : (p : Place xs) → Possible F (before p).media p.item
    pub settled : (p : Place xs) → Writes p.item → Settled p.before
