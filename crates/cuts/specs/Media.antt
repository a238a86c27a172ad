-- What goes out to the media, step by step, and what they may hold where the power goes (document 02, T-05).
use Rattle.std.specs.Prelude.{ℕ, ◌+◌, ◌≤◌, ◌<◌, ◌≡◌, ◌⊎◌, cond, eqb, length}
use mathlib.Core.List.{List, [], ◌∷◌, Memᴰ}
use Rattle.words.specs.Bytes.{at}
use Rattle.tree.specs.Ranges.{Range, ranges_of}
use Rattle.tree.specs.declared.Anchor.{Anchor}
use Rattle.journal.specs.Journal.{gathered, scattered}
use Rattle.journal.specs.Journalled.{Journalled}
use Rattle.journal.specs.Recovery.{pending, recovered}
use Rattle.replay.specs.Places.{Place}
use Rattle.replay.specs.Run.{Fate, unheard, lost, stood}

-- what the chip, the journal's place and the card hold
pub record Media : Type 0 where
  pub anchor : Anchor
  pub journal : List ℕ
  pub card : List ℕ

-- What goes out in one step: an anchor, a journal, or the bytes of a card in some ranges.
pub data Part : Type 0 where
  anchor_out : Anchor → Part
  journal_out : List ℕ → Part
  ranges_out : List Range → (card : List ℕ) → Part

-- the media when it is out
abbrev pub out : Part → Media → Media
out (anchor_out a) m = record { anchor = a; journal = m.journal; card = m.card }
out (journal_out j) m = record { anchor = m.anchor; journal = j; card = m.card }
out (ranges_out rs card) m = record { anchor = m.anchor; journal = m.journal; card = scattered rs (gathered rs card) m.card }

abbrev pub all_out : List Part → Media → Media
all_out [] m = m
all_out (p ∷ ps) m = all_out ps (out p m)

-- "a journalled write goes out in four steps: the anchor with H raised, the journal, the anchor with the new T, the ranges"
abbrev pub four_steps : Journalled → ℕ → List Part
four_steps o i =
    anchor_out o.raised ∷ journal_out o.journal ∷ anchor_out o.call.anchor
    ∷ ranges_out (ranges_of o.call.anchor.depth i) o.call.card ∷ []

-- a recovery goes out in one: the ranges that the journal has new bytes for
abbrev pub one_step : (List ℕ → List ℕ) → Media → List Part
one_step F m =
    ranges_out (pending F m.anchor.depth m.anchor.root.0 m.journal) (recovered F m.anchor m.card m.journal).card ∷ []

-- What the media may hold where the power goes within a step

-- no range has byte j
abbrev pub Outside : ℕ → List Range → Type 0
Outside j rs = (r : Range) → Memᴰ r rs → (j < r.start) ⊎ (r.start + r.count ≤ j)

-- of a journal that goes out every byte is old, new or junk, and so any; "bytes not being written stand"
pub record TornJournal (m w : Media) : Type 0 where
  pub anchor : w.anchor ≡ m.anchor
  pub long : length w.journal ≡ length m.journal
  pub card : w.card ≡ m.card

-- and of ranges every byte in them
pub record TornRanges (rs : List Range) (m w : Media) : Type 0 where
  pub anchor : w.anchor ≡ m.anchor
  pub journal : w.journal ≡ m.journal
  pub long : length w.card ≡ length m.card
  pub stands : (j : ℕ) → Outside j rs → at w.card j ≡ at m.card j

-- "an anchor is replaced whole"
abbrev pub Torn : Part → Media → Media → Type 0
Torn (anchor_out a) m w = (w ≡ m) ⊎ (w ≡ out (anchor_out a) m)
Torn (journal_out j) m w = TornJournal m w
Torn (ranges_out rs card) m w = TornRanges rs m w

-- The power goes: the steps before one are out, that one is torn, and of those behind it nothing is out.
pub record Cut (ps : List Part) (m w : Media) : Type 0 where
  pub place : Place ps
  pub torn : Torn place.item (all_out place.before m) w

-- How far an attempt came, by the anchor b that the chip has then, where it was a: not to its raised H, to that but not to its new T, or
-- to its new T.
abbrev pub fate_of : Anchor → Anchor → Fate
fate_of a b = cond (eqb b.reserved.0 a.reserved.0) unheard (cond (eqb b.root.0 a.root.0) lost stood)
