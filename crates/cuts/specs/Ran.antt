-- The items as the code ran them: what each call was given is on the media, and what it gave back is as its contract has it.
use Rattle.std.specs.Prelude.{ℕ, ◌≡◌, cond, map}
use mathlib.Core.List.{List, [], ◌∷◌}
use Rattle.cmac.specs.Cmac.{cmac_of}
use Rattle.cmac.specs.Traced.{subkeys_count, cmac_count}
use Rattle.tree.specs.Ranges.{ranges_of}
use Rattle.tree.specs.Answer.{Answer, Whole, is_whole}
use Rattle.tree.specs.Calls.{Call, Gives}
use Rattle.tree.specs.declared.Anchor.{Anchor}
use Rattle.journal.specs.Journalled.{journalled, Journals}
use Rattle.journal.specs.Recovery.{pending, recovered}
use Rattle.replay.specs.Places.{Place}
use Rattle.replay.specs.Ran
use Rattle.replay.specs.Ran.{Back, PlanRan, PutRan, last_anchor, last_card}
use Rattle.cuts.specs.Media.{Media, Part, anchor_out, journal_out, ranges_out, all_out, four_steps, one_step}
use Rattle.cuts.specs.World
use Rattle.cuts.specs.World.{Ending, whole, Item, ended, tried, begins, world_after, before}
use Rattle.cuts.specs.Claim.{Recovers, IsList, Kept}

-- what a journalled write gave back: both anchors, the final one in `back`, and the journal as it left it
pub record Wrote : Type 0 where
  pub back : Back
  pub raised : Anchor
  pub journal : List ℕ

-- An attempt, and how it ended; a recovery, what it answered and the card that it left, and how it ended; a call; or a plan and its puts.
pub data RanItem : Type 0 where
  attempting : (i : ℕ) (block ranges : List ℕ) (w : Wrote) (e : Ending) → RanItem
  recovering : (answer : Answer) (left : List ℕ) (e : Ending) → RanItem
  calling : (c : Call) (back : Back) → RanItem
  splitting : (p : PlanRan) (qs : List PutRan) → RanItem

abbrev pub item_of : RanItem → Item
item_of (attempting i block ranges w e) = World.attempting i block ranges e
item_of (recovering answer left e) = World.recovering e
item_of (calling c back) = World.calling c
item_of (splitting p qs) = World.splitting p.index p.block p.ranges (map (λ (q : PutRan). q.step) qs)

abbrev pub items : List RanItem → List Item
items rs = map item_of rs

-- the four steps of what a journalled write gave back
abbrev pub steps_back : Wrote → ℕ → List Part
steps_back w i =
    anchor_out w.raised ∷ journal_out w.journal ∷ anchor_out w.back.anchor
    ∷ ranges_out (ranges_of w.back.anchor.depth i) w.back.card ∷ []

-- the step of a recovery that left the card so, on the media
abbrev pub step_back : (List ℕ → List ℕ) → Media → List ℕ → List Part
step_back F m left = ranges_out (pending F m.anchor.depth m.anchor.root.0 m.journal) left ∷ []

-- the media behind an item, by what it gave back
abbrev pub media_ran : Media → RanItem → Media
media_ran m (attempting i block ranges w e) = cond (is_whole w.back.answer) (ended e (all_out (steps_back w i) m)) m
media_ran m (recovering answer left e) =
    cond (is_whole answer) (ended e (record { anchor = m.anchor; journal = m.journal; card = left })) m
media_ran m (calling c back) = record { anchor = back.anchor; journal = m.journal; card = back.card }
media_ran m (splitting p qs) =
    record { anchor = last_anchor p.back.anchor qs; journal = m.journal; card = last_card p.back.card qs }

abbrev pub media_by : Media → List RanItem → Media
media_by m [] = m
media_by m (r ∷ rs) = media_by (media_ran m r) rs

-- what the contracts say of an item that was given what is on the media
abbrev pub Meets : Media → RanItem → Type 0
Meets m (attempting i block ranges w e) =
    let a = m.anchor in
    let b = w.back in
    Journals (subkeys_count a.key) (cmac_count a.key) (journalled (cmac_of a.key) a m.card i block ranges m.journal)
    b.answer b.count w.raised b.anchor b.card b.lent w.journal
Meets m (recovering answer left e) = Gives (recovered (cmac_of m.anchor.key) m.anchor m.card m.journal) answer m.anchor left []
Meets m (calling c back) = Ran.Meets m.anchor (Ran.call m.card c back)
Meets m (splitting p qs) = (p.card ≡ m.card) × Ran.Meets m.anchor (Ran.split p qs)

-- items one after another, each given what is on the media behind the one before it
abbrev pub History : Media → List RanItem → Type 0
History m [] = Unit {0}
History m (r ∷ rs) = Meets m r × History (media_ran m r) rs

-- a history of the items xs from the media m: there is one for every list
pub record Runs (m : Media) (xs : List Item) : Type 0 where
  pub ran : List RanItem
  pub met : History m ran
  pub are : items ran ≡ xs

-- Of items that ran after a format, whose list is lawful: the claim over cuts holds of their list; what they gave back goes out in the
-- definition's steps, in their order, so that a cut of the one is a cut of the other; the media are those that they left; and where the
-- claim's first half holds every finished recovery answered that it is whole, and left the card as last left.
pub record CutsOf (key : List ℕ) (n : ℕ) (card journal : List ℕ) (m : Media) (rs : List RanItem) : Type 0 where
  pub recovers : Recovers (cmac_of key) (begins (cmac_of key) key n card journal) (items rs)
  pub list : IsList (cmac_of key) (begins (cmac_of key) key n card journal) key n (items rs)
  pub steps : (p : Place rs) (i : ℕ) (block ranges : List ℕ) (w : Wrote) (e : Ending) → p.item ≡ attempting i block ranges w e
      → steps_back w i ≡ four_steps (tried (cmac_of key) (media_by m p.before) i block ranges) i
  pub recovery-step : (p : Place rs) (answer : Answer) (left : List ℕ) (e : Ending) → p.item ≡ recovering answer left e
      → step_back (cmac_of key) (media_by m p.before) left ≡ one_step (cmac_of key) (media_by m p.before)
  pub media : (p : Place rs) → media_by m p.before ≡ (world_after (cmac_of key) (begins (cmac_of key) key n card journal) (items p.before)).media
  pub ends : media_by m rs ≡ (world_after (cmac_of key) (begins (cmac_of key) key n card journal) (items rs)).media
  pub restored : Kept (cmac_of key) (begins (cmac_of key) key n card journal) (items rs) → (p : Place rs) (answer : Answer) (left : List ℕ)
      → p.item ≡ recovering answer left whole
      → (answer ≡ Whole) × (left ≡ (world_after (cmac_of key) (begins (cmac_of key) key n card journal) (items p.before)).known.store.left)
