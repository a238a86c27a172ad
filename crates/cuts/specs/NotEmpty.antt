-- Laws beside the claim, so that it is no empty word: what a cut may leave, both ways; what is tagged; that our own journals are no
-- forgery; which list of demand 3 a list is; and that lists go on wherever the paper lets them.
use Rattle.std.specs.Prelude.{ℕ, ◌+◌, ◌^◌, ◌<◌, ◌≡◌, ◌⊎◌, true, false, length}
use mathlib.Core.List.{List, [], ◌∷◌, ◌++◌, Memᴰ}
use Rattle.words.specs.Bytes.{at}
use Rattle.tree.specs.Ranges.{Range, ranges_of}
use Rattle.tree.specs.Card.{blanked, written}
use Rattle.tree.specs.Answer.{Whole}
use Rattle.tree.specs.Calls.{Call, write, renews, raise, renew, formatted, outcome}
use Rattle.tree.specs.declared.Anchor.{Anchor}
use Rattle.journal.specs.Journal.{scattered, message_of, tag_of, new_bytes, journal_of, applies}
use Rattle.journal.specs.Recovery.{pending}
use Rattle.plan.specs.Split.{Given, planned}
use Rattle.plan.specs.Puts.{PutStep, begun, after_all_puts}
use Rattle.plan.specs.Places.{plan_nodes}
use Rattle.plan.specs.Orders.{Rearranged, returned}
use Rattle.plan.specs.Rule.{Waits}
use Rattle.replay.specs.Array.{Array, block_at}
use Rattle.replay.specs.Places.{Place}
use Rattle.replay.specs.Run.{Fate, unheard, lost, stood, Step, call, split, attempt, start}
use Rattle.replay.specs.Tagged.{CallTags, JournalTags, Accepts}
use Rattle.cuts.specs.Media.{Media, all_out, four_steps, one_step, Outside, Cut, fate_of}
use Rattle.cuts.specs.World.{Ending, whole, cut, Item, attempting, recovering, calling, splitting, World, tried, recovery, media_after}
use Rattle.cuts.specs.World.{steps, begins, next_world, world_after, Settled, before, Lawful}
use Rattle.cuts.specs.Claim.{media_before, Shows, Kept, Forgery}

-- What a cut may leave

-- outside the ranges the card is as it was
pub record Beside (rs : List Range) (c d : List ℕ) : Type 0 where
  pub long : length d ≡ length c
  pub stands : (j : ℕ) → Outside j rs → at d j ≡ at c j

module _ (F : List ℕ → List ℕ) (m : Media) (i : ℕ) (block : List ℕ) where
  -- the card and the journal of the write
  abbrev pub new_card : List ℕ
  new_card = written F m.anchor.depth m.anchor.root.0 m.anchor.reserved.0 m.card i block

  abbrev pub new_journal : List ℕ
  new_journal = journal_of F m.anchor.depth (m.anchor.reserved.0 + m.anchor.depth) i new_card

  -- what the media may be where the attempt came so far: nothing is out; H is raised, and the journal may have any bytes; or T is new, the
  -- journal is out, and the ranges may have any bytes
  abbrev pub Shown : Fate → Media → Type 0
  Shown unheard w = w ≡ m
  Shown lost w = (w.anchor ≡ raise m.anchor) × (length w.journal ≡ length m.journal) × (w.card ≡ m.card)
  Shown stood w = (w.anchor ≡ renew m.anchor) × (w.journal ≡ new_journal) × Beside (ranges_of m.anchor.depth i) m.card w.card

  -- Of an accepted attempt with the range buffer ranges.
  pub record AttemptCuts (ranges : List ℕ) : Type 0 where
    -- a cut leaves what its fate, read off the chip, may show, and nothing else
    pub shown : (w : Media) → Cut (four_steps (tried F m i block ranges) i) m w → Shown (fate_of m.anchor w.anchor) w
    -- and all of that some cut leaves
    pub cuts : (f : Fate) (w : Media) → Shown f w → Cut (four_steps (tried F m i block ranges) i) m w
    pub fates : (f : Fate) (w : Media) → Shown f w → fate_of m.anchor w.anchor ≡ f
    -- so nothing may be out yet, any bytes may lie in the journal, and any in the ranges
    pub nothing-out : Cut (four_steps (tried F m i block ranges) i) m m
    pub any-journal : (journal : List ℕ) → length journal ≡ length m.journal
        → Cut (four_steps (tried F m i block ranges) i) m (record { anchor = raise m.anchor; journal = journal; card = m.card })
    pub any-ranges : (new : List ℕ) → Cut (four_steps (tried F m i block ranges) i) m (record {
      anchor = renew m.anchor;
      journal = new_journal;
      card = scattered (ranges_of m.anchor.depth i) new m.card;
    })
    -- the media are what the cut left,
    pub cut-leaves : (w : Media) → media_after F m (attempting i block ranges (cut w)) ≡ w
    -- and to its end it leaves the new anchor, the journal and the write's card
    pub to-end : media_after F m (attempting i block ranges whole)
        ≡ record { anchor = renew m.anchor; journal = new_journal; card = new_card }

module _ (F : List ℕ → List ℕ) (m : Media) where
  abbrev pub pending_ranges : List Range
  pending_ranges = pending F m.anchor.depth m.anchor.root.0 m.journal

  -- Of an accepted recovery: any bytes may lie in the ranges that the journal has new bytes for, and all else is as it was.
  pub record RecoveryCuts : Type 0 where
    pub shown : (w : Media) → Cut (one_step F m) m w
        → (w.anchor ≡ m.anchor) × (w.journal ≡ m.journal) × Beside pending_ranges m.card w.card
    pub cuts : (w : Media) → (w.anchor ≡ m.anchor) × (w.journal ≡ m.journal) × Beside pending_ranges m.card w.card
        → Cut (one_step F m) m w
    pub any-ranges : (new : List ℕ)
        → Cut (one_step F m) m (record { anchor = m.anchor; journal = m.journal; card = scattered pending_ranges new m.card })
    pub cut-leaves : (w : Media) → media_after F m (recovering (cut w)) ≡ w
    -- to its end it leaves the journal's new bytes in them, and its step is all that goes out
    pub to-end : media_after F m (recovering whole)
        ≡ record { anchor = m.anchor; journal = m.journal; card = scattered pending_ranges (new_bytes m.anchor.depth m.journal) m.card }
    pub one : all_out (one_step F m) m ≡ media_after F m (recovering whole)

module _ (F : List ℕ → List ℕ) (w₀ : World) where
  -- What is tagged: "journal messages and a lost attempt's messages join the marked ones; an attempt cut before its raised H stood has
  -- marked nothing". Of an accepted attempt at a place, by H on the chip behind it.
  pub record Tags (xs : List Item) : Type 0 where
    pub raised-tagged : (p : Place xs) (i : ℕ) (block ranges : List ℕ) (e : Ending) → p.item ≡ attempting i block ranges e →
        let m = (before F w₀ p).media in
        (tried F m i block ranges).call.answer ≡ Whole
        → (next_world F (before F w₀ p) p.item).media.anchor.reserved.0 ≡ m.anchor.reserved.0 + m.anchor.depth
        → (t : List ℕ) → CallTags m.anchor m.card (write i block ranges) t ⊎ JournalTags F m.anchor m.card i block t
        → Memᴰ t (world_after F w₀ xs).known.tagged
    pub old-still : (p : Place xs) (i : ℕ) (block ranges : List ℕ) (e : Ending) → p.item ≡ attempting i block ranges e
        → (next_world F (before F w₀ p) p.item).media.anchor.reserved.0 ≡ (before F w₀ p).media.anchor.reserved.0
        → (next_world F (before F w₀ p) p.item).known ≡ (before F w₀ p).known
    -- a refused one changes nothing, whatever the cut
    pub refused-still : (p : Place xs) (i : ℕ) (block ranges : List ℕ) (e : Ending) → p.item ≡ attempting i block ranges e
        → ((tried F (before F w₀ p).media i block ranges).call.answer ≡ Whole → ⊥)
        → next_world F (before F w₀ p) p.item ≡ before F w₀ p

  -- Our own journals

  abbrev pub WrongTag : ℕ → List ℕ → Type 0
  WrongTag n journal = F (message_of n journal) ≡ tag_of n journal → ⊥

  -- the first journal has a wrong tag, and so has each that a cut left, or it is the old or the new one whole
  pub record OwnJournals (n : ℕ) (xs : List Item) : Type 0 where
    pub first : WrongTag n w₀.media.journal
    pub torn : (p : Place xs) (i : ℕ) (block ranges : List ℕ) (v : Media) → p.item ≡ attempting i block ranges (cut v) →
        let m = (before F w₀ p).media in
        WrongTag n v.journal ⊎ ((v.journal ≡ m.journal) ⊎ (v.journal ≡ (tried F m i block ranges).journal))

  -- Of a list of items after a format of depth n.
  pub record NoForgery (n : ℕ) (xs : List Item) : Type 0 where
    -- none of our own journals is forged, and so the claim holds outright
    pub none-forged : OwnJournals n xs → Forgery F w₀ xs → ⊥
    pub own-kept : OwnJournals n xs → Kept F w₀ xs
    -- a forged journal is one that a recovery of the list would apply
    pub applied : (f : Forgery F w₀ xs) →
        let m = media_before F w₀ f.place in
        applies F m.anchor.depth m.anchor.root.0 m.journal ≡ true
    pub at-recovery : (f : Forgery F w₀ xs) → (e : Ending) × (f.place.item ≡ recovering e)

  -- The list of demand 3 that a list is: each item is its step, on the card before it, and a recovery is none.

  -- y stands behind the steps of the items before p
  pub record Listed {xs : List Item} (p : Place xs) (y : Step) : Type 0 where
    pub place : Place (steps F w₀ xs)
    pub is-before : place.before ≡ steps F w₀ p.before
    pub is : place.item ≡ y

  pub record Lists (xs : List Item) : Type 0 where
    pub attempts : (p : Place xs) (i : ℕ) (block ranges : List ℕ) (e : Ending) → p.item ≡ attempting i block ranges e →
        let m = media_before F w₀ p in
        Listed p (attempt m.card i block ranges m.journal (fate_of m.anchor (media_after F m p.item).anchor))
    pub calls : (p : Place xs) (c : Call) → p.item ≡ calling c → Listed p (call (media_before F w₀ p).card c)
    pub splits : (p : Place xs) (i : ℕ) (block ranges : List ℕ) (puts : List PutStep) → p.item ≡ splitting i block ranges puts
        → Listed p (split (media_before F w₀ p).card i block ranges puts)
    pub recoveries : (p : Place xs) (e : Ending) → p.item ≡ recovering e
        → (next_world F (before F w₀ p) p.item).known ≡ (before F w₀ p).known
    -- refused it changes nothing, whatever the cut
    pub refused-recovery : (p : Place xs) (e : Ending) → p.item ≡ recovering e
        → ((recovery F (media_before F w₀ p)).answer ≡ Whole → ⊥) → media_after F (media_before F w₀ p) p.item ≡ media_before F w₀ p
    -- a whole call and a split write leave what they return
    pub call-leaves : (p : Place xs) (c : Call) → p.item ≡ calling c →
        let m = media_before F w₀ p in
        let o = outcome F m.anchor m.card c in
        media_after F m p.item ≡ record { anchor = o.anchor; journal = m.journal; card = o.card }
    pub split-leaves : (p : Place xs) (i : ℕ) (block ranges : List ℕ) (puts : List PutStep) → p.item ≡ splitting i block ranges puts →
        let m = media_before F w₀ p in
        let o = planned F m.anchor m.card i block ranges in
        o.call.answer ≡ Whole →
        let g = after_all_puts (begun o) puts in
        media_after F m p.item ≡ record { anchor = g.anchor; journal = m.journal; card = g.left }

  -- Lists go on: with a call that only looks and with a recovery at any time; with any attempt, call and split write where no cut is open;
  -- whole, or with any cut of their steps. A finished recovery closes every cut, and nothing else does.
  pub record GoesOn : Type 0 where
    pub lawful-none : Lawful F w₀ []
    pub lawful-before : (xs : List Item) → Lawful F w₀ xs → (p : Place xs) → Lawful F w₀ p.before
    pub looks : (xs : List Item) (c : Call) → Lawful F w₀ xs → renews c ≡ false → Lawful F w₀ (xs ++ (calling c ∷ []))
    pub recovers : (xs : List Item) → Lawful F w₀ xs → Lawful F w₀ (xs ++ (recovering whole ∷ []))
    pub recovers-cut : (xs : List Item) (v : Media) → Lawful F w₀ xs →
        let m = (world_after F w₀ xs).media in
        ((recovery F m).answer ≡ Whole → Cut (one_step F m) m v) → Lawful F w₀ (xs ++ (recovering (cut v) ∷ []))
    pub calls : (xs : List Item) (c : Call) → Lawful F w₀ xs → Settled xs → Lawful F w₀ (xs ++ (calling c ∷ []))
    pub attempts : (xs : List Item) (i : ℕ) (block ranges : List ℕ) → Lawful F w₀ xs → Settled xs
        → Lawful F w₀ (xs ++ (attempting i block ranges whole ∷ []))
    pub attempts-cut : (xs : List Item) (i : ℕ) (block ranges : List ℕ) (v : Media) → Lawful F w₀ xs → Settled xs →
        let m = (world_after F w₀ xs).media in
        ((tried F m i block ranges).call.answer ≡ Whole → Cut (four_steps (tried F m i block ranges) i) m v)
        → Lawful F w₀ (xs ++ (attempting i block ranges (cut v) ∷ []))
    -- of a split write nothing is asked but, where its plan is accepted, that each accepted put had its message's tag and the card as the
    -- step before left it, and that the plan waits for no tag more
    pub splits : (xs : List Item) (i : ℕ) (block ranges : List ℕ) (puts : List PutStep) → Lawful F w₀ xs → Settled xs →
        let m = (world_after F w₀ xs).media in
        let o = planned F m.anchor m.card i block ranges in
        (o.call.answer ≡ Whole →
        ((p : Place puts) →
        let g = after_all_puts (begun o) p.before in
        Accepts g p.item
        → (p.item.card ≡ g.left) × ((k : Given) → Memᴰ k o.messages → k.node ≡ p.item.node → p.item.tag ≡ F k.message))
        × ((u : ℕ) → Waits m.anchor.depth (after_all_puts (begun o) puts).plan u → ⊥))
        → Lawful F w₀ (xs ++ (splitting i block ranges puts ∷ []))
    -- so its tags may come back in any order
    pub splits-in-turn : (xs : List Item) (i : ℕ) (block ranges us : List ℕ) → Lawful F w₀ xs → Settled xs →
        let m = (world_after F w₀ xs).media in
        Rearranged us (plan_nodes m.anchor.depth i)
        → Lawful F w₀ (xs ++ (splitting i block ranges (returned F m.anchor m.card i block ranges us) ∷ []))
    -- no cut is open at first, behind a finished recovery, and where none was and nothing is cut
    pub settled-none : Settled []
    pub settled-recovered : (xs : List Item) → Settled (xs ++ (recovering whole ∷ []))
    pub settled-attempt : (xs : List Item) (i : ℕ) (block ranges : List ℕ) → Settled xs
        → Settled (xs ++ (attempting i block ranges whole ∷ []))
    pub settled-call : (xs : List Item) (c : Call) → Settled xs → Settled (xs ++ (calling c ∷ []))
    pub settled-split : (xs : List Item) (i : ℕ) (block ranges : List ℕ) (puts : List PutStep) → Settled xs
        → Settled (xs ++ (splitting i block ranges puts ∷ []))
    -- behind a cut one is open, until a recovery finishes
    pub opened : (xs : List Item) (i : ℕ) (block ranges : List ℕ) (v : Media) → Settled (xs ++ (attempting i block ranges (cut v) ∷ [])) → ⊥
    pub opened-again : (xs : List Item) (v : Media) → Settled (xs ++ (recovering (cut v) ∷ [])) → ⊥
    pub still-open : (xs : List Item) (x : Item) → (x ≡ recovering whole → ⊥) → Settled (xs ++ (x ∷ [])) → Settled xs
    -- and then no list goes on with an attempt, another write or a wipe
    pub attempt-waits : (xs : List Item) (i : ℕ) (block ranges : List ℕ) (e : Ending)
        → Lawful F w₀ (xs ++ (attempting i block ranges e ∷ [])) → Settled xs
    pub call-waits : (xs : List Item) (c : Call) → renews c ≡ true → Lawful F w₀ (xs ++ (calling c ∷ [])) → Settled xs
    pub split-waits : (xs : List Item) (i : ℕ) (block ranges : List ℕ) (puts : List PutStep)
        → Lawful F w₀ (xs ++ (splitting i block ranges puts ∷ [])) → Settled xs
    -- A list of our own journals begins with any journal that has a wrong tag, and of what is cut alone more is asked: the journal of an
    -- attempt, as the cut leaves it, has a wrong tag, or is the old or the new one.
    pub own-none : (n : ℕ) → WrongTag n w₀.media.journal → OwnJournals n []
    pub own-more : (n : ℕ) (xs : List Item) (x : Item) → OwnJournals n xs
        → ((i : ℕ) (block ranges : List ℕ) (v : Media) → x ≡ attempting i block ranges (cut v) →
        let m = (world_after F w₀ xs).media in
        WrongTag n v.journal ⊎ ((v.journal ≡ m.journal) ⊎ (v.journal ≡ (tried F m i block ranges).journal)))
        → OwnJournals n (xs ++ (x ∷ []))

-- a card that shows an array shows no other, block by block
pub record ShowsOne (F : List ℕ → List ℕ) : Type 0 where
  pub one : (a : Anchor) (card : List ℕ) (x y : Array) → Shows F a card x → Shows F a card y → (i : ℕ) → i < 2 ^ a.depth
      → block_at x i ≡ block_at y i

-- The world begins after a format of depth n, with any bytes as the journal.
pub record Begins (F : List ℕ → List ℕ) (key : List ℕ) (n : ℕ) (card journal : List ℕ) : Type 0 where
  pub media : (begins F key n card journal).media ≡ record { anchor = formatted key n; journal = journal; card = blanked F n 0 card }
  pub known : (begins F key n card journal).known ≡ start F key n card
