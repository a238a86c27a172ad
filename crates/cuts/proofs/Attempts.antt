-- What holds along a list, and that an attempt, whole or cut, keeps it.
use mathlib.Core.Path.{◌≡◌, sym, ap, subst, ◌∙◌}
use mathlib.Core.Bool.{Bool, true, false}
use mathlib.Core.List.{List}
use mathlib.Core.List.Memᴰ
use mathlib.Core.Logic.{inl, inr, ⊎_elim}
use Prim.Native.Nat.{ℕ, ◌+◌}
use lib.ListN.{length}
use Rattle.tree.specs.Ranges.{ranges_of}
use Rattle.tree.specs.Answer.{Whole}
use Rattle.tree.specs.declared.Anchor.{Anchor}
use Rattle.journal.specs.Journal.{journal_length, journal_message, journal_of}
use Rattle.journal.proofs.BackLaws
use Rattle.journal.proofs.BackLaws.{beside-trans, beside-written}
use Rattle.replay.specs.Run.{Fate, unheard, lost, stood, Step, attempt, State, next}
use Rattle.replay.proofs.Moves.{whole-or-not}
use Rattle.cuts.specs.Media.{Media}
use Rattle.cuts.specs.World.{Ending, whole, cut, Item, attempting, recovering, calling, splitting, World, tried, next_world, Possible}
use Rattle.cuts.specs.NotEmpty.{new_card, Shown}
use Rattle.cuts.proofs.Mending.{Pend}
use Rattle.cuts.proofs.CutLaws.{of-beside, tried-ok, journal-full}
use Rattle.cuts.proofs.Known.{Core, core-next}
use Rattle.cuts.proofs.Arrivals.{held, placed, behind, full_media, arrives, whole-is, refused-is}
use Rattle.cuts.proofs.Arrivals.{lost-move, stood-move, stood-left, unheard-still, chip-of}

-- whether a cut is open behind an item
unfoldable pub open_after : Bool → Item → Bool
open_after b (attempting i block ranges whole) = b
open_after b (attempting i block ranges (cut v)) = true
open_after b (recovering whole) = false
open_after b (recovering (cut v)) = true
open_after b (calling c) = b
open_after b (splitting i block ranges puts) = b

module _ (F : List ℕ → List ℕ) (F16 : (m : List ℕ) → length (F m) ≡ 16) where
  -- The chip has the anchor that is known, and journal and card are as a cut may leave them; where none is open, the card is as last left.
  pub record Inv (b : Bool) (w : World) : Type 0 where
    pub chip : w.media.anchor ≡ w.known.store.anchor
    pub core : Core F F16 w.known
    pub long : length w.media.journal ≡ journal_length w.known.store.anchor.depth
    pub pend : Pend F w.known w.media.journal w.media.card
    pub rest : b ≡ false → w.media.card ≡ w.known.store.left

  -- a cut may open
  inv-open : {b : Bool} {w : World} → Inv b w → Inv true w
  inv-open v = record { chip = v.chip; core = v.core; long = v.long; pend = v.pend; rest = λ e. cc }

  module _ (s : State) (journal card : List ℕ) (i : ℕ) (block ranges : List ℕ) (core : Core F F16 s) (same : card ≡ s.store.left)
      (long : length journal ≡ journal_length s.store.anchor.depth) where
    abbrev m : Media
    m = held s journal card

    abbrev a : Anchor
    a = s.store.anchor

    abbrev x : Fate → Step
    x fate = attempt card i block ranges journal fate

    abbrev world : Fate → Media → World
    world = behind F F16 s journal card i block ranges

    module _ (accepted : (tried F (held s journal card) i block ranges).call.answer ≡ Whole) where
      -- by how far it came
      came : (fate : Fate) (v : Media) → Shown F m i block fate v → Inv true (world fate v)
      came unheard v e =
          let still = unheard-still F F16 s journal card i block ranges accepted in
          record {
            chip = chip-of F F16 s journal card i block ranges accepted unheard v e;
            core = subst (Core F F16) (sym still) core;
            long = ap (λ (z : Media). length z.journal) e ∙ long ∙ ap (λ (z : State). journal_length z.store.anchor.depth) (sym still);
            pend = inl (ap (λ (z : Media). z.card) e ∙ same ∙ ap (λ (z : State). z.store.left) (sym still));
            rest = λ z. cc;
          }
      came lost v e =
          let w = lost-move F F16 s journal card i block ranges accepted in
          record {
            chip = chip-of F F16 s journal card i block ranges accepted lost v e;
            core = core-next F F16 s (x lost) tt same core;
            long = e.1 ∙ long ∙ ap (λ (z : State). journal_length z.store.anchor.depth) (sym w.is);
            pend = inl (e.2 ∙ same ∙ ap (λ (z : State). z.store.left) (sym w.is));
            rest = λ z. cc;
          }
      came stood v e =
          let w = stood-move F F16 s journal card i block ranges accepted in
          let left = stood-left F F16 s journal card i block ranges accepted in
          let ok = tried-ok F F16 m i block ranges accepted in
          let message = journal_message a.depth (a.reserved.0 + a.depth) i in
          record {
            chip = chip-of F F16 s journal card i block ranges accepted stood v e;
            core = core-next F F16 s (x stood) tt same core;
            long = ap length e.1 ∙ journal-full F F16 m i block ranges accepted
                ∙ ap (λ (z : State). journal_length z.store.anchor.depth) (sym w.is);
            pend = subst (λ (z : State). Pend F z v.journal v.card) (sym w.is)
                (inr (record {
                  block = i;
                  inside = ok.inside;
                  is = e.1 ∙ ap (journal_of F a.depth (a.reserved.0 + a.depth) i) (sym left);
                  tagged = Memᴰ.append_left s.tagged (w.tags.names (message w.left) (inr (ap message left)));
                  torn = beside-trans (ranges_of a.depth i) v.card card w.left (of-beside (ranges_of a.depth i) card v.card e.2)
                      (subst (BackLaws.Beside (ranges_of a.depth i) card) (sym left)
                      (beside-written F F16 a.depth ok.sound.deep a.root.0 a.reserved.0 card i block ok.sound.full ok.inside ok.long));
                }));
            rest = λ z. cc;
          }

      -- whole, it leaves the write's card
      came-whole : (b : Bool) → Inv true (world stood (full_media F F16 s journal card i block ranges accepted))
          → Inv b (world stood (full_media F F16 s journal card i block ranges accepted))
      came-whole b k =
          let w = stood-move F F16 s journal card i block ranges accepted in
          let left : new_card F m i block ≡ (next F s (x stood)).store.left =
          sym (ap (λ (z : State). z.store.left) w.is ∙ stood-left F F16 s journal card i block ranges accepted) in
          record { chip = k.chip; core = k.core; long = k.long; pend = inl left; rest = λ z. left }

      passed : (b : Bool) (e : Ending) → Possible F m (attempting i block ranges e)
          → Inv (open_after b (attempting i block ranges e)) (next_world F (placed s journal card) (attempting i block ranges e))
      unfolding open_after
      passed b whole p =
          let k = arrives F F16 s journal card i block ranges accepted whole p in
          subst (Inv b) (sym (whole-is F F16 s journal card i block ranges accepted))
          (came-whole b (subst (Inv true) (sym k.is ∙ whole-is F F16 s journal card i block ranges accepted) (came k.fate k.media k.shown)))
      passed b (cut v) p =
          let k = arrives F F16 s journal card i block ranges accepted (cut v) p in
          subst (Inv true) (sym k.is) (came k.fate k.media k.shown)

    pub attempt-keeps : (b : Bool) (e : Ending) → Inv b (placed s journal card)
        → Possible F (held s journal card) (attempting i block ranges e)
        → Inv (open_after b (attempting i block ranges e)) (next_world F (placed s journal card) (attempting i block ranges e))
    unfolding open_after
    attempt-keeps b e inv possible =
        ⊎_elim (λ (w : (tried F m i block ranges).call.answer ≡ Whole). passed w b e possible)
        (λ (d : (tried F m i block ranges).call.answer ≡ Whole → ⊥).
        subst (Inv (open_after b (attempting i block ranges e))) (sym (refused-is F F16 s journal card i block ranges e d)) (stays e))
        (whole-or-not F F16 s (tried F m i block ranges).call.answer)
      where
        stays : (e : Ending) → Inv (open_after b (attempting i block ranges e)) (placed s journal card)
        stays whole = inv
        stays (cut v) = inv-open inv
