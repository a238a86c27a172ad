-- What attempts tag, by the reserved nonce on the chip; and that what was tagged stays so.
use mathlib.Core.Path.{◌≡◌, sym, ap, subst, ◌∙◌}
use mathlib.Core.List.{List, ◌∷◌, Memᴰ}
use mathlib.Core.List.Memᴰ
use mathlib.Core.Logic.{◌⊎◌, ⊎_elim}
use Prim.Native.Nat.{ℕ, ◌+◌}
use native.Mathlib.Omega.{arith}
use lib.ListN.{length}
use Rattle.tree.specs.Answer.{Whole}
use Rattle.tree.specs.Calls.{write}
use Rattle.tree.specs.declared.Anchor.{Anchor}
use Rattle.replay.specs.Places.{Place}
use Rattle.replay.specs.Run.{Fate, unheard, lost, stood, State}
use Rattle.replay.specs.Tagged.{CallTags, JournalTags}
use Rattle.replay.proofs.Moves.{whole-or-not}
use Rattle.replay.proofs.Unforged.{kept}
use Rattle.cuts.specs.Media.{Media}
use Rattle.cuts.specs.World.{Ending, Item, attempting, World, tried, steps, next_world, world_after, Possible, before}
use Rattle.cuts.specs.NotEmpty.{Shown, Tags}
use Rattle.cuts.proofs.CutLaws.{tried-ok}
use Rattle.cuts.proofs.Arrivals.{held, placed, placed-is, arrives, refused-is, behind, lost-move, stood-move, unheard-still}
use Rattle.cuts.proofs.Chip.{Chip, known-is, world-append, AllPossible, chip-at}

module _ (F : List ℕ → List ℕ) where
  -- what was tagged stays tagged, from one world on
  pub kept-on : (xs : List Item) (w : World) (t : List ℕ) → Memᴰ t w.known.tagged → Memᴰ t (world_after F w xs).known.tagged
  kept-on xs w t h =
      subst (λ (s : State). Memᴰ t s.tagged) (sym (known-is F xs w)) (kept F (steps F w xs) w.known t h)

  -- and from a place of a list on
  pub kept-place : (w : World) {xs : List Item} (p : Place xs) (t : List ℕ)
      → Memᴰ t (next_world F (world_after F w p.before) p.item).known.tagged → Memᴰ t (world_after F w xs).known.tagged
  unfolding world_after
  kept-place w p t h =
      subst (λ (z : World). Memᴰ t z.known.tagged)
      (sym (ap (world_after F w) p.is ∙ world-append F p.before (p.item ∷ p.behind) w))
      (kept-on p.behind (next_world F (world_after F w p.before) p.item) t h)

  module _ (F16 : (m : List ℕ) → length (F m) ≡ 16) (i : ℕ) (block ranges : List ℕ) (e : Ending) where
    abbrev RaisedTagged : World → Type 0
    RaisedTagged w =
        let m = w.media in
        Possible F m (attempting i block ranges e) → (tried F m i block ranges).call.answer ≡ Whole
        → (next_world F w (attempting i block ranges e)).media.anchor.reserved.0 ≡ m.anchor.reserved.0 + m.anchor.depth → (t : List ℕ)
        → CallTags m.anchor m.card (write i block ranges) t ⊎ JournalTags F m.anchor m.card i block t
        → Memᴰ t (next_world F w (attempting i block ranges e)).known.tagged

    abbrev OldStill : World → Type 0
    OldStill w =
        Possible F w.media (attempting i block ranges e)
        → (next_world F w (attempting i block ranges e)).media.anchor.reserved.0 ≡ w.media.anchor.reserved.0
        → (next_world F w (attempting i block ranges e)).known ≡ w.known

    abbrev RefusedStill : World → Type 0
    RefusedStill w =
        ((tried F w.media i block ranges).call.answer ≡ Whole → ⊥) → next_world F w (attempting i block ranges e) ≡ w

    module _ (s : State) (journal card : List ℕ) where
      abbrev m : Media
      m = held s journal card

      module _ (w : (tried F (held s journal card) i block ranges).call.answer ≡ Whole) where
        by-fate : (fate : Fate) (v : Media) → Shown F m i block fate v
            → v.anchor.reserved.0 ≡ s.store.anchor.reserved.0 + s.store.anchor.depth → (t : List ℕ)
            → CallTags s.store.anchor card (write i block ranges) t ⊎ JournalTags F s.store.anchor card i block t
            → Memᴰ t (behind F F16 s journal card i block ranges fate v).known.tagged
        by-fate unheard v q r t k =
            let z = ap (λ (u : Media). u.anchor.reserved.0) q in
            let deep = (tried-ok F F16 m i block ranges w).sound.deep in
            absurd (omega arith)
        by-fate lost v q r t k =
            let l = lost-move F F16 s journal card i block ranges w in
            subst (λ (z : State). Memᴰ t z.tagged) (sym l.is) (Memᴰ.append_left s.tagged (l.tags.names t k))
        by-fate stood v q r t k =
            let l = stood-move F F16 s journal card i block ranges w in
            subst (λ (z : State). Memᴰ t z.tagged) (sym l.is) (Memᴰ.append_left s.tagged (l.tags.names t k))

        still-by : (fate : Fate) (v : Media) → Shown F m i block fate v → v.anchor.reserved.0 ≡ s.store.anchor.reserved.0
            → (behind F F16 s journal card i block ranges fate v).known ≡ s
        still-by unheard v q r = unheard-still F F16 s journal card i block ranges w
        still-by lost v q r =
            let z = ap (λ (a : Anchor). a.reserved.0) q.0 in
            let deep = (tried-ok F F16 m i block ranges w).sound.deep in
            absurd (omega arith)
        still-by stood v q r =
            let z = ap (λ (a : Anchor). a.reserved.0) q.0 in
            let deep = (tried-ok F F16 m i block ranges w).sound.deep in
            absurd (omega arith)

      raised-placed : RaisedTagged (placed s journal card)
      raised-placed p w r t k =
          let a = arrives F F16 s journal card i block ranges w e p in
          subst (λ (z : World). Memᴰ t z.known.tagged) (sym a.is)
          (by-fate w a.fate a.media a.shown (ap (λ (z : World). z.media.anchor.reserved.0) (sym a.is) ∙ r) t k)

      old-placed : OldStill (placed s journal card)
      old-placed p r =
          ⊎_elim
          (λ (w : (tried F m i block ranges).call.answer ≡ Whole).
          let a = arrives F F16 s journal card i block ranges w e p in
          ap (λ (z : World). z.known) a.is
          ∙ still-by w a.fate a.media a.shown (ap (λ (z : World). z.media.anchor.reserved.0) (sym a.is) ∙ r))
          (λ (d : (tried F m i block ranges).call.answer ≡ Whole → ⊥).
          ap (λ (z : World). z.known) (refused-is F F16 s journal card i block ranges e d))
          (whole-or-not F F16 s (tried F m i block ranges).call.answer)

      refused-placed : RefusedStill (placed s journal card)
      refused-placed d = refused-is F F16 s journal card i block ranges e d

    raised-tagged : (w : World) → Chip F F16 w → RaisedTagged w
    raised-tagged w c = subst RaisedTagged (placed-is w c) (raised-placed w.known w.media.journal w.media.card)

    old-still : (w : World) → Chip F F16 w → OldStill w
    old-still w c = subst OldStill (placed-is w c) (old-placed w.known w.media.journal w.media.card)

    refused-still : (w : World) → Chip F F16 w → RefusedStill w
    refused-still w c = subst RefusedStill (placed-is w c) (refused-placed w.known w.media.journal w.media.card)

  module _ (F16 : (m : List ℕ) → length (F m) ≡ 16) (w₀ : World) (xs : List Item) (chip : Chip F F16 w₀)
      (possible : AllPossible F F16 w₀ xs) where
    pub tags : Tags F w₀ xs
    tags =
        record {
          raised-tagged = λ p i block ranges e is w r t k.
              let z = before F w₀ p in
              let c = chip-at F F16 xs w₀ chip possible p in
              kept-place w₀ p t
              (subst (λ (x : Item). Memᴰ t (next_world F z x).known.tagged) (sym is)
              (raised-tagged F16 i block ranges e z c (subst (Possible F z.media) is (possible p)) w
              (ap (λ (x : Item). (next_world F z x).media.anchor.reserved.0) (sym is) ∙ r) t k));
          old-still = λ p i block ranges e is r.
              let z = before F w₀ p in
              let c = chip-at F F16 xs w₀ chip possible p in
              ap (λ (x : Item). (next_world F z x).known) is
              ∙ old-still F16 i block ranges e z c (subst (Possible F z.media) is (possible p))
              (ap (λ (x : Item). (next_world F z x).media.anchor.reserved.0) (sym is) ∙ r);
          refused-still = λ p i block ranges e is d.
              let z = before F w₀ p in
              ap (next_world F z) is ∙ refused-still F16 i block ranges e z (chip-at F F16 xs w₀ chip possible p) d;
        }
