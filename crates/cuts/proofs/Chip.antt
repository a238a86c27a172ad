-- The list of a world is one of demand 3, whatever was forged: the chip has the anchor that is known, and every step is complete.
use mathlib.Core.Path.{◌≡◌, refl, sym, ap, subst, ◌∙◌}
use mathlib.Core.Bool.{Bool, cond}
use mathlib.Core.List.{List, [], ◌∷◌, ◌++◌}
use mathlib.Core.Logic.{⊎_elim}
use Prim.Native.Nat.{ℕ}
use lib.ListN.{length}
use Rattle.tree.specs.Answer.{Whole, is_whole}
use Rattle.journal.specs.Recovery.{recovered}
use Rattle.replay.specs.Places.{Place}
use Rattle.replay.specs.Run.{Step, call, split, State, next, after}
use Rattle.replay.specs.Claim.{Complete, AllComplete}
use Rattle.replay.proofs.PlaceLaws.{first, later, earlier, no_place, at_places}
use Rattle.replay.proofs.Along.{after-append}
use Rattle.replay.proofs.Moves.{whole-or-not, not-whole}
use Rattle.cuts.specs.Media.{Media}
use Rattle.cuts.specs.World.{Ending, whole, cut, Item, attempting, recovering, calling, splitting, World, ended, left_by, tried, recovery}
use Rattle.cuts.specs.World.{media_after}
use Rattle.cuts.specs.World.{steps_of, next_world, world_after, steps, Possible}
use Rattle.cuts.proofs.RecoveryLaws.{recovery-cuts}
use Rattle.cuts.proofs.Arrivals.{held, placed, placed-is, arrives, refused-is, chip-of}

module _ (F : List ℕ → List ℕ) where
  -- what is known is so along the list
  pub known-is : (xs : List Item) (w : World) → (world_after F w xs).known ≡ after F w.known (steps F w xs)
  unfolding world_after next_world steps after
  known-is [] w = refl
  known-is (x ∷ xs) w =
      known-is xs (next_world F w x) ∙ sym (after-append F (steps_of F w.media x) (steps F (next_world F w x) xs) w.known)

  pub world-append : (xs ys : List Item) (w : World) → world_after F w (xs ++ ys) ≡ world_after F (world_after F w xs) ys
  unfolding world_after
  world-append [] ys w = refl
  world-append (x ∷ xs) ys w = world-append xs ys (next_world F w x)

  module _ (F16 : (m : List ℕ) → length (F m) ≡ 16) where
    abbrev pub Chip : World → Type 0
    Chip w = w.media.anchor ≡ w.known.store.anchor

    -- One item

    module _ (s : State) (journal card : List ℕ) where
      abbrev m : Media
      m = held s journal card

      recovery-chip : (e : Ending) → Possible F m (recovering e) → (media_after F m (recovering e)).anchor ≡ s.store.anchor
      unfolding media_after recovered
      recovery-chip e p =
          ⊎_elim
          (λ (w : (recovery F m).answer ≡ Whole).
          ap (λ (b : Bool). (cond b (ended e (left_by m (recovery F m))) m).anchor) (ap is_whole w) ∙ done e p w)
          (λ (d : (recovery F m).answer ≡ Whole → ⊥).
          ap (λ (b : Bool). (cond b (ended e (left_by m (recovery F m))) m).anchor) (not-whole F s.store (recovery F m).answer d))
          (whole-or-not F F16 s (recovery F m).answer)
        where
          done : (e : Ending) → Possible F m (recovering e) → (recovery F m).answer ≡ Whole
              → (ended e (left_by m (recovery F m))).anchor ≡ s.store.anchor
          done whole p w = refl
          done (cut v) p w = ((recovery-cuts F m w).shown v (p w)).0

      chip-placed : (x : Item) → Possible F m x → Chip (next_world F (placed s journal card) x)
      unfolding next next_world media_after after
      chip-placed (attempting i block ranges e) p =
          ⊎_elim
          (λ (w : (tried F m i block ranges).call.answer ≡ Whole).
          let k = arrives F F16 s journal card i block ranges w e p in
          subst Chip (sym k.is) (chip-of F F16 s journal card i block ranges w k.fate k.media k.shown))
          (λ (d : (tried F m i block ranges).call.answer ≡ Whole → ⊥).
          subst Chip (sym (refused-is F F16 s journal card i block ranges e d)) refl)
          (whole-or-not F F16 s (tried F m i block ranges).call.answer)
      chip-placed (recovering e) p = recovery-chip e p
      chip-placed (calling c) p = refl
      chip-placed (splitting i block ranges puts) p = refl

      -- the steps that it is are complete
      complete-placed : (x : Item) → Possible F m x → (rest : List Step)
          → AllComplete F (next_world F (placed s journal card) x).known rest → AllComplete F s (steps_of F m x ++ rest)
      unfolding next_world after
      complete-placed (attempting i block ranges e) p rest k =
          at_places (λ before z. Complete F (after F s before).store z) _ rest tt k
      complete-placed (recovering e) p rest k = k
      complete-placed (calling c) p rest k = at_places (λ before z. Complete F (after F s before).store z) (call card c) rest tt k
      complete-placed (splitting i block ranges puts) p rest k =
          at_places (λ before z. Complete F (after F s before).store z) (split card i block ranges puts) rest (λ w f. (p w).right) k

    pub chip-next : (w : World) (x : Item) → Chip w → Possible F w.media x → Chip (next_world F w x)
    chip-next w x chip =
        subst (λ (z : World). Possible F z.media x → Chip (next_world F z x)) (placed-is w chip)
        (chip-placed w.known w.media.journal w.media.card x)

    complete-next : (w : World) (x : Item) → Chip w → Possible F w.media x → (rest : List Step)
        → AllComplete F (next_world F w x).known rest → AllComplete F w.known (steps_of F w.media x ++ rest)
    complete-next w x chip =
        subst
        (λ (z : World).
        Possible F z.media x → (rest : List Step) → AllComplete F (next_world F z x).known rest
        → AllComplete F z.known (steps_of F z.media x ++ rest))
        (placed-is w chip) (complete-placed w.known w.media.journal w.media.card x)

    -- The list

    abbrev pub AllPossible : World → List Item → Type 0
    AllPossible w xs = (p : Place xs) → Possible F (world_after F w p.before).media p.item

    pub chip-after : (xs : List Item) (w : World) → Chip w → AllPossible w xs → Chip (world_after F w xs)
    unfolding world_after
    chip-after [] w chip k = chip
    chip-after (x ∷ xs) w chip k = chip-after xs (next_world F w x) (chip-next w x chip (k (first x xs))) (λ p. k (later x p))

    pub all-complete : (xs : List Item) (w : World) → Chip w → AllPossible w xs → AllComplete F w.known (steps F w xs)
    unfolding world_after steps
    all-complete [] w chip k = λ p. absurd (no_place p)
    all-complete (x ∷ xs) w chip k =
        complete-next w x chip (k (first x xs)) (steps F (next_world F w x) xs)
        (all-complete xs (next_world F w x) (chip-next w x chip (k (first x xs))) (λ p. k (later x p)))

    -- the chip at a place
    pub chip-at : (xs : List Item) (w : World) → Chip w → AllPossible w xs → (p : Place xs) → Chip (world_after F w p.before)
    chip-at xs w chip k p = chip-after p.before w chip (λ q. k (earlier p q))
