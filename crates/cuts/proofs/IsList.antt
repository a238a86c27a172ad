-- The list of a world is one of demand 3, and T on the chip tells array and card.
use mathlib.Core.Path.{◌≡◌, refl, sym, ap, subst, ◌∙◌}
use mathlib.Core.List.{List}
use Prim.Native.Nat.{ℕ, ◌≤◌}
use lib.ListN.{length}
use Rattle.tree.specs.Answer.{Whole}
use Rattle.tree.specs.Layout.{card_length}
use Rattle.tree.specs.Calls.{format}
use Rattle.tree.specs.declared.Anchor.{Anchor}
use Rattle.replay.specs.Run.{State, start, after}
use Rattle.replay.specs.Claim.{AllComplete, Demand3}
use Rattle.replay.specs.Tagged.{Unforged}
use Rattle.replay.specs.Nonces.{NonceRule}
use Rattle.replay.proofs.Theorem.{demand3-any, key-any, unforged-any, nonces-any}
use Rattle.cuts.specs.Media.{Media}
use Rattle.cuts.specs.World.{Ending, Item, attempting, World, tried, next_world, world_after, steps, begins, Possible, before, Lawful}
use Rattle.cuts.specs.Claim.{ByRoot, IsList}
use Rattle.cuts.proofs.Arrivals.{held, placed, placed-is, arrives, root-of}
use Rattle.cuts.proofs.Chip.{known-is, chip-after, all-complete, chip-at}

module _ (F : List ℕ → List ℕ) (F16 : (m : List ℕ) → length (F m) ≡ 16) where
  module _ (i : ℕ) (block ranges : List ℕ) (e : Ending) where
    abbrev Rooted : World → Type 0
    Rooted w =
        Possible F w.media (attempting i block ranges e) → (tried F w.media i block ranges).call.answer ≡ Whole
        → ByRoot w (next_world F w (attempting i block ranges e)) (tried F w.media i block ranges) i block

    rooted : (s : State) (journal card : List ℕ) → Rooted (placed s journal card)
    rooted s journal card p w =
        let m : Media = held s journal card in
        let k = arrives F F16 s journal card i block ranges w e p in
        subst (λ (v : World). ByRoot (placed s journal card) v (tried F m i block ranges) i block) (sym k.is)
        (root-of F F16 s journal card i block ranges w k.fate k.media k.shown)

    pub by-root : (w : World) → w.media.anchor ≡ w.known.store.anchor → Rooted w
    by-root w chip = subst Rooted (placed-is w chip) (rooted w.known w.media.journal w.media.card)

  module _ (key : List ℕ) (n : ℕ) (deep : 1 ≤ n) (shallow : n ≤ 16) (card : List ℕ) (full : length card ≡ card_length n)
      (journal : List ℕ) (xs : List Item) (lawful : Lawful F (begins F key n card journal) xs) where
    abbrev w₀ : World
    w₀ = begins F key n card journal

    chip : w₀.media.anchor ≡ w₀.known.store.anchor
    unfolding begins start format
    chip = refl

    known₀ : w₀.known ≡ start F key n card
    unfolding begins
    known₀ = refl

    complete : AllComplete F (start F key n card) (steps F w₀ xs)
    complete = subst (λ (s : State). AllComplete F s (steps F w₀ xs)) known₀ (all-complete F F16 xs w₀ chip lawful.possible)

    chip-end : (world_after F w₀ xs).media.anchor ≡ (world_after F w₀ xs).known.store.anchor
    chip-end = chip-after F F16 xs w₀ chip lawful.possible

    known-end : (world_after F w₀ xs).known ≡ after F (start F key n card) (steps F w₀ xs)
    known-end = known-is F xs w₀ ∙ ap (λ (s : State). after F s (steps F w₀ xs)) known₀

    kept : ((after F (start F key n card) (steps F w₀ xs)).store.anchor.key ≡ key)
        × ((after F (start F key n card) (steps F w₀ xs)).store.anchor.depth ≡ n)
    kept = key-any F F16 key n deep shallow card full complete

    pub is-list-any : IsList F (begins F key n card journal) key n xs
    is-list-any =
        record {
          known = known-is F xs w₀;
          chip = chip-end;
          keeps = (
            ap (λ (a : Anchor). a.key) chip-end ∙ ap (λ (s : State). s.store.anchor.key) known-end ∙ kept.0,
            ap (λ (a : Anchor). a.depth) chip-end ∙ ap (λ (s : State). s.store.anchor.depth) known-end ∙ kept.1,
          );
          by-root = λ p i block ranges e is.
              subst
              (λ (x : Item).
              Possible F (before F w₀ p).media x → (tried F (before F w₀ p).media i block ranges).call.answer ≡ Whole
              → ByRoot (before F w₀ p) (next_world F (before F w₀ p) x) (tried F (before F w₀ p).media i block ranges) i block)
              (sym is) (by-root i block ranges e (before F w₀ p) (chip-at F F16 xs w₀ chip lawful.possible p))
              (lawful.possible p);
          demand = subst (λ (s : State). Demand3 F s (steps F w₀ xs)) (sym known₀)
              (demand3-any F F16 key n deep shallow card full (steps F w₀ xs) complete);
          tagged = subst (λ (s : State). Unforged F s n (steps F w₀ xs)) (sym known₀)
              (unforged-any F F16 key n deep shallow card full complete);
          nonces = subst (λ (s : State). NonceRule F s n (steps F w₀ xs)) (sym known₀)
              (nonces-any F F16 key n deep shallow card full complete);
        }
