-- Which list of demand 3 a list of items is, and what whole calls leave.
use mathlib.Core.Path.{◌≡◌, refl, sym, ap, ◌∙◌}
use mathlib.Core.Bool.{Bool, cond}
use mathlib.Core.List.{List, [], ◌∷◌, ◌++◌, append_assoc}
use Prim.Native.Nat.{ℕ}
use Rattle.tree.specs.Answer.{is_whole}
use Rattle.replay.specs.Places.{Place}
use Rattle.replay.specs.Run.{Step, call, split, attempt, finished, after}
use Rattle.replay.proofs.Moves.{not-whole}
use Rattle.cuts.specs.Media.{fate_of}
use Rattle.cuts.specs.World.{Item, World, ended, left_by, recovery, laid_out, media_after, steps_of, next_world}
use Rattle.cuts.specs.World.{world_after, steps, before}
use Rattle.cuts.specs.NotEmpty.{Listed, Lists}

module _ (F : List ℕ → List ℕ) where
  steps-append : (xs ys : List Item) (w : World) → steps F w (xs ++ ys) ≡ steps F w xs ++ steps F (world_after F w xs) ys
  unfolding steps world_after
  steps-append [] ys w = refl
  steps-append (x ∷ xs) ys w =
      ap (λ (l : List Step). steps_of F w.media x ++ l) (steps-append xs ys (next_world F w x))
      ∙ sym (append_assoc (steps_of F w.media x) (steps F (next_world F w x) xs) _)

  module _ (w₀ : World) (xs : List Item) where
    listed : (p : Place xs) (y : Step) → steps_of F (before F w₀ p).media p.item ≡ y ∷ [] → Listed F w₀ p y
    unfolding steps
    listed p y e =
        let w = before F w₀ p in
        let rest = steps F (next_world F w p.item) p.behind in
        record {
          place = record {
            before = steps F w₀ p.before;
            item = y;
            behind = rest;
            is = ap (steps F w₀) p.is ∙ steps-append p.before (p.item ∷ p.behind) w₀
                ∙ ap (λ (l : List Step). steps F w₀ p.before ++ (l ++ rest)) e;
          };
          is-before = refl;
          is = refl;
        }

    pub lists : Lists F w₀ xs
    unfolding media_after next_world after
    lists =
        record {
          attempts = λ p i block ranges e is.
              let m = (before F w₀ p).media in
              listed p (attempt m.card i block ranges m.journal (fate_of m.anchor (media_after F m p.item).anchor))
              (ap (steps_of F m) is
              ∙ ap (λ (x : Item). attempt m.card i block ranges m.journal (fate_of m.anchor (media_after F m x).anchor) ∷ []) (sym is));
          calls = λ p c is. listed p (call (before F w₀ p).media.card c) (ap (steps_of F (before F w₀ p).media) is);
          splits = λ p i block ranges puts is.
              listed p (split (before F w₀ p).media.card i block ranges puts) (ap (steps_of F (before F w₀ p).media) is);
          recoveries = λ p e is. ap (λ (x : Item). (next_world F (before F w₀ p) x).known) is;
          refused-recovery = λ p e is d.
              let w = before F w₀ p in
              ap (media_after F w.media) is
              ∙ ap (λ (b : Bool). cond b (ended e (left_by w.media (recovery F w.media))) w.media)
              (not-whole F w.known.store (recovery F w.media).answer d);
          call-leaves = λ p c is. ap (media_after F (before F w₀ p).media) is;
          split-leaves = λ p i block ranges puts is w.
              let m = (before F w₀ p).media in
              let o = laid_out F m i block ranges in
              ap (media_after F m) is
              ∙ ap (λ (b : Bool). left_by m (cond b (finished o puts) o.call)) (ap is_whole w);
        }
