-- The untouched half: a card just as it was left is never refused for a tag.
use mathlib.Core.Path.{◌≡◌, sym, subst}
use mathlib.Core.List.{List}
use mathlib.Core.Option.{none}
use Prim.Native.Nat.{ℕ}
use lib.ListN.{length}
use Rattle.tree.proofs.WriteLaws.{Clean}
use Rattle.tree.specs.Limits.{first_failing}
use Rattle.tree.proofs.CallLaws.{clean-accepts, clean-answers}
use Rattle.replay.specs.Places.{Place}
use Rattle.replay.specs.Run.{Step, card_of, call_of, limits_of, State}
use Rattle.replay.specs.Claim.{GivenLeft, Accepted, known, AllComplete, Faithful, Quiet}
use Rattle.replay.proofs.PlaceLaws.{earlier}
use Rattle.replay.proofs.Moves.{step-wrong, step-passes, step-accept}
use Rattle.replay.proofs.Since.{Good, good-place}

module _ (F : List ℕ → List ℕ) (F16 : (m : List ℕ) → length (F m) ≡ 16) (s : State) (g : Good F F16 s) {xs : List Step}
    (complete : AllComplete F s xs) (p : Place xs) (faithful : Faithful F s p.before)
    (given : GivenLeft (known F s p).store p.item) where
  -- what every step on the card as last left can count on
  clean-place : Clean F (known F s p).store.anchor.depth (known F s p).store.anchor.root.0 (card_of p.item)
  clean-place =
      let a = (known F s p).store.anchor in
      subst (Clean F a.depth a.root.0) (sym given) (good-place F F16 s g p (λ q. complete (earlier p q)) faithful).clean

  -- within its limits it is accepted
  pub accepts : first_failing (limits_of (known F s p).store.anchor p.item) ≡ none → Accepted F (known F s p).store p.item
  accepts limits =
      let q = (known F s p).store in
      step-accept F q p.item limits
      (clean-accepts F q.anchor (card_of p.item) clean-place (call_of p.item) (step-passes F q p.item limits))

pub quiet : (F : List ℕ → List ℕ) (F16 : (m : List ℕ) → length (F m) ≡ 16) (s : State) → Good F F16 s → (xs : List Step)
    → AllComplete F s xs → Quiet F s xs
quiet F F16 s g xs complete p faithful given u e =
    clean-answers F (known F s p).store.anchor (card_of p.item) (clean-place F F16 s g complete p faithful given) (call_of p.item) u
    (step-wrong F (known F s p).store p.item u e)
