-- What is known along a list on a card as last left, and that every step on such a card is served.
use mathlib.Core.Path.{◌≡◌, refl, sym, subst}
use mathlib.Core.List.{List, [], ◌∷◌}
use Prim.Native.Nat.{ℕ, ◌≤◌}
use native.Mathlib.Omega.{arith}
use mathlib.Core.Option.{none}
use lib.ListN.{length}
use Rattle.tree.specs.declared.Node.{Node}
use Rattle.tree.specs.Answer.{Whole, Wrong}
use Rattle.tree.specs.Limits.{first_failing}
use Rattle.tree.proofs.LimitLaws
use Rattle.tree.proofs.WriteLaws.{Clean}
use Rattle.tree.proofs.CallLaws.{clean-accepts, clean-answers}
use Rattle.replay.specs.Places.{Place}
use Rattle.replay.specs.Run.{Step, card_of, call_of, limits_of, State, result, next, after}
use Rattle.replay.specs.Claim.{Complete, Untouched, AgreesHere, WroteUntouched, AllComplete}
use Rattle.replay.proofs.PlaceLaws.{no_place, at_places}
use Rattle.replay.proofs.Moves.{stands-whole, step-wrong, step-passes, step-accept}
use Rattle.replay.proofs.Anchors.{Sound, next-key, after-sound}
use Rattle.replay.proofs.Agreement.{agrees-tagged}
use Rattle.replay.proofs.Since.{Good, good-place, checks-tagged}
use Rattle.cuts.proofs.Messages.{Told, told-next}

module _ (F : List ℕ → List ℕ) (F16 : (m : List ℕ) → length (F m) ≡ 16) where
  -- every tag on the card as last left is right, the tagged messages vouch for the array, and what is known of nonces and journals
  pub record Core (s : State) : Type 0 where
    pub deep : 1 ≤ s.store.anchor.depth
    pub shallow : s.store.anchor.depth ≤ 16
    pub good : Good F F16 s
    pub nonces : Sound s.store.anchor
    pub told : Told s

  -- limits 1, 2 and 3 pass the card as last left
  pub core-sound : (s : State) → Core s → LimitLaws.Sound s.store.anchor s.store.left
  core-sound s k =
      record {
        deep = k.deep;
        shallow = k.shallow;
        multiple = k.nonces.multiple;
        reserved_multiple = k.nonces.reserved_multiple;
        within = k.nonces.within;
        full = k.good.clean.full;
      }

  -- a step on the card as last left keeps it so
  pub core-next : (s : State) (x : Step) → Complete F s.store x → Untouched F s.store x → Core s → Core (next F s x)
  unfolding after
  core-next s x complete untouched k =
      let d = (next-key F F16 s x complete).1 in
      let all : AllComplete F s (x ∷ []) =
      at_places (λ before y. Complete F (after F s before).store y) x [] complete (λ q. absurd (no_place q)) in
      let faithful : (p : Place (x ∷ [])) → WroteUntouched F (after F s p.before) p.item =
      at_places (λ before y. WroteUntouched F (after F s before) y) x [] (λ e w. untouched) (λ q. absurd (no_place q)) in
      let there : Place (x ∷ x ∷ []) = record { before = x ∷ []; item = x; behind = []; is = refl } in
      record {
        deep = omega (arith, d, k.deep);
        shallow = omega (arith, d, k.shallow);
        good = good-place F F16 s k.good there all (λ p u. faithful p);
        nonces = after-sound F F16 (x ∷ []) s all k.nonces;
        told = told-next F F16 s k.deep k.told x complete untouched k.nonces.within;
      }

  -- What every step on that card is answered: never 8, no refusal within its limits, and what it shows is the array's.
  pub record Served (s : State) (x : Step) : Type 0 where
    pub never-wrong : (u : Node) → (result F s.store x).answer ≡ Wrong u → ⊥
    pub accepts : first_failing (limits_of s.store.anchor x) ≡ none → (result F s.store x).answer ≡ Whole
    pub agrees : AgreesHere F s x

  pub served : (s : State) → Core s → (x : Step) → card_of x ≡ s.store.left → Served s x
  served s k x given =
      let a = s.store.anchor in
      let clean : Clean F a.depth a.root.0 (card_of x) = subst (Clean F a.depth a.root.0) (sym given) k.good.clean in
      record {
        never-wrong = λ u e. clean-answers F a (card_of x) clean (call_of x) u (step-wrong F s.store x u e);
        accepts = λ l. step-accept F s.store x l (clean-accepts F a (card_of x) clean (call_of x) (step-passes F s.store x l));
        agrees = agrees-tagged F F16 s k.good.safe x
            (λ v. checks-tagged F F16 s k.good.tagged x given (stands-whole F s.store x v));
      }
