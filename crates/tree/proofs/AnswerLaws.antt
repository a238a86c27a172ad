-- Answers: their numbers, and the nodes that they name.
use mathlib.Core.Path.{◌≡◌, refl, sym, subst}
use mathlib.Core.List.{List, [], ◌∷◌}
use mathlib.Core.Option.{Option, none, some}
use Prim.Native.Nat.{ℕ, ◌<◌, ◌≤◌}
use native.Mathlib.Omega.{arith}
use lib.ListN.{length}
use Rattle.tree.specs.Card.{first_wrong}
use Rattle.tree.specs.Limits.{depth_limit, card_limit, first_failing}
use Rattle.tree.specs.Answer.{number_of, node_of}
use Rattle.tree.specs.Calls.{Call, limits, checks, verdict, answer_of, outcome, format_answer, format}
use Rattle.tree.specs.declared.Anchor.{Anchor}
use Rattle.tree.specs.declared.Refusal.{Refusal}
use Rattle.tree.specs.declared.Refusal.TheVariants.{Depth, RootNonce, CardLength, BlockNumber, BlockLength, RangeLength, NoncesSpent}
use Rattle.tree.specs.declared.Refusal.TheVariants.{NotAwaited, Journal}
use Rattle.tree.specs.Answer.{Answer}
use Rattle.tree.specs.Answer.{Whole, Wrong, Refused}
use Rattle.tree.proofs.LayoutLaws.{few-leaves}
use Rattle.tree.proofs.LimitLaws.{passed, passes-sound}
use Rattle.tree.proofs.CallLaws.{wrong-among, checks-nodes, outcome-answer}

-- a number is at most 10, and a node has at most 17 bits
pub number_small : (x : Answer) → number_of x ≤ 10
number_small Whole = omega arith
number_small (Wrong u) = omega arith
number_small (Refused Depth) = omega arith
number_small (Refused RootNonce) = omega arith
number_small (Refused CardLength) = omega arith
number_small (Refused BlockNumber) = omega arith
number_small (Refused BlockLength) = omega arith
number_small (Refused RangeLength) = omega arith
number_small (Refused NoncesSpent) = omega arith
number_small (Refused NotAwaited) = omega arith
number_small (Refused Journal) = omega arith

verdict-node : (r : Option Refusal) (w : Option ℕ) → ((u : ℕ) → r ≡ none → w ≡ some u → u < 131072) → node_of (verdict r w) < 131072
verdict-node (some r) w f = omega arith
verdict-node none none f = omega arith
verdict-node none (some u) f = f u refl refl

pub node-small : (F : List ℕ → List ℕ) (a : Anchor) (card : List ℕ) (c : Call) → node_of (outcome F a card c).answer < 131072
unfolding answer_of
node-small F a card c =
    subst (λ (x : Answer). node_of x < 131072) (sym (outcome-answer F a card c))
    (verdict-node (first_failing (limits a card c)) (first_wrong F a.depth a.root.0 card (checks a.depth c))
    (λ u p w.
    let h = passed a card c p in
    let k = checks-nodes a card c h u (wrong-among F a.depth a.root.0 card (checks a.depth c) u w) in
    omega (arith, k.high, few-leaves a.depth (passes-sound a card c h).shallow)))

pub format-node : (F : List ℕ → List ℕ) (key : List ℕ) (n : ℕ) (card : List ℕ) → node_of (format F key n card).answer < 131072
unfolding format format_answer
format-node F key n card =
    verdict-node (first_failing (depth_limit n ∷ card_limit n (length card) ∷ [])) none
    (λ u p w. let z : ◌≡◌ {A = ℕ} 0 1 = cc in absurd (omega arith))
