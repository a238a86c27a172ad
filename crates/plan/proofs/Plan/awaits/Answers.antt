use Rattle.std.proofs.Common.{◌≡◌, true, false, not, cond, sym, ap, ◌∙◌, ℕ, [], ◌∷◌, Ok, Err, Bool, Result}
use Rattle.tree.specs.Tests.{tested}
use Rattle.tree.specs.declared.Refusal.{Refusal}
use Rattle.tree.specs.declared.Refusal.TheVariants.{NotAwaited}
use Rattle.tree.proofs.LimitLaws.{tested-one}
use Rattle.plan.specs.Places.{awaits}
use Rattle.plan.specs.Split.{place_limit}
use Rattle.plan.specs.declared.Plan.{Plan}
use Rattle.plan.proofs.Plan.awaits.Goals as goal

-- what the test answers, by whether the plan waits
answered : (n : ℕ) (p : Plan) (u : ℕ) (b : Bool) → awaits n p u ≡ b
    → ◌≡◌ {A = Result Unit Refusal} (cond (not b) (Err NotAwaited) (Ok tt)) (tested (place_limit n p u ∷ []))
answered n p u b e =
    ap (λ (b : Bool). cond {A = Result Unit Refusal} (not b) (Err NotAwaited) (Ok tt)) (sym e) ∙ tested-one (place_limit n p u)

pub returns-in-Some : goal.returns-in-Some
returns-in-Some c = answered c.args.depth.levels c.args.self c.args.node.0 true c.in-Some.ensures.0

pub returns-in-None : goal.returns-in-None
returns-in-None c = answered c.args.depth.levels c.args.self c.args.node.0 false c.in-None.ensures
