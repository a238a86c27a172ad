use Rattle.std.proofs.Common.{◌≡◌, sym, subst, ℕ, arith}
use Rattle.plan.specs.Places.{bit}
use Rattle.plan.proofs.PlaceLaws.{waits, waits-not, awaited-below, unset}
use Rattle.plan.proofs.Plan.open_place.Goals as goal

pub returns-then-leaves-self : goal.returns-then-leaves-self
returns-then-leaves-self c = waits-not c.args.depth.levels c.args.self c.args.node.0 (λ h. omega (arith, h.inside))

pub returns-in_err-place : goal.returns-in_err-place
returns-in_err-place c =
    let n = c.args.depth.levels in
    let p = c.args.self in
    let u = c.args.node.0 in
    rw c.from_residual.ensures (waits-not n p u (λ h. omega (arith, c.in_err-place.ensures.place, awaited-below n p u h)))

pub returns-then-self-place-eq0 : goal.returns-then-self-place-eq0
returns-then-self-place-eq0 c =
    let n = c.args.depth.levels in
    let p = c.args.self in
    let e = c.in_ok-place.ensures.place in
    (waits n p c.args.node.0 (omega arith) (omega (arith, e)) (subst (λ (k : ℕ). bit k p.filled ≡ 0) e c.if-self-place-eq0.true), e)

pub returns-else-self-place-eq0 : goal.returns-else-self-place-eq0
returns-else-self-place-eq0 c =
    let n = c.args.depth.levels in
    let p = c.args.self in
    waits-not n p c.args.node.0
    (λ h.
    c.if-self-place-eq0.false
    (subst (λ (k : ℕ). bit k p.filled ≡ 0) (sym c.in_ok-place.ensures.place) (unset n p c.args.node.0 h.unfilled)))
