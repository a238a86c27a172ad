use Rattle.std.proofs.Common.{◌≡◌, ap, ◌∙◌, ℕ, ◌+◌, ◌^◌, arith}
use Rattle.plan.specs.Places.{place_of, fill}
use Rattle.plan.specs.declared.Plan.{Plan}
use Rattle.plan.proofs.BitLaws.{set-fits}
use Rattle.plan.proofs.ListLaws.{contrary}
use Rattle.plan.proofs.PlaceLaws.{awaited, awaited-below, unset}
use Rattle.plan.proofs.Plan.fill.Goals as goal

pub bit-requires : goal.bit-requires
bit-requires c =
    let n = c.args.depth.levels in
    omega (arith, c.in-Some.ensures.1, awaited-below n c.args.self c.args.node.0 (awaited n c.args.self c.args.node.0 c.requires))

pub overflow_add-result : goal.overflow_add-result
overflow_add-result c =
    let n = c.args.depth.levels in
    let p = c.args.self in
    let h = awaited n p c.args.node.0 c.requires in
    let k = place_of n p c.args.node.0 in
    let l = awaited-below n p c.args.node.0 h in
    let e : c.bit.result ≡ 2 ^ k = c.bit.ensures ∙ ap (λ (k : ℕ). 2 ^ k) c.in-Some.ensures.1 in
    let f = set-fits k 64 p.filled (unset n p c.args.node.0 h.unfilled) (omega arith) (omega arith) in
    omega arith

pub returns-in-Some : goal.returns-in-Some
unfolding fill
returns-in-Some c =
    let p = c.args.self in
    ap (λ (k : ℕ). let q : Plan = record { index = p.index; root = p.root; filled = p.filled + k } in q)
    (c.bit.ensures ∙ ap (λ (k : ℕ). 2 ^ k) c.in-Some.ensures.1)

pub returns-in-None : goal.returns-in-None
returns-in-None c = absurd (contrary c.requires c.in-None.ensures)
