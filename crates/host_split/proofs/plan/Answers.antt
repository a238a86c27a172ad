-- A plan of the lengths that are right is planned.
use Rattle.std.proofs.Common.{rules, sym, ap, ◌∙◌}
use Rattle.host_bytes.specs.Host.{anchor_of}
use Rattle.host_bytes.proofs.SplitLaws.{plan_measured}
use Rattle.host_bytes.proofs.Sizes as Sizes
use Rattle.host_split.proofs.plan.Goals as goal

pub of-requires : goal.of-requires
of-requires c = rw c.plan-made.ensures.reports.gives.answered (Sizes.plan _ _ _ _ _ _)

pub returns : goal.returns
returns c =
    let anchor = c.in-Some.ensures.cases in
    let plan = c.in-Some-as_mut_array.ensures.cases in
    let given = c.of-given.ensures in
    plan_measured _ _ _ _ _ _ _ c.plan-made.ensures c.of.ensures
    (rw (sym given) at c.settle.ensures.anchor_after) (rw (sym given) at c.settle.ensures.plan_after)
    (given ∙ ap anchor_of anchor.same) anchor.same plan.same anchor.long plan.long (search rules) (search rules)
