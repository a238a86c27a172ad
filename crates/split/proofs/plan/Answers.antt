-- The limits decide.
use Rattle.std.proofs.Common.{sym, ◌∙◌}
use Rattle.tree.specs.Calls.{write, limits}
use Rattle.tree.proofs.LimitLaws.{none-failing}
use Rattle.split.proofs.OutcomeLaws.{plan-limited}
use Rattle.split.proofs.plan.Goals as goal

pub plan-requires : goal.plan-requires
unfolding limits
plan-requires c =
    none-failing (limits c.args.anchor c.args.card.now (write c.args.index.0 c.args.block.now c.args.ranges.now))
    (sym c.write.ensures ∙ c.in-Ok.is)

pub returns-in-Err : goal.returns-in-Err
unfolding limits
returns-in-Err c =
    rw (c.refused.ensures.value, c.refused.ensures.count)
    (plan-limited c.args.anchor c.args.card.now c.args.index.0 c.args.block.now c.args.ranges.now c.args.messages.now c.in-Err.refusal
    (sym c.write.ensures ∙ c.in-Err.is))
