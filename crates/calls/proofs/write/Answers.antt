-- The limits of a write, tested in one row, decide.
use Rattle.std.proofs.Common.{sym, ◌∙◌}
use Rattle.tree.specs.Calls.{write, limits}
use Rattle.tree.proofs.LimitLaws.{none-failing}
use Rattle.calls.proofs.OutcomeLaws.{reports-limited}
use Rattle.calls.proofs.write.Goals as goal

pub write-requires-in-Ok : goal.write-requires-in-Ok
unfolding limits
write-requires-in-Ok c = none-failing _ (sym c.write.ensures ∙ c.in-Ok.is)

pub returns-in-Err : goal.returns-in-Err
unfolding limits
returns-in-Err c =
    rw (c.refused.ensures.value, c.refused.ensures.count)
    (reports-limited c.args.anchor c.args.card.now (write c.args.index.0 c.args.block.now c.args.ranges.now)
    (sym c.write.ensures ∙ c.in-Err.is))
