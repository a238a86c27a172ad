-- The limits decide.
use Rattle.std.proofs.Common.{sym, ◌∙◌}
use Rattle.recovery.proofs.OutcomeLaws.{write-limited}
use Rattle.recovery.proofs.write.Goals as goal

pub returns-in-Err : goal.returns-in-Err
returns-in-Err c =
    rw (c.refused.ensures.value, c.refused.ensures.count)
    (write-limited c.args.anchor c.args.card.now c.args.index.0 c.args.block.now c.args.ranges.now c.args.journal.now c.in-Err.refusal
    (sym c.write_limits.ensures ∙ c.in-Err.is))
