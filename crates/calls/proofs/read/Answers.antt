-- The limits of a read, tested in one row, decide.
use Rattle.std.proofs.Common.{sym, ◌∙◌}
use Rattle.tree.specs.Calls.{read, limits}
use Rattle.tree.proofs.LimitLaws.{none-failing}
use Rattle.calls.proofs.OutcomeLaws.{reports-limited}
use Rattle.calls.proofs.read.Goals as goal

pub read-requires : goal.read-requires
unfolding limits
read-requires c = none-failing _ (sym c.read_limits.ensures ∙ c.in-Ok.is)

pub returns-in-Err : goal.returns-in-Err
unfolding limits
returns-in-Err c =
    rw (c.refused.ensures.value, c.refused.ensures.count)
    (reports-limited c.args.anchor c.args.card.now (read c.args.index.0 c.args.buffer.now) (sym c.read_limits.ensures ∙ c.in-Err.is))
