-- The limits of a wipe, tested in one row, decide.
use Rattle.std.proofs.Common.{sym, ◌∙◌}
use Rattle.tree.specs.Calls.{wipe, limits}
use Rattle.tree.proofs.LimitLaws.{none-failing}
use Rattle.calls.proofs.OutcomeLaws.{reports-limited}
use Rattle.calls.proofs.wipe.Goals as goal

pub wipe-wiped-requires : goal.wipe-wiped-requires
unfolding limits
wipe-wiped-requires c = none-failing _ (sym c.wipe_limits.ensures ∙ c.in-Ok.is)

pub returns-in-Err : goal.returns-in-Err
unfolding limits
returns-in-Err c =
    rw (c.refused.ensures.value, c.refused.ensures.count)
    (reports-limited c.args.anchor c.args.card.now wipe (sym c.wipe_limits.ensures ∙ c.in-Err.is))
