-- The first limits refuse, or leave nothing that refuses.
use Rattle.std.proofs.Common.{sym, ◌∙◌}
use Rattle.tree.specs.Calls.{check, limits}
use Rattle.tree.proofs.LimitLaws.{none-failing}
use Rattle.calls.proofs.OutcomeLaws.{reports-limited}
use Rattle.calls.proofs.check.Goals as goal

pub check-requires : goal.check-requires
unfolding limits
check-requires c = none-failing _ (sym c.first.ensures ∙ c.in-Ok.is)

pub returns-in-Err : goal.returns-in-Err
unfolding limits
returns-in-Err c =
    rw (c.refused.ensures.value, c.refused.ensures.count)
    (reports-limited c.args.anchor c.args.card.now check (sym c.first.ensures ∙ c.in-Err.is))
