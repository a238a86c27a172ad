-- The limits decide.
use Rattle.std.proofs.Common.{sym, ◌∙◌}
use Rattle.std.proofs.lemmas.Result.{err_from_is_err_and}
use Rattle.recovery.proofs.OutcomeLaws.{recover-limited}
use Rattle.recovery.proofs.recover.Goals as goal

pub returns-in_err-recovery_limits : goal.returns-in_err-recovery_limits
returns-in_err-recovery_limits c =
    let p = err_from_is_err_and c.from_residual.result c.from_residual.ensures.1 in
    rw (p.1, p.2)
    (recover-limited c.args.anchor c.args.card.now c.args.journal.now _ (sym c.recovery_limits.ensures ∙ c.in_err-recovery_limits.was))
