-- A limit that fails refuses, and behind both the card is blank.
use Rattle.std.proofs.Common.{sym, ◌∙◌}
use Rattle.std.proofs.lemmas.Result.{err_from_is_err_and}
use Rattle.cmac.specs.Cmac.{cmac_of}
use Rattle.tree.proofs.LimitLaws.{passes, depth-in, is-equal, none-failing}
use Rattle.calls.proofs.OutcomeLaws.{format-refuses, gives-format}
use Rattle.calls.proofs.format.Goals as goal

pub returns-in_err-format_limits : goal.returns-in_err-format_limits
returns-in_err-format_limits c =
    let p = err_from_is_err_and c.from_residual.result c.from_residual.ensures.1 in
    rw (p.1, p.2)
    (format-refuses (cmac_of c.args.key) c.args.key c.args.depth c.args.card.now (sym c.format_limits.ensures ∙ c.in_err-format_limits.was))

pub blank-requires : goal.blank-requires
blank-requires c =
    let p = passes _ _ (none-failing _ (sym c.format_limits.ensures ∙ c.in_ok-format_limits.was)) in
    let d = depth-in c.args.depth p.0 in
    record { deep = d.0; shallow = d.1; full = is-equal _ _ (passes _ _ p.1).0 }

pub returns : goal.returns
returns c =
    gives-format (cmac_of c.args.key) c.args.key c.args.depth c.args.card.now _
    (sym c.format_limits.ensures ∙ c.in_ok-format_limits.was) c.blank.ensures.card_after
