-- The limits decide.
use Rattle.std.proofs.Common.{sym, ◌∙◌}
use Rattle.std.proofs.lemmas.Result.{err_from_is_err_and}
use Rattle.tree.proofs.LimitLaws.{none-failing}
use Rattle.plan.specs.Split.{put_limits}
use Rattle.split.proofs.OutcomeLaws.{put-limited}
use Rattle.split.proofs.put_tag.Goals as goal

pub returns-in_err-put_limits : goal.returns-in_err-put_limits
returns-in_err-put_limits c =
    let p = err_from_is_err_and c.from_residual.result c.from_residual.ensures.1 in
    rw (p.1, p.2)
    (put-limited c.args.anchor c.args.plan c.args.card.now c.args.node.0 c.args.tag _ (sym c.put_limits.ensures ∙ c.in_err-put_limits.was))

pub put_tag-requires : goal.put_tag-requires
put_tag-requires c =
    none-failing (put_limits c.args.anchor c.args.plan c.args.card.now c.args.node.0) (sym c.put_limits.ensures ∙ c.in_ok-put_limits.was)
