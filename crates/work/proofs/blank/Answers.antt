-- Under the context of a key tags and counts are those under the key, and there are few.
use Rattle.std.proofs.Common.{arith}
use Rattle.cmac.proofs.Laws.{tags-of-context}
use Rattle.cmac.proofs.TraceLaws.{subkeys-count, counts-of-context}
use Rattle.work.proofs.OutcomeLaws.{few-blank}
use Rattle.work.proofs.blank.Goals as goal

pub overflow_add-result : goal.overflow_add-result
overflow_add-result c =
    let a = c.args.anchor in
    let value = rw (counts-of-context a.key _ c.new-context.ensures, c.card_depth.ensures) at c.blank.ensures.value in
    omega (arith, value, subkeys-count a.key, few-blank a.key a.depth a.root.0 c.requires.deep c.requires.shallow)

pub returns-clause-card_after : goal.returns-clause-card_after
returns-clause-card_after c = cc (tags-of-context _ _ c.new-context.ensures)

pub returns-clause-value : goal.returns-clause-value
returns-clause-value c = cc (counts-of-context _ _ c.new-context.ensures)
