-- What is put at the front of the buffer is taken from there.
use Rattle.std.proofs.Common.{ap, ◌∙◌, ◌+◌, arith, length, take}
use Rattle.cmac.specs.Context.{tag_by, count_by}
use Rattle.tree.proofs.LabelLaws.{form-front}
use Rattle.card.proofs.message.Message.tag.Goals as goal

pub returns-clause-value : goal.returns-clause-value
returns-clause-value c =
    let m = c.args.self.now in
    c.tag.ensures.value
    ∙ ap (tag_by c.args.context.now) (ap (take (length m.label.now + 9)) c.put.ensures ∙ form-front _ m.label.now m.parent m.side (omega (arith, m.short)))

pub returns-clause-count : goal.returns-clause-count
returns-clause-count c =
    let m = c.args.self.now in
    c.tag.ensures.count
    ∙ ap (count_by c.args.context.now) (ap (take (length m.label.now + 9)) c.put.ensures ∙ form-front _ m.label.now m.parent m.side (omega (arith, m.short)))
