-- The tag made of the node's message is laid beside the node's.
use Rattle.std.proofs.Common.{ap, ap₂, ◌∙◌}
use Rattle.words.specs.Bytes.{same}
use Rattle.cmac.specs.Context.{tag_by, count_by}
use Rattle.card.proofs.view.NodeView.is_right.Goals as goal

pub returns-clause-value : goal.returns-clause-value
returns-clause-value c =
    c.equal.ensures ∙ ap₂ same (c.tag-made.ensures.value ∙ ap (tag_by c.args.context.now) c.message.ensures.form) c.stored_tag.ensures

pub returns-clause-count : goal.returns-clause-count
returns-clause-count c = c.tag-made.ensures.count ∙ ap (count_by c.args.context.now) c.message.ensures.form
