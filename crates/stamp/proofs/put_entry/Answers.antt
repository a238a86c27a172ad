-- The tag is that of the label which was just put there.
use Rattle.std.proofs.Common.{ap, ◌∙◌, List, ℕ, ◌%◌}
use Rattle.words.specs.Words.{bytes}
use Rattle.cmac.specs.Context.{tag_by, count_by}
use Rattle.tree.specs.Labels.{form, nonce_or_block}
use Rattle.stamp.proofs.StampLaws.{put-sized, label_is, entry-put}
use Rattle.stamp.proofs.put_entry.Goals as goal

pub returns-clause-card_after : goal.returns-clause-card_after
returns-clause-card_after c =
    let a = c.args in
    c.put_tag.ensures.card_after
    ∙ entry-put a.entry.depth.levels a.card.now a.entry.node.0 c.requires.card a.entry.on_card (tag_by a.context.now)
    (nonce_or_block a.entry.depth.levels a.nonce.0 a.block.now a.entry.node.0) (bytes 8 a.parent) _
    (put-sized a.entry.depth.levels a.nonce.0 a.block.now a.entry.node.0 c.requires.block_len) c.put_label.ensures

pub returns-clause-value : goal.returns-clause-value
returns-clause-value c =
    let a = c.args in
    c.put_tag.ensures.value
    ∙ ap (λ (z : List ℕ). count_by a.context.now (form z (bytes 8 a.parent) (a.entry.node.0 % 2)))
    (label_is a.entry.depth.levels a.card.now a.entry.node.0 c.requires.card a.entry.on_card (nonce_or_block a.entry.depth.levels a.nonce.0 a.block.now a.entry.node.0) _
    (put-sized a.entry.depth.levels a.nonce.0 a.block.now a.entry.node.0 c.requires.block_len) c.put_label.ensures)
