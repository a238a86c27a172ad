-- The entry lies on the card, and the message is made of the label that lies there.
use Rattle.std.proofs.Common.{◌≡◌, ap, ap₂, ◌∙◌, List, ℕ, ◌+◌, ◌-◌, ◌%◌, arith, length-take, length-drop, take, drop}
use Rattle.std.proofs.lemmas.List.Edits.{sets}
use Rattle.words.specs.Bytes.{part}
use Rattle.words.specs.Words.{bytes}
use Rattle.cmac.specs.Context.{tag_by, count_by}
use Rattle.tree.specs.Layout.{size, offset, label}
use Rattle.tree.specs.Labels.{form}
use Rattle.tree.proofs.LayoutLaws.{entry-on, size_low}
use Rattle.stamp.proofs.put_tag.Goals as goal

pub slice_bounds-message-end : goal.slice_bounds-message-end
slice_bounds-message-end c =
    let e = c.args.entry in
    omega (arith, entry-on e.depth.levels c.args.card.now e.node.0 c.requires e.on_card, c.tag_offset-place.ensures)

pub invariant_of-message : goal.invariant_of-message
invariant_of-message c =
    let e = c.args.entry in
    record {
      short = simp (length-take, length-drop) (omega (arith, c.offset.ensures, c.tag_offset-place.ensures, size_low e.depth.levels e.node.0));
    }

pub put-requires : goal.put-requires
put-requires c =
    let e = c.args.entry in
    omega (arith, entry-on e.depth.levels c.args.card.now e.node.0 c.requires e.on_card, c.tag_offset-place.ensures)

-- the message that is put together
formed : (n : ℕ) (card : List ℕ) (u o m p s : ℕ) → o ≡ offset n u → m ≡ offset n u + size n u → s ≡ u % 2
    → form (take (m - o) (drop o card)) (bytes 8 p) s ≡ form (label n card u) (bytes 8 p) (u % 2)
unfolding label
formed n card u o m p s eo em es =
    let e : m - o ≡ size n u = omega arith in
    ap₂ (λ (x : List ℕ) (s : ℕ). form x (bytes 8 p) s) (ap₂ (part card) eo e) es

pub returns-clause-card_after : goal.returns-clause-card_after
returns-clause-card_after c =
    let a = c.args in
    c.put.ensures
    ∙ ap₂ (sets a.card.now) c.tag_offset-place.ensures
    (c.tag-made.ensures.value
    ∙ ap (tag_by a.context.now)
    (formed a.entry.depth.levels a.card.now a.entry.node.0 _ _ a.parent _ c.offset.ensures c.tag_offset-place.ensures c.side.ensures))

pub returns-clause-value : goal.returns-clause-value
returns-clause-value c =
    let a = c.args in
    c.tag-made.ensures.count
    ∙ ap (count_by a.context.now)
    (formed a.entry.depth.levels a.card.now a.entry.node.0 _ _ a.parent _ c.offset.ensures c.tag_offset-place.ensures c.side.ensures)
