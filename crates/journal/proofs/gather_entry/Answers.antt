-- The range lies on the card.
use Rattle.std.proofs.Common.{arith}
use Rattle.tree.proofs.LayoutLaws.{entry-on, entry-small}
use Rattle.tree.proofs.RangeLaws.{range-ends}
use Rattle.journal.proofs.gather_entry.Goals as goal

pub overflow_add-range : goal.overflow_add-range
overflow_add-range c =
    let e = c.args.entry in
    let n = e.depth.levels in
    let u = c.args.own.0 in
    let w = e.node.0 in
    let r = range-ends n u w in
    omega (arith, c.of-range.ensures, r, entry-small n w e.depth.shallow e.on_card)

pub slice_bounds-put-end : goal.slice_bounds-put-end
slice_bounds-put-end c =
    let e = c.args.entry in
    let n = e.depth.levels in
    let u = c.args.own.0 in
    let w = e.node.0 in
    let r = range-ends n u w in
    omega (arith, c.of-range.ensures, r, entry-on n c.args.card.now w c.requires.card e.on_card)
