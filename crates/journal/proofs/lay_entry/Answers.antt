-- The range lies on the card.
use Rattle.std.proofs.Common.{length-take, arith}
use Rattle.tree.proofs.LayoutLaws.{entry-on}
use Rattle.tree.proofs.RangeLaws.{range-ends}
use Rattle.journal.proofs.lay_entry.Goals as goal

pub put-requires : goal.put-requires
put-requires c =
    let e = c.args.entry in
    let n = e.depth.levels in
    let w = e.node.0 in
    let r = range-ends n c.args.own.0 w in
    simp length-take (omega (arith, c.of-range.ensures, r, entry-on n c.args.card.now w c.requires.card e.on_card))
