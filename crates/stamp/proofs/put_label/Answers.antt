-- The entry lies on the card, and has room for the label.
use Rattle.std.proofs.Common.{arith}
use Rattle.tree.proofs.LayoutLaws.{entry-on, inner, leaf}
use Rattle.stamp.proofs.put_label.Goals as goal

pub put-requires : goal.put-requires
put-requires c =
    omega (
      arith,
      entry-on c.args.entry.depth.levels c.args.card.now c.args.entry.node.0 c.requires.card c.args.entry.on_card,
      inner c.args.entry.depth.levels c.args.entry.node.0 (omega arith),
    )

pub put-requires-else-entry-leaves : goal.put-requires-else-entry-leaves
put-requires-else-entry-leaves c =
    omega (
      arith,
      entry-on c.args.entry.depth.levels c.args.card.now c.args.entry.node.0 c.requires.card c.args.entry.on_card,
      leaf c.args.entry.depth.levels c.args.entry.node.0 (omega arith),
    )
