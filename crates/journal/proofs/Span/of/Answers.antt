use Rattle.std.proofs.Common.{arith}
use Rattle.tree.proofs.LayoutLaws.{size_low}
use Rattle.journal.proofs.Span.of.Goals as goal

pub overflow_add-result : goal.overflow_add-result
overflow_add-result c = omega (arith, c.size.ensures, size_low c.args.entry.depth.levels c.args.entry.node.0)
