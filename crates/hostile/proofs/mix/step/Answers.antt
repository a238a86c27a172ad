-- an entry ends within the card
use Rattle.std.proofs.Common.{◌+◌, arith}
use Rattle.tree.proofs.LayoutLaws.{entry-fits}
use Rattle.hostile.proofs.mix.step.Goals as goal

pub slice_bounds-copy_from_slice-end : goal.slice_bounds-copy_from_slice-end
slice_bounds-copy_from_slice-end c = omega (arith, entry-fits c.args.levels.depth.levels (2 + c.pick.result) (omega arith))
