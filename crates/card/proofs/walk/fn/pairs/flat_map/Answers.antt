-- A node of the path is one of the card, or the root.
use Rattle.std.proofs.Common.{◌^◌, ◌≤◌, arith}
use lib.Pow.{pow_mono}
use Rattle.tree.proofs.LayoutLaws.{few-leaves}
use Rattle.tree.proofs.NodeLaws.{path-level}
use Rattle.card.proofs.walk.fn.pairs.flat_map.Goals as goal

pub sibling-requires : goal.sibling-requires
sibling-requires c =
    let p = c.captures.path in
    let h : 2 ^ c.args.level ≤ 2 ^ p.depth.levels = pow_mono c.requires in
    omega (arith, path-level p.depth.levels p.index.0 p.on_card c.args.level c.requires, few-leaves p.depth.levels p.depth.shallow)
