use Rattle.std.proofs.Common.{rules}
use Rattle.cmac.proofs.Doubling.{doubling}
use Rattle.cmac.proofs.subkey.doubled.Goals as goal

pub returns : goal.returns
returns c =
    doubling c.args.block.head c.args.block.tail
    c.reversed-head.result c.reversed-tail.result c.shifted.result c.shifted-2.result
    c.carry.result
    c.reversed.result c.reversed-2.result (search rules) (search rules)
    c.reversed-head.ensures c.reversed-tail.ensures c.shifted.ensures c.shifted-2.ensures
    c.carry.ensures
    c.reversed.ensures c.reversed-2.ensures
