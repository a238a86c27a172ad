use Rattle.std.proofs.Common.{◌++◌, ap₂}
use Rattle.words.proofs.Bytes.{bytes_halves}
use Rattle.words.proofs.ColumnsFromBlock.from.Goals as goal

pub returns : goal.returns
returns c = ap₂ ◌++◌ (bytes_halves c.args.block.head) (bytes_halves c.args.block.tail)
