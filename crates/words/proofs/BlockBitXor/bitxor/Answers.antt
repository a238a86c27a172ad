use Rattle.std.proofs.Common.{◌++◌, ap₂}
use Rattle.words.specs.Bytes.{xor_block}
use Rattle.words.proofs.Bytes.{bytes-xor}
use Rattle.words.proofs.BlockBitXor.bitxor.Goals as goal

pub returns : goal.returns
unfolding xor_block
returns c =
    let a = c.args in
    ap₂ ◌++◌ (bytes-xor 8 a.self.head a.right.head) (bytes-xor 8 a.self.tail a.right.tail)
