use Rattle.words.specs.Bytes.{xor_block}
use Rattle.words.proofs.Bytes.{four-columns, bytes-xor}
use Rattle.words.proofs.ColumnsBitXor.bitxor.Goals as goal

pub returns : goal.returns
unfolding xor_block
returns c =
    let l = c.args.self in
    let r = c.args.right in
    four-columns (bytes-xor 4 l.c0 r.c0) (bytes-xor 4 l.c1 r.c1) (bytes-xor 4 l.c2 r.c2) (bytes-xor 4 l.c3 r.c3)
