use Rattle.std.proofs.Common.{arith, ◌∙◌}
use Rattle.words.proofs.Same.{same-words}
use Rattle.words.proofs.equal.Goals as goal

pub returns : goal.returns
returns c =
    let a = c.args in
    c.eq.ensures ∙ same-words a.left.head a.left.tail a.right.head a.right.tail (omega arith) (omega arith) (omega arith) (omega arith)
