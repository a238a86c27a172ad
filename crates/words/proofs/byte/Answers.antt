use Rattle.std.proofs.Common.{◌*◌, ◌/◌, ◌^◌, sym, ◌∙◌}
use Rattle.std.proofs.lemmas.Nat.{and_mask}
use Rattle.words.proofs.Bytes.{at-bytes}
use Rattle.words.proofs.byte.Goals as goal

pub returns : goal.returns
returns c =
    let a = c.args in
    and_mask (a.word / 2 ^ (8 * a.index)) 8 ∙ sym (at-bytes 4 a.word a.index c.requires)
