use Rattle.std.proofs.Common.{◌++◌, sym, ap₂, ◌∙◌}
use Rattle.words.proofs.Bytes.{part-add}
use Rattle.words.proofs.U64Packed.at.Goals as goal

pub returns : goal.returns
returns c =
    c.double_word.ensures ∙ ap₂ ◌++◌ c.at.ensures c.at-2.ensures
    ∙ sym (part-add c.args.string.now c.args.start 4 4)
