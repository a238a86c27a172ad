use Rattle.std.proofs.Common.{◌++◌, sym, ap₂, ◌∙◌}
use Rattle.words.proofs.Bytes.{part-add}
use Rattle.words.proofs.BlockPacked.at.Goals as goal

pub returns : goal.returns
returns c =
    ap₂ ◌++◌ c.at.ensures c.at-2.ensures ∙ sym (part-add c.args.string.now c.args.start 8 8)
