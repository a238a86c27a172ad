use Rattle.std.proofs.Common.{sym, ◌∙◌}
use Rattle.words.proofs.Bytes.{four-columns, part-columns}
use Rattle.words.proofs.ColumnsPacked.at.Goals as goal

pub returns : goal.returns
returns c =
    four-columns c.at.ensures c.at-2.ensures c.at-3.ensures c.at-4.ensures
    ∙ sym (part-columns c.args.string.now c.args.start)
