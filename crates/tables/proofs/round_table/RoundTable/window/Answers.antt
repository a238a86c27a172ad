use Rattle.std.proofs.Common.{◌∙◌, arith}
use Rattle.tables.proofs.Tables.{entry-part}
use Rattle.tables.proofs.round_table.RoundTable.window.Goals as goal

pub returns : goal.returns
returns c =
    let a = c.args in
    c.at.ensures ∙ entry-part a.self.entries.now a.self.of_each_byte a.byte a.start 4 (omega arith) (omega arith)
