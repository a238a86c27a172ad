use Rattle.std.proofs.Common.{ap₂, ◌∙◌, arith}
use Rattle.words.specs.Bytes.{same}
use Rattle.journal.proofs.ViewLaws.{word-same}
use Rattle.journal.proofs.view.JournalView.is_for.Goals as goal

pub returns : goal.returns
returns c = word-same c.at.result c.be.result (omega arith) (omega arith) ∙ ap₂ same c.at.ensures c.be.ensures
