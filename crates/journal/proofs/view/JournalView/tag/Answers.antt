use Rattle.std.proofs.Common.{ℕ, ap, ◌∙◌, arith}
use Rattle.words.specs.Bytes.{part}
use Rattle.journal.specs.Journal.{message_length}
use Rattle.journal.proofs.ViewLaws.{part-last}
use Rattle.journal.proofs.view.JournalView.tag.Goals as goal

pub returns : goal.returns
returns c =
    let v = c.args.self.now in
    c.at.ensures ∙ ap (λ (o : ℕ). part v.bytes.now o 16) c.message_len.ensures
    ∙ part-last v.bytes.now (message_length v.depth.levels) 16 (omega (arith, v.full))
