use Rattle.std.proofs.Common.{ℕ, ap, ◌∙◌, arith}
use Rattle.std.proofs.lemmas.List.Edits.{sets}
use Rattle.words.specs.Words.{block_of}
use Rattle.journal.specs.Journal.{message_length}
use Rattle.journal.proofs.ViewLaws.{sets-last}
use Rattle.journal.proofs.view.put_tag.Goals as goal

pub returns : goal.returns
returns c =
    let s = c.args.journal.now in
    let x = block_of c.args.tag in
    c.put.ensures ∙ ap (λ (o : ℕ). sets s o x) c.message_len.ensures
    ∙ sets-last s x (message_length c.args.depth.levels) (omega (arith, c.requires))
