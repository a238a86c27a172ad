use Rattle.std.proofs.Common.{List, ℕ, ap, ◌∙◌}
use Rattle.cmac.proofs.Laws.{tags-of-context}
use Rattle.probe_cmac.proofs.work.tag.Goals as goal

pub returns : goal.returns
returns c =
    let m = c.args.message.now in
    c.into.ensures ∙ c.tag.ensures.value
    ∙ ap (λ (F : List ℕ → List ℕ). F m) (tags-of-context c.args.key.now c.new.result c.new.ensures)
