-- The tag under the context is that under the key.
use Rattle.std.proofs.Common.{List, ℕ, Bool, ap, ap₂, sym, ◌∙◌, ◌&&◌}
use Rattle.words.specs.Bytes.{same}
use Rattle.cmac.proofs.Laws.{tags-of-context}
use Rattle.cmac.specs.Cmac.{cmac_of}
use Rattle.journal.specs.Journal.{message_of, tag_of}
use Rattle.recovery.proofs.within.applies.Goals as goal

pub returns : goal.returns
returns c =
    let j = c.args.journal.now in
    let n = j.depth.levels in
    let made = tags-of-context _ _ c.new-context.ensures in
    c.equal.ensures
    ∙ ap₂ same (c.tag.ensures.value ∙ ap₂ (λ (F : List ℕ → List ℕ) (m : List ℕ). F m) made c.message.ensures) c.tag-2.ensures
    ∙ ap (λ (b : Bool). b && same (cmac_of c.args.anchor.key (message_of n j.bytes.now)) (tag_of n j.bytes.now))
    (sym c.if-not-is_for.false ∙ c.is_for.ensures)
