use Rattle.std.proofs.Common.{ℕ, ◌≡◌, ◌≤◌, List, ◌++◌, length, drop, refl, sym, ap, ◌∙◌, arith}
use Rattle.words.specs.Words.{block_of}
use Rattle.cmac.specs.Cmac.{cmac_of}
use Rattle.cmac.proofs.Laws.{tags-of-context}
use Rattle.probe.specs.Told.{repeated, retagged}
use Rattle.probe.proofs.Laws.{stored, repeated-more}
use Rattle.probe_cmac.proofs.work.tag_chain.Goals as goal

pub loop-init : goal.loop-init
unfolding repeated
loop-init c = refl

pub loop-preserved : goal.loop-preserved
unfolding retagged
loop-preserved c =
    let key = c.args.key.now in
    let m = c.loop.message in
    let x = block_of c.tag.result.value in
    let n : 16 ≤ length m = omega arith in
    let tagged : x ≡ cmac_of key m =
    c.tag.ensures.value
    ∙ ap (λ (F : List ℕ → List ℕ). F m) (tags-of-context key c.new-context.result c.new-context.ensures) in
    c.put.ensures ∙ stored m x refl n ∙ ap (λ (x : List ℕ). x ++ drop 16 m) tagged
    ∙ ap (retagged key) c.loop.invariant ∙ sym (repeated-more (retagged key) _ c.loop.counter)
