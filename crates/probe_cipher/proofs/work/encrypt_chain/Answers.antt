use Rattle.std.proofs.Common.{ℕ, ◌≡◌, List, refl, sym, ap, ap₂, ◌∙◌, arith}
use Rattle.cipher.specs.Cipher.{cipher_of}
use Rattle.cipher.proofs.Rounds.{cipher-of-key}
use Rattle.probe.specs.Told.{repeated}
use Rattle.probe.proofs.Laws.{part-all, repeated-more}
use Rattle.probe_cipher.proofs.work.encrypt_chain.Goals as goal

pub loop-init : goal.loop-init
unfolding repeated
loop-init c = refl

pub loop-preserved : goal.loop-preserved
loop-preserved c =
    let e = cipher_of c.new-aes.result.schedule in
    c.encrypt-x.ensures ∙ ap e c.loop.invariant ∙ sym (repeated-more e _ c.loop.counter)

pub returns : goal.returns
returns c =
    let key = c.args.key.now in
    let block = c.args.block.now in
    let schedule = c.new-aes.result.schedule in
    let n : c.loop.counter ≡ c.args.count = omega arith in
    let first = c.at-x.ensures ∙ part-all block c.told-block in
    c.into.ensures ∙ c.loop.invariant
    ∙ ap₂ (λ (b : List ℕ) (i : ℕ). repeated (cipher_of schedule) b i) first n
    ∙ ap (λ (e : List ℕ → List ℕ). repeated e block c.args.count) (ap cipher_of c.new-aes.ensures ∙ cipher-of-key key)
