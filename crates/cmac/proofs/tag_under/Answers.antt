use Rattle.std.proofs.Common.{ℕ, ◌≡◌, ◌+◌, List, [], length, refl, sym, ap, ap₂, ◌∙◌, arith}
use Rattle.words.specs.Bytes.{xor_block}
use Rattle.words.specs.Words.{block_of}
use Rattle.cipher.specs.Cipher.{cipher_of}
use Rattle.cmac.specs.Context.{tag_under}
use Rattle.cmac.proofs.Chain.{turns, turns_more, taken, turns-whole}
use Rattle.cmac.proofs.Count.{last-counted, some-blocks}
use Rattle.cmac.proofs.TraceLaws.{count_under_lem}
use Rattle.cmac.proofs.tag_under.Goals as goal

pub overflow_add-i-end : goal.overflow_add-i-end
overflow_add-i-end c =
    omega (arith, (last-counted [] [] c.args.message.now c.before_last-before.result c.before_last-before.ensures).low)

pub loop-i-init : goal.loop-i-init
unfolding turns
loop-i-init c = record {
  inside = (last-counted [] [] c.args.message.now c.before_last-before.result c.before_last-before.ensures).low;
  state = refl;
  calls = refl;
}

pub loop-i-preserved : goal.loop-i-preserved
loop-i-preserved c =
    let e = cipher_of c.args.aes.now.schedule in
    let f = taken c.args.message.now (block_of c.last-last.result) c.before_last-before.result in record {
      inside = c.loop-i.invariant.inside;
      state =
          c.encrypt-value.ensures
          ∙ ap e (c.bitxor.ensures ∙ ap₂ xor_block c.loop-i.invariant.state c.input-input.ensures)
          ∙ sym (turns_more e f c.loop-i.i);
      calls = ap (λ (k : ℕ). k + 1) c.loop-i.invariant.calls;
    }

pub returns-clause-value : goal.returns-clause-value
unfolding tag_under
returns-clause-value c =
    let e = cipher_of c.args.aes.now.schedule in
    let m = c.args.message.now in
    let n = c.before_last-before.result in
    let i : c.loop-i.i ≡ n + 1 = omega arith in
    c.loop-i.invariant.state ∙ ap₂ (λ (l : List ℕ) (i : ℕ). turns e (taken m l n) i) c.last-last.ensures i
    ∙ turns-whole e _ _ m n c.before_last-before.ensures

pub returns-clause-count : goal.returns-clause-count
returns-clause-count c =
    let m = c.args.message.now in
    let i : c.loop-i.i ≡ c.before_last-before.result + 1 = omega arith in
    c.loop-i.invariant.calls ∙ i ∙ ap (λ (k : ℕ). k + 1) c.before_last-before.ensures ∙ some-blocks (length m)
    ∙ sym (count_under_lem c.args.aes.now.schedule c.args.subkeys.now m)
