use Rattle.std.proofs.Common.{◌≡◌, List, ℕ, ◌+◌, ◌-◌, refl, ap₂, sym, ◌∙◌, arith}
use Rattle.cipher.specs.State.{sub_bytes, shift_rows, mix_columns, add_round_key}
use Rattle.cipher.specs.Cipher.{round_key, rounds, last_round, cipher_of}
use Rattle.cipher.proofs.Rounds.{rounds-more, round-key-added}
use Rattle.cipher.proofs.Aes128.encrypt.Goals as goal

pub loop-i-init : goal.loop-i-init
unfolding rounds
loop-i-init c = refl

pub loop-i-preserved : goal.loop-i-preserved
unfolding round_key
loop-i-preserved c =
    let i = c.loop-i.i in
    let e : i + 1 - 1 ≡ i = omega arith in
    c.whole-state.ensures
    ∙ ap₂ (λ (s k : List ℕ). add_round_key (mix_columns (shift_rows (sub_bytes s))) k) c.loop-i.invariant c.at-in-loop-i.ensures
    ∙ sym (rw e (rounds-more c.args.self.now.schedule _ i (omega arith)))

pub returns : goal.returns
unfolding round_key last_round cipher_of
returns c =
    let n : c.loop-i.i - 1 ≡ 9 = omega arith in
    let s₀ = c.bitxor-state.ensures ∙ round-key-added _ _ ∙ ap₂ add_round_key c.from.ensures c.at.ensures in
    c.from-2.ensures ∙ c.last.ensures
    ∙ ap₂ (λ (s k : List ℕ). add_round_key (shift_rows (sub_bytes s)) k)
    (c.loop-i.invariant ∙ ap₂ (rounds c.args.self.now.schedule) s₀ n) c.at-2.ensures
