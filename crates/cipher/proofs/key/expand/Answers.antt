use Rattle.std.proofs.Common.{rules, ℕ, ◌+◌, ◌*◌, ◌≡◌, List, take, length, ap, ap₂, sym, refl, ◌∙◌, arith}
use lib.Seq.{take_all}
use native.Mathlib.Nat.{le_of_eq}
use Rattle.words.specs.Words.{state_of}
use Rattle.tables.specs.Field.{times}
use Rattle.cipher.specs.KeyExpansion.{z_power, round_constant, first_words, next_round_key, key_expansion}
use Rattle.cipher.proofs.Schedule.{constant_more, filled_more}
use Rattle.cipher.proofs.key.expand.Goals as goal

pub loop-round-init : goal.loop-round-init
unfolding first_words round_constant z_power
loop-round-init c =
    let e = c.put.ensures in
    record { filled = record { whole = ap length e; words = ap (take 16) e; last = ap (take 16) e }; constant = refl }

pub loop-round-preserved : goal.loop-round-preserved
loop-round-preserved c =
    let loop = c.loop-round in
    let k = loop.last in
    let e = c.next-last.ensures ∙ ap (λ (b : ℕ). next_round_key b (state_of k)) loop.invariant.constant in
    record {
      filled = rw c.put-in-loop-round.ensures
          (filled_more _ loop.schedule k c.next-last.result loop.round c.loop-round-test.true loop.invariant.filled e);
      constant = c.doubled-constant.ensures ∙ ap (times 2) loop.invariant.constant ∙ constant_more loop.round;
    }

pub returns : goal.returns
unfolding key_expansion
returns c =
    let loop = c.loop-round in
    let n : loop.round ≡ 10 = omega arith in
    let key = c.args.key in
    let whole : take 16 key ≡ key = take_all 16 key (search rules) in
    sym (take_all 176 loop.schedule (le_of_eq loop.invariant.filled.whole))
    ∙ ap (λ (i : ℕ). take (16 * i + 16) loop.schedule) (sym n) ∙ loop.invariant.filled.words
    ∙ ap₂ (λ (k : List ℕ) (i : ℕ). first_words k (4 * i)) (c.at-last.ensures ∙ whole) n
