-- the anchor's key is the one drawn, and what was lent is a card of that depth
use Rattle.std.proofs.Common.{rules, arith, ap, sym, ◌∙◌, ◌≡◌, replicate, take, length, ℕ}
use Rattle.std.proofs.lemmas.List.{take-replicate}
use Rattle.std.proofs.Math.Seq.{take-append_seam}
use Rattle.tree.specs.Layout.{card_length}
use Rattle.tree.specs.Answer.{answer_in, limited_in}
use Rattle.tree.specs.Calls.{format}
use Rattle.steps.proofs.history.History.format.Goals as goal

pub returns-clause-card : goal.returns-clause-card
unfolding format
returns-clause-card c =
    let len = card_length c.args.levels.depth.levels in
    let made = c.format-made.ensures in
    let key : c.unwrap_or-anchor.result.key ≡ c.fill.new.string = ap (λ a. a.key) (c.unwrap_or-anchor.ensures ∙ made.anchored) in
    let lent : take c.bytes.result (replicate {A = ℕ} 6608 165) ≡ replicate len 165
    = rw c.bytes.ensures.0 (take-replicate {X = ℕ} len 6608 165 (omega (arith, c.bytes.ensures))) in
    let answer : answer_in c.map_err.result ≡ limited_in c.format-made.result = search rules in
    let size : length c.format-made.new.card ≡ len = search rules in
    record {
      answered = rw (c.from-left.ensures.0, answer, sym lent) made.answered;
      anchored = search (rules, key);
      left = rw (key, sym lent, sym size) (take-append_seam _ _ ∙ made.left);
      filled = search rules;
    }
