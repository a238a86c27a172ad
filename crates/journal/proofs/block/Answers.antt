use Rattle.std.proofs.Common.{◌≡◌, true, false, ℕ, length, take, sym, ap, ◌∙◌, arith}
use lib.Pointwise.{bytes_decides}
use Rattle.tree.specs.Ranges.{ranges_of, encode}
use Rattle.journal.proofs.BlockLaws.{block-is, no-block, listed-front}
use Rattle.journal.proofs.block.Goals as goal

pub returns-then-leaves-index-clause-found : goal.returns-then-leaves-index-clause-found
returns-then-leaves-index-clause-found c =
    no-block c.args.depth.levels c.args.list.now
    (λ i f.
    let e = c.candidate-index.ensures i f.inside f.is in
    let h = f.inside in
    omega (arith, c.leaves.ensures, c.if-leaves-index.true))

pub returns-then-eq-clause-found : goal.returns-then-eq-clause-found
returns-then-eq-clause-found c =
    let n = c.args.depth.levels in
    let l = c.args.list.now in
    let i = c.candidate-index.result.0 in
    block-is n l i c.requires.deep c.args.depth.shallow
    (record {
      inside = omega (arith, c.leaves.ensures, c.if-leaves-index.false);
      is = (bytes_decides l (take (length l) c.fill.new.buffer)).0 (sym c.eq.ensures ∙ c.if-eq.true)
          ∙ ap (take (length l)) c.fill.ensures ∙ listed-front n i (length l) _ c.requires.list;
    })

pub returns-else-eq-clause-found : goal.returns-else-eq-clause-found
returns-else-eq-clause-found c =
    let n = c.args.depth.levels in
    let l = c.args.list.now in
    let j = c.candidate-index.result.0 in
    no-block n l
    (λ i f.
    let same : l ≡ take (length l) c.fill.new.buffer =
    f.is ∙ ap (λ (k : ℕ). encode (ranges_of n k)) (sym (c.candidate-index.ensures i f.inside f.is))
    ∙ sym (ap (take (length l)) c.fill.ensures ∙ listed-front n j (length l) _ c.requires.list) in
    let z : true ≡ false = sym ((bytes_decides l (take (length l) c.fill.new.buffer)).1 same) ∙ sym c.eq.ensures ∙ c.if-eq.false in
    absurd cc)
