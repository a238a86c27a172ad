use Rattle.std.proofs.Common.{[], sym, ap₂, ◌∙◌, arith}
use Rattle.words.specs.Bytes.{xor_block}
use Rattle.cmac.proofs.Count.{last-counted, last-full, last-short}
use Rattle.cmac.proofs.message.last.Goals as goal

pub overflow_mul-start : goal.overflow_mul-start
overflow_mul-start c = omega (arith, (last-counted [] [] c.args.message.now c.args.count c.requires).low)

pub overflow_add-start : goal.overflow_add-start
overflow_add-start c = omega (arith, (last-counted [] [] c.args.message.now c.args.count c.requires).low)

pub returns-then-start-message : goal.returns-then-start-message
returns-then-start-message c =
    c.bitxor.ensures ∙ ap₂ xor_block c.at.ensures c.at-then-start-message.ensures
    ∙ sym (last-full _ _ c.args.message.now c.args.count c.requires c.if-start-message.true)

pub padded_block-requires : goal.padded_block-requires
padded_block-requires c =
    let n = last-counted [] [] c.args.message.now c.args.count c.requires in
    (n.low, omega (arith, n.high))

pub returns : goal.returns
returns c =
    c.bitxor-2.ensures ∙ ap₂ xor_block c.padded_block.ensures c.at-2.ensures
    ∙ sym (last-short _ _ c.args.message.now c.args.count c.requires c.if-start-message.false)
