-- What the walk over the pairs found and counted under the context is so under the key, and so are the new tags.
use Rattle.std.proofs.Common.{sym, ap, ap₂, ◌∙◌, ◌+◌, arith}
use Rattle.cmac.proofs.Laws.{tags-of-context}
use Rattle.cmac.proofs.TraceLaws.{subkeys-count, counts-of-context}
use Rattle.tree.specs.Nodes.{pairs_but_leaf}
use Rattle.tree.specs.Calls.{write, checks}
use Rattle.tree.specs.Answer.{answer_in}
use Rattle.tree.proofs.LimitLaws.{passed, sound-card}
use Rattle.work.proofs.OutcomeLaws.{few-calls, found_of, count_of_lem, reports-wrong, reports-write}
use Rattle.work.proofs.write_under.Goals as goal

pub of-seen-requires-clause-card : goal.of-seen-requires-clause-card
of-seen-requires-clause-card c =
    sound-card (passed c.args.anchor c.args.card.now (write c.args.index.0 c.args.block.now c.args.ranges.now) c.requires.limits).sound

pub of-seen-requires-clause-index : goal.of-seen-requires-clause-index
of-seen-requires-clause-index c = (passed c.args.anchor c.args.card.now (write c.args.index.0 c.args.block.now c.args.ranges.now) c.requires.limits).inside

pub overflow_add-count : goal.overflow_add-count
unfolding checks
overflow_add-count c =
    let a = c.args.anchor in
    let card = c.args.card.now in
    let call = write c.args.index.0 c.args.block.now c.args.ranges.now in
    let b = c.of-seen.ensures in
    omega (
      arith,
      count_of_lem a.key _ c.requires.key a.depth a.root.0 card (pairs_but_leaf a.depth c.args.index.0)
          (rw (b.depth, b.root, b.bytes, b.index) at c.pairs-found.ensures.count),
      subkeys-count a.key,
      few-calls a.key a card call (passed a card call c.requires.limits),
    )

pub returns-in-Err : goal.returns-in-Err
unfolding checks
returns-in-Err c =
    let a = c.args.anchor in
    let card = c.args.card.now in
    let us = pairs_but_leaf a.depth c.args.index.0 in
    let made = c.requires.key in
    let b = c.of-seen.ensures in
    reports-wrong a card (write c.args.index.0 c.args.block.now c.args.ranges.now) _ _ c.requires.limits
    (ap answer_in (sym c.in-Err.is)
    ∙ found_of a.key _ made a.depth a.root.0 card us (rw (b.depth, b.root, b.bytes, b.index) at c.pairs-found.ensures.value))
    (count_of_lem a.key _ made a.depth a.root.0 card us (rw (b.depth, b.root, b.bytes, b.index) at c.pairs-found.ensures.count))

pub invariant_of-new : goal.invariant_of-new
invariant_of-new c =
    let p = passed c.args.anchor c.args.card.now (write c.args.index.0 c.args.block.now c.args.ranges.now) c.requires.limits in
    record { sized = p.long; nonces_left = omega (arith, p.unspent) }

pub fill-requires : goal.fill-requires
fill-requires c =
    let p = passed c.args.anchor c.args.card.now (write c.args.index.0 c.args.block.now c.args.ranges.now) c.requires.limits in
    omega (arith, p.room)

pub renew-requires : goal.renew-requires
renew-requires c =
    (passed c.args.anchor c.args.card.now (write c.args.index.0 c.args.block.now c.args.ranges.now) c.requires.limits).unspent

pub overflow_add-result : goal.overflow_add-result
unfolding checks
overflow_add-result c =
    let a = c.args.anchor in
    let card = c.args.card.now in
    let call = write c.args.index.0 c.args.block.now c.args.ranges.now in
    let made = c.requires.key in
    let b = c.of-seen.ensures in
    let p = c.path-path.ensures in
    omega (
      arith,
      count_of_lem a.key _ made a.depth a.root.0 card (pairs_but_leaf a.depth c.args.index.0)
          (rw (b.depth, b.root, b.bytes, b.index) at c.pairs-found.ensures.count),
      rw (counts-of-context a.key _ made, p.depth, p.index, b.depth, b.index) at (c.stamp-tagged.ensures.value a.root.0),
      subkeys-count a.key,
      few-calls a.key a card call (passed a card call c.requires.limits),
    )

pub returns : goal.returns
unfolding checks
returns c =
    let a = c.args.anchor in
    let card = c.args.card.now in
    let us = pairs_but_leaf a.depth c.args.index.0 in
    let made = c.requires.key in
    let b = c.of-seen.ensures in
    let p = c.path-path.ensures in
    reports-write a card c.args.index.0 c.args.block.now c.args.ranges.now _ _ _ _ c.requires.limits
    (ap answer_in (sym c.in_default.is)
    ∙ found_of a.key _ made a.depth a.root.0 card us (rw (b.depth, b.root, b.bytes, b.index) at c.pairs-found.ensures.value))
    (ap₂ ◌+◌
    (count_of_lem a.key _ made a.depth a.root.0 card us (rw (b.depth, b.root, b.bytes, b.index) at c.pairs-found.ensures.count))
    (rw (counts-of-context a.key _ made, p.depth, p.index, b.depth, b.index) at (c.stamp-tagged.ensures.value a.root.0)))
    c.renew.ensures
    (rw (tags-of-context a.key _ made, p.depth, p.index, b.depth, b.index) at (c.stamp-tagged.ensures.card_after a.root.0))
    (rw (p.depth, p.index, b.depth, b.index) at c.fill.ensures)
