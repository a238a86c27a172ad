-- What the walk over the pairs found and counted under the context is so under the key.
use Rattle.std.proofs.Common.{sym, ap, ap₂, ◌∙◌, ◌++◌, map, ℕ, ◌+◌, drop, arith}
use Rattle.cmac.proofs.TraceLaws.{subkeys-count}
use Rattle.tree.specs.Nodes.{pairs_but_leaf}
use Rattle.tree.specs.Labels.{written_labels}
use Rattle.tree.specs.Answer.{answer_in}
use Rattle.tree.specs.declared.BlockIndex.{BlockIndex}
use Rattle.tree.specs.Calls.{write, checks}
use Rattle.tree.proofs.LimitLaws.{passed, sound-card}
use Rattle.work.proofs.OutcomeLaws.{few-calls, found_of, count_of_lem}
use Rattle.plan.specs.Places.{plan_nodes}
use Rattle.plan.specs.Split.{given, joined}
use Rattle.plan.specs.declared.Plan.{Plan}
use Rattle.split.proofs.OutcomeLaws.{plan-wrong, plan-whole, messages-bytes}
use Rattle.split.proofs.within.plan.Goals.{in-Ok, in-Err}
use Rattle.split.proofs.within.plan.Goals as goal

pub of-seen-requires-clause-card : goal.of-seen-requires-clause-card
of-seen-requires-clause-card c =
    sound-card (passed c.args.anchor c.args.card.now (write c.args.index.0 c.args.block.now c.args.ranges.now) c.requires).sound

pub of-seen-requires-clause-index : goal.of-seen-requires-clause-index
of-seen-requires-clause-index c = (passed c.args.anchor c.args.card.now (write c.args.index.0 c.args.block.now c.args.ranges.now) c.requires).inside

pub invariant_of-new : goal.invariant_of-new
invariant_of-new c =
    let p = passed c.args.anchor c.args.card.now (write c.args.index.0 c.args.block.now c.args.ranges.now) c.requires in
    record { sized = p.long; nonces_left = omega (arith, p.unspent) }

pub lay-requires-clause-ranges_room : goal.lay-requires-clause-ranges_room
lay-requires-clause-ranges_room c =
    let p = passed c.args.anchor c.args.card.now (write c.args.index.0 c.args.block.now c.args.ranges.now) c.requires in
    omega (arith, p.room)

pub overflow_add-result : goal.overflow_add-result
unfolding checks
overflow_add-result c =
    let a = c.args.anchor in
    let card = c.args.card.now in
    let call = write c.args.index.0 c.args.block.now c.args.ranges.now in
    let v = c.of-seen.ensures in
    omega (
      arith,
      count_of_lem a.key _ c.new-context.ensures a.depth a.root.0 card (pairs_but_leaf a.depth c.args.index.0) (rw (v.depth, v.root, v.bytes, v.index) at c.pairs-found.ensures.count),
      subkeys-count a.key,
      few-calls a.key a card call (passed a card call c.requires),
    )

pub returns : goal.returns
unfolding checks
returns c =
    let a = c.args.anchor in
    let card = c.args.card.now in
    let n = a.depth in
    let t = a.root.0 in
    let r = a.reserved.0 in
    let i = c.args.index.0 in
    let block = c.args.block.now in
    let ranges = c.args.ranges.now in
    let us = pairs_but_leaf n i in
    let made = c.new-context.ensures in
    let v = c.of-seen.ensures in
    let found = found_of a.key _ made n t card us (rw (v.depth, v.root, v.bytes, v.index) at c.pairs-found.ensures.value) in
    let count = count_of_lem a.key _ made n t card us (rw (v.depth, v.root, v.bytes, v.index) at c.pairs-found.ensures.count) in
    let s = passed a card (write i block ranges) c.requires in
    let path = c.path-path.ensures in
    elim c.match-found.branch [
      | in-Ok w ↦
          rw (w.value-is, w.card-is, w.ranges-is, w.messages-is)
          (plan-whole a card i block ranges c.args.messages.now _ _ _ _ _ _ c.requires
          (ap answer_in (sym w.in-Ok.is) ∙ found) count w.raise.ensures
          (w.lay.ensures.value
          ∙ ap₂ (λ (j m : ℕ). let q : Plan = record { index = record { 0 = j }; root = record { 0 = r + m }; filled = 0 } in q)
          (path.index ∙ ap (λ (i : BlockIndex). i.0) v.index) (path.depth ∙ v.depth))
          (rw (path.depth, path.index, v.depth, v.index) at (w.lay.ensures.card_after t)) (rw (path.depth, path.index, v.depth, v.index) at w.lay.ensures.ranges_after)
          ((rw (path.depth, path.index, v.depth, v.index) at (w.lay.ensures.messages_after t))
          ∙ ap (λ (k : ℕ). joined (map (given (written_labels n t r card i block)) (plan_nodes n i)) ++ drop k c.args.messages.now)
          (sym (messages-bytes n t r i card block (sound-card s.sound) s.inside s.long))))
      | in-Err w ↦
          rw (w.value-is, w.card-is, w.ranges-is, w.messages-is)
          (plan-wrong a card i block ranges c.args.messages.now _ _ c.requires (ap answer_in (sym w.in-Err.is) ∙ found) count)
    ]

pub raise-requires : goal.raise-requires
raise-requires c =
    (passed c.args.anchor c.args.card.now (write c.args.index.0 c.args.block.now c.args.ranges.now) c.requires).unspent
