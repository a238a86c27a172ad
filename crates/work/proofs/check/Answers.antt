-- What the walk over all nodes found and counted under the context is so under the key.
use Rattle.std.proofs.Common.{arith}
use Rattle.cmac.proofs.TraceLaws.{subkeys-count}
use Rattle.tree.specs.Nodes.{all_nodes}
use Rattle.tree.specs.Calls.{check, checks}
use Rattle.tree.proofs.LimitLaws.{passed, sound-card}
use Rattle.work.proofs.OutcomeLaws.{few-calls, found_of, count_of_lem, reports-check}
use Rattle.work.proofs.check.Goals as goal

pub of-requires : goal.of-requires
of-requires c = sound-card (passed c.args.anchor c.args.card.now check c.requires)

pub overflow_add-result : goal.overflow_add-result
unfolding checks
overflow_add-result c =
    let a = c.args.anchor in
    let card = c.args.card.now in
    let made = c.new-context.ensures in
    let v = c.of.ensures in
    omega (
      arith,
      count_of_lem a.key _ made a.depth a.root.0 card (all_nodes a.depth) (rw (v.depth, v.root, v.bytes) at c.all-found.ensures.count),
      subkeys-count a.key,
      few-calls a.key a card check (passed a card check c.requires),
    )

pub returns : goal.returns
unfolding checks
returns c =
    let a = c.args.anchor in
    let card = c.args.card.now in
    let made = c.new-context.ensures in
    let v = c.of.ensures in
    reports-check a card _ _ c.requires (found_of a.key _ made a.depth a.root.0 card (all_nodes a.depth) (rw (v.depth, v.root, v.bytes) at c.all-found.ensures.value))
    (count_of_lem a.key _ made a.depth a.root.0 card (all_nodes a.depth) (rw (v.depth, v.root, v.bytes) at c.all-found.ensures.count))
