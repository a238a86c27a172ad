-- Each turn takes the next node of the list off what is left of it.
use Rattle.std.proofs.Common.{sym, ◌∙◌, subst, arith}
use Rattle.std.proofs.lemmas.Bool.{not-true, not-false}
use Rattle.std.specs.Iterator.{IsFinite}
use Rattle.card.specs.Walks.{GivesNodes}
use Rattle.card.proofs.WalkLaws.{along_all, along_node, along-fits, along_right, along_wrong, along_end}
use Rattle.card.proofs.walk.each.Goals as goal

pub loop-node-init : goal.loop-node-init
loop-node-init g c =
    let e = c.into_iter-node-iterator.ensures.into_iter_gives in (
      subst g.I.Iterator.can_next (sym e) c.requires.can,
      subst (λ s. IsFinite (g.I.Iterator.remaining s)) (sym e) c.requires.ends,
      λ us h. along_all c.args.context.now c.args.card.now _ _ (subst (λ s. GivesNodes g.I.Iterator.next_gives c.args.card.now.depth.levels s us) (sym e) h),
    )

pub invariant_of-seen : goal.invariant_of-seen
invariant_of-seen g c =
    let us = c.requires.nodes in
    record { on_card = along_node c.args.context.now c.args.card.now _ _ (c.loop-node.invariant.2 us.0 us.1) c.in-Some.ensures.steps }

pub overflow_add-count : goal.overflow_add-count
overflow_add-count g c =
    let us = c.requires.nodes in
    omega (
      arith,
      along-fits c.args.context.now c.args.card.now _ _ (c.loop-node.invariant.2 us.0 us.1) c.in-Some.ensures.steps
          c.is_right-tested.ensures.count,
    )

pub returns-then-not-tested : goal.returns-then-not-tested
returns-then-not-tested g c =
    λ us h.
    along_wrong c.args.context.now c.args.card.now _ _ (c.loop-node.invariant.2 us h) c.in-Some.ensures.steps
    c.is_right-tested.ensures.count (sym c.is_right-tested.ensures.value ∙ not-true _ c.if-not-tested.true)

pub loop-node-preserved : goal.loop-node-preserved
loop-node-preserved g c = (
  (c.in-Some.ensures.goes.on c.loop-node.invariant.1).0,
  (c.in-Some.ensures.goes.on c.loop-node.invariant.1).1,
  λ us h.
      along_right c.args.context.now c.args.card.now _ _ (c.loop-node.invariant.2 us h) c.in-Some.ensures.steps
      c.is_right-tested.ensures.count (sym c.is_right-tested.ensures.value ∙ not-false _ c.if-not-tested.false),
)

pub returns : goal.returns
returns g c = λ us h. along_end c.args.context.now c.args.card.now _ _ (c.loop-node.invariant.2 us h) c.in-None.ensures.steps
