-- Two entries more with each turn.
use Rattle.std.proofs.Common.{◌≡◌, refl, ap, ap₂, ◌∙◌, ℕ, ◌-◌, map, arith, rules}
use Rattle.words.specs.Words.{bytes}
use Rattle.cmac.specs.Context.{tag_by, count_by}
use Rattle.cmac.proofs.Laws.{length-tag-under}
use Rattle.tree.specs.Nodes.{up_to, pair, pairs}
use Rattle.tree.specs.Labels.{message, labels, new_labels}
use Rattle.tree.specs.Card.{put_each, stamped, written}
use Rattle.tree.specs.Calls.{total}
use Rattle.tree.proofs.LayoutLaws.{few-leaves}
use Rattle.tree.proofs.CountLaws.{two-more}
use Rattle.stamp.proofs.StampLaws.{on_path, beside, few-put, few-label, same-card, write-more}
use Rattle.stamp.proofs.NewBlock.stamp.Goals as goal

pub loop-level-init : goal.loop-level-init
unfolding stamped put_each up_to total
loop-level-init c = (λ t. (refl, refl), search rules)

pub invariant_of-entry : goal.invariant_of-entry
invariant_of-entry c = record { on_card = on_path c.args.self.now.path _ _ c.loop-level-test.true c.node-own.ensures }

pub sibling-requires : goal.sibling-requires
sibling-requires c =
    let p = c.args.self.now.path in
    omega (arith, on_path p _ _ c.loop-level-test.true c.node-own.ensures, few-leaves p.depth.levels p.depth.shallow)

pub invariant_of-other : goal.invariant_of-other
invariant_of-other c =
    record { on_card = beside _ _ _ c.sibling.ensures (on_path c.args.self.now.path _ _ c.loop-level-test.true c.node-own.ensures) }

-- Both messages of a level take few calls

pub overflow_add-count : goal.overflow_add-count
overflow_add-count c =
    let few = few-put c.args.context.now _ _ c.args.self.now.bytes.now _ _ _ _ c.args.self.now.sized c.put_entry-count.ensures.value in
    omega (arith, few, c.args.self.now.path.depth.shallow)

pub overflow_add-count-in-loop-level : goal.overflow_add-count-in-loop-level
overflow_add-count-in-loop-level c =
    let p = c.args.self.now.path in
    let h = beside _ _ _ c.sibling.ensures (on_path p _ _ c.loop-level-test.true c.node-own.ensures) in
    let d = same-card _ (c.put_entry-count.auto.card ∙ c.loop-level.auto.card) c.requires in
    let few = few-put c.args.context.now _ _ c.args.self.now.bytes.now _ _ _ _ c.args.self.now.sized c.put_entry-count.ensures.value in
    let too = few-label c.args.context.now _ _ _ _ d h c.put_tag-count.ensures.value in
    omega (arith, few, too, p.depth.shallow)

pub loop-level-preserved : goal.loop-level-preserved
loop-level-preserved c =
    let a = c.args in
    let b = a.self.now in
    let p = b.path in
    let n = p.depth.levels in
    let new = c.root-root.result.0 in
    let i = p.index.0 in
    let y = c.loop-level.level in
    let each = count_by a.context.now in
    let h = beside _ _ _ c.sibling.ensures (on_path p _ _ c.loop-level-test.true c.node-own.ensures) in
    let d = same-card _ (c.put_entry-count.auto.card ∙ c.loop-level.auto.card) c.requires in
    let few = few-put c.args.context.now _ _ b.bytes.now _ _ _ _ b.sized c.put_entry-count.ensures.value in
    let too = few-label c.args.context.now _ _ _ _ d h c.put_tag-count.ensures.value in (
      λ t.
          let level =
          write-more n i p.on_card y c.node-own.result.0 c.sibling.result.0 c.loop-level-test.true c.node-own.ensures c.sibling.ensures
          (tag_by a.context.now) (length-tag-under _ _) new t b.bytes.now a.card.now (omega arith) b.sized
          c.requires (bytes 8 c.be-parent.result) c.loop-level.card _ c.be-parent.ensures (c.loop-level.invariant.0 t).0
          c.put_entry-count.ensures.card_after in (
            c.put_tag-count.ensures.card_after ∙ level.put,
            two-more each (new_labels n (new - n) i b.bytes.now (labels n t a.card.now)) n i y _ _ _ (c.loop-level.invariant.0 t).1
                (c.put_entry-count.ensures.value ∙ ap each level.own) (c.put_tag-count.ensures.value ∙ ap each level.other),
          ),
      omega (arith, few, too),
    )

pub returns : goal.returns
unfolding written pairs
returns c =
    let a = c.args in
    let b = a.self.now in
    let n = b.path.depth.levels in
    let i = b.path.index.0 in
    let e : c.root-root.result.0 - n ≡ b.last.0 = omega (arith, c.root-root.ensures) in
    let k : c.loop-level.level ≡ n = omega arith in
    record {
      card_after =
          λ t.
          (c.loop-level.invariant.0 t).0
          ∙ ap₂ (λ (r y : ℕ). stamped (tag_by a.context.now) n (new_labels n r i b.bytes.now (labels n t a.card.now)) (up_to y (pair n i))
          a.card.now) e k;
      value =
          λ t.
          (c.loop-level.invariant.0 t).1
          ∙ ap₂ (λ (r y : ℕ). total (count_by a.context.now) (map (message (new_labels n r i b.bytes.now (labels n t a.card.now)))
          (up_to y (pair n i)))) e k;
    }
