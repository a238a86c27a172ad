use Rattle.std.proofs.Common.{◌+◌, ◌*◌, ℕ, List, refl, ap₂, ◌∙◌, arith}
use Rattle.std.proofs.lemmas.List.Edits.{sets}
use Rattle.words.specs.Bytes.{part}
use Rattle.tree.specs.Ranges.{range_of, ranges_to}
use Rattle.journal.specs.Journal.{scattered}
use Rattle.journal.proofs.LevelLaws.{level-node, level-room}
use Rattle.journal.proofs.ScatterLaws.{scattered_more}
use Rattle.journal.proofs.lay.Goals as goal

pub loop-level-init : goal.loop-level-init
unfolding ranges_to scattered
loop-level-init c = refl

pub invariant_of-lay_entry : goal.invariant_of-lay_entry
invariant_of-lay_entry c = record {
  on_card =
      level-node c.args.path.depth.levels c.args.path.index.0 c.loop-level.level c.node-own.result.0 _ c.args.path.on_card (omega arith)
      c.node-own.ensures (omega arith);
}

pub lay_entry-next-requires-clause-room : goal.lay_entry-next-requires-clause-room
lay_entry-next-requires-clause-room c =
    let p = c.pair in
    let n = c.args.path.depth.levels in
    omega (
      arith,
      level-room n c.loop-level.level c.node-own.result.0 p.result.0.0 p.result.1.0 (omega arith) p.ensures.lower p.ensures.upper,
    )

pub lay_entry-requires-clause-room : goal.lay_entry-requires-clause-room
lay_entry-requires-clause-room c =
    let p = c.pair in
    omega (
      arith,
      c.lay_entry-next.ensures.end,
      level-room c.args.path.depth.levels c.loop-level.level c.node-own.result.0 p.result.0.0 p.result.1.0 (omega arith) p.ensures.lower
          p.ensures.upper,
    )

pub loop-level-preserved : goal.loop-level-preserved
loop-level-preserved c =
    let loop = c.loop-level in
    let new = c.args.new.now in
    let n = c.args.path.depth.levels in
    let u = c.node-own.result.0 in
    let place = 40 * loop.level in
    let put : List ℕ → ℕ → ℕ → List ℕ = λ s o w. let r = range_of n u w in sets s r.start (part new o r.count) in
    c.lay_entry.ensures.laid
    ∙ ap₂ (λ (l : List ℕ) (k : ℕ). put l k c.pair.result.1.0) c.lay_entry-next.ensures.laid c.lay_entry-next.ensures.end
    ∙ ap₂ (λ (v w : ℕ). put (put loop.card place v) (place + (range_of n u v).count) w) c.pair.ensures.lower c.pair.ensures.upper
    ∙ scattered_more n c.args.path.index.0 c.args.path.on_card new c.args.card.now loop.card loop.level u (omega arith) loop.invariant
    c.node-own.ensures
