-- The write is within its own limits, and the journal's tag under the context is that under the key.
use Rattle.std.proofs.Common.{◌∙◌}
use Rattle.cmac.proofs.Laws.{tags-of-context}
use Rattle.tree.specs.Calls.{write}
use Rattle.tree.proofs.LimitLaws.{passed}
use Rattle.recovery.proofs.OutcomeLaws.{write-refused, write-whole}
use Rattle.recovery.proofs.OutcomeLaws as laws
use Rattle.recovery.proofs.within.write.Goals as goal

pub card_depth-requires : goal.card_depth-requires
card_depth-requires c =
    let a = c.args in
    (laws.passed a.anchor a.card.now a.index.0 a.block.now a.ranges.now a.journal.now c.requires).sound.shallow

pub write_under-written-requires-clause-limits : goal.write_under-written-requires-clause-limits
write_under-written-requires-clause-limits c =
    let a = c.args in
    (laws.passed a.anchor a.card.now a.index.0 a.block.now a.ranges.now a.journal.now c.requires).limits-passed

pub invariant_of-path : goal.invariant_of-path
invariant_of-path c =
    let a = c.args in
    let p = laws.passed a.anchor a.card.now a.index.0 a.block.now a.ranges.now a.journal.now c.requires in
    record {
      on_card = rw c.card_depth.ensures
          (passed a.anchor a.card.now (write a.index.0 a.block.now a.ranges.now) p.limits-passed).inside;
    }

pub fill-requires-clause-card : goal.fill-requires-clause-card
fill-requires-clause-card c =
    let a = c.args in
    let s = (laws.passed a.anchor a.card.now a.index.0 a.block.now a.ranges.now a.journal.now c.requires).sound in
    rw c.card_depth.ensures
    (record { deep = s.deep; shallow = s.shallow; full = c.write_under-written.auto.card ∙ s.full })

pub fill-requires-clause-room : goal.fill-requires-clause-room
fill-requires-clause-room c =
    let a = c.args in
    rw c.card_depth.ensures
    (laws.passed a.anchor a.card.now a.index.0 a.block.now a.ranges.now a.journal.now c.requires).journal-long

pub raise-requires : goal.raise-requires
raise-requires c =
    let a = c.args in
    let p = laws.passed a.anchor a.card.now a.index.0 a.block.now a.ranges.now a.journal.now c.requires in
    (passed a.anchor a.card.now (write a.index.0 a.block.now a.ranges.now) p.limits-passed).unspent

pub returns-in-Ok : goal.returns-in-Ok
returns-in-Ok c =
    let a = c.args in
    write-whole a.anchor a.card.now a.index.0 a.block.now a.ranges.now a.journal.now _ _ _ _ _ _ c.requires
    (rw c.in-Ok.is at c.write_under-written.ensures) c.raise.ensures
    (rw (tags-of-context _ _ c.new-context.ensures, c.card_depth.ensures) at c.fill.ensures)

pub returns-in-Err : goal.returns-in-Err
returns-in-Err c =
    let a = c.args in
    write-refused a.anchor a.card.now a.index.0 a.block.now a.ranges.now a.journal.now c.in-Err.error _ _ _
    c.requires (rw c.in-Err.is at c.write_under-written.ensures)
