-- What the journal says decides.
use Rattle.std.proofs.Common.{sym, ◌∙◌}
use Rattle.tree.proofs.LimitLaws.{sound-card}
use Rattle.recovery.proofs.OutcomeLaws.{measured, recover-other, recover-unlisted, recover-block}
use Rattle.recovery.proofs.within.recover.Goals as goal

pub card_depth-depth-requires : goal.card_depth-depth-requires
card_depth-depth-requires c = (measured c.args.anchor c.args.card.now c.args.journal.now c.requires).sound.shallow

pub invariant_of-journal : goal.invariant_of-journal
invariant_of-journal c =
    record { full = rw c.card_depth-depth.ensures (measured c.args.anchor c.args.card.now c.args.journal.now c.requires).journal-long }

pub returns-then-not-applies : goal.returns-then-not-applies
returns-then-not-applies c =
    recover-other c.args.anchor c.args.card.now c.args.journal.now c.requires
    (rw c.card_depth-depth.ensures at (sym c.applies.ensures ∙ c.if-not-applies.true))

pub block-requires-clause-deep : goal.block-requires-clause-deep
block-requires-clause-deep c =
    rw c.card_depth-depth.ensures (measured c.args.anchor c.args.card.now c.args.journal.now c.requires).sound.deep

pub returns-in_default : goal.returns-in_default
returns-in_default c =
    recover-unlisted c.args.anchor c.args.card.now c.args.journal.now c.requires
    (rw c.card_depth-depth.ensures at (sym c.applies.ensures ∙ c.if-not-applies.false))
    (rw (c.list.ensures.list, c.card_depth-depth.ensures) at c.in_default.ensures.found)

pub lay-requires-clause-card : goal.lay-requires-clause-card
lay-requires-clause-card c =
    rw c.card_depth-depth.ensures (sound-card (measured c.args.anchor c.args.card.now c.args.journal.now c.requires).sound)

pub returns : goal.returns
returns c =
    recover-block c.args.anchor c.args.card.now c.args.journal.now c.in-Some.index.0 _ c.requires
    (rw c.card_depth-depth.ensures at (sym c.applies.ensures ∙ c.if-not-applies.false))
    (rw (c.list.ensures.list, c.card_depth-depth.ensures) at c.in-Some.ensures.found)
    (rw (c.new_bytes.ensures.bytes, c.card_depth-depth.ensures) at c.lay.ensures)
