-- The card is blank under the anchor as it has moved.
use Rattle.tree.specs.Calls.{wipe}
use Rattle.tree.proofs.LimitLaws.{passed, sound-card}
use Rattle.work.proofs.OutcomeLaws.{reports-wipe}
use Rattle.work.proofs.wipe.Goals as goal

pub renew-wiped-requires : goal.renew-wiped-requires
renew-wiped-requires c = (passed c.args.anchor c.args.card.now wipe c.requires).unspent

pub blank-count-requires : goal.blank-count-requires
blank-count-requires c = rw c.renew-wiped.ensures (sound-card (passed c.args.anchor c.args.card.now wipe c.requires).sound)

pub returns : goal.returns
returns c =
    reports-wipe c.args.anchor c.args.card.now _ _ _ c.requires (rw c.renew-wiped.ensures at c.blank-count.ensures.value)
    c.renew-wiped.ensures (rw c.renew-wiped.ensures at c.blank-count.ensures.card_after)
