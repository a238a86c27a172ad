-- A journalled write of the lengths that are right is made.
use Rattle.std.proofs.Common.{sym, ap, ◌∙◌}
use Rattle.host_bytes.specs.Host.{anchor_of}
use Rattle.host_bytes.proofs.JournalTripLaws.{journalled-measured}
use Rattle.host_bytes.proofs.Sizes as Sizes
use Rattle.host_journal.proofs.write.Goals as goal

pub of-requires : goal.of-requires
of-requires c = rw c.write-made.ensures.reports.gives.answered (Sizes.journalled _ _ _ _ _ _ _)

pub returns : goal.returns
returns c =
    let anchor = c.in-Some.ensures.cases in
    let raised = c.in-Some-as_mut_array.ensures.cases in
    let given = c.of-given.ensures in
    journalled-measured _ _ _ _ _ _ _ c.write-made.ensures c.of.ensures
    (rw (sym given) at c.settle.ensures.anchor_after) (rw (sym given) at c.settle.ensures.raised_after)
    (given ∙ ap anchor_of anchor.same) anchor.same raised.same anchor.long raised.long
