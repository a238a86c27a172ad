-- The node that the answer names is one of a card's.
use Rattle.host_bytes.proofs.Sizes as Sizes
use Rattle.pat.proofs.pat_check.Goals as goal

pub of-requires : goal.of-requires
of-requires c = rw c.check.ensures.gives.answered (Sizes.call _ _ _ _)
