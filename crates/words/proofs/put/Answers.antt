use Rattle.words.proofs.Stores.{sets_more}
use Rattle.words.proofs.put.Goals as goal

pub loop-i-preserved : goal.loop-i-preserved
loop-i-preserved c = rw c.loop-i.invariant (sets_more _ _ _ _ c.loop-i-test.true)
