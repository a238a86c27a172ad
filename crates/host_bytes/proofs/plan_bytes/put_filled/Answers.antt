use mathlib.Core.Path.{ap, ◌∙◌}
use lib.Seq.{sets}
use Rattle.host_bytes.proofs.StoredLaws.{stored-is}
use Rattle.host_bytes.proofs.plan_bytes.put_filled.Goals as goal

pub returns : goal.returns
returns c = c.put.ensures ∙ ap (sets c.args.bytes.now 16) c.be.ensures ∙ stored-is c.args.bytes.now 16 c.told-bytes c.args.filled
