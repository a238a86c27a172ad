use mathlib.Core.Path.{sym, ap, ◌∙◌}
use Rattle.std.proofs.Common.{arith}
use Rattle.tree.proofs.ByteLaws.{be-turned}
use Rattle.host_bytes.specs.Host.{number}
use Rattle.host_bytes.proofs.HostLaws.{number-be}
use Rattle.host_bytes.proofs.anchor.number_at.Goals as goal

pub returns : goal.returns
returns c =
    sym (number-be 8 c.be.result (omega arith))
    ∙ ap number (be-turned c.be.result c.at.result c.be.ensures ∙ c.at.ensures)
