use Rattle.std.proofs.Common.{ap, reverse, ◌∙◌}
use Rattle.tree.proofs.ByteLaws.{reverse-bytes}
use Rattle.tree.proofs.numbers.be.Goals as goal

pub returns : goal.returns
returns g c = c.reversed.ensures ∙ ap reverse (g.met.W.Word.numbered c.args.number) ∙ reverse-bytes _ _
