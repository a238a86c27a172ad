use Rattle.std.proofs.Common.{ℕ, ◌-◌, sym, ap, ◌∙◌}
use Rattle.cmac.specs.Cmac.{blocks}
use Rattle.cmac.proofs.Count.{before-none, before-some}
use Rattle.cmac.proofs.message.before_last.Goals as goal

pub returns-then-n-eq0 : goal.returns-then-n-eq0
returns-then-n-eq0 c = sym (ap (λ (n : ℕ). blocks n - 1) c.if-n-eq0.true ∙ before-none)

pub returns-else-n-eq0 : goal.returns-else-n-eq0
returns-else-n-eq0 c = sym (before-some _ c.if-n-eq0.false)
