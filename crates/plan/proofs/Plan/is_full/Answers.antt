use Rattle.std.proofs.Common.{ap, ◌∙◌, ℕ, ◌-◌, ◌%◌, nat_eq}
use Rattle.plan.proofs.PlaceLaws.{by_ones}
use Rattle.plan.proofs.Plan.is_full.Goals as goal

pub returns : goal.returns
returns c =
    ap (λ (m : ℕ). nat_eq (c.args.self.filled % m) (m - 1)) c.bit-places.ensures
    ∙ by_ones c.args.depth.levels c.args.self c.requires
