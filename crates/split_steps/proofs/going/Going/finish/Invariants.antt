use Rattle.std.proofs.Common.{◌≡◌, ◌*◌}
use Rattle.split_steps.proofs.going.Going.finish.Given as goal

-- a put leaves the block
abbrev pub invariant-loop-k : goal.invariant-loop-k
invariant-loop-k l = l.places ≡ 2 * l.self.target.levels.depth.levels
