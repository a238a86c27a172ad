-- a power of two grows with its exponent
use Rattle.std.proofs.Common.{arith}
use Rattle.std.proofs.Math.Pow.{pow_mono}
use Rattle.steps.proofs.levels.Levels.blocks.Goals as goal

pub returns : goal.returns
returns c = omega (arith, pow_mono {i = 1} c.args.self.deep, pow_mono {j = 6} c.args.self.shallow)
