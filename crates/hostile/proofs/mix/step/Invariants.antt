use Rattle.std.proofs.Common.{◌≡◌, length}
use Rattle.tree.specs.Layout.{card_length}
use Rattle.hostile.proofs.mix.step.Given as goal

-- the mixed card is as long as the card
abbrev pub invariant-loop : goal.invariant-loop
invariant-loop l = length l.mixed ≡ card_length l.levels.depth.levels
