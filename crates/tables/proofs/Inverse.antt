-- The power 254 is the inverse: computed at every byte.
use mathlib.Core.Path.{◌≡◌, refl}
use mathlib.Core.Bool.{Bool, true}
use Prim.Native.Nat.{ℕ, zero, suc, ◌<◌}
use lib.Dec.{T, eqb, eqb→eq}
use lib.ListN.{replicate}
use Rattle.tables.specs.Field.{x_times, times_low, times, inverse}
use Rattle.tables.proofs.Every.{every, every-at}

inverts : ℕ → ℕ → Bool
inverts zero x = true
inverts (suc b) x = eqb (times (suc b) (inverse (suc b))) 1

test : T (every inverts 0 (replicate 256 0))
unfolding inverts x_times times_low times inverse
test = tt

pub times-inverse : (b : ℕ) → suc b < 256 → times (suc b) (inverse (suc b)) ≡ 1
unfolding inverts
times-inverse b h = eqb→eq _ 1 (every-at inverts (replicate 256 0) test (suc b) h)

pub inverse-zero : inverse 0 ≡ 0
unfolding x_times times_low times inverse
inverse-zero = refl
