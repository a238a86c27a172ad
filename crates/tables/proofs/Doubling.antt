-- The product with 2 is x_times, which stays among the bytes: both computed at every byte.
use mathlib.Core.Path.{◌≡◌}
use mathlib.Core.Bool.{Bool}
use Prim.Native.Nat.{ℕ, ◌<◌}
use lib.Dec.{T, eqb, eqb→eq, ltb}
use lib.ListN.{replicate}
use Rattle.std.proofs.Math.Facts.{ltb_yes}
use Rattle.tables.specs.Field.{x_times, times_low, times}
use Rattle.tables.proofs.Every.{every, every-at}

doubles : ℕ → ℕ → Bool
doubles b x = eqb (times 2 b) (x_times b)

all-double : T (every doubles 0 (replicate 256 0))
unfolding doubles x_times times_low times
all-double = tt

pub times-two : (b : ℕ) → b < 256 → times 2 b ≡ x_times b
unfolding doubles
times-two b h = eqb→eq _ _ (every-at doubles (replicate 256 0) all-double b h)

stays : ℕ → ℕ → Bool
stays b x = ltb (x_times b) 256

all-stay : T (every stays 0 (replicate 256 0))
unfolding stays x_times
all-stay = tt

pub x-times-byte : (b : ℕ) → b < 256 → x_times b < 256
unfolding stays
x-times-byte b h = ltb_yes (every-at stays (replicate 256 0) all-stay b h)
