-- The limits, as lists of tests: a call is refused for the first that fails.
use Rattle.std.specs.Prelude.{ℕ, ◌+◌, ◌*◌, ◌%◌, ◌^◌, Bool, not, cond, ◌||◌, List, [], ◌∷◌, eqb, ltb, leb}
use Rattle.std.proofs.Math.Option.{Option, none, some}
use Rattle.tree.specs.Layout.{card_length}
use Rattle.tree.specs.declared.Refusal.{Refusal}
use Rattle.tree.specs.declared.Refusal.TheVariants.{Depth, RootNonce, CardLength, BlockNumber, BlockLength, RangeLength, NoncesSpent}

pub record Limit : Type 0 where
  pub fails : Bool
  pub refusal : Refusal

-- 1: the depth is 0 or above 16
abbrev pub depth_limit : ℕ → Limit
depth_limit n = record { fails = eqb n 0 || ltb 16 n; refusal = Depth }

-- 2: the root nonce t or the reserved one h is no multiple of the depth, or h is below t
abbrev pub nonce_limit : ℕ → ℕ → ℕ → Limit
nonce_limit n t h = record { fails = not (eqb (t % n) 0) || (not (eqb (h % n) 0) || ltb h t); refusal = RootNonce }

-- 3: the card's length is not the formula's
abbrev pub card_limit : ℕ → ℕ → Limit
card_limit n len = record { fails = not (eqb len (card_length n)); refusal = CardLength }

-- 4: there is no such block
abbrev pub block_limit : ℕ → ℕ → Limit
block_limit n i = record { fails = leb (2 ^ n) i; refusal = BlockNumber }

-- 5: the read buffer or the new block has not 64 bytes
abbrev pub length_limit : ℕ → Limit
length_limit len = record { fails = not (eqb len 64); refusal = BlockLength }

-- 6: the range buffer is too short
abbrev pub range_limit : ℕ → ℕ → Limit
range_limit n len = record { fails = ltb len (16 * n); refusal = RangeLength }

-- 7: the nonces are spent; r is the last one reserved
abbrev pub spent_limit : ℕ → ℕ → Limit
spent_limit n r = record { fails = leb (2 ^ 64) (r + n); refusal = NoncesSpent }

unfoldable pub first_failing : List Limit → Option Refusal
first_failing [] = none
first_failing (l ∷ ls) = cond l.fails (some l.refusal) (first_failing ls)
