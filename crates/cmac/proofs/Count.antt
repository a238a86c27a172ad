-- How many blocks a message has, and what its last block is.
use mathlib.Core.Path.{◌≡◌, refl}
use mathlib.Core.Bool.{true, false}
use mathlib.Core.List.{List}
use Prim.Native.Nat.{ℕ, zero, suc, ◌+◌, ◌-◌, ◌*◌, ◌/◌, ◌%◌, ◌≤◌}
use native.Mathlib.Omega.{arith}
use borrow.Author.Tests.{eq-eqb, ne_eqb}
use lib.Dec.{eqb-suc-zero}
use lib.ListN.{length}
use Rattle.words.specs.Bytes.{xor_block}
use Rattle.cmac.specs.Cmac.{blocks, complete, message_block, padding, last_block}

-- n blocks stand before the last one of a message of that length
pub record Counted (len n : ℕ) : Type 0 where
  pub low : 16 * n ≤ len
  pub high : len ≤ 16 * n + 16
  pub full : 16 * n + 16 ≡ len → complete len ≡ true
  pub short : (16 * n + 16 ≡ len → ⊥) → complete len ≡ false

blocks-some : (k : ℕ) → blocks (suc k) ≡ (suc k + 15) / 16
unfolding blocks
blocks-some k = rw eqb-suc-zero

-- there is a last one
pub some-blocks : (len : ℕ) → blocks len - 1 + 1 ≡ blocks len
unfolding blocks
some-blocks zero = refl
some-blocks (suc k) = omega (arith, blocks-some k)

pub blocks-bound : (len : ℕ) → 16 * blocks len ≤ len + 16
unfolding blocks
blocks-bound zero = omega arith
blocks-bound (suc k) = omega (arith, blocks-some k)

pub counted : (len : ℕ) → Counted len (blocks len - 1)
unfolding blocks complete
counted zero = record { low = omega arith; high = omega arith; full = λ e. absurd (omega arith); short = λ e. refl }
counted (suc k) =
    let e : blocks (suc k) ≡ (suc k + 15) / 16 = blocks-some k in
    record {
      low = omega arith;
      high = omega arith;
      full = λ (p : 16 * (blocks (suc k) - 1) + 16 ≡ suc k). rw (eqb-suc-zero, eq-eqb (suc k % 16) 0 (omega arith));
      short =
          λ (p : 16 * (blocks (suc k) - 1) + 16 ≡ suc k → ⊥).
          let q : suc k % 16 ≡ 0 → ⊥ = λ (z : suc k % 16 ≡ 0). p (omega arith) in
          rw (eqb-suc-zero, ne_eqb (suc k % 16) 0 q);
    }

-- the same number, as the code has it
pub before-none : blocks 0 - 1 ≡ 0
unfolding blocks
before-none = refl

pub before-some : (len : ℕ) → (len ≡ 0 → ⊥) → blocks len - 1 ≡ (len - 1) / 16
before-some zero h = absurd (h refl)
before-some (suc k) h = omega (arith, blocks-some k)

-- the last block, after n others
module _ (k1 k2 m : List ℕ) (n : ℕ) (before : n ≡ blocks (length m) - 1) where
  pub last-counted : Counted (length m) n
  last-counted = rw before (counted (length m))

  pub last-full : 16 * n + 16 ≡ length m → last_block k1 k2 m ≡ xor_block (message_block m n) k1
  unfolding last_block
  last-full e = rw (← before, last-counted.full e)

  pub last-short : (16 * n + 16 ≡ length m → ⊥) → last_block k1 k2 m ≡ xor_block (padding (message_block m n)) k2
  unfolding last_block
  last-short e = rw (← before, last-counted.short e)
