-- The chain of blocks as one loop, the last block in it.
use mathlib.Core.Path.{◌≡◌, refl, ap, fun_ext, ◌∙◌}
use mathlib.Core.Bool.{cond}
use mathlib.Core.List.{List}
use Prim.Native.Nat.{ℕ, zero, suc, ◌+◌, ◌-◌, ◌≤◌}
use native.Mathlib.Nat.{le_refl}
use native.Mathlib.Numerals.{add-one}
use native.Mathlib.Omega.{arith}
use borrow.Author.Tests.{lt-ltb, le-ltb}
use lib.Bits.{xor_comm}
use lib.Dec.{ltb}
use lib.ListN.{length}
use Rattle.words.specs.Bytes.{at, block, xor_block}
use Rattle.cmac.specs.Cmac.{blocks, message_block, last_block, zeros, chain, cmac_with}

xor-block-comm : (p q : List ℕ) → xor_block p q ≡ xor_block q p
unfolding xor_block
xor-block-comm p q =
    ap {B = List ℕ} (λ (f : ℕ → ℕ). block f) (fun_ext (λ i. xor_comm (at p i) (at q i)))

-- X after i turns, where turn i takes f i
unfoldable pub turns : (List ℕ → List ℕ) → (ℕ → List ℕ) → ℕ → List ℕ
turns e f zero = zeros
turns e f (suc i) = e (xor_block (turns e f i) (f i))

pub turns_more : (e : List ℕ → List ℕ) (f : ℕ → List ℕ) (i : ℕ) → turns e f (i + 1) ≡ e (xor_block (turns e f i) (f i))
unfolding turns
turns_more e f i = rw add-one

-- what turn i takes: block i of m, and at n the last block l
abbrev pub taken : List ℕ → List ℕ → ℕ → ℕ → List ℕ
taken m l n i = cond (ltb i n) (message_block m i) l

turns-chain : (e : List ℕ → List ℕ) (m l : List ℕ) (n i : ℕ) → i ≤ n → turns e (taken m l n) i ≡ chain e m i
unfolding turns chain
turns-chain e m l n zero h = refl
turns-chain e m l n (suc i) h =
    rw (lt-ltb i n h) (ap (λ (x : List ℕ). e (xor_block x (message_block m i))) (turns-chain e m l n i (omega arith)))

pub turns-whole : (e : List ℕ → List ℕ) (k1 k2 m : List ℕ) (n : ℕ) → n ≡ blocks (length m) - 1
    → turns e (taken m (last_block k1 k2 m) n) (n + 1) ≡ cmac_with e k1 k2 m
unfolding cmac_with
turns-whole e k1 k2 m n h =
    turns_more e (taken m (last_block k1 k2 m) n) n
    ∙ rw (le-ltb n n (le_refl n))
    (ap e (xor-block-comm (turns e (taken m (last_block k1 k2 m) n) n) (last_block k1 k2 m)
    ∙ ap (xor_block (last_block k1 k2 m)) (turns-chain e m (last_block k1 k2 m) n n (le_refl n) ∙ ap (chain e m) h)))
