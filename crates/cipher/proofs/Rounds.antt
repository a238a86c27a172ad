-- The rounds, one at a time.
use mathlib.Core.Path.{◌≡◌, refl}
use mathlib.Core.List.{List}
use Prim.Native.Nat.{ℕ, zero, suc, ◌-◌, ◌<◌}
use native.Mathlib.Omega.{arith}
use lib.ListN.{length}
use Rattle.words.specs.Bytes.{xor_block}
use Rattle.cipher.specs.KeyExpansion.{key_expansion}
use Rattle.cipher.specs.State.{sub_bytes, shift_rows, mix_columns, add_round_key}
use Rattle.cipher.specs.Cipher.{round_key, rounds, last_round, cipher_of, encrypt_of}

pub rounds-more : (w s : List ℕ) (n : ℕ) → 0 < n
    → rounds w s n ≡ add_round_key (mix_columns (shift_rows (sub_bytes (rounds w s (n - 1))))) (round_key w n)
unfolding rounds
rounds-more w s zero h = absurd (omega arith)
rounds-more w s (suc n) h = let e : suc n - 1 ≡ n = omega arith in rw e

pub round-key-added : (s k : List ℕ) → xor_block s k ≡ add_round_key s k
unfolding xor_block add_round_key
round-key-added s k = refl

-- the cipher of a key is that of its schedule
pub cipher-of-key : (key : List ℕ) → cipher_of (key_expansion key) ≡ encrypt_of key
unfolding encrypt_of
cipher-of-key key = refl

-- 16 bytes come out, whatever went in
pub length-cipher : (w input : List ℕ) → length (cipher_of w input) ≡ 16
unfolding cipher_of last_round add_round_key
length-cipher w input = refl

pub length-encrypt : (key input : List ℕ) → length (encrypt_of key input) ≡ 16
unfolding encrypt_of
length-encrypt key input = length-cipher (key_expansion key) input
