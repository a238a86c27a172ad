-- FIPS 197, section 5.1: AES-128, ten rounds.
use Rattle.std.specs.Prelude.{ℕ, zero, suc, ◌*◌, List}
use Rattle.words.specs.Bytes.{part}
use Rattle.cipher.specs.State.{sub_bytes, shift_rows, mix_columns, add_round_key}
use Rattle.cipher.specs.KeyExpansion.{key_expansion}

-- words 4 r to 4 r + 3 of the key schedule w
unfoldable pub round_key : List ℕ → ℕ → List ℕ
round_key w r = part w (16 * r) 16

-- the state s after rounds 1 to n
unfoldable pub rounds : List ℕ → List ℕ → ℕ → List ℕ
rounds w s zero = s
rounds w s (suc n) = add_round_key (mix_columns (shift_rows (sub_bytes (rounds w s n)))) (round_key w (suc n))

-- the last round does not mix the columns
unfoldable pub last_round : List ℕ → List ℕ → List ℕ
last_round w s = add_round_key (shift_rows (sub_bytes s)) (round_key w 10)

-- a block under the key schedule w
unfoldable pub cipher_of : List ℕ → List ℕ → List ℕ
cipher_of w input = last_round w (rounds w (add_round_key input (round_key w 0)) 9)

-- a block under a key
unfoldable pub encrypt_of : List ℕ → List ℕ → List ℕ
encrypt_of key input = cipher_of (key_expansion key) input
