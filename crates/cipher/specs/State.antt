-- FIPS 197, sections 3.4 and 5.1.1 to 5.1.4: the state and what a round does to it.
use Rattle.std.specs.Prelude.{ℕ, zero, suc, ◌+◌, ◌*◌, ◌/◌, ◌%◌, List, [], ◌∷◌}
use Rattle.std.specs.Int.Bits.{bit_xor}
use Rattle.words.specs.Bytes.{at, block}
use Rattle.tables.specs.Field.{times}
use Rattle.tables.specs.SBox.{s_box}

-- 3.4: a state is 16 bytes, column after column. The byte in row r of column c
abbrev pub cell : List ℕ → ℕ → ℕ → ℕ
cell s r c = at s (r + 4 * c)

-- the state with f r c in row r of column c
abbrev pub cells : (ℕ → ℕ → ℕ) → List ℕ
cells f = block (λ i. f (i % 4) (i / 4))

-- 5.1.1
unfoldable pub sub_bytes : List ℕ → List ℕ
sub_bytes s = cells (λ r c. s_box (cell s r c))

-- 5.1.2: row r moves r places to the left
unfoldable pub shift_rows : List ℕ → List ℕ
shift_rows s = cells (λ r c. cell s r ((c + r) % 4))

-- 5.1.3: row r of the column that mixing makes of the column s0 s1 s2 s3
unfoldable pub mix_row : ℕ → ℕ → ℕ → ℕ → ℕ → ℕ
mix_row zero s0 s1 s2 s3 = bit_xor (bit_xor (bit_xor (times 2 s0) (times 3 s1)) s2) s3
mix_row (suc zero) s0 s1 s2 s3 = bit_xor (bit_xor (bit_xor s0 (times 2 s1)) (times 3 s2)) s3
mix_row (suc (suc zero)) s0 s1 s2 s3 = bit_xor (bit_xor (bit_xor s0 s1) (times 2 s2)) (times 3 s3)
mix_row (suc (suc (suc _))) s0 s1 s2 s3 = bit_xor (bit_xor (bit_xor (times 3 s0) s1) s2) (times 2 s3)

-- that column
abbrev pub mix_column : ℕ → ℕ → ℕ → ℕ → List ℕ
mix_column s0 s1 s2 s3 = mix_row 0 s0 s1 s2 s3 ∷ mix_row 1 s0 s1 s2 s3 ∷ mix_row 2 s0 s1 s2 s3 ∷ mix_row 3 s0 s1 s2 s3 ∷ []

unfoldable pub mix_columns : List ℕ → List ℕ
mix_columns s = cells (λ r c. mix_row r (cell s 0 c) (cell s 1 c) (cell s 2 c) (cell s 3 c))

-- 5.1.4
unfoldable pub add_round_key : List ℕ → List ℕ → List ℕ
add_round_key s k = cells (λ r c. bit_xor (cell s r c) (cell k r c))
