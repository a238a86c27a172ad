-- What the two tables hold.
use Rattle.std.specs.Prelude.{◌≡◌, List, [], ◌∷◌, ◌++◌, ℕ, ◌*◌, ◌<◌}
use Rattle.words.specs.Bytes.{at, part}
use Rattle.tables.specs.Field.{times}
use Rattle.tables.specs.SBox.{s_box}

-- the substitution of each byte
abbrev pub IsSBox : List ℕ → Type 0
IsSBox table = (b : ℕ) → b < 256 → at table b ≡ s_box b

-- what mixing makes of the column s 0 0 0
abbrev pub mixed_column : ℕ → List ℕ
mixed_column s = times 2 s ∷ s ∷ s ∷ times 3 s ∷ []

-- the entry of a byte: the column that mixing makes of its substitution in row 0, twice in a row
abbrev pub entry : ℕ → List ℕ
entry b = mixed_column (s_box b) ++ mixed_column (s_box b)

-- the entry of each byte, one after the other
abbrev pub IsRoundTable : List ℕ → Type 0
IsRoundTable table = (b : ℕ) → b < 256 → part table (8 * b) 8 ≡ entry b
