-- How the code holds bytes in machine words: the first byte is the lowest.
use Rattle.std.specs.Prelude.{ℕ, zero, suc, ◌/◌, ◌%◌, List, [], ◌∷◌, ◌++◌}
use Rattle.words.specs.declared.Block.{Block}
use Rattle.words.specs.declared.Columns.{Columns}

-- the n bytes of a word
abbrev pub bytes : ℕ → ℕ → List ℕ
bytes zero w = []
bytes (suc n) w = w % 256 ∷ bytes n (w / 256)

-- the state that four words hold, a column in each
abbrev pub state_of : Columns → List ℕ
state_of s = bytes 4 s.c0 ++ bytes 4 s.c1 ++ bytes 4 s.c2 ++ bytes 4 s.c3

-- the block that two words hold, eight bytes in each
abbrev pub block_of : Block → List ℕ
block_of b = bytes 8 b.head ++ bytes 8 b.tail
