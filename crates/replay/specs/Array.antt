-- The plain array. It is told each call's kind, block number and new block, and whether the call counts; it sees neither card nor anchor.
use Rattle.std.specs.Prelude.{ℕ, Bool, cond, List, [], length, get_or, set, replicate}

pub data Told : Type 0 where
  read : (i : ℕ) → Told
  write : (i : ℕ) (block : List ℕ) → Told
  check : Told
  wipe : Told

abbrev pub Array : Type 0
Array = List (List ℕ)

-- so many blocks, all zero
unfoldable pub zeroed : ℕ → Array
zeroed count = replicate count (replicate 64 0)

-- block i
abbrev pub block_at : Array → ℕ → List ℕ
block_at a i = get_or a i []

-- the array after a call: a write that counts puts its block, a wipe that counts empties it, and nothing else moves it
unfoldable pub moved : Array → Told → Bool → Array
moved a (read i) counts = a
moved a (write i b) counts = cond counts (set a i b) a
moved a check counts = a
moved a wipe counts = cond counts (zeroed (length a)) a
