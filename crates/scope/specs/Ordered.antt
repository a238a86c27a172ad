-- The bytes of a card in ranges, one range after the other, said byte by byte.
use Rattle.std.specs.Prelude.{◌≡◌, ◌⊎◌, ℕ, ◌+◌, ◌<◌, ◌≤◌}
use mathlib.Core.List.{List, ◌∷◌, ◌++◌, Memᴰ}
use Rattle.words.specs.Bytes.{at}
use Rattle.tree.specs.Ranges.{Range}
use Rattle.tree.specs.Calls.{total}

-- how many bytes ranges have together
abbrev pub bytes_in : List Range → ℕ
bytes_in rs = total (λ (r : Range). r.count) rs

-- byte k of a range is the one that stands k behind the bytes of the ranges before it
abbrev pub InOrder : List Range → List ℕ → List ℕ → Type 0
InOrder rs bytes card =
    (before : List Range) (r : Range) (behind : List Range) → rs ≡ before ++ (r ∷ behind)
    → (k : ℕ) → k < r.count → at bytes (bytes_in before + k) ≡ at card (r.start + k)

-- place j of a card is in none of the ranges
abbrev pub OutOf : List Range → ℕ → Type 0
OutOf rs j = (r : Range) → Memᴰ r rs → (j < r.start) ⊎ (r.start + r.count ≤ j)
