-- Byte strings. What is read past the end of one is 0.
use Rattle.std.specs.Prelude.{ℕ, Bool, true, false, ◌&&◌, List, [], ◌∷◌, eqb, get_or, take, drop}
use Rattle.std.specs.Int.Bits.{bit_xor}

-- byte i of s
abbrev pub at : List ℕ → ℕ → ℕ
at s i = get_or s i 0

-- the 16 bytes f 0 to f 15
abbrev pub block : (ℕ → ℕ) → List ℕ
block f =
    f 0 ∷ f 1 ∷ f 2 ∷ f 3 ∷ f 4 ∷ f 5 ∷ f 6 ∷ f 7 ∷ f 8 ∷ f 9 ∷ f 10 ∷ f 11 ∷ f 12 ∷ f 13 ∷ f 14 ∷ f 15 ∷ []

-- the n bytes of s from o
abbrev pub part : List ℕ → ℕ → ℕ → List ℕ
part s o n = take n (drop o s)

-- two blocks, byte by byte
unfoldable pub xor_block : List ℕ → List ℕ → List ℕ
xor_block p q = block (λ i. bit_xor (at p i) (at q i))

-- whether two strings have the same bytes
unfoldable pub same : List ℕ → List ℕ → Bool
same [] [] = true
same [] (y ∷ ys) = false
same (x ∷ xs) [] = false
same (x ∷ xs) (y ∷ ys) = eqb x y && same xs ys
