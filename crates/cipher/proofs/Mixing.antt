-- A column of a round, from four entries of the table or four substitutes, and a round from its columns.
use mathlib.Core.Path.{◌≡◌, refl, ap, ap₂, ◌∙◌}
use mathlib.Core.List.{List, [], ◌∷◌}
use Prim.Native.Nat.{ℕ, ◌<◌}
use lib.Bits.{bit_xor}
use Rattle.std.proofs.Common.{rules}
use Rattle.std.specs.Int.{w32, from_le_bytes}
use Rattle.words.specs.Bytes.{at, part, xor_block}
use Rattle.tables.specs.SBox.{s_box}
use Rattle.cipher.specs.State.{sub_bytes, shift_rows, mix_row, mix_column, mix_columns, add_round_key}
use Rattle.tables.specs.Tables.{entry}
use Rattle.words.specs.Words.{bytes, state_of}
use Rattle.words.specs.declared.Columns.{Columns}
use Rattle.cipher.proofs.Xor.{xor-turn}
use Rattle.words.proofs.Bytes.{xors, bytes-xor, four-columns}
use Rattle.words.proofs.Endian.{bytes-from_le_bytes_4}

pub xor-words : (v w : ℕ) {l m : List ℕ} → bytes 4 v ≡ l → bytes 4 w ≡ m → bytes 4 (bit_xor v w) ≡ xors l m
xor-words v w p q = bytes-xor 4 v w ∙ ap₂ xors p q

-- from four entries, the last row second and the second one last
pub mixed_word : (p q r s a b c d : ℕ)
    → bytes 4 a ≡ part (entry p) 0 4 → bytes 4 b ≡ part (entry q) 3 4
    → bytes 4 c ≡ part (entry r) 2 4 → bytes 4 d ≡ part (entry s) 1 4
    → bytes 4 (bit_xor (bit_xor (bit_xor a d) c) b) ≡ mix_column (s_box p) (s_box q) (s_box r) (s_box s)
unfolding mix_row
mixed_word p q r s a b c d ea eb ec ed =
    let e : bit_xor (bit_xor (bit_xor a d) c) b ≡ bit_xor (bit_xor (bit_xor a b) c) d =
    xor-turn (bit_xor a d) c b ∙ ap (λ (w : ℕ). bit_xor w c) (xor-turn a d b) ∙ xor-turn (bit_xor a b) d c in
    ap (bytes 4) e ∙ xor-words (bit_xor (bit_xor a b) c) d (xor-words (bit_xor a b) c (xor-words a b ea eb) ec) ed

-- from four substitutes
pub unmixed_word : (a b c d w : ℕ) → a < 256 → b < 256 → c < 256 → d < 256
    → w ≡ from_le_bytes w32 (a ∷ b ∷ c ∷ d ∷ []) → bytes 4 w ≡ a ∷ b ∷ c ∷ d ∷ []
unmixed_word a b c d w ba bb bc bd e =
    rw e (bytes-from_le_bytes_4 (a ∷ b ∷ c ∷ d ∷ []) refl (search rules))

-- what the two kinds of rounds make of four columns
abbrev Mixed : ℕ → ℕ → ℕ → ℕ → ℕ → Type 0
Mixed w p q r s =
    bytes 4 w ≡ mix_column (s_box (at (bytes 4 p) 0)) (s_box (at (bytes 4 q) 1)) (s_box (at (bytes 4 r) 2)) (s_box (at (bytes 4 s) 3))

abbrev Unmixed : ℕ → ℕ → ℕ → ℕ → ℕ → Type 0
Unmixed w p q r s =
    bytes 4 w ≡ s_box (at (bytes 4 p) 0) ∷ s_box (at (bytes 4 q) 1) ∷ s_box (at (bytes 4 r) 2) ∷ s_box (at (bytes 4 s) 3) ∷ []

-- a round's result r, with the key k, from the columns t that it makes of the state s
module _ (s t k r : Columns) (e : state_of r ≡ xor_block (state_of t) (state_of k)) where
  pub whole_round : Mixed t.c0 s.c0 s.c1 s.c2 s.c3 → Mixed t.c1 s.c1 s.c2 s.c3 s.c0
      → Mixed t.c2 s.c2 s.c3 s.c0 s.c1 → Mixed t.c3 s.c3 s.c0 s.c1 s.c2
      → state_of r ≡ add_round_key (mix_columns (shift_rows (sub_bytes (state_of s)))) (state_of k)
  unfolding sub_bytes shift_rows mix_columns add_round_key xor_block
  whole_round e0 e1 e2 e3 = e ∙ ap (λ (l : List ℕ). add_round_key l (state_of k)) (four-columns e0 e1 e2 e3)

  pub last_round : Unmixed t.c0 s.c0 s.c1 s.c2 s.c3 → Unmixed t.c1 s.c1 s.c2 s.c3 s.c0
      → Unmixed t.c2 s.c2 s.c3 s.c0 s.c1 → Unmixed t.c3 s.c3 s.c0 s.c1 s.c2
      → state_of r ≡ add_round_key (shift_rows (sub_bytes (state_of s))) (state_of k)
  unfolding sub_bytes shift_rows add_round_key xor_block
  last_round e0 e1 e2 e3 = e ∙ ap (λ (l : List ℕ). add_round_key l (state_of k)) (four-columns e0 e1 e2 e3)
