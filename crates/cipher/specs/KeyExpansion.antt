-- FIPS 197, section 5.2: the key schedule of a 16-byte key, 44 words, as one string of 176 bytes. A word is a string of four bytes.
use Rattle.std.specs.Prelude.{ℕ, zero, suc, ◌+◌, ◌-◌, ◌*◌, ◌/◌, ◌%◌, cond, List, [], ◌∷◌, ◌++◌, eqb}
use Rattle.std.specs.Int.Bits.{bit_xor}
use Rattle.words.specs.Bytes.{at, block, part}
use Rattle.tables.specs.Field.{x_times}
use Rattle.tables.specs.SBox.{s_box}

-- word i of a string
abbrev pub word_at : List ℕ → ℕ → List ℕ
word_at s i = part s (4 * i) 4

unfoldable pub xor_word : List ℕ → List ℕ → List ℕ
xor_word v w = bit_xor (at v 0) (at w 0) ∷ bit_xor (at v 1) (at w 1) ∷ bit_xor (at v 2) (at w 2) ∷ bit_xor (at v 3) (at w 3) ∷ []

unfoldable pub rot_word : List ℕ → List ℕ
rot_word w = at w 1 ∷ at w 2 ∷ at w 3 ∷ at w 0 ∷ []

unfoldable pub sub_word : List ℕ → List ℕ
sub_word w = s_box (at w 0) ∷ s_box (at w 1) ∷ s_box (at w 2) ∷ s_box (at w 3) ∷ []

-- z to the power n
unfoldable pub z_power : ℕ → ℕ
z_power zero = 1
z_power (suc n) = x_times (z_power n)

-- the first byte of Rcon[j], for j from 1; the others are 0
unfoldable pub round_constant : ℕ → ℕ
round_constant j = z_power (j - 1)

abbrev pub rcon : ℕ → List ℕ
rcon b = b ∷ 0 ∷ 0 ∷ 0 ∷ []

-- what word i takes from the words w before it
unfoldable pub temp : List ℕ → ℕ → List ℕ
temp w i = cond (eqb (i % 4) 0) (xor_word (sub_word (rot_word (word_at w (i - 1)))) (rcon (round_constant (i / 4)))) (word_at w (i - 1))

-- word i after the words w
unfoldable pub next_word : List ℕ → ℕ → List ℕ
next_word w i = xor_word (word_at w (i - 4)) (temp w i)

-- the first 4 + n words
unfoldable pub first_words : List ℕ → ℕ → List ℕ
first_words key zero = block (at key)
first_words key (suc n) = let w = first_words key n in w ++ next_word w (4 + n)

unfoldable pub key_expansion : List ℕ → List ℕ
key_expansion key = first_words key 40

-- the same a round key at a time: the four words after those of the round key k, with b the first byte of their Rcon
unfoldable pub next_round_key : ℕ → List ℕ → List ℕ
next_round_key b k =
    let w0 = xor_word (word_at k 0) (xor_word (sub_word (rot_word (word_at k 3))) (rcon b)) in
    let w1 = xor_word (word_at k 1) w0 in
    let w2 = xor_word (word_at k 2) w1 in
    let w3 = xor_word (word_at k 3) w2 in
    w0 ++ w1 ++ w2 ++ w3
