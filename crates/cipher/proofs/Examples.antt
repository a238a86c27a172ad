-- Numbers that FIPS 197 prints, computed from the definitions: the round constants, and the worked example of its appendix B.
use mathlib.Core.Path.{◌≡◌, refl}
use mathlib.Core.List.{[], ◌∷◌, map}
use Rattle.tables.specs.Field.{x_times, times_low, times, inverse}
use Rattle.tables.specs.SBox.{affine, s_box}
use Rattle.cipher.specs.State.{sub_bytes, shift_rows, mix_row, mix_columns, add_round_key}
use Rattle.cipher.specs.KeyExpansion.{xor_word, rot_word, sub_word, z_power, round_constant, temp, next_word, first_words, key_expansion}
use Rattle.cipher.specs.Cipher.{round_key, rounds, last_round, cipher_of, encrypt_of}

-- 5.2: the first bytes of Rcon[1] to Rcon[10]
pub round-constants :
    map round_constant (1 ∷ 2 ∷ 3 ∷ 4 ∷ 5 ∷ 6 ∷ 7 ∷ 8 ∷ 9 ∷ 10 ∷ [])
    ≡ 0x01 ∷ 0x02 ∷ 0x04 ∷ 0x08 ∷ 0x10 ∷ 0x20 ∷ 0x40 ∷ 0x80 ∷ 0x1b ∷ 0x36 ∷ []
unfolding x_times z_power round_constant
round-constants = refl

pub appendix-b :
    encrypt_of
    (0x2b ∷ 0x7e ∷ 0x15 ∷ 0x16 ∷ 0x28 ∷ 0xae ∷ 0xd2 ∷ 0xa6 ∷ 0xab ∷ 0xf7 ∷ 0x15 ∷ 0x88 ∷ 0x09 ∷ 0xcf ∷ 0x4f ∷ 0x3c ∷ [])
    (0x32 ∷ 0x43 ∷ 0xf6 ∷ 0xa8 ∷ 0x88 ∷ 0x5a ∷ 0x30 ∷ 0x8d ∷ 0x31 ∷ 0x31 ∷ 0x98 ∷ 0xa2 ∷ 0xe0 ∷ 0x37 ∷ 0x07 ∷ 0x34 ∷ [])
    ≡ 0x39 ∷ 0x25 ∷ 0x84 ∷ 0x1d ∷ 0x02 ∷ 0xdc ∷ 0x09 ∷ 0xfb ∷ 0xdc ∷ 0x11 ∷ 0x85 ∷ 0x97 ∷ 0x19 ∷ 0x6a ∷ 0x0b ∷ 0x32 ∷ []
unfolding x_times times_low times inverse affine s_box sub_bytes shift_rows mix_row mix_columns add_round_key xor_word rot_word sub_word z_power
    round_constant temp next_word first_words key_expansion round_key rounds last_round cipher_of encrypt_of
appendix-b = refl
