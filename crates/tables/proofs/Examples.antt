-- Two entries of table 4 of FIPS 197, computed from the definitions.
use mathlib.Core.Path.{◌≡◌, refl}
use Rattle.tables.specs.Field.{x_times, times_low, times, inverse}
use Rattle.tables.specs.SBox.{affine, s_box}

pub sbox-entries : (s_box 0x00 ≡ 0x63) × (s_box 0x53 ≡ 0xed)
unfolding x_times times_low times inverse affine s_box
sbox-entries = (refl, refl)
