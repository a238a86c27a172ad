-- Row l of document 01's table: doubling of 0x80 and 15 zero bytes, computed from the definition.
use mathlib.Core.Path.{◌≡◌, refl}
use mathlib.Core.List.{◌∷◌, [], ◌++◌}
use lib.ListN.{replicate}
use Rattle.words.specs.Bytes.{xor_block}
use Rattle.cmac.specs.Cmac.{double}

pub doubling-row : double (0x80 ∷ replicate 15 0) ≡ replicate 15 0 ++ (0x87 ∷ [])
unfolding double xor_block
doubling-row = refl
