use Rattle.std.proofs.Common.{rules, ◌≡◌, [], ◌∷◌, refl, ◌∙◌}
use Rattle.cipher.specs.KeyExpansion.{sub_word, rot_word}
use Rattle.words.specs.Words.{bytes}
use Rattle.words.proofs.Endian.{bytes-from_le_bytes_4}
use Rattle.cipher.proofs.key.turned.Goals as goal

pub returns : goal.returns
unfolding sub_word rot_word
returns c =
    let s = c.substituted.result ∷ c.substituted-2.result ∷ c.substituted-3.result ∷ c.substituted-4.result ∷ [] in
    let e : bytes 4 c.from_le_bytes.result ≡ s = rw c.from_le_bytes.ensures (bytes-from_le_bytes_4 s refl (search rules)) in
    e ∙ cc
