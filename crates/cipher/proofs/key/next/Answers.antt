use Rattle.std.proofs.Common.{rules, refl}
use Rattle.std.specs.Int.Bits.{bit_xor}
use Rattle.cipher.specs.KeyExpansion.{next_round_key, xor_word, sub_word, rot_word}
use Rattle.words.proofs.Bytes.{four-columns, bytes-of-byte}
use Rattle.cipher.proofs.Mixing.{xor-words}
use Rattle.cipher.proofs.key.next.Goals as goal

pub returns : goal.returns
unfolding next_round_key xor_word sub_word rot_word
returns c =
    let k = c.args.key in
    let t = c.turned in
    let b = c.args.constant in
    let w0 = bit_xor k.c0 (bit_xor t.result b) in
    let w1 = bit_xor k.c1 w0 in
    let w2 = bit_xor k.c2 w1 in
    let e0 = xor-words k.c0 (bit_xor t.result b) refl (xor-words t.result b t.ensures (bytes-of-byte b (search rules))) in
    let e1 = xor-words k.c1 w0 refl e0 in
    let e2 = xor-words k.c2 w1 refl e1 in
    four-columns e0 e1 e2 (xor-words k.c3 w2 refl e2)
