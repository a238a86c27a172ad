-- What a context gives, and what those above need to know of a tag.
use mathlib.Core.Path.{◌≡◌, refl, ap, ap₂, fun_ext, ◌∙◌}
use mathlib.Core.Bool.{Bool, true, false, cond}
use mathlib.Core.List.{List, ◌++◌}
use Prim.Native.Nat.{ℕ, ◌+◌}
use native.Mathlib.Nat.{le_of_eq}
use lib.Dec.{ltb}
use lib.ListN.{length, take, replicate, length-append}
use lib.Seq.{take_at, drop_at, take_all}
use Rattle.words.specs.Bytes.{at, part, xor_block}
use Rattle.cipher.specs.Cipher.{cipher_of, encrypt_of}
use Rattle.cipher.specs.KeyExpansion.{key_expansion}
use Rattle.cipher.proofs.Rounds.{cipher-of-key, length-cipher, length-encrypt}
use Rattle.cmac.specs.Cmac.{zeros, shifted, rb, double, subkey1, subkey2, blocks}
use Rattle.cmac.specs.Cmac.{complete, last_block, chain, cmac_with, cmac_by, cmac_of}
use Rattle.cmac.specs.Context.{subkeys_of, ContextOf, tag_under, tag_by}
use Rattle.cmac.specs.declared.Context.{Context}

-- a tag has 16 bytes, whatever the key and the message hold
pub length-cmac : (key m : List ℕ) → length (cmac_of key m) ≡ 16
unfolding cmac_of cmac_by cmac_with
length-cmac key m = length-encrypt key _

pub length-tag-under : (schedule subkeys m : List ℕ) → length (tag_under schedule subkeys m) ≡ 16
unfolding tag_under cmac_with
length-tag-under schedule subkeys m = length-cipher schedule _

-- with zeros for the subkeys, the tag of the zero block is its cipher
pub tag-of-zeros : (schedule : List ℕ) → tag_under schedule (replicate 32 0) (replicate 16 0) ≡ cipher_of schedule zeros
unfolding tag_under cmac_with chain last_block blocks complete xor_block
tag-of-zeros schedule = refl

length-double : (l : List ℕ) → length (double l) ≡ 16
unfolding double xor_block
length-double l = go (ltb (at l 0) 0x80)
  where
    go : (b : Bool) → length (cond b (shifted l) (xor_block (shifted l) rb)) ≡ 16
    go true = refl
    go false = refl

length-subkey1 : (e : List ℕ → List ℕ) → length (subkey1 e) ≡ 16
unfolding subkey1
length-subkey1 e = length-double (e zeros)

-- the context of a key makes the tags of that key
pub tag-of-context : (key m : List ℕ) → tag_under (key_expansion key) (subkeys_of key) m ≡ cmac_of key m
unfolding tag_under subkeys_of cmac_of cmac_by subkey2
tag-of-context key m =
    let k1 = subkey1 (encrypt_of key) in
    let k2 = double k1 in
    let n1 : length k1 ≡ 16 = length-subkey1 (encrypt_of key) in
    let first : part (k1 ++ k2) 0 16 ≡ k1 = take_at k1 k2 16 n1 in
    let second : part (k1 ++ k2) 16 16 ≡ k2 = ap (take 16) (drop_at k1 k2 16 n1) ∙ take_all 16 k2 (le_of_eq (length-double k1)) in
    ap (λ (e : List ℕ → List ℕ). cmac_with e (part (k1 ++ k2) 0 16) (part (k1 ++ k2) 16 16) m) (cipher-of-key key)
    ∙ ap₂ (λ (a b : List ℕ). cmac_with (encrypt_of key) a b m) first second

pub tags-of-context : (key : List ℕ) (x : Context) → ContextOf key x → tag_by x ≡ cmac_of key
tags-of-context key x h = ap₂ tag_under h.schedule h.subkeys ∙ fun_ext (tag-of-context key)

pub length-subkeys : (key : List ℕ) → length (subkeys_of key) ≡ 32
unfolding subkeys_of subkey2
length-subkeys key =
    length-append (subkey1 (encrypt_of key)) (double (subkey1 (encrypt_of key)))
    ∙ ap₂ ◌+◌ (length-subkey1 (encrypt_of key)) (length-double (subkey1 (encrypt_of key)))
