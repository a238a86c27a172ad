-- What serves many tags, made once and lent: the cipher under one key and both subkeys, one after the other, with the count of the
-- cipher's calls for these. Callers know of them only what is named here.
use Rattle.std.specs.Prelude.{ℕ, ◌≡◌, List, ◌++◌}
use Rattle.words.specs.Bytes.{part}
use Rattle.cipher.specs.Cipher.{cipher_of, encrypt_of}
use Rattle.cipher.specs.KeyExpansion.{key_expansion}
use Rattle.cmac.specs.Cmac.{subkey1, subkey2, cmac_with}
use Rattle.cmac.specs.Traced.{subkeys_count, count_under}
use Rattle.cmac.specs.declared.Context.{Context}

unfoldable pub subkeys_of : List ℕ → List ℕ
subkeys_of key = subkey1 (encrypt_of key) ++ subkey2 (encrypt_of key)

pub record ContextOf (key : List ℕ) (c : Context) : Type 0 where
  pub schedule : c.aes.schedule ≡ key_expansion key
  pub subkeys : c.subkeys ≡ subkeys_of key
  pub counted : c.count ≡ subkeys_count key

-- the tag of m with an expanded key and subkeys, whatever they hold
unfoldable pub tag_under : List ℕ → List ℕ → List ℕ → List ℕ
tag_under schedule subkeys m = cmac_with (cipher_of schedule) (part subkeys 0 16) (part subkeys 16 16) m

-- the same with those of a context, and the count of the cipher's calls for it
abbrev pub tag_by : Context → List ℕ → List ℕ
tag_by c m = tag_under c.aes.schedule c.subkeys m

abbrev pub count_by : Context → List ℕ → ℕ
count_by c m = count_under c.aes.schedule c.subkeys m
