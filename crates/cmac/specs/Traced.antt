-- The same definitions with a trace: beside each value stand the blocks that were handed to the cipher for it, in order. A count of the
-- cipher's calls is the length of a trace.
use Rattle.std.specs.Prelude.{ℕ, zero, suc, ◌-◌, List, [], ◌∷◌, ◌++◌, length}
use Rattle.words.specs.Bytes.{part, xor_block}
use Rattle.cipher.specs.Cipher.{cipher_of, encrypt_of}
use Rattle.cmac.specs.Cmac.{zeros, double, subkey1, subkey2, blocks, message_block, last_block}

pub record Traced : Type 0 where
  pub value : List ℕ
  pub trace : List (List ℕ)

-- e of x, which comes behind what was handed over before it
abbrev pub through : (List ℕ → List ℕ) → List (List ℕ) → List ℕ → Traced
through e before x = record { value = e x; trace = before ++ (x ∷ []) }

-- 2.3: both subkeys, one after the other
unfoldable pub subkeys_traced : (List ℕ → List ℕ) → Traced
subkeys_traced e =
    let l = through e [] zeros in
    record { value = double l.value ++ double (double l.value); trace = l.trace }

-- 2.4, steps 5 and 6: X after i blocks
unfoldable pub chain_traced : (List ℕ → List ℕ) → List ℕ → ℕ → Traced
chain_traced e m zero = record { value = zeros; trace = [] }
chain_traced e m (suc i) =
    let x = chain_traced e m i in
    through e x.trace (xor_block x.value (message_block m i))

-- 2.4, steps 6 and 7: the tag, with the subkeys given
unfoldable pub cmac_traced : (List ℕ → List ℕ) → List ℕ → List ℕ → List ℕ → Traced
cmac_traced e k1 k2 m =
    let x = chain_traced e m (blocks (length m) - 1) in
    through e x.trace (xor_block (last_block k1 k2 m) x.value)

-- Counts

-- under a key: of the subkeys, and of a message's tag with the subkeys given
unfoldable pub subkeys_count : List ℕ → ℕ
subkeys_count key = length (subkeys_traced (encrypt_of key)).trace

unfoldable pub cmac_count : List ℕ → List ℕ → ℕ
cmac_count key m = length (cmac_traced (encrypt_of key) (subkey1 (encrypt_of key)) (subkey2 (encrypt_of key)) m).trace

-- of a message's tag with an expanded key and subkeys, whatever they hold
unfoldable pub count_under : List ℕ → List ℕ → List ℕ → ℕ
count_under schedule subkeys m = length (cmac_traced (cipher_of schedule) (part subkeys 0 16) (part subkeys 16 16) m).trace
