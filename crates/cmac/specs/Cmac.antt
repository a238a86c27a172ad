-- RFC 4493, over any function e of blocks, and at AES-128 under a key.
use Rattle.std.specs.Prelude.{ℕ, zero, suc, ◌+◌, ◌-◌, ◌*◌, ◌/◌, ◌%◌, Bool, false, cond, List, [], ◌∷◌, ◌++◌, eqb, ltb, length, replicate}
use Rattle.words.specs.Bytes.{at, block, part, xor_block}
use Rattle.cipher.specs.Cipher.{encrypt_of}

-- const_Zero
abbrev pub zeros : List ℕ
zeros = block (λ i. 0)

-- const_Rb
abbrev pub rb : List ℕ
rb = replicate 15 0 ++ (0x87 ∷ [])

-- 2.3: l, 16 bytes with the highest bit first, shifted left by one bit
abbrev pub shifted : List ℕ → List ℕ
shifted l = block (λ i. at l i % 0x80 * 2 + at l (i + 1) / 0x80)

-- 2.3, steps 2 and 3: doubling
unfoldable pub double : List ℕ → List ℕ
double l = cond (ltb (at l 0) 0x80) (shifted l) (xor_block (shifted l) rb)

-- 2.3: the subkeys
unfoldable pub subkey1 : (List ℕ → List ℕ) → List ℕ
subkey1 e = double (e zeros)

unfoldable pub subkey2 : (List ℕ → List ℕ) → List ℕ
subkey2 e = double (subkey1 e)

-- 2.4, steps 2 and 3: n, the number of blocks of a message of that length, and whether its last block is complete
unfoldable pub blocks : ℕ → ℕ
blocks len = cond (eqb len 0) 1 ((len + 15) / 16)

unfoldable pub complete : ℕ → Bool
complete len = cond (eqb len 0) false (eqb (len % 16) 0)

-- block i of m, counted from 0; the last one may be short
abbrev pub message_block : List ℕ → ℕ → List ℕ
message_block m i = part m (16 * i) 16

-- 2.4: a short block and a bit 1, filled up with zeros
unfoldable pub padding : List ℕ → List ℕ
padding x = x ++ (0x80 ∷ replicate (15 - length x) 0)

-- 2.4, step 4: M_last
unfoldable pub last_block : List ℕ → List ℕ → List ℕ → List ℕ
last_block k1 k2 m =
    let x = message_block m (blocks (length m) - 1) in
    cond (complete (length m)) (xor_block x k1) (xor_block (padding x) k2)

-- 2.4, steps 5 and 6: X after i blocks
unfoldable pub chain : (List ℕ → List ℕ) → List ℕ → ℕ → List ℕ
chain e m zero = zeros
chain e m (suc i) = e (xor_block (chain e m i) (message_block m i))

-- 2.4, steps 6 and 7: the tag, with the subkeys given
unfoldable pub cmac_with : (List ℕ → List ℕ) → List ℕ → List ℕ → List ℕ → List ℕ
cmac_with e k1 k2 m = e (xor_block (last_block k1 k2 m) (chain e m (blocks (length m) - 1)))

-- 2.4: the tag, with the subkeys of e
unfoldable pub cmac_by : (List ℕ → List ℕ) → List ℕ → List ℕ
cmac_by e m = cmac_with e (subkey1 e) (subkey2 e) m

-- AES-CMAC of the message m under a key (document 01: its mark)
unfoldable pub cmac_of : List ℕ → List ℕ → List ℕ
cmac_of key m = cmac_by (encrypt_of key) m
