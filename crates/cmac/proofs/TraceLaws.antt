-- Traces: what they hold, that without them the definitions are those of RFC 4493, and that a message's count is its number of blocks.
use mathlib.Core.Path.{◌≡◌, refl, sym, ap, fun_ext, ◌∙◌}
use mathlib.Core.List.{List, [], ◌∷◌, ◌++◌}
use Prim.Native.Nat.{ℕ, zero, suc, ◌+◌, ◌-◌, ◌*◌, ◌≤◌}
use native.Mathlib.Numerals.{add-one}
use native.Mathlib.Omega.{arith}
use lib.ListN.{length, replicate, length-append}
use Rattle.words.specs.Bytes.{part, xor_block}
use Rattle.cipher.specs.Cipher.{cipher_of, encrypt_of}
use Rattle.cmac.specs.Cmac.{zeros, subkey1, subkey2, blocks, message_block, last_block, chain, cmac_with}
use Rattle.cmac.specs.Context.{ContextOf, count_by}
use Rattle.cmac.specs.Traced.{subkeys_traced, chain_traced, cmac_traced, subkeys_count, cmac_count, count_under}
use Rattle.cmac.specs.declared.Context.{Context}
use Rattle.cmac.proofs.Count.{some-blocks, blocks-bound}

length-snoc : (l : List (List ℕ)) (x : List ℕ) → length (l ++ (x ∷ [])) ≡ length l + 1
length-snoc l x = length-append l (x ∷ [])

-- Without the trace

module _ (e : List ℕ → List ℕ) where
  pub subkeys-erased : (subkeys_traced e).value ≡ subkey1 e ++ subkey2 e
  unfolding subkeys_traced subkey1 subkey2
  subkeys-erased = refl

  pub chain-erased : (m : List ℕ) (i : ℕ) → (chain_traced e m i).value ≡ chain e m i
  unfolding chain_traced chain
  chain-erased m zero = refl
  chain-erased m (suc i) = ap (λ (x : List ℕ). e (xor_block x (message_block m i))) (chain-erased m i)

  pub cmac-erased : (k1 k2 m : List ℕ) → (cmac_traced e k1 k2 m).value ≡ cmac_with e k1 k2 m
  unfolding cmac_traced cmac_with
  cmac-erased k1 k2 m = ap (λ (x : List ℕ). e (xor_block (last_block k1 k2 m) x)) (chain-erased m (blocks (length m) - 1))

  -- What is handed to the cipher: const_Zero for the subkeys; for a tag X with block after block, and then with the last one

  pub subkeys-trace : (subkeys_traced e).trace ≡ zeros ∷ []
  unfolding subkeys_traced
  subkeys-trace = refl

  pub chain-trace : (m : List ℕ) (i : ℕ)
      → (chain_traced e m (suc i)).trace ≡ (chain_traced e m i).trace ++ (xor_block (chain e m i) (message_block m i) ∷ [])
  unfolding chain_traced
  chain-trace m i =
      ap (λ (x : List ℕ). (chain_traced e m i).trace ++ (xor_block x (message_block m i) ∷ [])) (chain-erased m i)

  pub cmac-trace : (k1 k2 m : List ℕ)
      → let n = blocks (length m) - 1 in
      (cmac_traced e k1 k2 m).trace ≡ (chain_traced e m n).trace ++ (xor_block (last_block k1 k2 m) (chain e m n) ∷ [])
  unfolding cmac_traced
  cmac-trace k1 k2 m =
      let n = blocks (length m) - 1 in
      ap (λ (x : List ℕ). (chain_traced e m n).trace ++ (xor_block (last_block k1 k2 m) x ∷ [])) (chain-erased m n)

  -- How many blocks

  chain_length : (m : List ℕ) (i : ℕ) → length (chain_traced e m i).trace ≡ i
  unfolding chain_traced
  chain_length m zero = refl
  chain_length m (suc i) = length-snoc (chain_traced e m i).trace _ ∙ ap (λ (k : ℕ). k + 1) (chain_length m i) ∙ add-one i

-- the law of counts: a message has a call for each of its blocks, whatever the cipher and the subkeys are
pub trace-length : (e : List ℕ → List ℕ) (k1 k2 m : List ℕ) → length (cmac_traced e k1 k2 m).trace ≡ blocks (length m)
trace-length e k1 k2 m =
    let n = blocks (length m) - 1 in
    ap length (cmac-trace e k1 k2 m) ∙ length-snoc (chain_traced e m n).trace _ ∙ ap (λ (k : ℕ). k + 1) (chain_length e m n)
    ∙ some-blocks (length m)

pub subkeys-count : (key : List ℕ) → subkeys_count key ≡ 1
unfolding subkeys_count
subkeys-count key = ap length (subkeys-trace (encrypt_of key))

pub cmac-count : (key m : List ℕ) → cmac_count key m ≡ blocks (length m)
unfolding cmac_count
cmac-count key m = trace-length (encrypt_of key) (subkey1 (encrypt_of key)) (subkey2 (encrypt_of key)) m

pub count_under_lem : (schedule subkeys m : List ℕ) → count_under schedule subkeys m ≡ blocks (length m)
unfolding count_under
count_under_lem schedule subkeys m = trace-length (cipher_of schedule) (part subkeys 0 16) (part subkeys 16 16) m

-- a call for every 16 bytes, and at most one more
pub count-bound : (schedule subkeys m : List ℕ) → 16 * count_under schedule subkeys m ≤ length m + 16
count-bound schedule subkeys m = omega (arith, count_under_lem schedule subkeys m, blocks-bound (length m))

-- the same of a context, for callers that look no further into it
pub count-by-bound : (c : Context) (m : List ℕ) → 16 * count_by c m ≤ length m + 16
count-by-bound c m = count-bound c.aes.schedule c.subkeys m

-- with zeros for the subkeys, the zero block takes as many as the subkeys do
pub count-of-zeros : (schedule : List ℕ)
    → count_under schedule (replicate 32 0) (replicate 16 0) ≡ length (subkeys_traced (cipher_of schedule)).trace
unfolding blocks
count-of-zeros schedule =
    count_under_lem schedule (replicate 32 0) (replicate 16 0) ∙ sym (ap length (subkeys-trace (cipher_of schedule)))

-- the counts of a context are those of its key
pub counts-of-context : (key : List ℕ) (x : Context) → ContextOf key x → count_by x ≡ cmac_count key
counts-of-context key x h = fun_ext (λ m. count_under_lem x.aes.schedule x.subkeys m ∙ sym (cmac-count key m))

-- the tree's messages: 17 bytes take two calls, 73 take five
pub count-17 : (key m : List ℕ) → length m ≡ 17 → cmac_count key m ≡ 2
unfolding blocks
count-17 key m h = cmac-count key m ∙ ap blocks h

pub count-73 : (key m : List ℕ) → length m ≡ 73 → cmac_count key m ≡ 5
unfolding blocks
count-73 key m h = cmac-count key m ∙ ap blocks h
