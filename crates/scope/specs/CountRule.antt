-- Document 02 on the count of the cipher's calls, for every input: 1 for the subkeys, 2 for each inner message and 5 for each leaf's, up to
-- and including a wrong one.
use Rattle.std.specs.Prelude.{◌≡◌, cond, ℕ, zero, suc, ◌+◌, ◌*◌, ◌-◌, ◌^◌, ltb, length}
use mathlib.Core.List.{List, [], ◌∷◌, ◌++◌, map, Memᴰ}
use Rattle.cipher.specs.Cipher.{encrypt_of}
use Rattle.words.specs.Bytes.{xor_block}
use Rattle.cmac.specs.Cmac.{zeros, subkey1, subkey2, blocks, message_block, last_block, chain, cmac_of}
use Rattle.cmac.specs.Context.{subkeys_of}
use Rattle.cmac.specs.Traced.{Traced, subkeys_traced, cmac_traced, subkeys_count, cmac_count}
use Rattle.tree.specs.Layout.{tag}
use Rattle.tree.specs.Labels.{message, labels}
use Rattle.tree.specs.Calls.{Call, read, write, check, wipe, checks, tagged, outcome, total, count_of}
use Rattle.tree.specs.Enough.{Enough}
use Rattle.tree.specs.declared.Anchor.{Anchor}
use Rattle.tree.specs.declared.Node.{Node}
use Rattle.tree.specs.declared.Refusal.{Refusal}
use Rattle.tree.specs.Answer.{Whole, Wrong, Refused}

-- what RFC 4493 hands to the cipher for the first i blocks of m, in order: X with each block
abbrev pub inputs : (List ℕ → List ℕ) → List ℕ → ℕ → List (List ℕ)
inputs e m zero = []
inputs e m (suc i) = inputs e m i ++ (xor_block (chain e m i) (message_block m i) ∷ [])

-- the traced tag of m under a key
abbrev pub traced : List ℕ → List ℕ → Traced
traced key m = cmac_traced (encrypt_of key) (subkey1 (encrypt_of key)) (subkey2 (encrypt_of key)) m

-- Of subkeys and of a message under a key: without the trace they are RFC 4493's; the trace is what is handed to the cipher; a count is the
-- trace's length, and a matter of the message's.
pub record MessageRule (key : List ℕ) : Type 0 where
  pub subkeys-erased : (subkeys_traced (encrypt_of key)).value ≡ subkeys_of key
  pub subkeys-handed : (subkeys_traced (encrypt_of key)).trace ≡ zeros ∷ []
  pub subkeys-counted : subkeys_count key ≡ length (subkeys_traced (encrypt_of key)).trace
  pub subkeys : subkeys_count key ≡ 1
  pub erased : (m : List ℕ) → (traced key m).value ≡ cmac_of key m
  pub handed : (m : List ℕ) →
      let e = encrypt_of key in
      let n = blocks (length m) - 1 in
      (traced key m).trace ≡ inputs e m n ++ (xor_block (last_block (subkey1 e) (subkey2 e) m) (chain e m n) ∷ [])
  pub counted : (m : List ℕ) → cmac_count key m ≡ length (traced key m).trace
  pub blocks-each : (m : List ℕ) → cmac_count key m ≡ blocks (length m)
  pub inner : (m : List ℕ) → length m ≡ 17 → cmac_count key m ≡ 2
  pub leaf : (m : List ℕ) → length m ≡ 73 → cmac_count key m ≡ 5

-- the count that goes with a call
abbrev pub count : Anchor → List ℕ → Call → ℕ
count a card c = count_of (subkeys_count a.key) (cmac_count a.key) (outcome (cmac_of a.key) a card c)

-- what a node of a card of depth n takes
abbrev pub calls_at : ℕ → ℕ → ℕ
calls_at n u = cond (ltb u (2 ^ n)) 2 5

-- the tag of a node is the CMAC of its message
abbrev pub RightAt : Anchor → List ℕ → ℕ → Type 0
RightAt a card u = cmac_of a.key (message (labels a.depth a.root.0 card) u) ≡ tag a.depth card u

-- u is the first node of a list whose tag is wrong
pub record First (a : Anchor) (card us : List ℕ) (u : ℕ) : Type 0 where
  pub before : List ℕ
  pub behind : List ℕ
  pub splits : us ≡ before ++ (u ∷ behind)
  pub right : (w : ℕ) → Memᴰ w before → RightAt a card w
  pub wrong : RightAt a card u → ⊥

-- the messages of nodes, as the card shows them
abbrev pub shown : Anchor → List ℕ → List ℕ → List (List ℕ)
shown a card us = map (message (labels a.depth a.root.0 card)) us

-- The messages that are counted: none where a limit refuses the call; else those that it checks, "up to and including a wrong one", and of
-- an accepted call those that it tags. No other message matters: whatever has CMAC's tags for these gives the same outcome.
pub record CountedRule (a : Anchor) (card : List ℕ) (c : Call) : Type 0 where
  pub refused : (r : Refusal) → (outcome (cmac_of a.key) a card c).answer ≡ Refused r → (outcome (cmac_of a.key) a card c).counted ≡ []
  pub stopped : (u : Node) → (outcome (cmac_of a.key) a card c).answer ≡ Wrong u → First a card (checks a.depth c) u.0
  pub up_to : (u : Node) → (outcome (cmac_of a.key) a card c).answer ≡ Wrong u → (f : First a card (checks a.depth c) u.0)
      → (outcome (cmac_of a.key) a card c).counted ≡ shown a card (f.before ++ (u.0 ∷ []))
  pub whole : (outcome (cmac_of a.key) a card c).answer ≡ Whole
      → (outcome (cmac_of a.key) a card c).counted ≡ shown a card (checks a.depth c) ++ tagged a card c
  pub enough : Enough (cmac_of a.key) a card c

pub record CountRule (a : Anchor) (card : List ℕ) : Type 0 where
  -- "Accepted reads carry 2n + 4, writes 8n + 8; check of a whole card and wipe 7·2^n - 3."
  pub reads : (i : ℕ) (buffer : List ℕ) → (outcome (cmac_of a.key) a card (read i buffer)).answer ≡ Whole
      → count a card (read i buffer) ≡ 2 * a.depth + 4
  pub writes : (i : ℕ) (block ranges : List ℕ) → (outcome (cmac_of a.key) a card (write i block ranges)).answer ≡ Whole
      → count a card (write i block ranges) ≡ 8 * a.depth + 8
  pub checks-whole : (outcome (cmac_of a.key) a card check).answer ≡ Whole → count a card check ≡ 7 * 2 ^ a.depth - 3
  pub wipes : (outcome (cmac_of a.key) a card wipe).answer ≡ Whole → count a card wipe ≡ 7 * 2 ^ a.depth - 3
  -- "Refusals other than 8 carry 0."
  pub refused : (c : Call) (r : Refusal) → (outcome (cmac_of a.key) a card c).answer ≡ Refused r → count a card c ≡ 0
  -- refusal 8 carries those of the nodes up to the first wrong one, which it names
  pub up_to : (c : Call) (u : Node) → (outcome (cmac_of a.key) a card c).answer ≡ Wrong u
      → (f : First a card (checks a.depth c) u.0) → count a card c ≡ 1 + total (calls_at a.depth) (f.before ++ (u.0 ∷ []))
