-- The key schedule, a round key at a time.
use mathlib.Core.Path.{◌≡◌, sym, ap, ap₂, ◌∙◌}
use mathlib.Core.List.{List, ◌++◌, append_assoc}
use Prim.Native.Nat.{ℕ, zero, suc, ◌+◌, ◌-◌, ◌*◌, ◌/◌, ◌%◌, ◌<◌}
use native.Mathlib.Omega.{arith}
use borrow.Author.Tests.{eq-eqb, ne_eqb}
use lib.ListN.{length, take, drop, length-append}
use lib.Seq.{drop-append-add, sets, sets-eq, length-sets, length-take-le, take-add, take_at, drop_at}
use Rattle.words.specs.Bytes.{part}
use Rattle.tables.specs.Field.{times}
use Rattle.cipher.specs.KeyExpansion.{word_at, xor_word, sub_word, rot_word, z_power, round_constant}
use Rattle.cipher.specs.KeyExpansion.{rcon, temp, next_word, first_words, next_round_key}
use Rattle.words.specs.Words.{state_of}
use Rattle.words.specs.declared.Columns.{Columns}
use Rattle.tables.proofs.Doubling.{times-two, x-times-byte}

-- every power of z is a byte
z_power-byte : (n : ℕ) → z_power n < 256
unfolding z_power
z_power-byte zero = omega arith
z_power-byte (suc n) = x-times-byte (z_power n) (z_power-byte n)

-- the constant of one round more: that of this round times 2
pub constant_more : (i : ℕ) → times 2 (round_constant (i + 1)) ≡ round_constant (i + 1 + 1)
unfolding round_constant z_power
constant_more i =
    let m : i + 1 - 1 ≡ i = omega arith in
    let n : i + 1 + 1 - 1 ≡ suc i = omega arith in
    rw (m, n) (times-two (z_power i) (z_power-byte i))

-- the words from 4 r on stand in q, after the 16 r bytes of p
module _ (p q : List ℕ) (r : ℕ) (n : length p ≡ 16 * r) where
  word_after : (i j : ℕ) → i ≡ 4 * r + j → word_at (p ++ q) i ≡ word_at q j
  word_after i j e =
      let o : 4 * i ≡ length p + 4 * j = omega arith in
      ap (λ (o : ℕ). part (p ++ q) o 4) o ∙ ap (take 4) (drop-append-add p q (4 * j))

  -- the first word of a round key
  next-first : next_word (p ++ q) (4 + 4 * r)
      ≡ xor_word (word_at q 0) (xor_word (sub_word (rot_word (word_at q 3))) (rcon (round_constant (r + 1))))
  unfolding next_word temp
  next-first =
      let d : (4 + 4 * r) / 4 ≡ r + 1 = omega arith in
      rw (
        eq-eqb ((4 + 4 * r) % 4) 0 (omega arith),
        d,
        word_after (4 + 4 * r - 4) 0 (omega arith),
        word_after (4 + 4 * r - 1) 3 (omega arith),
      )

  -- each other word
  next-later : (i m : ℕ) → i ≡ 4 * r + suc m → m < 3 → next_word (p ++ q) (4 + i) ≡ xor_word (word_at q (suc m)) (word_at q (m + 4))
  unfolding next_word temp
  next-later i m e h =
      rw (
        ne_eqb ((4 + i) % 4) 0 (λ (z : (4 + i) % 4 ≡ 0). omega arith),
        word_after (4 + i - 4) (suc m) (omega arith),
        word_after (4 + i - 1) (m + 4) (omega arith),
      )

grown : (key p q v : List ℕ) (i : ℕ) → first_words key i ≡ p ++ q → next_word (p ++ q) (4 + i) ≡ v
    → first_words key (suc i) ≡ p ++ (q ++ v)
unfolding first_words
grown key p q v i e f =
    ap (λ (w : List ℕ). w ++ next_word w (4 + i)) e ∙ ap (λ (l : List ℕ). p ++ q ++ l) f ∙ append_assoc p q v

-- four more words are the next round key
pub round-words : (key p : List ℕ) (k : Columns) (r : ℕ) → length p ≡ 16 * r → first_words key (4 * r) ≡ p ++ state_of k
    → first_words key (4 * (r + 1)) ≡ p ++ state_of k ++ next_round_key (round_constant (r + 1)) (state_of k)
unfolding next_round_key xor_word
round-words key p k r n e =
    let q = state_of k in
    let w0 = xor_word (word_at q 0) (xor_word (sub_word (rot_word (word_at q 3))) (rcon (round_constant (r + 1)))) in
    let w1 = xor_word (word_at q 1) w0 in
    let w2 = xor_word (word_at q 2) w1 in
    let w3 = xor_word (word_at q 3) w2 in
    let m : 4 * (r + 1) ≡ suc (suc (suc (suc (4 * r)))) = omega arith in
    let e1 = grown key p q w0 (4 * r) e (next-first p q r n) in
    let e2 = grown key p (q ++ w0) w1 (suc (4 * r)) e1 (next-later p (q ++ w0) r n (suc (4 * r)) 0 (omega arith) (omega arith)) in
    let e3 = grown key p (q ++ w0 ++ w1) w2 (suc (suc (4 * r))) e2
    (next-later p (q ++ w0 ++ w1) r n (suc (suc (4 * r))) 1 (omega arith) (omega arith)) in
    let e4 = grown key p (q ++ w0 ++ w1 ++ w2) w3 (suc (suc (suc (4 * r)))) e3
    (next-later p (q ++ w0 ++ w1 ++ w2) r n (suc (suc (suc (4 * r)))) 2 (omega arith) (omega arith)) in
    ap (first_words key) m ∙ e4 ∙ sym (append_assoc p q (w0 ++ w1 ++ w2 ++ w3))

-- what the bytes w hold after the key and i round keys, the last of them k
pub record Filled (key w : List ℕ) (k : Columns) (i : ℕ) : Type 0 where
  pub whole : length w ≡ 176
  pub words : take (16 * i + 16) w ≡ first_words key (4 * i)
  pub last : part w (16 * i) 16 ≡ state_of k

-- one round key more
pub filled_more : (key w : List ℕ) (k n : Columns) (i : ℕ) → i < 10 → Filled key w k i
    → state_of n ≡ next_round_key (round_constant (i + 1)) (state_of k) → Filled key (sets w (16 * i + 16) (state_of n)) n (i + 1)
filled_more key w k n i h f e =
    let o = 16 * (i + 1) in
    let m : 16 * (i + 1) ≡ 16 * i + 16 = omega arith in
    let l : length w ≡ 176 = f.whole in
    let p = take (16 * i) w in
    let s : sets w o (state_of n) ≡ take o w ++ state_of n ++ drop (o + 16) w = sets-eq (state_of n) w o (omega arith) in
    let t : length (take o w) ≡ o = length-take-le o w (omega arith) in
    let before : first_words key (4 * i) ≡ p ++ state_of k =
    sym f.words ∙ take-add (16 * i) 16 w ∙ ap (λ (x : List ℕ). p ++ x) f.last in
    let after : first_words key (4 * (i + 1)) ≡ take o w ++ state_of n =
    round-words key p k i (length-take-le (16 * i) w (omega arith)) before
    ∙ ap₂ ◌++◌ (sym before ∙ sym f.words ∙ ap (λ (x : ℕ). take x w) (sym m)) (sym e) in
    let j : length (take o w ++ state_of n) ≡ o + 16 = length-append (take o w) (state_of n) ∙ ap (λ (x : ℕ). x + 16) t in
    rw (← m) (record {
      whole = length-sets w o (state_of n) ∙ l;
      words = ap (take (o + 16)) s ∙ take_at (take o w ++ state_of n) (drop (o + 16) w) (o + 16) j ∙ sym after;
      last =
          ap (λ (x : List ℕ). part x o 16) (s ∙ append_assoc (take o w) (state_of n) (drop (o + 16) w))
          ∙ ap (take 16) (drop_at (take o w) (state_of n ++ drop (o + 16) w) o t);
    })
