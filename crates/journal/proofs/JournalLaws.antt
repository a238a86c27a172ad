-- The parts of a journal: told by its message, and those of the journal of a write, which is to be applied under its root nonce alone.
use mathlib.Core.Path.{◌≡◌, refl, sym, ap, ap₂, ◌∙◌}
use mathlib.Core.Bool.{Bool, true, false, ◌&&◌}
use mathlib.Core.List.{List, ◌++◌}
use mathlib.Core.Option.{some}
use Prim.Native.Nat.{ℕ, ◌+◌, ◌*◌, ◌^◌, ◌<◌, ◌≤◌}
use native.Mathlib.Omega.{arith}
use lib.ListN.{length, take, drop, length-append}
use lib.Seq.{take-take, take_at, drop_at, drop-drop}
use Rattle.std.proofs.lemmas.List.{take_all}
use Rattle.words.specs.Bytes.{part, same}
use Rattle.words.proofs.Bytes.{part-part}
use Rattle.words.proofs.Same.{same-is, same_refl}
use Rattle.tree.specs.Layout.{card_length}
use Rattle.tree.specs.Numbers.{be8}
use Rattle.tree.specs.Ranges.{ranges_of, encode}
use Rattle.tree.proofs.ByteLaws.{length-be, be-inj}
use Rattle.tree.proofs.RangeLaws.{ranges-length}
use Rattle.journal.specs.Journal.{gathered, message_length, journal_length, journal_message, journal_of, applies}
use Rattle.journal.specs.Journal.{scattered, message_of, tag_of, list_of, new_bytes, block_of}
use Rattle.journal.proofs.GatherLaws.{gathered-length}
use Rattle.journal.proofs.FillLaws.{message-size}
use Rattle.journal.proofs.BlockLaws.{block-own}
use Rattle.journal.proofs.BackLaws.{Beside, ranges-back}

-- a part of a front
part-of-take : (s : List ℕ) (n k m : ℕ) → k + m ≤ n → part (take n s) k m ≡ part s k m
part-of-take s n k m h = part-part s 0 n k m h ∙ ap (λ (o : ℕ). part s o m) (omega arith)

-- That a journal is to be applied, by its parts

pub record Applies (F : List ℕ → List ℕ) (n t : ℕ) (journal : List ℕ) : Type 0 where
  pub root : take 8 journal ≡ be8 t
  pub tag : F (message_of n journal) ≡ tag_of n journal

module _ (F : List ℕ → List ℕ) (n t : ℕ) (journal : List ℕ) where
  -- each of the two, where it applies
  pub applies-is : applies F n t journal ≡ true → Applies F n t journal
  applies-is e = go (same (take 8 journal) (be8 t)) refl (same (F (message_of n journal)) (tag_of n journal)) refl e
    where
      go : (a : Bool) → same (take 8 journal) (be8 t) ≡ a → (b : Bool) → same (F (message_of n journal)) (tag_of n journal) ≡ b
          → (a && b) ≡ true → Applies F n t journal
      go true p true q e = record { root = same-is _ _ p; tag = same-is _ _ q }
      go true p false q e = cc
      go false p b q e = cc

  -- and the other way
  pub is-applies : Applies F n t journal → applies F n t journal ≡ true
  is-applies a =
      let p : same (take 8 journal) (be8 t) ≡ true = ap (λ (x : List ℕ). same x (be8 t)) a.root ∙ same_refl (be8 t) in
      let q : same (F (message_of n journal)) (tag_of n journal) ≡ true =
      ap (λ (x : List ℕ). same x (tag_of n journal)) a.tag ∙ same_refl (tag_of n journal) in
      cc

  -- and where they do not both hold
  pub applies-not : (Applies F n t journal → ⊥) → applies F n t journal ≡ false
  applies-not d = go (applies F n t journal) refl
    where
      go : (b : Bool) → applies F n t journal ≡ b → b ≡ false
      go true e = absurd (d (applies-is e))
      go false e = refl

-- Any journal with the message of a write

module _ (n t i : ℕ) (card : List ℕ) (inside : i < 2 ^ n) (deep : 1 ≤ n) (full : length card ≡ card_length n) where
  abbrev x : List ℕ
  x = encode (ranges_of n i)

  abbrev y : List ℕ
  y = gathered (ranges_of n i) card

  -- what is behind the root nonce
  behind : drop 8 (journal_message n t i card) ≡ x ++ y
  unfolding journal_message
  behind = drop_at (be8 t) (x ++ y) 8 (length-be 8 t)

  module _ (journal : List ℕ) (has : message_of n journal ≡ journal_message n t i card) where
    -- its parts
    pub root-told : take 8 journal ≡ be8 t
    unfolding journal_message
    root-told =
        sym (take-take 8 (message_length n) journal (omega arith)) ∙ ap (take 8) has ∙ take_at (be8 t) (x ++ y) 8 (length-be 8 t)

    pub list-told : list_of n journal ≡ encode (ranges_of n i)
    list-told =
        sym (part-of-take journal (message_length n) 8 (16 * n) (omega arith)) ∙ ap (λ (s : List ℕ). part s 8 (16 * n)) has
        ∙ ap (take (16 * n)) behind ∙ take_at x y (16 * n) (ranges-length n i n)

    pub new-told : new_bytes n journal ≡ gathered (ranges_of n i) card
    new-told =
        sym (part-of-take journal (message_length n) (8 + 16 * n) (40 * n + 56) (omega arith))
        ∙ ap (λ (s : List ℕ). part s (8 + 16 * n) (40 * n + 56)) has
        ∙ ap (take (40 * n + 56))
        (sym (drop-drop (16 * n) 8 (journal_message n t i card)) ∙ ap (drop (16 * n)) behind
        ∙ drop_at x y (16 * n) (ranges-length n i n))
        ∙ take_all (40 * n + 56) y (omega (arith, gathered-length n i inside deep card full))

    -- so it tells the block, and its new bytes make this card of any that agrees with it outside the ranges
    pub block-told : n ≤ 16 → block_of n (list_of n journal) ≡ some i
    block-told shallow = ap (block_of n) list-told ∙ block-own n i deep shallow inside

    pub back-told : (c : List ℕ) → Beside (ranges_of n i) c card → scattered (ranges_of n i) (new_bytes n journal) c ≡ card
    back-told c b = ap (λ (new : List ℕ). scattered (ranges_of n i) new c) new-told ∙ ranges-back n i inside deep c card full b

  -- a journal that begins with it, whatever is behind
  pub filled-message : (rest : List ℕ) → message_of n (journal_message n t i card ++ rest) ≡ journal_message n t i card
  filled-message rest = take_at (journal_message n t i card) rest (message_length n) (message-size n t i card inside deep full)

  pub filled-tag : (rest : List ℕ) → tag_of n (journal_message n t i card ++ rest) ≡ rest
  filled-tag rest = drop_at (journal_message n t i card) rest (message_length n) (message-size n t i card inside deep full)

  -- The journal of a write

  module _ (F : List ℕ → List ℕ) where
    -- how long it is
    pub own-length : length (F (journal_message n t i card)) ≡ 16 → length (journal_of F n t i card) ≡ journal_length n
    own-length h =
        omega (
          arith,
          length-append (journal_message n t i card) (F (journal_message n t i card)),
          message-size n t i card inside deep full,
        )

    -- its parts
    pub own-message : message_of n (journal_of F n t i card) ≡ journal_message n t i card
    own-message = filled-message (F (journal_message n t i card))

    pub own-tag : tag_of n (journal_of F n t i card) ≡ F (journal_message n t i card)
    own-tag = filled-tag (F (journal_message n t i card))

    pub own-root : take 8 (journal_of F n t i card) ≡ be8 t
    own-root = root-told (journal_of F n t i card) own-message

    pub own-list : list_of n (journal_of F n t i card) ≡ encode (ranges_of n i)
    own-list = list-told (journal_of F n t i card) own-message

    pub own-new : new_bytes n (journal_of F n t i card) ≡ gathered (ranges_of n i) card
    own-new = new-told (journal_of F n t i card) own-message

    -- it is to be applied under its root nonce
    pub own-applies : applies F n t (journal_of F n t i card) ≡ true
    own-applies = is-applies F n t (journal_of F n t i card) (record { root = own-root; tag = ap F own-message ∙ sym own-tag })

    -- and under no other
    pub own-other : (u : ℕ) → t < 2 ^ 64 → u < 2 ^ 64 → (u ≡ t → ⊥) → applies F n u (journal_of F n t i card) ≡ false
    own-other u ht hu d =
        applies-not F n u (journal_of F n t i card)
        (λ a. d (be-inj 8 u t (omega arith) (omega arith) (sym a.root ∙ own-root)))

    -- a journal that was filled, with its tag put behind it
    pub sealed : (rest tag : List ℕ) → let filled = journal_message n t i card ++ rest in tag ≡ F (message_of n filled)
        → message_of n filled ++ tag ≡ journal_of F n t i card
    sealed rest tag e =
        ap₂ ◌++◌ (filled-message rest) (e ∙ ap F (filled-message rest))
