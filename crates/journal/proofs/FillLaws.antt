-- How a journal is filled: its message stands at the front, and behind it what was there.
use mathlib.Core.Path.{◌≡◌, sym, ap, ap₂, ◌∙◌}
use mathlib.Core.List.{List, [], ◌++◌, append_assoc, append-nil}
use Prim.Native.Nat.{ℕ, ◌+◌, ◌*◌, ◌-◌, ◌^◌, ◌<◌, ◌≤◌}
use native.Mathlib.Omega.{arith}
use borrow.Rule.Slice.PartMut.{put_mid}
use lib.ListN.{length, take, drop, length-append, length-drop, drop_of_length-le}
use lib.Seq.{sets, sets-eq, drop-drop}
use Rattle.std.proofs.lemmas.List.{take_all}
use Rattle.words.specs.Bytes.{part}
use Rattle.words.proofs.Stores.{sets-append}
use Rattle.tree.specs.Layout.{card_length}
use Rattle.tree.specs.Numbers.{be8}
use Rattle.tree.specs.Ranges.{ranges_of, encode, listed}
use Rattle.tree.proofs.ByteLaws.{length-be}
use Rattle.tree.proofs.RangeLaws.{ranges-length}
use Rattle.journal.specs.Journal.{gathered, message_length, journal_message}
use Rattle.journal.proofs.GatherLaws.{gathered-length}

-- a list of ranges filled in from byte 8 on
pub list_stored : (n i : ℕ) (s : List ℕ) → 8 + 16 * n ≤ length s
    → put_mid 8 (length s - 8) s (listed n i (part s 8 (length s - 8))) ≡ sets s 8 (encode (ranges_of n i))
list_stored n i s h =
    let x = encode (ranges_of n i) in
    let k = ranges-length n i n in
    let front = take 8 s in
    let whole : part s 8 (length s - 8) ≡ drop 8 s = take_all (length s - 8) (drop 8 s) (omega (arith, length-drop 8 s)) in
    let none : drop (length s - 8) (drop 8 s) ≡ [] = drop_of_length-le (drop 8 s) (omega (arith, length-drop 8 s)) in
    let e : 8 + 16 * n ≡ 8 + length x = omega arith in
    ap₂ (λ (u v : List ℕ). front ++ ((x ++ drop (16 * n) u) ++ v)) whole none
    ∙ ap (λ (u : List ℕ). front ++ u) (append-nil (x ++ drop (16 * n) (drop 8 s)))
    ∙ sym (append_assoc front x (drop (16 * n) (drop 8 s)))
    ∙ ap (λ (u : List ℕ). front ++ x ++ u) (drop-drop (16 * n) 8 s ∙ ap (λ (m : ℕ). drop m s) e)
    ∙ sym (sets-eq x s 8 (omega arith))

module _ (n t i : ℕ) (card : List ℕ) (inside : i < 2 ^ n) (deep : 1 ≤ n) (full : length card ≡ card_length n) where
  -- how many bytes the message of a journal has
  pub message-size : length (journal_message n t i card) ≡ message_length n
  unfolding journal_message
  message-size =
      let x = encode (ranges_of n i) in
      let y = gathered (ranges_of n i) card in
      omega (
        arith,
        length-append (be8 t) (x ++ y),
        length-append x y,
        length-be 8 t,
        ranges-length n i n,
        gathered-length n i inside deep card full,
      )

  -- its three parts stored one behind the other
  pub message_stored : (s : List ℕ) → message_length n ≤ length s
      → sets (sets (sets s 0 (be8 t)) 8 (encode (ranges_of n i))) (8 + 16 * n) (gathered (ranges_of n i) card)
      ≡ journal_message n t i card ++ drop (message_length n) s
  unfolding journal_message
  message_stored s h =
      let x = encode (ranges_of n i) in
      let y = gathered (ranges_of n i) card in
      let m = be8 t ++ (x ++ y) in
      let a : 0 + length (be8 t) ≡ 8 = omega (arith, length-be 8 t) in
      let b : 8 + length x ≡ 8 + 16 * n = omega (arith, ranges-length n i n) in
      let l : 0 + length m ≡ message_length n = omega (arith, message-size) in
      sym (sets-append s 0 (be8 t) (x ++ y) ∙ ap (λ (k : ℕ). sets (sets s 0 (be8 t)) k (x ++ y)) a ∙ sets-append (sets s 0 (be8 t)) 8 x y
      ∙ ap (λ (k : ℕ). sets (sets (sets s 0 (be8 t)) 8 x) k y) b)
      ∙ sets-eq m s 0 (omega arith) ∙ ap (λ (k : ℕ). m ++ drop k s) l
