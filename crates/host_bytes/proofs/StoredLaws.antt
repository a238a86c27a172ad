-- A number stored in the last eight of some bytes: it is read there, and what stands before it stays.
use mathlib.Core.Path.{◌≡◌, ap, ◌∙◌}
use mathlib.Core.List.{List, ◌++◌, append-nil}
use Prim.Native.Nat.{ℕ, ◌+◌, ◌≤◌}
use native.Mathlib.Omega.{arith}
use lib.ListN.{length, take, drop, length-append, length-drop, drop_of_length-le}
use lib.Seq.{sets, sets-eq, take-append-le, drop-append-le, drop_at, take_all, length-take-le}
use Rattle.words.specs.Bytes.{part}
use Rattle.words.proofs.Bytes.{part-part}
use Rattle.tree.specs.Numbers.{be8}
use Rattle.tree.proofs.ByteLaws.{length-be}

module _ (s : List ℕ) (k : ℕ) (long : length s ≡ k + 8) (t : ℕ) where
  front : length (take k s) ≡ k
  front = length-take-le k s (omega arith)

  pub stored-is : sets s k (be8 t) ≡ take k s ++ be8 t
  stored-is =
      let l = length-be 8 t in
      let e : length s ≤ k + length (be8 t) = omega arith in
      sets-eq (be8 t) s k (omega arith) ∙ ap (◌++◌ (take k s ++ be8 t)) (drop_of_length-le s e) ∙ append-nil (take k s ++ be8 t)

  pub stored-long : length (take k s ++ be8 t) ≡ k + 8
  stored-long = length-append (take k s) (be8 t) ∙ omega (arith, front, length-be 8 t)

  pub stored-before : (o m : ℕ) → o + m ≤ k → part (take k s ++ be8 t) o m ≡ part s o m
  stored-before o m h =
      ap (take m) (drop-append-le o (take k s) (be8 t) (omega (arith, front)))
      ∙ take-append-le m (drop o (take k s)) (be8 t) (omega (arith, front, length-drop o (take k s)))
      ∙ part-part s 0 k o m h ∙ ap (λ (j : ℕ). part s j m) start
    where
      start : 0 + o ≡ o
      start = omega arith

  pub stored_last : part (take k s ++ be8 t) k 8 ≡ be8 t
  stored_last = ap (take 8) (drop_at (take k s) (be8 t) k front) ∙ take_all 8 (be8 t) (omega (arith, length-be 8 t))
