-- What document 01 says in words, on examples: which bytes a number, a message and a range list are, in which order nodes are checked, and
-- in which order limits are tested. A definition that is bent together with its code no longer gives these.
use Rattle.std.specs.Prelude.{◌≡◌, List, [], ◌∷◌, ◌++◌, map, ℕ}
use Rattle.tree.specs.Numbers.{be8}
use Rattle.tree.specs.Labels.{Labels, message}
use Rattle.tree.specs.Ranges.{ranges_of, encode}
use Rattle.tree.specs.Answer.{refusal_number, number_of}
use Rattle.tree.specs.Limits.{Limit}
use Rattle.tree.specs.Calls.{read, write, check, limits, checks, format_answer}
use Rattle.tree.specs.declared.Anchor.{Anchor}
use Rattle.tree.specs.declared.Node.{Node}
use Rattle.tree.specs.declared.Refusal.TheVariants.{Journal}
use Rattle.tree.specs.Answer.{Whole, Wrong, Refused}

abbrev pub numbers : List Limit → List ℕ
numbers ls = map (λ (l : Limit). refusal_number l.refusal) ls

pub record Rules : Type 0 where
  -- "Multi-byte numbers are big-endian"
  pub number : be8 0x0102030405060708 ≡ 1 ∷ 2 ∷ 3 ∷ 4 ∷ 5 ∷ 6 ∷ 7 ∷ 8 ∷ []
  -- "its serial, its parent's serial, side as one byte"; the side of a node is u mod 2
  pub even-message : (L : Labels) → message L 6 ≡ L 6 ++ (L 3 ++ (0 ∷ []))
  pub odd-message : (L : Labels) → message L 7 ≡ L 7 ++ (L 3 ++ (1 ∷ []))
  -- "pairs of offset and length (4 bytes each)": the ranges (0,80) and (144,16) of row e
  pub range-list : encode (ranges_of 1 0) ≡ 0 ∷ 0 ∷ 0 ∷ 0 ∷ 0 ∷ 0 ∷ 0 ∷ 80 ∷ 0 ∷ 0 ∷ 0 ∷ 144 ∷ 0 ∷ 0 ∷ 0 ∷ 16 ∷ []
  -- a read checks "the path from level 1 down to the leaf", a write "for y = 1 to n, u_y and then v_y; u_n itself isn't checked", and a
  -- check "nodes from 2 upwards"
  pub read-checks : (buffer : List ℕ) → checks 3 (read 5 buffer) ≡ 3 ∷ 6 ∷ 13 ∷ []
  pub write-checks : (block ranges : List ℕ) → checks 3 (write 5 block ranges) ≡ 3 ∷ 2 ∷ 6 ∷ 7 ∷ 12 ∷ []
  pub check-checks : checks 2 check ≡ 2 ∷ 3 ∷ 4 ∷ 5 ∷ 6 ∷ 7 ∷ []
  -- "Tests run in rising number, skipping those that a call lacks"
  pub read-limits : (a : Anchor) (card : List ℕ) (i : ℕ) (buffer : List ℕ)
      → numbers (limits a card (read i buffer)) ≡ 1 ∷ 2 ∷ 3 ∷ 4 ∷ 5 ∷ []
  pub write-limits : (a : Anchor) (card : List ℕ) (i : ℕ) (block ranges : List ℕ)
      → numbers (limits a card (write i block ranges)) ≡ 1 ∷ 2 ∷ 3 ∷ 4 ∷ 5 ∷ 6 ∷ 7 ∷ []
  pub check-limits : (a : Anchor) (card : List ℕ) → numbers (limits a card check) ≡ 1 ∷ 2 ∷ 3 ∷ []
  pub format-depth : (number_of (format_answer 0 []) ≡ 1) × (number_of (format_answer 17 []) ≡ 1)
  pub format-card : number_of (format_answer 1 []) ≡ 3
  -- document 02: "10, a journal of another length, or one to be applied whose ranges no single write has"
  pub journal-number : number_of (Refused Journal) ≡ 10
  -- "0 when accepted", "8: a checked mark is wrong"
  pub whole-number : number_of Whole ≡ 0
  pub wrong-number : (u : Node) → number_of (Wrong u) ≡ 8
