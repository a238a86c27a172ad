-- The tests that the two tables pass, and the rules that follow.
use mathlib.Core.Path.{◌≡◌, refl, sym, ap, ◌∙◌}
use mathlib.Core.Bool.{Bool, true, false}
use mathlib.Core.List.{List, ◌++◌}
use Prim.Native.Nat.{ℕ, ◌+◌, ◌*◌, ◌<◌, ◌≤◌}
use lib.Dec.{T, eqb, eqb→eq}
use lib.ListN.{length}
use Rattle.words.specs.Bytes.{at, part, same}
use Rattle.tables.specs.SBox.{s_box}
use Rattle.tables.specs.Tables.{IsSBox, mixed_column, entry, IsRoundTable}
use Rattle.words.proofs.Bytes.{part-part}
use Rattle.words.proofs.Same.{same-is}
use Rattle.tables.proofs.Every.{every, every-at, every_eight, eight-at}

abbrev pub substitutes : ℕ → ℕ → Bool
substitutes b x = eqb x (s_box b)

pub is-sbox : (s : List ℕ) → length s ≡ 256 → T (every substitutes 0 s) → IsSBox s
is-sbox s n t b h = eqb→eq (at s b) (s_box b) (every-at substitutes s t b (rw n h))

pub sbox-at : (s : List ℕ) → IsSBox s → (b : ℕ) → b < 256 → at s b ≡ s_box b
sbox-at s rule = rule

-- a part of an entry
pub entry-part : (t : List ℕ) → IsRoundTable t → (b o n : ℕ) → b < 256 → o + n ≤ 8 → part t (8 * b + o) n ≡ part (entry b) o n
entry-part t rule b o n h l = sym (part-part t (8 * b) 8 o n l) ∙ ap (λ (e : List ℕ). part e o n) (rule b h)

is_true : (b : Bool) → T b → b ≡ true
is_true true t = refl
is_true false t = absurd t

unfoldable pub mixes : ℕ → List ℕ → Bool
mixes b x = let m = mixed_column (s_box b) in same x (m ++ m)

pub is-round-table : (t : List ℕ) → T (every_eight mixes 256 0 t) → IsRoundTable t
unfolding mixes
is-round-table t p b h =
    let x = part t (8 * b) 8 in
    same-is x (entry b) (is_true (same x (entry b)) (eight-at mixes 256 t p b h))
