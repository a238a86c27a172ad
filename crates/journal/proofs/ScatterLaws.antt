-- Bytes put into ranges of a card: those of a level more.
use mathlib.Core.Path.{◌≡◌, refl, sym, ap, ap₂, subst, ◌∙◌}
use mathlib.Core.List.{List, [], ◌∷◌, ◌++◌}
use Prim.Native.Nat.{ℕ, suc, ◌+◌, ◌*◌, ◌/◌, ◌^◌, ◌<◌}
use native.Mathlib.Numerals.{add-one}
use lib.ListN.{take, drop}
use lib.Seq.{sets, drop-drop}
use Rattle.words.specs.Bytes.{part}
use Rattle.tree.specs.Nodes.{path_node}
use Rattle.tree.specs.Ranges.{Range, range_of, range_pair, ranges_to}
use Rattle.tree.proofs.RangeLaws.{total, total-inner}
use Rattle.journal.specs.Journal.{scattered}

-- into the ranges of two lists, one after the other
pub scattered-append : (rs ss : List Range) (new card : List ℕ)
    → scattered (rs ++ ss) new card ≡ scattered ss (drop (total rs) new) (scattered rs new card)
unfolding scattered total
scattered-append [] ss new card = refl
scattered-append (r ∷ rs) ss new card =
    let rest = drop r.count new in
    let c = sets card r.start (take r.count new) in
    scattered-append rs ss rest c
    ∙ ap (λ (x : List ℕ). scattered ss x (scattered rs rest c)) (drop-drop (total rs) r.count new)

-- a level more; u is its node of the path
pub scattered_more : (n i : ℕ) → i < 2 ^ n → (new card t : List ℕ) (y u : ℕ) → y < n → t ≡ scattered (ranges_to n i y) new card
    → u ≡ path_node n i (y + 1)
    → sets (sets t (range_of n u (2 * (u / 2))).start (part new (40 * y) (range_of n u (2 * (u / 2))).count))
    (range_of n u (2 * (u / 2) + 1)).start
    (part new (40 * y + (range_of n u (2 * (u / 2))).count) (range_of n u (2 * (u / 2) + 1)).count)
    ≡ scattered (ranges_to n i (y + 1)) new card
unfolding ranges_to scattered
scattered_more n i inside new card t y u h d e =
    let w = path_node n i (suc y) in
    let v : w ≡ u = ap (path_node n i) (sym (add-one y)) ∙ sym e in
    let a = range_of n w (2 * (w / 2)) in
    let b = range_of n w (2 * (w / 2) + 1) in
    let laid : scattered (ranges_to n i (y + 1)) new card
    ≡ sets (sets t a.start (part new (40 * y) a.count)) b.start (part new (40 * y + a.count) b.count) =
    ap (λ (k : ℕ). scattered (ranges_to n i k) new card) (add-one y)
    ∙ scattered-append (ranges_to n i y) (range_pair n i (suc y)) new card
    ∙ ap₂ (λ (k : ℕ) (c : List ℕ). scattered (range_pair n i (suc y)) (drop k new) c) (total-inner n i inside y h) (sym d)
    ∙ ap (λ (x : List ℕ). sets (sets t a.start (part new (40 * y) a.count)) b.start (take b.count x)) (drop-drop a.count (40 * y) new) in
    subst
    (λ (w : ℕ).
    sets (sets t (range_of n w (2 * (w / 2))).start (part new (40 * y) (range_of n w (2 * (w / 2))).count))
    (range_of n w (2 * (w / 2) + 1)).start
    (part new (40 * y + (range_of n w (2 * (w / 2))).count) (range_of n w (2 * (w / 2) + 1)).count)
    ≡ scattered (ranges_to n i (y + 1)) new card)
    v (sym laid)
