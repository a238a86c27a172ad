-- Bytes that were gathered out of ranges, or put into them, stand in the order of the ranges.
use mathlib.Core.Path.{◌≡◌, refl, sym, ap, subst, ◌∙◌}
use mathlib.Core.List.Memᴰ
use mathlib.Core.List.{List, [], ◌∷◌, ◌++◌, append-nil, Memᴰ}
use mathlib.Core.Logic.{inl, ⊎_elim}
use Prim.Native.Nat.{ℕ, ◌+◌, ◌<◌, ◌≤◌}
use native.Mathlib.Omega.{arith}
use lib.ListN.{length, take, drop, length-take, length-drop, get_or-append}
use lib.Seq.{sets, length-sets, get_or-take, get_or-drop, get_or-append-add}
use Rattle.words.specs.Bytes.{at, part}
use Rattle.tree.specs.Ranges.{Range}
use Rattle.tree.specs.Calls
use Rattle.tree.proofs.ByteLaws.{at-sets-first}
use Rattle.tree.proofs.RangeLaws.{total, Rising, rising-end}
use Rattle.journal.specs.Journal.{gathered, scattered}
use Rattle.journal.proofs.GatherLaws.{Fit, length-part}
use Rattle.journal.proofs.BackLaws.{scattered-outside}
use Rattle.scope.specs.Ordered.{bytes_in, InOrder}

more-bytes : (r : Range) (rs : List Range) → bytes_in (r ∷ rs) ≡ r.count + bytes_in rs
unfolding Calls.total
more-bytes r rs = refl

no-bytes : bytes_in [] ≡ 0
unfolding Calls.total
no-bytes = refl

-- every range of a rising list starts at k or behind it
rising-start : (k : ℕ) (rs : List Range) (m : ℕ) → Rising k rs m → (r : Range) → Memᴰ r rs → k ≤ r.start
rising-start k [] m a r h = absurd (Memᴰ.not-nil h)
rising-start k (s ∷ rs) m a r h =
    ⊎_elim (λ (e : r ≡ s). rw e a.0)
    (λ (t : Memᴰ r rs). let p = rising-start (s.start + s.count) rs m a.1 r t in omega (arith, a.0))
    (Memᴰ.cases_cons h)

gathered-byte : (before : List Range) (r : Range) (behind : List Range) (card : List ℕ) → Fit (length card) (before ++ (r ∷ behind))
    → (k : ℕ) → k < r.count → at (gathered (before ++ (r ∷ behind)) card) (bytes_in before + k) ≡ at card (r.start + k)
unfolding gathered
gathered-byte [] r behind card f k h =
    let p = part card r.start r.count in
    let l = length-part card r.start r.count (f r (Memᴰ.head refl)) in
    let z : bytes_in [] + k ≡ k = omega (arith, no-bytes) in
    ap (at (p ++ gathered behind card)) z
    ∙ get_or-append p (gathered behind card) 0 k (omega arith) ∙ get_or-take r.count (drop r.start card) k 0 h
    ∙ get_or-drop r.start card k 0
gathered-byte (q ∷ before) r behind card f k h =
    let p = part card q.start q.count in
    let g = gathered (before ++ (r ∷ behind)) card in
    let l = length-part card q.start q.count (f q (Memᴰ.head refl)) in
    let z : bytes_in (q ∷ before) + k ≡ length p + (bytes_in before + k) = omega (arith, more-bytes q before) in
    ap (at (p ++ g)) z ∙ get_or-append-add p g (bytes_in before + k) 0
    ∙ gathered-byte before r behind card (λ s m. f s (Memᴰ.tail m)) k h

pub gathered-order : (rs : List Range) (card : List ℕ) → Fit (length card) rs → InOrder rs (gathered rs card) card
gathered-order rs card f before r behind e k h =
    ap (λ (l : List Range). at (gathered l card) (bytes_in before + k)) e
    ∙ gathered-byte before r behind card (subst (Fit (length card)) e f) k h

scattered-byte : (before : List Range) (r : Range) (behind : List Range) (new card : List ℕ) (j m : ℕ)
    → Rising j (before ++ (r ∷ behind)) m → m ≤ length card → total (before ++ (r ∷ behind)) ≤ length new → (k : ℕ) → k < r.count
    → at new (bytes_in before + k) ≡ at (scattered (before ++ (r ∷ behind)) new card) (r.start + k)
unfolding scattered total
scattered-byte [] r behind new card j m rising fits long k h =
    let x = take r.count new in
    let l : length x ≡ r.count = omega (arith, length-take r.count new) in
    let n : length (x ++ []) ≡ r.count = ap length (append-nil x) ∙ l in
    let z : bytes_in [] + k ≡ k = omega (arith, no-bytes) in
    let ends = rising-end j (r ∷ behind) m rising r (Memᴰ.head refl) in
    let stored : at (sets card r.start x) (r.start + k) ≡ at x k =
    ap (λ (y : List ℕ). at (sets card r.start y) (r.start + k)) (sym (append-nil x))
    ∙ at-sets-first x [] card r.start (omega arith) k (omega arith) in
    ap (at new) z ∙ sym (get_or-take r.count new k 0 h) ∙ sym stored
    ∙ sym (scattered-outside behind (drop r.count new) (sets card r.start x) (r.start + k)
    (λ q t. let s = rising-start (r.start + r.count) behind m rising.1 q t in inl (omega arith)))
scattered-byte (q ∷ before) r behind new card j m rising fits long k h =
    let z : bytes_in (q ∷ before) + k ≡ q.count + (bytes_in before + k) = omega (arith, more-bytes q before) in
    ap (at new) z ∙ sym (get_or-drop q.count new (bytes_in before + k) 0)
    ∙ scattered-byte before r behind (drop q.count new) (sets card q.start (take q.count new)) (q.start + q.count) m rising.1
    (omega (arith, length-sets card q.start (take q.count new))) (omega (arith, length-drop q.count new)) k h

pub scattered-order : (rs : List Range) (new card : List ℕ) (m : ℕ) → Rising 0 rs m → m ≤ length card → total rs ≤ length new
    → InOrder rs new (scattered rs new card)
scattered-order rs new card m rising fits long before r behind e k h =
    scattered-byte before r behind new card 0 m (subst (λ (l : List Range). Rising 0 l m) e rising) fits
    (subst (λ (l : List Range). total l ≤ length new) e long) k h
    ∙ ap (λ (l : List Range). at (scattered l new card) (r.start + k)) (sym e)
