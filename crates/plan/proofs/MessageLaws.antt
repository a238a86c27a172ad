-- A plan's messages end to end: how long they are, and one level more.
use mathlib.Core.Path.{◌≡◌, refl, sym, ap, ap₂, ◌∙◌}
use mathlib.Core.List.{List, [], ◌∷◌, ◌++◌, map, map-append, append_assoc, append-nil}
use mathlib.Core.Logic.{⊎_elim}
use Prim.Native.Nat.{ℕ, zero, suc, ◌+◌, ◌*◌, ◌-◌, ◌/◌, ◌^◌, ◌<◌, ◌≤◌}
use native.Mathlib.Nat.{pow-suc}
use native.Mathlib.Numerals.{add-one}
use native.Mathlib.Omega.{arith}
use lib.ListN.{length, take, length-append}
use lib.Pow.{pow_mono}
use lib.Seq.{take_at, drop_at, sets}
use Rattle.words.proofs.Stores.{sets-append}
use Rattle.words.specs.Bytes.{part}
use Rattle.words.proofs.Cases.{below_or_not, equal_or_not}
use Rattle.tree.specs.Layout.{IsNode, size}
use Rattle.tree.specs.Nodes.{up_to, path_node}
use Rattle.tree.specs.Labels.{Labels, message}
use Rattle.tree.proofs.LayoutLaws.{inner, leaf}
use Rattle.tree.proofs.NodeLaws.{path-level, path-node, twin-node}
use Rattle.tree.proofs.LabelLaws.{Sized}
use Rattle.tree.proofs.CountLaws.{length-message}
use Rattle.plan.specs.Places.{rising_pair, plan_nodes}
use Rattle.plan.specs.Split.{Given, given, joined}

pub joined-append : (ms ks : List Given) → joined (ms ++ ks) ≡ joined ms ++ joined ks
unfolding joined
joined-append [] ks = refl
joined-append (m ∷ ms) ks = ap (λ (l : List ℕ). m.message ++ l) (joined-append ms ks)
    ∙ sym (append_assoc m.message (joined ms) (joined ks))

pub joined-one : (m : Given) → joined (m ∷ []) ≡ m.message
unfolding joined
joined-one m = append-nil m.message

-- messages stored behind others
joined-stored : (s : List ℕ) (ms ks : List Given) (o : ℕ) → length (joined ms) ≡ o
    → sets (sets s 0 (joined ms)) o (joined ks) ≡ sets s 0 (joined (ms ++ ks))
joined-stored s ms ks o e =
    let k : 0 + length (joined ms) ≡ o = omega arith in
    sym (ap (sets s 0) (joined-append ms ks) ∙ sets-append s 0 (joined ms) (joined ks)
    ∙ ap (λ (m : ℕ). sets (sets s 0 (joined ms)) m (joined ks)) k)

-- two children of one parent have labels of one length
pub twin-size : (n u w : ℕ) → 1 ≤ n → w / 2 ≡ u / 2 → size n w ≡ size n u
twin-size n u w deep e =
    let p = pow-suc 2 (n - 1) in
    let q : suc (n - 1) ≡ n = omega arith in
    let t = ap (λ (k : ℕ). 2 ^ k) q in
    ⊎_elim (λ (l : u < 2 ^ n). (inner n w (omega arith)).size_is ∙ sym (inner n u l).size_is)
    (λ (g : 2 ^ n ≤ u). (leaf n w (omega arith)).size_is ∙ sym (leaf n u g).size_is)
    (below_or_not u (2 ^ n))

module _ (n i : ℕ) (inside : i < 2 ^ n) (deep : 1 ≤ n) (L : Labels) (sized : Sized n L) (root : length (L 1) ≡ 8) where
  -- those of the first k levels
  abbrev pub of_levels : ℕ → List Given
  of_levels k = map (given L) (up_to k (rising_pair n i))

  -- of one level, of which u is the node on the path
  pub level-node : (y u : ℕ) → y < n → u ≡ path_node n i (y + 1) → IsNode n u
  level-node y u h e = rw e (path-node n i inside (y + 1) (omega arith) (omega arith))

  pub level-length : (y u w : ℕ) → y < n → u ≡ path_node n i (y + 1) → w / 2 ≡ u / 2 → length (message L w) ≡ size n u + 9
  level-length y u w h e half =
      length-message n L sized root w (twin-node n u w half (level-node y u h e)) ∙ ap (λ (k : ℕ). k + 9) (twin-size n u w deep half)

  of_levels-more : (k : ℕ) → of_levels (suc k) ≡ of_levels k ++ map (given L) (rising_pair n i (suc k))
  unfolding up_to
  of_levels-more k = map-append (given L) (up_to k (rising_pair n i)) (rising_pair n i (suc k))

  -- one level more
  step-length : (k : ℕ) → k < n → length (joined (of_levels (suc k)))
      ≡ length (joined (of_levels k)) + 2 * (size n (path_node n i (suc k)) + 9)
  unfolding joined
  step-length k h =
      let u = path_node n i (suc k) in
      let e : path_node n i (suc k) ≡ path_node n i (k + 1) = ap (path_node n i) (sym (add-one k)) in
      let x = message L (2 * (u / 2)) in
      let y = message L (2 * (u / 2) + 1) in
      let lx = level-length k u (2 * (u / 2)) h e (omega arith) in
      let ly = level-length k u (2 * (u / 2) + 1) h e (omega arith) in
      ap length (ap joined (of_levels-more k) ∙ joined-append (of_levels k) (map (given L) (rising_pair n i (suc k))))
      ∙ length-append (joined (of_levels k)) (x ++ (y ++ []))
      ∙ omega (arith, length-append x (y ++ []), length-append y [], lx, ly)

  inner-length : (k : ℕ) → k < n → length (joined (of_levels k)) ≡ 34 * k
  unfolding joined up_to
  inner-length zero h = refl
  inner-length (suc k) h =
      let v = path-level n i inside (suc k) (omega arith) in
      let p : 2 ^ suc (suc k) ≤ 2 ^ n = pow_mono h in
      let q = pow-suc 2 (suc k) in
      step-length k (omega arith) ∙ omega (arith, inner-length k (omega arith), inner n (path_node n i (suc k)) (omega (arith, v)))

  pub messages-length : length (joined (map (given L) (plan_nodes n i))) ≡ 34 * n + 112
  unfolding plan_nodes
  messages-length =
      let k = n - 1 in
      let e : suc k ≡ n = omega arith in
      let v = path-level n i inside (suc k) (omega arith) in
      let p = ap (λ (y : ℕ). 2 ^ y) e in
      ap (λ (y : ℕ). length (joined (of_levels y))) (sym e) ∙ step-length k (omega arith)
      ∙ omega (arith, inner-length k (omega arith), leaf n (path_node n i (suc k)) (omega (arith, v)))

  -- a level more, stored behind those before it
  pub messages-more : (s t : List ℕ) (y u : ℕ) → y < n → t ≡ sets s 0 (joined (map (given L) (up_to y (rising_pair n i))))
      → u ≡ path_node n i (y + 1)
      → sets (sets t (34 * y) (message L (2 * (u / 2)))) (34 * y + size n u + 9) (message L (2 * (u / 2) + 1))
      ≡ sets s 0 (joined (map (given L) (up_to (y + 1) (rising_pair n i))))
  messages-more s t y u h d e =
      let ms = of_levels y in
      let a = given L (2 * (u / 2)) ∷ [] in
      let b = given L (2 * (u / 2) + 1) ∷ [] in
      let la = level-length y u (2 * (u / 2)) h e (omega arith) in
      let lm = inner-length y h in
      ap (λ (l : List ℕ). sets l (34 * y + size n u + 9) (message L (2 * (u / 2) + 1)))
      (ap₂ (λ (l x : List ℕ). sets l (34 * y) x) d (sym (joined-one (given L (2 * (u / 2))))) ∙ joined-stored s ms a (34 * y) lm)
      ∙ ap (sets (sets s 0 (joined (ms ++ a))) (34 * y + size n u + 9)) (sym (joined-one (given L (2 * (u / 2) + 1))))
      ∙ joined-stored s (ms ++ a) b (34 * y + size n u + 9)
      (ap length (joined-append ms a) ∙ length-append (joined ms) (joined a)
      ∙ omega (arith, lm, la, ap length (joined-one (given L (2 * (u / 2))))))
      ∙ ap (λ (l : List Given). sets s 0 (joined l))
      (append_assoc ms a b ∙ ap (λ (w : ℕ). ms ++ map (given L) ((2 * (w / 2)) ∷ (2 * (w / 2) + 1) ∷ []))
      (e ∙ ap (path_node n i) (add-one y))
      ∙ sym (of_levels-more y) ∙ ap of_levels (sym (add-one y)))

  -- Where each message stands

  -- the nodes above a level, those of the level and those below
  record Around (k y : ℕ) : Type 0 where
    rest : List ℕ
    is : up_to k (rising_pair n i) ≡ up_to y (rising_pair n i) ++ (rising_pair n i (suc y) ++ rest)

  around : (k y : ℕ) → y < k → Around k y
  unfolding up_to
  around zero y h = absurd (omega arith)
  around (suc k) y h =
      ⊎_elim
      (λ (e : y ≡ k).
      record {
        rest = [];
        is = ap (λ (j : ℕ). up_to j (rising_pair n i) ++ rising_pair n i (suc j)) (sym e)
            ∙ ap (λ (l : List ℕ). up_to y (rising_pair n i) ++ l) (sym (append-nil (rising_pair n i (suc y))));
      })
      (λ (d : y ≡ k → ⊥).
      let a = around k y (omega arith) in
      record {
        rest = a.rest ++ rising_pair n i (suc k);
        is = ap (λ (l : List ℕ). l ++ rising_pair n i (suc k)) a.is
            ∙ append_assoc (up_to y (rising_pair n i)) (rising_pair n i (suc y) ++ a.rest) (rising_pair n i (suc k))
            ∙ ap (λ (l : List ℕ). up_to y (rising_pair n i) ++ l) (append_assoc (rising_pair n i (suc y)) a.rest (rising_pair n i (suc k)));
      })
      (equal_or_not y k)

  -- the part of a string between two others
  part-between : (a x b : List ℕ) (o l : ℕ) → length a ≡ o → length x ≡ l → part (a ++ (x ++ b)) o l ≡ x
  part-between a x b o l e f = ap (take l) (drop_at a (x ++ b) o e) ∙ take_at x b l f

  module _ (y : ℕ) (h : y < n) where
    abbrev u : ℕ
    u = path_node n i (suc y)

    joined-around : joined (map (given L) (plan_nodes n i))
        ≡ joined (of_levels y) ++ (message L (2 * (u / 2)) ++ (message L (2 * (u / 2) + 1) ++ joined (map (given L) (around n y h).rest)))
    unfolding plan_nodes joined
    joined-around =
        let r = (around n y h).rest in
        ap (λ (us : List ℕ). joined (map (given L) us)) (around n y h).is
        ∙ ap joined (map-append (given L) (up_to y (rising_pair n i)) (rising_pair n i (suc y) ++ r))
        ∙ joined-append (of_levels y) (map (given L) (rising_pair n i (suc y) ++ r))

    long-here : (w : ℕ) → w / 2 ≡ u / 2 → length (message L w) ≡ size n u + 9
    long-here w half = level-length y u w h (ap (path_node n i) (sym (add-one y))) half

    pub lower-stands : part (joined (map (given L) (plan_nodes n i))) (34 * y) (size n u + 9) ≡ message L (2 * (u / 2))
    lower-stands =
        ap (λ (l : List ℕ). part l (34 * y) (size n u + 9)) joined-around
        ∙ part-between (joined (of_levels y)) (message L (2 * (u / 2))) _ (34 * y) (size n u + 9) (inner-length y h)
        (long-here (2 * (u / 2)) (omega arith))

    pub upper-stands : part (joined (map (given L) (plan_nodes n i))) (34 * y + (size n u + 9)) (size n u + 9) ≡ message L (2 * (u / 2) + 1)
    upper-stands =
        let a = joined (of_levels y) in
        let x = message L (2 * (u / 2)) in
        let z = message L (2 * (u / 2) + 1) ++ joined (map (given L) (around n y h).rest) in
        ap (λ (l : List ℕ). part l (34 * y + (size n u + 9)) (size n u + 9)) (joined-around ∙ sym (append_assoc a x z))
        ∙ part-between (a ++ x) (message L (2 * (u / 2) + 1)) _ (34 * y + (size n u + 9)) (size n u + 9)
        (length-append a x ∙ ap₂ ◌+◌ (inner-length y h) (long-here (2 * (u / 2)) (omega arith)))
        (long-here (2 * (u / 2) + 1) (omega arith))
