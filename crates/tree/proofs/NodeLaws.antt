-- The nodes of a path and their siblings.
use mathlib.Core.Path.{◌≡◌, refl, sym, ap, subst, ◌∙◌}
use mathlib.Core.List.Memᴰ
use mathlib.Core.List.{List, [], ◌∷◌, ◌++◌, Memᴰ}
use mathlib.Core.Logic.{◌⊎◌, inl, inr, ⊎_elim}
use Prim.Native.Nat.{ℕ, zero, suc, ◌+◌, ◌*◌, ◌-◌, ◌/◌, ◌^◌, ◌<◌, ◌≤◌}
use native.Mathlib.Nat.{eq-or-lt_of_le, one-mul, pow-suc, sub_self, sub-zero, div-one}
use native.Mathlib.Omega.{arith}
use lib.Arith.{digits_div}
use lib.Pow.{pow_mono, pow_pos, shr-shr}
use Rattle.words.proofs.Cases.{below_or_not, equal_or_not}
use Rattle.tree.specs.Layout.{IsNode}
use Rattle.tree.specs.Nodes.{up_to, path_node, sibling, path, pair, pairs, pairs_but_leaf, all_nodes}

-- Siblings

pub sibling-half : (u : ℕ) → sibling u / 2 ≡ u / 2
unfolding sibling
sibling-half u = omega arith

-- two nodes of one parent
pub twins : (u w : ℕ) → w / 2 ≡ u / 2 → (w ≡ u) ⊎ (w ≡ sibling u)
unfolding sibling
twins u w e = ⊎_elim (λ (p : w ≡ u). inl p) (λ (d : w ≡ u → ⊥). inr (omega arith)) (equal_or_not w u)

pub twin-node : (n u w : ℕ) → w / 2 ≡ u / 2 → IsNode n u → IsNode n w
twin-node n u w e h = record { low = omega (arith, h); high = omega (arith, h) }

-- Lists of nodes, level by level

-- w stands among f y, for a y from 1 to k
pub record Among (k : ℕ) (f : ℕ → List ℕ) (w : ℕ) : Type 0 where
  pub level : ℕ
  pub low : 1 ≤ level
  pub high : level ≤ k
  pub here : Memᴰ w (f level)

pub among : (k : ℕ) (f : ℕ → List ℕ) (w : ℕ) → Memᴰ w (up_to k f) → Among k f w
unfolding up_to
among zero f w m = absurd (Memᴰ.not-nil m)
among (suc k) f w m = go (λ p. among k f w p) (Memᴰ.append_cases (up_to k f) m)
  where
    go : (Memᴰ w (up_to k f) → Among k f w) → Memᴰ w (up_to k f) ⊎ Memᴰ w (f (suc k)) → Among (suc k) f w
    go up (inl p) = let a = up p in record { level = a.level; low = a.low; high = omega (arith, a.high); here = a.here }
    go up (inr q) = record { level = suc k; low = omega arith; high = omega arith; here = q }

pub is_among : (k : ℕ) (f : ℕ → List ℕ) (w : ℕ) → Among k f w → Memᴰ w (up_to k f)
unfolding up_to
is_among zero f w a = absurd (omega (arith, a.low, a.high))
is_among (suc k) f w a = go (λ b. is_among k f w b) (eq-or-lt_of_le a.high)
  where
    go : (Among k f w → Memᴰ w (up_to k f)) → (a.level ≡ suc k) ⊎ (a.level < suc k) → Memᴰ w (up_to k f ++ f (suc k))
    go down (inl e) = Memᴰ.append_right (up_to k f) (subst (λ (y : ℕ). Memᴰ w (f y)) e a.here)
    go down (inr l) = Memᴰ.append_left (f (suc k)) (down (record { level = a.level; low = a.low; high = omega arith; here = a.here }))

-- The path of block i

-- a node of level y
pub record Level (y u : ℕ) : Type 0 where
  pub low : 2 ^ y ≤ u
  pub high : u < 2 * 2 ^ y

pub level-node : (n y u : ℕ) → 1 ≤ y → y ≤ n → Level y u → IsNode n u
level-node n y u h l v =
    let p : 2 ^ 1 ≤ 2 ^ y = pow_mono h in
    let q : 2 ^ y ≤ 2 ^ n = pow_mono l in
    record { low = omega (arith, v); high = omega (arith, v) }

-- block i's leaf
pub leaf-node : (n i : ℕ) → 1 ≤ n → i < 2 ^ n → IsNode n (2 ^ n + i)
leaf-node n i h l = let p : 2 ^ 1 ≤ 2 ^ n = pow_mono h in record { low = omega arith; high = omega arith }

module _ (n i : ℕ) (inside : i < 2 ^ n) where
  pub path-root : path_node n i 0 ≡ 1
  unfolding path_node
  path-root =
      ap (λ (k : ℕ). (2 ^ n + i) / 2 ^ k) (sub-zero n)
      ∙ ap (λ (x : ℕ). (x + i) / 2 ^ n) (sym (one-mul (2 ^ n)))
      ∙ digits_div 1 inside

  pub path-leaf : path_node n i n ≡ 2 ^ n + i
  unfolding path_node
  path-leaf = ap (λ (k : ℕ). (2 ^ n + i) / 2 ^ k) (sub_self n) ∙ div-one (2 ^ n + i)

  pub path_parent : (y : ℕ) → y < n → path_node n i (suc y) / 2 ≡ path_node n i y
  unfolding path_node
  path_parent y h =
      let e : n - suc y + 1 ≡ n - y = omega arith in
      shr-shr (2 ^ n + i) (n - suc y) 1 ∙ ap (λ (k : ℕ). (2 ^ n + i) / 2 ^ k) e

  pub path-level : (y : ℕ) → y ≤ n → Level y (path_node n i y)
  path-level zero h = record { low = omega (arith, path-root); high = omega (arith, path-root) }
  path-level (suc y) h =
      let v = path-level y (omega arith) in
      let e = path_parent y h in
      let p = pow-suc 2 y in
      record { low = omega (arith, v); high = omega (arith, v) }

  pub path-node : (y : ℕ) → 1 ≤ y → y ≤ n → IsNode n (path_node n i y)
  path-node y h l = level-node n y (path_node n i y) h l (path-level y l)

  pub path-distinct : (y z : ℕ) → y ≤ n → z ≤ n → path_node n i y ≡ path_node n i z → y ≡ z
  path-distinct y z hy hz e =
      ⊎_elim (λ (l : y < z). absurd (lower y z hz l (sym e)))
      (λ (g : z ≤ y). ⊎_elim (λ (p : z ≡ y). sym p) (λ (l : z < y). absurd (lower z y hy l e)) (eq-or-lt_of_le g))
      (below_or_not y z)
    where
      lower : (a b : ℕ) → b ≤ n → a < b → path_node n i b ≡ path_node n i a → ⊥
      lower a b hb l e =
          let p : 2 ^ suc a ≤ 2 ^ b = pow_mono l in
          let q = pow-suc 2 a in
          omega (arith, path-level a (omega arith), path-level b hb)

  -- w is u_y for a y up to k
  pub record On (k w : ℕ) : Type 0 where
    pub level : ℕ
    pub high : level ≤ k
    pub is : w ≡ path_node n i level

  abbrev pub Off : ℕ → ℕ → Type 0
  Off k w = (y : ℕ) → y ≤ k → w ≡ path_node n i y → ⊥

  pub on-or-off : (k w : ℕ) → On k w ⊎ Off k w
  on-or-off zero w =
      ⊎_elim (λ (e : w ≡ path_node n i 0). inl (record { level = 0; high = omega arith; is = e }))
      (λ (d : w ≡ path_node n i 0 → ⊥). inr (λ y h e. d (e ∙ ap (path_node n i) (omega arith))))
      (equal_or_not w (path_node n i 0))
  on-or-off (suc k) w = go (on-or-off k w) (equal_or_not w (path_node n i (suc k)))
    where
      go : On k w ⊎ Off k w → (w ≡ path_node n i (suc k)) ⊎ (w ≡ path_node n i (suc k) → ⊥) → On (suc k) w ⊎ Off (suc k) w
      go (inl o) q = inl (record { level = o.level; high = omega (arith, o.high); is = o.is })
      go (inr f) (inl e) = inl (record { level = suc k; high = omega arith; is = e })
      go (inr f) (inr d) =
          inr (λ y h e. ⊎_elim (λ (p : y ≡ suc k). d (e ∙ ap (path_node n i) p)) (λ (l : y < suc k). f y (omega arith) e) (eq-or-lt_of_le h))

  -- Pairs: the children of u_0 to u_(n-1)

  pub pair-parent : (w y : ℕ) → Memᴰ w (pair n i (suc y)) → y < n → w / 2 ≡ path_node n i y
  pair-parent w y m h = go (Memᴰ.cases_cons m) ∙ path_parent y h
    where
      go : (w ≡ path_node n i (suc y)) ⊎ Memᴰ w (sibling (path_node n i (suc y)) ∷ []) → w / 2 ≡ path_node n i (suc y) / 2
      go (inl e) = ap (λ (u : ℕ). u / 2) e
      go (inr t) = ap (λ (u : ℕ). u / 2) (Memᴰ.eq_of_singleton t) ∙ sibling-half (path_node n i (suc y))

  -- w's parent is u_y for a y below n
  pub record Child (w : ℕ) : Type 0 where
    pub level : ℕ
    pub high : level < n
    pub is : w / 2 ≡ path_node n i level

  child-of : (k w : ℕ) → k ≤ n → Memᴰ w (up_to k (pair n i)) → Child w
  child-of k w h m =
      let a = among k (pair n i) w m in
      let e : suc (a.level - 1) ≡ a.level = omega (arith, a.low) in
      let l : a.level - 1 < n = omega (arith, a.low, a.high) in
      record {
        level = a.level - 1;
        high = l;
        is = pair-parent w (a.level - 1) (subst (λ (y : ℕ). Memᴰ w (pair n i y)) (sym e) a.here) l;
      }

  pub pairs-child : (w : ℕ) → Memᴰ w (pairs n i) → Child w
  unfolding pairs
  pairs-child w m = child-of n w (omega arith) m

  pub child-among : (w : ℕ) → (c : Child w) → Memᴰ w (pair n i (suc c.level))
  child-among w c =
      ⊎_elim (λ (e : w ≡ path_node n i (suc c.level)). Memᴰ.head e)
      (λ (e : w ≡ sibling (path_node n i (suc c.level))). Memᴰ.tail (Memᴰ.head e))
      (twins (path_node n i (suc c.level)) w (c.is ∙ sym (path_parent c.level c.high)))

  pub child-pairs : (w : ℕ) → Child w → Memᴰ w (pairs n i)
  unfolding pairs
  child-pairs w c =
      is_among n (pair n i) w
      (record { level = suc c.level; low = omega arith; high = c.high; here = child-among w c })

  pub path-pairs : (y : ℕ) → 1 ≤ y → y ≤ n → Memᴰ (path_node n i y) (pairs n i)
  unfolding pairs
  path-pairs y h l =
      is_among n (pair n i) (path_node n i y) (record { level = y; low = h; high = l; here = Memᴰ.head refl })

  pub inner-not-leaf : (y : ℕ) → y < n → path_node n i y ≡ 2 ^ n + i → ⊥
  inner-not-leaf y h e = let p = path-distinct y n (omega arith) (omega arith) (e ∙ sym path-leaf) in omega arith

  pub child-node : (w : ℕ) → Child w → IsNode n w
  child-node w c =
      let v = path-level c.level (omega (arith, c.high)) in
      let e = c.is in
      let p : 2 ^ suc c.level ≤ 2 ^ n = pow_mono c.high in
      let q = pow-suc 2 c.level in
      let o = pow_pos c.level in
      record { low = omega (arith, v); high = omega (arith, v) }

  pub pair-node : (w : ℕ) → Memᴰ w (pairs n i) → IsNode n w
  pair-node w m = child-node w (pairs-child w m)

  -- a node is a child of the path, or neither it nor its parent is on the path
  pub child-or-off : (w : ℕ) → IsNode n w → Child w ⊎ Off n (w / 2)
  child-or-off w h = go (on-or-off n (w / 2))
    where
      below : (y : ℕ) → (y ≡ n) ⊎ (y < n) → w / 2 ≡ path_node n i y → y < n
      below y (inl p) e = let q = ap (path_node n i) p ∙ path-leaf in absurd (omega (arith, h.high))
      below y (inr l) e = l

      go : On n (w / 2) ⊎ Off n (w / 2) → Child w ⊎ Off n (w / 2)
      go (inl o) = inl (record { level = o.level; high = below o.level (eq-or-lt_of_le o.high) o.is; is = o.is })
      go (inr f) = inr f

  pub off-child : (w : ℕ) → IsNode n w → Off n (w / 2) → Off n w
  off-child w h f zero l e = let p = path-root in omega (arith, h.low)
  off-child w h f (suc y) l e = f y (omega arith) (ap (λ (u : ℕ). u / 2) e ∙ path_parent y l)

  -- a child of the path that is not on it
  pub child-off : (w : ℕ) → (c : Child w) → (w ≡ path_node n i (suc c.level) → ⊥) → Off n w
  child-off w c d zero h e =
      let v = path-level c.level (omega (arith, c.high)) in
      let o = pow_pos c.level in
      omega (arith, v, c.is, path-root)
  child-off w c d (suc y) h e =
      let p = ap (λ (u : ℕ). u / 2) e ∙ path_parent y h in
      let q = path-distinct c.level y (omega (arith, c.high)) (omega arith) (sym c.is ∙ p) in
      d (e ∙ ap (λ (z : ℕ). path_node n i (suc z)) (sym q))

  -- a write checks all of its pairs but the leaf, and nothing else
  pub pair-checked : (w : ℕ) → Memᴰ w (pairs n i) → 1 ≤ n → (w ≡ 2 ^ n + i) ⊎ Memᴰ w (pairs_but_leaf n i)
  unfolding pairs_but_leaf
  pair-checked w m hn = go (eq-or-lt_of_le c.high) (Memᴰ.cases_cons (child-among w c))
    where
      c : Child w
      c = pairs-child w m

      go : (suc c.level ≡ n) ⊎ (suc c.level < n)
          → (w ≡ path_node n i (suc c.level)) ⊎ Memᴰ w (sibling (path_node n i (suc c.level)) ∷ [])
          → (w ≡ 2 ^ n + i) ⊎ Memᴰ w (up_to (n - 1) (pair n i) ++ (sibling (path_node n i n) ∷ []))
      go (inl e) (inl p) = inl (p ∙ ap (path_node n i) e ∙ path-leaf)
      go (inl e) (inr t) =
          inr (Memᴰ.append_right (up_to (n - 1) (pair n i))
          (Memᴰ.head (Memᴰ.eq_of_singleton t ∙ ap (λ (k : ℕ). sibling (path_node n i k)) e)))
      go (inr l) q =
          inr (Memᴰ.append_left (sibling (path_node n i n) ∷ [])
          (is_among (n - 1) (pair n i) w
          (record { level = suc c.level; low = omega arith; high = omega arith; here = child-among w c })))

  pub checked-pair : (w : ℕ) → Memᴰ w (pairs_but_leaf n i) → 1 ≤ n → Memᴰ w (pairs n i)
  unfolding pairs_but_leaf
  checked-pair w m hn = child-pairs w (go (Memᴰ.append_cases (up_to (n - 1) (pair n i)) m))
    where
      go : Memᴰ w (up_to (n - 1) (pair n i)) ⊎ Memᴰ w (sibling (path_node n i n) ∷ []) → Child w
      go (inl a) = child-of (n - 1) w (omega arith) a
      go (inr b) =
          let e : suc (n - 1) ≡ n = omega arith in
          record {
            level = n - 1;
            high = omega arith;
            is = ap (λ (u : ℕ). u / 2) (Memᴰ.eq_of_singleton b) ∙ sibling-half (path_node n i n)
                ∙ ap (λ (k : ℕ). path_node n i k / 2) (sym e) ∙ path_parent (n - 1) (omega arith);
          }

  -- the nodes that a read checks
  pub path-among : (y : ℕ) → 1 ≤ y → y ≤ n → Memᴰ (path_node n i y) (path n i)
  unfolding path
  path-among y h l =
      is_among n (λ z. path_node n i z ∷ []) (path_node n i y) (record { level = y; low = h; high = l; here = Memᴰ.head refl })

  pub path-is-node : (w : ℕ) → Memᴰ w (path n i) → IsNode n w
  unfolding path
  path-is-node w m =
      let a = among n (λ z. path_node n i z ∷ []) w m in
      subst (λ (u : ℕ). IsNode n u) (sym (Memᴰ.eq_of_singleton a.here)) (path-node a.level a.low a.high)

-- All nodes

pub node-among : (n u : ℕ) → IsNode n u → Memᴰ u (all_nodes n)
unfolding all_nodes
node-among n u h =
    let e : u ≡ u - 1 + 1 = omega (arith, h.low) in
    is_among (2 * 2 ^ n - 2) (λ y. (y + 1) ∷ []) u
    (record { level = u - 1; low = omega (arith, h); high = omega (arith, h); here = Memᴰ.head e })

pub among-node : (n u : ℕ) → Memᴰ u (all_nodes n) → IsNode n u
unfolding all_nodes
among-node n u m =
    let a = among (2 * 2 ^ n - 2) (λ y. (y + 1) ∷ []) u m in
    let e : u ≡ a.level + 1 = Memᴰ.eq_of_singleton a.here in
    record { low = omega (arith, a.low); high = omega (arith, a.low, a.high) }
