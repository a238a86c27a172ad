-- What the nodes of each call take, where a message of 17 bytes takes a, and one of 73 takes b.
use mathlib.Core.Path.{◌≡◌, refl, sym, ap, ap₂, ◌∙◌}
use mathlib.Core.Bool.{cond}
use mathlib.Core.List.Memᴰ
use mathlib.Core.List.{List, [], ◌∷◌, map}
use mathlib.Core.Logic.{⊎_elim}
use Prim.Native.Nat.{ℕ, zero, suc, ◌+◌, ◌*◌, ◌-◌, ◌^◌, ◌<◌, ◌≤◌}
use native.Mathlib.Nat.{add-zero, add-suc, add_assoc, suc-mul, pow-suc}
use native.Mathlib.Omega.{arith}
use borrow.Author.Tests.{lt-ltb, le-ltb}
use lib.Dec.{ltb}
use lib.ListN.{length}
use lib.Pow.{pow_mono}
use Rattle.words.proofs.Cases.{below_or_not}
use Rattle.tree.specs.Layout.{IsNode}
use Rattle.tree.specs.Nodes.{up_to, path_node, sibling, path, pair, pairs, pairs_but_leaf, all_nodes}
use Rattle.tree.specs.Labels.{Labels, message, labels, blank_labels, new_labels}
use Rattle.tree.specs.Calls.{Call, read, write, check, wipe, checks, tagged, total}
use Rattle.tree.specs.declared.Anchor.{Anchor}
use Rattle.tree.proofs.ByteLaws.{length-be}
use Rattle.tree.proofs.LayoutLaws.{AllNodes, inner, leaf}
use Rattle.tree.proofs.NodeLaws.{sibling-half, path-leaf, path-level, pair-node, among-node}
use Rattle.tree.proofs.LabelLaws.{Sized, labels-root, labels-sized, blank-root, blank-sized, new-root, new-sized}
use Rattle.tree.proofs.LimitLaws.{Passes, passes-sound}
use Rattle.tree.proofs.CallLaws.{checks-nodes}
use Rattle.tree.proofs.CountLaws.{total-append, length-message}

-- Sums along a list of levels

module _ (each : ℕ → ℕ) (f : ℕ → List ℕ) where
  run : (c k : ℕ) → ((y : ℕ) → 1 ≤ y → y ≤ k → total each (f y) ≡ c) → total each (up_to k f) ≡ k * c
  unfolding up_to total
  run c zero h = omega arith
  run c (suc k) h =
      total-append each (up_to k f) (f (suc k)) ∙ ap₂ ◌+◌ (run c k (λ y l g. h y l (omega arith))) (h (suc k) (omega arith) (omega arith))
      ∙ sym (suc-mul k c)

  run_on : (j k : ℕ) → total each (up_to (j + k) f) ≡ total each (up_to j f) + total each (up_to k (λ y. f (j + y)))
  unfolding up_to total
  run_on j zero = ap (λ (i : ℕ). total each (up_to i f)) (add-zero j) ∙ sym (add-zero (total each (up_to j f)))
  run_on j (suc k) =
      ap (λ (i : ℕ). total each (up_to i f)) (add-suc j k) ∙ total-append each (up_to (j + k) f) (f (suc (j + k)))
      ∙ ap (λ (i : ℕ). total each (up_to (j + k) f) + total each (f i)) (sym (add-suc j k))
      ∙ ap (λ (i : ℕ). i + total each (f (j + suc k))) (run_on j k)
      ∙ add_assoc (total each (up_to j f)) (total each (up_to k (λ y. f (j + y)))) (total each (f (j + suc k)))
      ∙ ap (λ (i : ℕ). total each (up_to j f) + i) (sym (total-append each (up_to k (λ y. f (j + y))) (f (j + suc k))))

-- a node takes a where it is inner, and b where it is a leaf
abbrev pub cost_at : ℕ → ℕ → ℕ → ℕ → ℕ
cost_at a b n u = cond (ltb u (2 ^ n)) a b

-- Of a path, of pairs, and of all nodes

module _ (a b n : ℕ) where
  abbrev cost : ℕ → ℕ
  cost = cost_at a b n

  cost-inner : (u : ℕ) → u < 2 ^ n → cost_at a b n u ≡ a
  cost-inner u h = rw (lt-ltb u (2 ^ n) h)

  cost-leaf : (u : ℕ) → 2 ^ n ≤ u → cost_at a b n u ≡ b
  cost-leaf u h = rw (le-ltb u (2 ^ n) h)

  one : (u c : ℕ) → cost u ≡ c → total cost (u ∷ []) ≡ c
  unfolding total
  one u c e = add-zero (cost u) ∙ e

  two : (u v c : ℕ) → cost u ≡ c → cost v ≡ c → total cost (u ∷ v ∷ []) ≡ c + c
  unfolding total
  two u v c e f = ap₂ ◌+◌ e (add-zero (cost v) ∙ f)

  module _ (i : ℕ) (inside : i < 2 ^ n) where
    on-path : (y : ℕ) → y < n → cost (path_node n i y) ≡ a
    on-path y h =
        let v = path-level n i inside y (omega arith) in
        let p : 2 ^ suc y ≤ 2 ^ n = pow_mono h in
        let q = pow-suc 2 y in
        cost-inner (path_node n i y) (omega (arith, v))

    beside : (y : ℕ) → 1 ≤ y → y < n → cost (sibling (path_node n i y)) ≡ a
    unfolding sibling
    beside y g h =
        let v = path-level n i inside y (omega arith) in
        let p : 2 ^ suc y ≤ 2 ^ n = pow_mono h in
        let q = pow-suc 2 y in
        cost-inner (sibling (path_node n i y)) (omega (arith, v))

    at_leaf : cost (path_node n i n) ≡ b
    at_leaf = cost-leaf (path_node n i n) (omega (arith, path-leaf n i inside))

    beside-leaf : 1 ≤ n → cost (sibling (path_node n i n)) ≡ b
    beside-leaf h =
        let e : suc (n - 1) ≡ n = omega arith in
        let q : 2 ^ n ≡ 2 ^ (n - 1) * 2 = ap (λ (k : ℕ). 2 ^ k) (sym e) ∙ pow-suc 2 (n - 1) in
        cost-leaf (sibling (path_node n i n)) (omega (arith, path-leaf n i inside, sibling-half (path_node n i n)))

    last : 1 ≤ n → (f : ℕ → List ℕ) → total cost (up_to n f) ≡ total cost (up_to (n - 1) f) + total cost (f n)
    unfolding up_to
    last h f =
        let e : suc (n - 1) ≡ n = omega arith in
        ap (λ (k : ℕ). total cost (up_to k f)) (sym e) ∙ total-append cost (up_to (n - 1) f) (f (suc (n - 1)))
        ∙ ap (λ (k : ℕ). total cost (up_to (n - 1) f) + total cost (f k)) e

    pub path-cost : 1 ≤ n → total cost (path n i) ≡ (n - 1) * a + b
    unfolding path
    path-cost h =
        last h (λ y. path_node n i y ∷ [])
        ∙ ap₂ ◌+◌ (run cost (λ y. path_node n i y ∷ []) a (n - 1) (λ y l g. one (path_node n i y) a (on-path y (omega arith))))
        (one (path_node n i n) b at_leaf)

    inner-pairs : 1 ≤ n → total cost (up_to (n - 1) (pair n i)) ≡ (n - 1) * (a + a)
    inner-pairs h =
        run cost (pair n i) (a + a) (n - 1)
        (λ y l g. two (path_node n i y) (sibling (path_node n i y)) a (on-path y (omega arith)) (beside y l (omega arith)))

    pub pairs-cost : 1 ≤ n → total cost (pairs n i) ≡ (n - 1) * (a + a) + (b + b)
    unfolding pairs
    pairs-cost h =
        last h (pair n i)
        ∙ ap₂ ◌+◌ (inner-pairs h) (two (path_node n i n) (sibling (path_node n i n)) b at_leaf (beside-leaf h))

    pub but-leaf-cost : 1 ≤ n → total cost (pairs_but_leaf n i) ≡ (n - 1) * (a + a) + b
    unfolding pairs_but_leaf
    but-leaf-cost h =
        total-append cost (up_to (n - 1) (pair n i)) (sibling (path_node n i n) ∷ [])
        ∙ ap₂ ◌+◌ (inner-pairs h) (one (sibling (path_node n i n)) b (beside-leaf h))

  pub all-cost : 1 ≤ n → total cost (all_nodes n) ≡ (2 ^ n - 2) * a + 2 ^ n * b
  unfolding all_nodes
  all-cost h =
      let p : 2 ^ 1 ≤ 2 ^ n = pow_mono h in
      let e : 2 * 2 ^ n - 2 ≡ 2 ^ n - 2 + 2 ^ n = omega arith in
      ap (λ (k : ℕ). total cost (up_to k (λ y. (y + 1) ∷ []))) e ∙ run_on cost (λ y. (y + 1) ∷ []) (2 ^ n - 2) (2 ^ n)
      ∙ ap₂ ◌+◌ (run cost (λ y. (y + 1) ∷ []) a (2 ^ n - 2) (λ y l g. one (y + 1) a (cost-inner (y + 1) (omega arith))))
      (run cost (λ y. (2 ^ n - 2 + y + 1) ∷ []) b (2 ^ n)
      (λ y l g. one (2 ^ n - 2 + y + 1) b (cost-leaf (2 ^ n - 2 + y + 1) (omega arith))))

-- Of messages, each for itself

module _ (each : List ℕ → ℕ) (a b : ℕ) (short : (m : List ℕ) → length m ≡ 17 → each m ≡ a)
    (long : (m : List ℕ) → length m ≡ 73 → each m ≡ b)
    (n : ℕ) (L : Labels) (sized : Sized n L) (root : length (L 1) ≡ 8) where
  message-cost : (u : ℕ) → IsNode n u → each (message L u) ≡ cost_at a b n u
  message-cost u h =
      let e = length-message n L sized root u h in
      ⊎_elim
      (λ (l : u < 2 ^ n). short (message L u) (e ∙ ap (λ (k : ℕ). k + 9) (inner n u l).size_is) ∙ sym (cost-inner a b n u l))
      (λ (g : 2 ^ n ≤ u). long (message L u) (e ∙ ap (λ (k : ℕ). k + 9) (leaf n u g).size_is) ∙ sym (cost-leaf a b n u g))
      (below_or_not u (2 ^ n))

  pub total-cost : (us : List ℕ) → AllNodes n us → total each (map (message L) us) ≡ total (cost_at a b n) us
  unfolding total
  total-cost [] h = refl
  total-cost (u ∷ us) h =
      ap₂ ◌+◌ (message-cost u (h u (Memᴰ.head refl))) (total-cost us (λ w m. h w (Memᴰ.tail m)))

-- Of the checks and the new tags of each call, within its limits

abbrev pub checks_cost : ℕ → ℕ → ℕ → Call → ℕ
checks_cost a b n (read i buffer) = (n - 1) * a + b
checks_cost a b n (write i block ranges) = (n - 1) * (a + a) + b
checks_cost a b n check = (2 ^ n - 2) * a + 2 ^ n * b
checks_cost a b n wipe = 0

abbrev pub tags_cost : ℕ → ℕ → ℕ → Call → ℕ
tags_cost a b n (read i buffer) = 0
tags_cost a b n (write i block ranges) = (n - 1) * (a + a) + (b + b)
tags_cost a b n check = 0
tags_cost a b n wipe = (2 ^ n - 2) * a + 2 ^ n * b

module _ (each : List ℕ → ℕ) (a b : ℕ) (short : (m : List ℕ) → length m ≡ 17 → each m ≡ a)
    (long : (m : List ℕ) → length m ≡ 73 → each m ≡ b) where
  pub blank-cost : (n t : ℕ) → 1 ≤ n → total each (map (message (blank_labels n t)) (all_nodes n)) ≡ (2 ^ n - 2) * a + 2 ^ n * b
  blank-cost n t h =
      total-cost each a b short long n (blank_labels n t) (blank-sized n t) (ap length (blank-root n t h) ∙ length-be 8 t) (all_nodes n)
      (λ w m. among-node n w m)
      ∙ all-cost a b n h

  module _ (x : Anchor) (card : List ℕ) where
    -- what the messages of a call's checks take, if all are checked
    pub checks-cost : (c : Call) → Passes x card c
        → total each (map (message (labels x.depth x.root.0 card)) (checks x.depth c)) ≡ checks_cost a b x.depth c
    unfolding checks total
    checks-cost c p = nodes c p ∙ sum c p
      where
        nodes : (c : Call) → Passes x card c
            → total each (map (message (labels x.depth x.root.0 card)) (checks x.depth c))
            ≡ total (cost_at a b x.depth) (checks x.depth c)
        nodes c p =
            total-cost each a b short long x.depth (labels x.depth x.root.0 card)
            (labels-sized x.depth x.root.0 card (passes-sound x card c p).full)
            (ap length (labels-root x.depth x.root.0 card) ∙ length-be 8 x.root.0)
            (checks x.depth c) (checks-nodes x card c p)

        sum : (c : Call) → Passes x card c → total (cost_at a b x.depth) (checks x.depth c) ≡ checks_cost a b x.depth c
        sum (read i buffer) p = path-cost a b x.depth i p.inside p.sound.deep
        sum (write i block ranges) p = but-leaf-cost a b x.depth i p.inside p.sound.deep
        sum check p = all-cost a b x.depth p.deep
        sum wipe p = refl

    -- what the messages that it tags take
    pub tags-cost : (c : Call) → Passes x card c → total each (tagged x card c) ≡ tags_cost a b x.depth c
    unfolding total
    tags-cost (read i buffer) p = refl
    tags-cost (write i block ranges) p =
        let n = x.depth in
        let r = x.reserved.0 in
        let L = labels n x.root.0 card in
        total-cost each a b short long n (new_labels n r i block L)
        (new-sized n r i block p.inside L p.long (labels-sized n x.root.0 card p.sound.full))
        (ap length (new-root n r i block p.inside L p.sound.deep) ∙ length-be 8 (r + n))
        (pairs n i) (λ w m. pair-node n i p.inside w m)
        ∙ pairs-cost a b n i p.inside p.sound.deep
    tags-cost check p = refl
    tags-cost wipe p = blank-cost x.depth (x.reserved.0 + x.depth) p.sound.deep
