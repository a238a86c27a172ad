-- The nodes of a plan, their places, and what is filled.
use mathlib.Core.Path.{◌≡◌, refl, sym, ap, subst, ◌∙◌}
use mathlib.Core.Bool.{true, false, not, ◌&&◌}
use mathlib.Core.List.Memᴰ
use mathlib.Core.List.{List, [], ◌∷◌, ◌++◌, Memᴰ}
use mathlib.Core.Logic.{◌⊎◌, inl, inr, ⊎_elim}
use Prim.Native.Nat.{ℕ, zero, suc, ◌+◌, ◌*◌, ◌-◌, ◌/◌, ◌%◌, ◌^◌, ◌<◌, ◌≤◌}
use native.Mathlib.Nat.{eq-or-lt_of_le}
use native.Mathlib.Omega.{arith}
use borrow.Author.Tests.{eqb-true, eqb-false, eq-eqb, ne_eqb, ltb-true, lt-ltb, not-true}
use lib.Dec.{eqb, ltb}
use lib.ListN.{length, length-append}
use Rattle.words.proofs.Cases.{equal_or_not}
use Rattle.tree.specs.Layout.{IsNode}
use Rattle.tree.specs.Nodes.{up_to, path_node, pairs}
use Rattle.tree.proofs.NodeLaws.{among, is_among, Among, path_parent, path-distinct, Child, pairs-child, child-pairs, child-node}
use Rattle.plan.specs.Places.{member, place_in, place_of, rising_pair, plan_nodes, bit, filled_at, awaits, fill, full}
use Rattle.plan.specs.Orders.{Apart, Rearranged}
use Rattle.plan.specs.declared.Plan.{Plan}
use Rattle.plan.proofs.BitLaws.{set_same, set_other, none-set, ones, of_ones}
use Rattle.plan.proofs.ListLaws.{and_both, both-and, truth, contrary, member_is, is_member, every-is, is-every}
use Rattle.plan.proofs.ListLaws.{place-inj, place-left, place-right, place-below, below-member, place_at, apart-append}

-- What is filled

not-filled : (b : ℕ) → b < 2 → eqb b 1 ≡ false → b ≡ 0
not-filled b l e = ⊎_elim (λ (q : b ≡ 1). absurd (eqb-false b 1 e q)) (λ (d : b ≡ 1 → ⊥). omega arith) (equal_or_not b 1)

module _ (n : ℕ) (p : Plan) where
  abbrev pub InPlan : ℕ → Type 0
  InPlan u = Memᴰ u (plan_nodes n p.index.0)

  pub unset : (u : ℕ) → filled_at n p u ≡ false → bit (place_of n p u) p.filled ≡ 0
  unset u e = not-filled (bit (place_of n p u) p.filled) (omega arith) e

  pub fill-same : (u : ℕ) → filled_at n p u ≡ false → filled_at n (fill n p u) u ≡ true
  unfolding fill
  fill-same u e = eq-eqb _ 1 (set_same (place_of n p u) p.filled (unset u e))

  pub fill-other : (u w : ℕ) → filled_at n p u ≡ false → InPlan u → InPlan w → (w ≡ u → ⊥) → filled_at n (fill n p u) w ≡ filled_at n p w
  unfolding fill
  fill-other u w e mu mw d =
      ap (λ (b : ℕ). eqb b 1)
      (set_other (place_of n p u) p.filled (unset u e) (place_of n p w) (λ q. d (place-inj (plan_nodes n p.index.0) w u mw mu q)))

  pub full_is : full n p ≡ true → (u : ℕ) → InPlan u → filled_at n p u ≡ true
  unfolding full
  full_is e u m = every-is (filled_at n p) (plan_nodes n p.index.0) e u m

  pub is-full : ((u : ℕ) → InPlan u → filled_at n p u ≡ true) → full n p ≡ true
  unfolding full
  is-full h = is-every (filled_at n p) (plan_nodes n p.index.0) h

  -- what a plan waits for
  pub record Awaited (u : ℕ) : Type 0 where
    pub inside : p.index.0 < 2 ^ n
    pub among : InPlan u
    pub unfilled : filled_at n p u ≡ false

  pub awaited : (u : ℕ) → awaits n p u ≡ true → Awaited u
  unfolding awaits
  awaited u e =
      let us = plan_nodes n p.index.0 in
      let a = and_both (ltb p.index.0 (2 ^ n)) (member u us && not (filled_at n p u)) e in
      let b = and_both (member u us) (not (filled_at n p u)) a.1 in
      record {
        inside = ltb-true p.index.0 (2 ^ n) a.0;
        among = member_is u us b.0;
        unfilled = not-true (filled_at n p u) b.1;
      }

  pub is-awaited : (u : ℕ) → Awaited u → awaits n p u ≡ true
  unfolding awaits
  is-awaited u h =
      let us = plan_nodes n p.index.0 in
      both-and (ltb p.index.0 (2 ^ n)) (member u us && not (filled_at n p u)) (lt-ltb p.index.0 (2 ^ n) h.inside)
      (both-and (member u us) (not (filled_at n p u)) (is_member u us h.among) (ap not h.unfilled))

  -- a full plan waits for nothing
  pub awaited-not-full : (u : ℕ) → Awaited u → full n p ≡ false
  awaited-not-full u h =
      ⊎_elim (λ (e : full n p ≡ true). contrary (full_is e u h.among) h.unfilled) (λ (e : full n p ≡ false). e) (truth (full n p))

  -- one that waits for nothing is full
  pub none-awaited : p.index.0 < 2 ^ n → ((u : ℕ) → Awaited u → ⊥) → full n p ≡ true
  none-awaited inside free =
      is-full (λ u m.
      ⊎_elim (λ (e : filled_at n p u ≡ true). e)
      (λ (e : filled_at n p u ≡ false). absurd (free u (record { inside = inside; among = m; unfilled = e })))
      (truth (filled_at n p u)))

-- a new plan has nothing filled
pub none_filled : (n : ℕ) (p : Plan) → p.filled ≡ 0 → (u : ℕ) → filled_at n p u ≡ false
none_filled n p e u =
    let k = place_of n p u in
    ne_eqb (bit k p.filled) 1 (λ q. let z = ap (bit k) e ∙ none-set k in omega arith)

-- The nodes

pub rising-count : (n i k : ℕ) → length (up_to k (rising_pair n i)) ≡ 2 * k
unfolding up_to
rising-count n i zero = refl
rising-count n i (suc k) = length-append (up_to k (rising_pair n i)) (rising_pair n i (suc k)) ∙ omega (arith, rising-count n i k)

pub plan-count : (n i : ℕ) → length (plan_nodes n i) ≡ 2 * n
unfolding plan_nodes
plan-count n i = rising-count n i n

module _ (n i : ℕ) (inside : i < 2 ^ n) where
  rising-parent : (w y : ℕ) → Memᴰ w (rising_pair n i (suc y)) → y < n → w / 2 ≡ path_node n i y
  rising-parent w y m h = go (Memᴰ.cases_cons m) ∙ path_parent n i inside y h
    where
      u : ℕ
      u = path_node n i (suc y)

      go : (w ≡ 2 * (u / 2)) ⊎ Memᴰ w ((2 * (u / 2) + 1) ∷ []) → w / 2 ≡ u / 2
      go (inl e) = omega arith
      go (inr t) = let e : w ≡ 2 * (u / 2) + 1 = Memᴰ.eq_of_singleton t in omega arith

  rising-child : (w y : ℕ) → y < n → w / 2 ≡ path_node n i y → Memᴰ w (rising_pair n i (suc y))
  rising-child w y h e =
      let u = path_node n i (suc y) in
      let half : w / 2 ≡ u / 2 = e ∙ sym (path_parent n i inside y h) in
      ⊎_elim (λ (q : w ≡ 2 * (u / 2)). Memᴰ.head q)
      (λ (d : w ≡ 2 * (u / 2) → ⊥). let q : w ≡ 2 * (u / 2) + 1 = omega (arith, half) in Memᴰ.tail (Memᴰ.head q))
      (equal_or_not w (2 * (u / 2)))

  -- w stands among the first k pairs
  rising-level : (k w : ℕ) → k ≤ n → (a : Among k (rising_pair n i) w) → w / 2 ≡ path_node n i (a.level - 1)
  rising-level k w h a =
      let e : suc (a.level - 1) ≡ a.level = omega (arith, a.low) in
      rising-parent w (a.level - 1) (subst (λ (y : ℕ). Memᴰ w (rising_pair n i y)) (sym e) a.here) (omega (arith, a.low, a.high))

  -- they are a write's pairs
  pub plan-child : (w : ℕ) → Memᴰ w (plan_nodes n i) → Child n i inside w
  unfolding plan_nodes
  plan-child w m =
      let a = among n (rising_pair n i) w m in
      record { level = a.level - 1; high = omega (arith, a.low, a.high); is = rising-level n w (omega arith) a }

  pub child-plan : (w : ℕ) → Child n i inside w → Memᴰ w (plan_nodes n i)
  unfolding plan_nodes
  child-plan w c =
      is_among n (rising_pair n i) w
      (record { level = suc c.level; low = omega arith; high = c.high; here = rising-child w c.level c.high c.is })

  pub plan-node : (w : ℕ) → Memᴰ w (plan_nodes n i) → IsNode n w
  plan-node w m = child-node n i inside w (plan-child w m)

  pub plan-pairs : (w : ℕ) → Memᴰ w (plan_nodes n i) → Memᴰ w (pairs n i)
  plan-pairs w m = child-pairs n i inside w (plan-child w m)

  pub pairs-plan : (w : ℕ) → Memᴰ w (pairs n i) → Memᴰ w (plan_nodes n i)
  pairs-plan w m = child-plan w (pairs-child n i inside w m)

  -- none stands twice

  apart-pair : (x : ℕ) → Apart (x ∷ (x + 1) ∷ [])
  apart-pair x = (λ m. let e : x ≡ x + 1 = Memᴰ.eq_of_singleton m in omega arith, (λ m. Memᴰ.not-nil m, tt))

  -- a child of u_k is none of the nodes before it
  pub not-before : (k w : ℕ) → k ≤ n → w / 2 ≡ path_node n i k → Memᴰ w (up_to k (rising_pair n i)) → ⊥
  not-before k w h e m =
      let a = among k (rising_pair n i) w m in
      let q = path-distinct n i inside (a.level - 1) k (omega (arith, a.high)) h (sym (rising-level k w h a) ∙ e) in
      omega (arith, a.low, a.high)

  apart-up_to : (k : ℕ) → k ≤ n → Apart (up_to k (rising_pair n i))
  unfolding up_to
  apart-up_to zero h = tt
  apart-up_to (suc k) h =
      apart-append (up_to k (rising_pair n i)) (rising_pair n i (suc k)) (apart-up_to k (omega arith))
      (apart-pair (2 * (path_node n i (suc k) / 2)))
      (λ w m q. not-before k w (omega arith) (rising-parent w k q h) m)

  -- one level more
  pub not_yet : (k w : ℕ) → k < n → (Memᴰ w (up_to k (rising_pair n i)) → ⊥) → (w / 2 ≡ path_node n i k → ⊥)
      → Memᴰ w (up_to (suc k) (rising_pair n i)) → ⊥
  unfolding up_to
  not_yet k w h before here m =
      ⊎_elim before (λ (q : Memᴰ w (rising_pair n i (suc k))). here (rising-parent w k q h))
      (Memᴰ.append_cases (up_to k (rising_pair n i)) m)

  -- the rising order is one of the orders
  pub plan-rearranged : Rearranged (plan_nodes n i) (plan_nodes n i)
  unfolding plan_nodes
  plan-rearranged = record { apart = apart-up_to n (omega arith); among = λ u m. m; all = λ u m. m }

  -- The place of a node by its level and side

  pair_place : (w x : ℕ) → w / 2 ≡ x → place_in w ((2 * x) ∷ (2 * x + 1) ∷ []) ≡ w % 2
  unfolding place_in
  pair_place w x e =
      ⊎_elim (λ (q : w ≡ 2 * x). rw (eq-eqb w (2 * x) q) (omega arith))
      (λ (d : w ≡ 2 * x → ⊥).
      let q : w ≡ 2 * x + 1 = omega arith in
      rw (ne_eqb w (2 * x) d) (rw (eq-eqb w (2 * x + 1) q) (omega arith)))
      (equal_or_not w (2 * x))

  place-up_to : (k : ℕ) → k ≤ n → (w y : ℕ) → y < k → w / 2 ≡ path_node n i y → place_in w (up_to k (rising_pair n i)) ≡ 2 * y + w % 2
  unfolding up_to
  place-up_to zero h w y l e = absurd (omega arith)
  place-up_to (suc k) h w y l e = go (λ q. place-up_to k (omega arith) w y q e) (eq-or-lt_of_le l)
    where
      go : (y < k → place_in w (up_to k (rising_pair n i)) ≡ 2 * y + w % 2) → (suc y ≡ suc k) ⊎ (suc y < suc k)
          → place_in w (up_to k (rising_pair n i) ++ rising_pair n i (suc k)) ≡ 2 * y + w % 2
      go rest (inr q) =
          place-left (up_to k (rising_pair n i)) (rising_pair n i (suc k)) w
          (is_among k (rising_pair n i) w
          (record { level = suc y; low = omega arith; high = omega arith; here = rising-child w y (omega arith) e }))
          ∙ rest (omega arith)
      go rest (inl q) =
          let s : y ≡ k = omega arith in
          let f : w / 2 ≡ path_node n i k = e ∙ ap (path_node n i) s in
          let half : w / 2 ≡ path_node n i (suc k) / 2 = f ∙ sym (path_parent n i inside k (omega arith)) in
          place-right (up_to k (rising_pair n i)) (rising_pair n i (suc k)) w (not-before k w (omega arith) f)
          ∙ omega (arith, rising-count n i k, pair_place w (path_node n i (suc k) / 2) half)

  -- a child of u_y has the place 2 y, or 2 y + 1 on the right
  pub place_is : (w y : ℕ) → y < n → w / 2 ≡ path_node n i y → place_in w (plan_nodes n i) ≡ 2 * y + w % 2
  unfolding plan_nodes
  place_is w y h e = place-up_to n (omega arith) w y h e

-- By its place and its bit

module _ (n : ℕ) (p : Plan) (u : ℕ) where
  pub waits : p.index.0 < 2 ^ n → place_of n p u < 2 * n → bit (place_of n p u) p.filled ≡ 0 → awaits n p u ≡ true
  waits inside below unset =
      is-awaited n p u (record {
        inside = inside;
        among = below-member (plan_nodes n p.index.0) u (omega (arith, plan-count n p.index.0));
        unfilled = ne_eqb (bit (place_of n p u) p.filled) 1 (λ e. omega arith);
      })

  pub waits-not : (Awaited n p u → ⊥) → awaits n p u ≡ false
  waits-not d =
      ⊎_elim (λ (e : awaits n p u ≡ true). absurd (d (awaited n p u e))) (λ (e : awaits n p u ≡ false). e) (truth (awaits n p u))

  pub awaited-below : Awaited n p u → place_of n p u < 2 * n
  awaited-below h = let l = place-below (plan_nodes n p.index.0) u h.among in omega (arith, plan-count n p.index.0)

-- every place is filled exactly where the 2n lowest bits are set
module _ (n : ℕ) (p : Plan) (inside : p.index.0 < 2 ^ n) where
  abbrev us : List ℕ
  us = plan_nodes n p.index.0

  full-ones : full n p ≡ true → p.filled % 2 ^ (2 * n) ≡ 2 ^ (2 * n) - 1
  full-ones e =
      ones (2 * n) p.filled
      (λ k l.
      let a = place_at us (plan-rearranged n p.index.0 inside).apart k (omega (arith, plan-count n p.index.0)) in
      ap (λ (j : ℕ). bit j p.filled) (sym a.is)
      ∙ eqb-true (bit (place_in a.node us) p.filled) 1 (full_is n p e a.node a.among))

  ones-full : p.filled % 2 ^ (2 * n) ≡ 2 ^ (2 * n) - 1 → full n p ≡ true
  ones-full e =
      is-full n p (λ u m.
      let l = place-below us u m in
      eq-eqb (bit (place_in u us) p.filled) 1
      (of_ones (2 * n) p.filled e (place_in u us) (omega (arith, plan-count n p.index.0))))

  pub by_ones : eqb (p.filled % 2 ^ (2 * n)) (2 ^ (2 * n) - 1) ≡ full n p
  by_ones =
      ⊎_elim (λ (e : full n p ≡ true). eq-eqb _ _ (full-ones e) ∙ sym e)
      (λ (e : full n p ≡ false). ne_eqb _ _ (λ q. contrary (ones-full q) e) ∙ sym e)
      (truth (full n p))
