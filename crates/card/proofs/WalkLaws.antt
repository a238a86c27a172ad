-- A walk along a list of nodes, one after another: what is left of the list answers for all of it.
use Prim.Native.Nat.{ℕ, zero, suc, ◌+◌, ◌*◌, ◌^◌, ◌<◌, ◌≤◌}
use mathlib.Core.Path.{◌≡◌, refl, sym, ap, ap₂, subst, ◌∙◌}
use mathlib.Core.Bool.{true, false}
use mathlib.Core.List.{List, [], ◌∷◌, ◌++◌, map, Memᴰ}
use mathlib.Core.Option.{Option as Maybe, none, some}
use native.Mathlib.Nat.{add-zero, zero-add, add_assoc, add_comm, suc-mul}
use native.Mathlib.Numerals.{add-one}
use native.Mathlib.Omega.{arith}
use lib.ListN.{length, length-append}
use Rattle.std.proofs.Common.{Option, Some, None, Ok, Err, append-nil, map-id}
use Rattle.std.specs.Iterator.{AlwaysYields}
use Rattle.std.specs.List.{range_with_len, flat_map}
use Rattle.std.proofs.lemmas.Iterator.{YieldsList}
use Rattle.std.proofs.lemmas.List.Concat.{flat_map-append, flat_map_single}
use Rattle.std.proofs.lemmas.List.FromFn.{map-range_with_len_more}
use Rattle.cmac.specs.Context.{tag_by, count_by}
use Rattle.cmac.specs.declared.Context.{Context}
use Rattle.cmac.proofs.TraceLaws.{count-by-bound}
use Rattle.tree.specs.declared.Node.{Node}
use Rattle.tree.specs.declared.Error.TheVariants.{WrongTag}
use Rattle.tree.specs.Layout.{IsNode}
use Rattle.tree.specs.Nodes.{up_to}
use Rattle.tree.specs.Labels.{message, labels}
use Rattle.tree.specs.Card.{right, first_wrong, checked}
use Rattle.tree.specs.Calls.{verdict, total}
use Rattle.tree.proofs.ByteLaws.{length-be}
use Rattle.tree.proofs.LayoutLaws.{size_low}
use Rattle.tree.proofs.LabelLaws.{labels-root, labels-sized}
use Rattle.tree.proofs.CountLaws.{length-message}
use Rattle.card.specs.Walks.{Walks, GivesNodes}
use Rattle.card.specs.declared.view.CardView.{CardView}

-- Few calls

-- a node's message has at most 73 bytes, and so takes at most five calls
pub few-calls : (c : Context) (m : List ℕ) (k : ℕ) → k ≡ count_by c m → length m ≤ 73 → k ≤ 5
few-calls c m k e h = omega (arith, count-by-bound c m)

pub few-checked : (c : Context) (v : CardView) (u k : ℕ) → IsNode v.depth.levels u
    → k ≡ count_by c (message (labels v.depth.levels v.root.0 v.bytes.now) u) → k ≤ 5
few-checked c v u k h e =
    let n = v.depth.levels in
    let t = v.root.0 in
    let L = labels n t v.bytes.now in
    let l = length-message n L (labels-sized n t v.bytes.now v.full) (ap length (labels-root n t v.bytes.now) ∙ length-be 8 t) u h in
    few-calls c _ k e (omega (arith, l, size_low n u))

-- What is left of a list of nodes

module _ (c : Context) (v : CardView) where
  abbrev pub wrong : List ℕ → Maybe ℕ
  wrong us = first_wrong (tag_by c) v.depth.levels v.root.0 v.bytes.now us

  abbrev pub calls : List ℕ → ℕ
  calls us = total (count_by c) (checked (tag_by c) v.depth.levels v.root.0 v.bytes.now us)

  abbrev pub each_calls : ℕ → ℕ
  each_calls u = count_by c (message (labels v.depth.levels v.root.0 v.bytes.now) u)

  on-right : (u : ℕ) (us : List ℕ) → right (tag_by c) v.depth.levels v.root.0 v.bytes.now u ≡ true
      → (wrong (u ∷ us) ≡ wrong us) × (calls (u ∷ us) ≡ each_calls u + calls us)
  unfolding first_wrong checked total
  on-right u us e = (rw e, rw e)

  on-wrong : (u : ℕ) (us : List ℕ) → right (tag_by c) v.depth.levels v.root.0 v.bytes.now u ≡ false
      → (wrong (u ∷ us) ≡ some u) × (calls (u ∷ us) ≡ each_calls u)
  unfolding first_wrong checked total
  on-wrong u us e = (rw e, rw e (add-zero (each_calls u)))

  module _ {S : Type 0} (steps : S → Option Node → S → Type 0) (us : List ℕ) where
    -- from s the rest of us is left, and the nodes before it are right and took k calls
    pub record Along (s : S) (k : ℕ) : Type 0 where
      pub rest : List ℕ
      pub gives : GivesNodes steps v.depth.levels s rest
      pub found : wrong us ≡ wrong rest
      pub took : calls us ≡ k + calls rest
      pub few : k + 5 * length rest < 5 * 2 ^ 32

    pub along_all : {s : S} → GivesNodes steps v.depth.levels s us → Along s 0
    along_all g = record { rest = us; gives = g; found = refl; took = sym (zero-add (calls us)); few = omega (arith, g.few) }

    -- what the next step gives is the next node
    record Next (s t : S) (x : Node) (k : ℕ) : Type 0 where
      others : List ℕ
      node : IsNode v.depth.levels x.0
      gives : GivesNodes steps v.depth.levels t others
      found : wrong us ≡ wrong (x.0 ∷ others)
      took : calls us ≡ k + calls (x.0 ∷ others)
      few : k + (5 + 5 * length others) < 5 * 2 ^ 32

    next : {s t : S} {x : Node} {k : ℕ} → Along s k → steps s (Some x) t → Next s t x k
    next {s} {t} {x} {k} a p = go a.rest a.gives a.found a.took a.few
      where
        go : (vs : List ℕ) → GivesNodes steps v.depth.levels s vs → wrong us ≡ wrong vs → calls us ≡ k + calls vs
            → k + 5 * length vs < 5 * 2 ^ 32 → Next s t x k
        go [] g f l h = absurd (g.yields x t p)
        go (w ∷ vs) g f l h =
            let y = g.yields.1 x t p in
            record {
              others = vs;
              node = g.nodes x.0 (Memᴰ.head y.0);
              gives = record { yields = y.1; nodes = λ z m. g.nodes z (Memᴰ.tail m); few = omega (arith, g.few) };
              found = f ∙ ap (λ (z : ℕ). wrong (z ∷ vs)) (sym y.0);
              took = l ∙ ap (λ (z : ℕ). k + calls (z ∷ vs)) (sym y.0);
              few = omega arith;
            }

    pub along_node : {s t : S} {x : Node} {k : ℕ} → Along s k → steps s (Some x) t → IsNode v.depth.levels x.0
    along_node a p = (next a p).node

    module _ {s t : S} {x : Node} {k j : ℕ} (a : Along s k) (p : steps s (Some x) t) (e : j ≡ each_calls x.0) where
      pub along-fits : k + j < 5 * 2 ^ 32
      along-fits = let n = next a p in omega (arith, few-checked c v x.0 j n.node e, n.few)

      pub along_right : right (tag_by c) v.depth.levels v.root.0 v.bytes.now x.0 ≡ true → Along t (k + j)
      along_right r =
          let n = next a p in
          let o = on-right x.0 n.others r in
          record {
            rest = n.others;
            gives = n.gives;
            found = n.found ∙ o.0;
            took = n.took ∙ ap (λ (z : ℕ). k + z) (o.1 ∙ ap (λ (z : ℕ). z + calls n.others) (sym e)) ∙ sym (add_assoc k j (calls n.others));
            few = omega (arith, few-checked c v x.0 j n.node e, n.few);
          }

      pub along_wrong : right (tag_by c) v.depth.levels v.root.0 v.bytes.now x.0 ≡ false
          → Walks c v us (record { value = Err (WrongTag x); count = k + j })
      along_wrong r =
          let n = next a p in
          let o = on-wrong x.0 n.others r in
          record {
            value = ap (verdict none) (sym (n.found ∙ o.0));
            count = sym (n.took ∙ ap (λ (z : ℕ). k + z) (o.1 ∙ sym e));
          }

    pub along_end : {s t : S} {k : ℕ} → Along s k → steps s None t → Walks c v us (record { value = Ok tt; count = k })
    unfolding first_wrong checked total
    along_end {s} {t} {k} a p = go a.rest a.gives a.found a.took
      where
        go : (vs : List ℕ) → GivesNodes steps v.depth.levels s vs → wrong us ≡ wrong vs → calls us ≡ k + calls vs
            → Walks c v us (record { value = Ok tt; count = k })
        go [] g f l = record { value = ap (verdict none) (sym f); count = sym (l ∙ add-zero k) }
        go (w ∷ vs) g f l = absurd (g.yields.0 t p)

-- Nodes by number, as an iterator gives them

-- the numbers from a on
pub up-to-flat : (a k : ℕ) (f g : ℕ → List ℕ) → ((y : ℕ) → f (a + y) ≡ g (suc y)) → flat_map f (range_with_len a k) ≡ up_to k g
unfolding up_to
up-to-flat a zero f g e = refl
up-to-flat a (suc k) f g e =
    let r : range_with_len a (suc k) ≡ range_with_len a k ++ ((a + k) ∷ []) =
    ap (range_with_len a) (sym (add-one k)) ∙ sym (map-id (range_with_len a (k + 1))) ∙ map-range_with_len_more (λ y. y) a k (a + k) refl
    ∙ ap (λ (l : List ℕ). l ++ ((a + k) ∷ [])) (map-id (range_with_len a k)) in
    ap (flat_map f) r ∙ flat_map-append f (range_with_len a k) ((a + k) ∷ [])
    ∙ ap₂ (λ (l m : List ℕ). l ++ m) (up-to-flat a k f g e) (append-nil (f (a + k)) ∙ e k)

pub up-to-map : (a k : ℕ) (f g : ℕ → ℕ) → ((y : ℕ) → f (a + y) ≡ g (suc y)) → map f (range_with_len a k) ≡ up_to k (λ y. g y ∷ [])
up-to-map a k f g e =
    sym (flat_map_single f (range_with_len a k)) ∙ up-to-flat a k (λ y. f y ∷ []) (λ y. g y ∷ []) (λ y. ap (λ (z : ℕ). z ∷ []) (e y))

pub from_one : {A : Type 0} (f : ℕ → A) (y : ℕ) → f (1 + y) ≡ f (suc y)
from_one f y = ap f (add_comm 1 y ∙ add-one y)

pub length-up-to : (k m : ℕ) (f : ℕ → List ℕ) → ((y : ℕ) → length (f y) ≤ m) → length (up_to k f) ≤ k * m
unfolding up_to
length-up-to zero m f h = omega arith
length-up-to (suc k) m f h = omega (arith, length-up-to k m f h, length-append (up_to k f) (f (suc k)), h (suc k), suc-mul k m)

numbers : {S : Type 0} (steps : S → Option Node → S → Type 0) (xs : List Node) (t : S) → AlwaysYields steps (λ u. u) t xs
    → AlwaysYields steps (λ u. u.0) t (map (λ u. u.0) xs)
numbers steps [] t y = y
numbers steps (x ∷ xs) t y = (y.0, λ u w p. let z = y.1 u w p in (ap (λ (v : Node). v.0) z.0, numbers steps xs w z.1))

module _ {S : Type 0} {steps : S → Option Node → S → Type 0} {s : S} where
  -- what gives nodes gives their numbers
  pub by_number : {xs : List Node} {us : List ℕ} → YieldsList steps (λ u. u) s xs → map (λ u. u.0) xs ≡ us
      → YieldsList steps (λ u. u.0) s us
  by_number {xs} y e = subst (λ (us : List ℕ). YieldsList steps (λ u. u.0) s us) e (record { runs = numbers steps xs s y.runs })
