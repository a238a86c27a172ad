-- The iterator gives the nodes of each level but the last, and then the leaf's sibling.
use Rattle.std.proofs.Common.{◌≡◌, ℕ, List, refl, ap, ap₂, subst, ◌∙◌, ◌-◌, ◌≤◌, [], ◌∷◌, ◌++◌, map, Some, None, false, rules, arith, length-append}
use Rattle.std.specs.Array.Iter.{array_into_iter_items}
use Rattle.std.specs.Fn.{Called}
use Rattle.std.specs.Iterator.{AlwaysYields}
use Rattle.std.specs.Iterator.Adapters.{map_source, map_callee, map_steps, flatten_source, flatten_front, flatten_back, flatten_done, flatten_steps}
use Rattle.std.specs.Iterator.Adapters.{chain_first, chain_second, chain_first_done, chain_second_done, chain_steps, once_item, once_steps}
use Rattle.std.specs.List.{range_with_len, flat_map}
use Rattle.std.specs.declared.iter.Map.{Map}
use Rattle.std.specs.declared.iter.Chain.{Chain}
use Rattle.std.specs.declared.iter.Flatten.{Flatten}
use Rattle.std.specs.declared.iter.Once.{Once}
use Rattle.std.specs.declared.ops.Range.{Range}
use Rattle.std.specs.declared.option.Option.{Option}
use Rattle.std.proofs.iter.Yields.{nat_range_steps}
use Rattle.std.proofs.lemmas.Iterator.{YieldsList, YieldsList-from_range}
use Rattle.std.proofs.lemmas.Iterator.Adapters.{YieldsList-from_flat_map, YieldsList-from_once}
use Rattle.std.proofs.lemmas.Iterator.Consumers.{YieldsList-at, YieldsList-from_shown, YieldsList-from_chain}
use denote.Param.Members.{Mut}
use Rattle.tree.specs.Nodes.{up_to, pair, pairs_but_leaf, sibling, path_node}
use Rattle.tree.specs.declared.Node.{Node}
use Rattle.tree.specs.declared.path.Path.{Path}
use Rattle.tree.proofs.LayoutLaws.{few-leaves}
use Rattle.tree.proofs.NodeLaws.{path-node, pair-node, checked-pair}
use Rattle.card.specs.Walks.{GivesNodes}
use Rattle.card.specs.declared.view.BlockView.{BlockView}
use Rattle.card.proofs.WalkLaws.{by_number, up-to-flat, length-up-to, from_one}
use Rattle.card.proofs.walk.pairs.Goals as goal

pub sibling-last-requires : goal.sibling-last-requires
sibling-last-requires c =
    let b = c.args.block.now in
    let p = c.path-path.result in
    let h : 1 ≤ p.depth.levels = omega (arith, b.card.deep, c.path-path.ensures.depth) in
    omega (arith, path-node p.depth.levels p.index.0 p.on_card p.depth.levels h (omega arith), few-leaves p.depth.levels p.depth.shallow)

module _ {F J : Type 0} {g : Mut F (ℕ × Unit {0}) (List Node)} {becomes : List Node → J → Type 0} {inner : J → Option Node → J → Type 0} {f : F}
    {m : Flatten (Map (Range ℕ) F) J} {o : Once Node} {s : Chain (Flatten (Map (Range ℕ) F) J) (Once Node)} (b : BlockView) (p : Path) (w : Node) where
  given : p.depth.levels ≡ b.card.depth.levels → p.index.0 ≡ b.index.0 → w.0 ≡ sibling (path_node p.depth.levels p.index.0 p.depth.levels)
      → ((x : ℕ) (us : List Node) (q : F) → Called g f (x, tt) us q
      → (q ≡ f) × ((j : J) → becomes us j → YieldsList inner (λ u. u.0) j (pair p.depth.levels p.index.0 x)))
      → map_source (flatten_source m) ≡ record { start = 1; end = p.depth.levels }
      → map_callee (flatten_source m) ≡ f → flatten_front m ≡ None → flatten_back m ≡ None → flatten_done m ≡ false
      → chain_first s ≡ m → chain_second s ≡ o → chain_first_done s ≡ false → chain_second_done s ≡ false → once_item o ≡ Some w
      → GivesNodes (chain_steps (flatten_steps (map_steps nat_range_steps g) becomes inner) once_steps) b.card.depth.levels s
      (pairs_but_leaf b.card.depth.levels b.index.0)
  unfolding pairs_but_leaf
  given e d z calls source callee front back done first second first_done second_done item =
      let n = b.card.depth.levels in
      let i = b.index.0 in
      let h = b.on_card in
      let last = sibling (path_node n i n) in
      let flat =
      YieldsList-from_flat_map g becomes inner (λ u. u.0) (pair p.depth.levels p.index.0) f calls
      (YieldsList-at source (YieldsList-from_range 1 p.depth.levels (p.depth.levels - 1) refl refl)) callee front back done in
      let road =
      YieldsList-from_chain (YieldsList-at first flat) (YieldsList-at second (by_number (YieldsList-from_once (Some w) item) refl)) first_done
      second_done in
      record {
        yields =
            subst (AlwaysYields (chain_steps (flatten_steps (map_steps nat_range_steps g) becomes inner) once_steps) (λ (u : Node). u.0) s)
            (ap (λ (y : ℕ). flat_map (pair p.depth.levels p.index.0) (range_with_len 1 (p.depth.levels - 1)) ++ (y ∷ [])) z
            ∙ ap₂ (λ (k j : ℕ). flat_map (pair k j) (range_with_len 1 (k - 1)) ++ (sibling (path_node k j k) ∷ [])) e d
            ∙ ap (λ (us : List ℕ). us ++ (last ∷ [])) (up-to-flat 1 (n - 1) (pair n i) (pair n i) (from_one (pair n i))))
            road.runs;
        nodes = λ u q. pair-node n i h u (checked-pair n i h u q b.card.deep);
        few =
            let k = length-up-to (n - 1) 2 (pair n i) (λ y. omega arith) in
            omega (arith, length-append (up_to (n - 1) (pair n i)) (last ∷ []), b.card.depth.shallow);
      }

pub each-requires-clause-nodes : goal.each-requires-clause-nodes
each-requires-clause-nodes c =
    let m = c.flat_map-pairs.ensures in
    let s = c.chain.ensures in (
      pairs_but_leaf c.args.block.now.card.depth.levels c.args.block.now.index.0,
      given c.args.block.now c.path-path.result c.sibling-last.result c.path-path.ensures.depth c.path-path.ensures.index
          (c.sibling-last.ensures ∙ ap sibling c.node.ensures)
          (λ x us q k. (
            search rules,
            λ j r. by_number (YieldsList-from_shown _ (λ u. u) array_into_iter_items (λ a b y. y.0) (λ a u b y. y) j)
                (ap (map (λ u. u.0)) r.0 ∙ search rules),
          ))
          m.source m.closure m.front m.back m.done s.first s.second s.first_done s.second_done c.once.ensures.item,
    )

pub returns : goal.returns
returns c =
    let m = c.flat_map-pairs.ensures in
    let s = c.chain.ensures in
    c.each.ensures _
    (given c.args.block.now c.path-path.result c.sibling-last.result c.path-path.ensures.depth c.path-path.ensures.index
    (c.sibling-last.ensures ∙ ap sibling c.node.ensures)
    (λ x us q k. (
      search rules,
      λ j r. by_number (YieldsList-from_shown _ (λ u. u) array_into_iter_items (λ a b y. y.0) (λ a u b y. y) j)
          (ap (map (λ u. u.0)) r.0 ∙ search rules),
    ))
    m.source m.closure m.front m.back m.done s.first s.second s.first_done s.second_done c.once.ensures.item)
