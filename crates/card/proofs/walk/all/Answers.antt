-- The iterator gives all nodes.
use Rattle.std.proofs.Common.{◌≡◌, ℕ, refl, subst, ◌+◌, ◌-◌, ◌*◌, ◌^◌, [], ◌∷◌, rules, arith}
use Rattle.std.specs.Fn.{Called}
use Rattle.std.specs.Iterator.{AlwaysYields}
use Rattle.std.specs.Iterator.Adapters.{map_source, map_callee}
use Rattle.std.specs.declared.iter.Map.{Map}
use Rattle.std.specs.declared.ops.Range.{Range}
use Rattle.std.proofs.iter.Yields.{nat_range_steps}
use Rattle.std.proofs.lemmas.Iterator.{maps, YieldsList-from_range, YieldsList-from_map_by}
use Rattle.std.proofs.lemmas.Iterator.Consumers.{YieldsList-at}
use denote.Param.Members.{Mut}
use Rattle.tree.specs.Nodes.{all_nodes}
use Rattle.tree.specs.declared.Node.{Node}
use Rattle.tree.proofs.LayoutLaws.{few-leaves}
use Rattle.tree.proofs.NodeLaws.{among-node}
use Rattle.card.specs.Walks.{GivesNodes}
use Rattle.card.specs.declared.view.CardView.{CardView}
use Rattle.card.proofs.WalkLaws.{up-to-map, length-up-to}
use Rattle.card.proofs.walk.all.Goals as goal

module _ {F : Type 0} {g : Mut F (ℕ × Unit {0}) Node} {f : F} {s : Map (Range ℕ) F} (v : CardView) (l : ℕ) where
  given : l ≡ 2 ^ v.depth.levels → map_source s ≡ record { start = 2; end = 2 * l } → map_callee s ≡ f
      → ((x : ℕ) (r : Node) (q : F) → Called g f (x, tt) r q → (q ≡ f) × (r.0 ≡ x))
      → GivesNodes (maps nat_range_steps g) v.depth.levels s (all_nodes v.depth.levels)
  unfolding all_nodes
  given e source callee calls =
      let n = v.depth.levels in
      let k = 2 * 2 ^ n - 2 in
      let road = YieldsList-from_map_by g (λ u. u.0) (λ y. y) (YieldsList-at source (YieldsList-from_range 2 (2 * l) k refl (omega arith))) callee calls in
      record {
        yields =
            subst (AlwaysYields (maps nat_range_steps g) (λ (u : Node). u.0) s) (up-to-map 2 k (λ y. y) (λ y. y + 1) (λ y. omega arith))
            road.runs;
        nodes = among-node n;
        few = omega (arith, length-up-to k 1 (λ y. (y + 1) ∷ []) (λ y. omega arith), few-leaves n v.depth.shallow);
      }

pub each-requires-clause-nodes : goal.each-requires-clause-nodes
each-requires-clause-nodes c = (
  all_nodes c.args.card.now.depth.levels,
  given c.args.card.now c.leaves.result c.leaves.ensures c.map.ensures.source c.map.ensures.closure (λ x r q k. search rules),
)

pub returns : goal.returns
returns c =
    c.each.ensures _
    (given c.args.card.now c.leaves.result c.leaves.ensures c.map.ensures.source c.map.ensures.closure (λ x r q k. search rules))
