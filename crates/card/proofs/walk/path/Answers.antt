-- The iterator gives the nodes of the path.
use Rattle.std.proofs.Common.{◌≡◌, ℕ, refl, ap₂, subst, ◌∙◌, ◌+◌, [], ◌∷◌, map, rules, arith}
use Rattle.std.specs.Fn.{Called}
use Rattle.std.specs.Iterator.{AlwaysYields}
use Rattle.std.specs.Iterator.Adapters.{map_source, map_callee}
use Rattle.std.specs.List.{range_with_len}
use Rattle.std.specs.declared.iter.Map.{Map}
use Rattle.std.specs.declared.ops.Range.{Range}
use Rattle.std.proofs.iter.Yields.{nat_range_steps}
use Rattle.std.proofs.lemmas.Iterator.{maps, YieldsList-from_range, YieldsList-from_map_by}
use Rattle.std.proofs.lemmas.Iterator.Consumers.{YieldsList-at}
use denote.Param.Members.{Mut}
use Rattle.tree.specs.Nodes.{path, path_node}
use Rattle.tree.specs.declared.Node.{Node}
use Rattle.tree.specs.declared.path.Path.{Path}
use Rattle.tree.proofs.NodeLaws.{path-is-node}
use Rattle.card.specs.Walks.{GivesNodes}
use Rattle.card.specs.declared.view.BlockView.{BlockView}
use Rattle.card.proofs.WalkLaws.{up-to-map, length-up-to, from_one}
use Rattle.card.proofs.walk.path.Goals as goal

module _ {F : Type 0} {g : Mut F (ℕ × Unit {0}) Node} {f : F} {s : Map (Range ℕ) F} (b : BlockView) (p : Path) where
  given : p.depth.levels ≡ b.card.depth.levels → p.index.0 ≡ b.index.0 → map_source s ≡ record { start = 1; end = p.depth.levels + 1 }
      → map_callee s ≡ f
      → ((x : ℕ) (r : Node) (q : F) → Called g f (x, tt) r q → (q ≡ f) × (r.0 ≡ path_node p.depth.levels p.index.0 x))
      → GivesNodes (maps nat_range_steps g) b.card.depth.levels s (path b.card.depth.levels b.index.0)
  unfolding path
  given e d source callee calls =
      let n = b.card.depth.levels in
      let node = path_node n b.index.0 in
      let r = YieldsList-from_range 1 (p.depth.levels + 1) p.depth.levels refl (omega arith) in
      let road = YieldsList-from_map_by g (λ u. u.0) (path_node p.depth.levels p.index.0) (YieldsList-at source r) callee calls in
      record {
        yields =
            subst (AlwaysYields (maps nat_range_steps g) (λ (u : Node). u.0) s)
            (ap₂ (λ (m i : ℕ). map (path_node m i) (range_with_len 1 m)) e d ∙ up-to-map 1 n node node (from_one node)) road.runs;
        nodes = path-is-node n b.index.0 b.on_card;
        few = omega (arith, length-up-to n 1 (λ y. node y ∷ []) (λ y. omega arith), b.card.depth.shallow);
      }

pub each-requires-clause-nodes : goal.each-requires-clause-nodes
each-requires-clause-nodes c = (
  path c.args.block.now.card.depth.levels c.args.block.now.index.0,
  given c.args.block.now c.path-path.result c.path-path.ensures.depth c.path-path.ensures.index c.map-nodes.ensures.source
      c.map-nodes.ensures.closure (λ x r q k. search rules),
)

pub returns : goal.returns
returns c =
    c.each.ensures _
    (given c.args.block.now c.path-path.result c.path-path.ensures.depth c.path-path.ensures.index c.map-nodes.ensures.source
    c.map-nodes.ensures.closure (λ x r q k. search rules))
