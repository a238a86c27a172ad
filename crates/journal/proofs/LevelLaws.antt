-- A level of a write: both children of the parent of its node are on the card, and the new bytes of a journal have room for their ranges.
use mathlib.Core.Path.{◌≡◌, sym, ap, subst}
use Prim.Native.Nat.{ℕ, ◌+◌, ◌*◌, ◌/◌, ◌^◌, ◌<◌, ◌≤◌}
use native.Mathlib.Omega.{arith}
use Rattle.tree.specs.Layout.{IsNode}
use Rattle.tree.specs.Nodes.{path_node}
use Rattle.tree.specs.Ranges.{range_of}
use Rattle.tree.proofs.LayoutLaws.{size_low}
use Rattle.tree.proofs.NodeLaws.{path-node, twin-node}
use Rattle.tree.proofs.RangeLaws.{pair-total}

-- w has the parent of u, the node of the path at that level
pub level-node : (n i y u w : ℕ) → i < 2 ^ n → y < n → u ≡ path_node n i (y + 1) → w / 2 ≡ u / 2 → IsNode n w
level-node n i y u w inside below is half =
    twin-node n u w half (subst (λ (v : ℕ). IsNode n v) (sym is) (path-node n i inside (y + 1) (omega arith) (omega arith)))

-- v and w are the children of that parent
pub level-room : (n y u v w : ℕ) → y < n → v ≡ 2 * (u / 2) → w ≡ 2 * (u / 2) + 1
    → 40 * y + ((range_of n u v).count + (range_of n u w).count) ≤ 40 * n + 56
level-room n y u v w below lower upper =
    let count : ℕ → ℕ = λ x. (range_of n u x).count in
    omega (arith, ap count lower, ap count upper, pair-total n u, size_low n u)
