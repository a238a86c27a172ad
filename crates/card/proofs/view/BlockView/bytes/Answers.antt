-- The block's leaf is a node of the card.
use Rattle.std.proofs.Common.{◌≡◌, ap, ◌∙◌, ℕ, ◌+◌, ◌^◌, ◌<◌, ◌≤◌, arith}
use lib.Pow.{pow_mono}
use Rattle.tree.specs.Layout.{IsNode, label}
use Rattle.card.proofs.view.BlockView.bytes.Goals as goal

is_leaf : (n i l : ℕ) → 1 ≤ n → i < 2 ^ n → l ≡ 2 ^ n → IsNode n (l + i)
is_leaf n i l h b e =
    let p : 2 ^ 1 ≤ 2 ^ n = pow_mono h in
    record { low = omega arith; high = omega arith }

pub invariant_of-leaf : goal.invariant_of-leaf
invariant_of-leaf c =
    let b = c.args.self.now in
    record { on_card = is_leaf _ _ _ b.card.deep b.on_card c.leaves.ensures }

pub returns : goal.returns
returns c =
    let b = c.args.self.now in
    c.label.ensures ∙ ap (λ (l : ℕ). label b.card.depth.levels b.card.bytes.now (l + b.index.0)) c.leaves.ensures
