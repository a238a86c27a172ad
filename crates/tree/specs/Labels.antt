-- Labels, and the messages that tags are made of.
use Rattle.std.specs.Prelude.{ℕ, zero, suc, ◌+◌, ◌-◌, ◌/◌, ◌%◌, ◌^◌, cond, List, [], ◌∷◌, ◌++◌, eqb, ltb, replicate}
use Rattle.tree.specs.Numbers.{be8}
use Rattle.tree.specs.Layout.{label}
use Rattle.tree.specs.Nodes.{path_node}

abbrev pub Labels : Type 0
Labels = ℕ → List ℕ

-- a node's label, its parent's and its side: 17 bytes for an inner node, 73 for a leaf
unfoldable pub form : List ℕ → List ℕ → ℕ → List ℕ
form x p side = x ++ (p ++ (side ∷ []))

abbrev pub message : Labels → ℕ → List ℕ
message L u = form (L u) (L (u / 2)) (u % 2)

-- the labels that a card of depth n shows under the root nonce t
unfoldable pub labels : ℕ → ℕ → List ℕ → Labels
labels n t card u = cond (eqb u 1) (be8 t) (label n card u)

-- the nonce t for the root and each inner node, the block b for each leaf
abbrev pub nonce_or_block : ℕ → ℕ → List ℕ → Labels
nonce_or_block n t b u = cond (ltb u (2 ^ n)) (be8 t) b

-- after a format or a wipe: every nonce t, and every block zero
unfoldable pub blank_labels : ℕ → ℕ → Labels
blank_labels n t = nonce_or_block n t (replicate 64 0)

-- L with x at u
abbrev pub relabel : Labels → ℕ → List ℕ → Labels
relabel L u x w = cond (eqb w u) x (L w)

-- u_y gets the nonce r + n - y, for each y below k
unfoldable pub raised : ℕ → ℕ → ℕ → Labels → ℕ → Labels
raised n r i L zero = L
raised n r i L (suc y) = relabel (raised n r i L y) (path_node n i y) (be8 (r + n - y))

-- after a write of the block b, r being the last nonce used: u_0 to u_(n-1) have new nonces, and the leaf has the block
unfoldable pub new_labels : ℕ → ℕ → ℕ → List ℕ → Labels → Labels
new_labels n r i b L = relabel (raised n r i L n) (path_node n i n) b

-- the labels of a card after that write; t is the root nonce that it was read with
abbrev pub written_labels : ℕ → ℕ → ℕ → List ℕ → ℕ → List ℕ → Labels
written_labels n t r card i b = new_labels n r i b (labels n t card)
