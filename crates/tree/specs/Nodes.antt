-- The nodes that a call looks at and changes, each call's in its order.
use Rattle.std.specs.Prelude.{ℕ, zero, suc, ◌+◌, ◌*◌, ◌-◌, ◌/◌, ◌%◌, ◌^◌, List, [], ◌∷◌, ◌++◌}

-- f 1, then f 2, and so on to f k
unfoldable pub up_to : ℕ → (ℕ → List ℕ) → List ℕ
up_to zero f = []
up_to (suc k) f = up_to k f ++ f (suc k)

-- u_y, the node at level y of the path from the root to block i: u_0 is the root and u_n the leaf
unfoldable pub path_node : ℕ → ℕ → ℕ → ℕ
path_node n i y = (2 ^ n + i) / 2 ^ (n - y)

-- the other child of u's parent
unfoldable pub sibling : ℕ → ℕ
sibling u = u + 1 - 2 * (u % 2)

-- u_1 to u_n
unfoldable pub path : ℕ → ℕ → List ℕ
path n i = up_to n (λ y. path_node n i y ∷ [])

-- u_y and v_y, its sibling
abbrev pub pair : ℕ → ℕ → ℕ → List ℕ
pair n i y = path_node n i y ∷ sibling (path_node n i y) ∷ []

-- u_1, v_1 to u_n, v_n
unfoldable pub pairs : ℕ → ℕ → List ℕ
pairs n i = up_to n (pair n i)

-- the same without u_n
unfoldable pub pairs_but_leaf : ℕ → ℕ → List ℕ
pairs_but_leaf n i = up_to (n - 1) (pair n i) ++ (sibling (path_node n i n) ∷ [])

-- 2 upwards
unfoldable pub all_nodes : ℕ → List ℕ
all_nodes n = up_to (2 * 2 ^ n - 2) (λ y. (y + 1) ∷ [])
