-- The nodes of a plan, and which of them are filled. Document 02 names a place by its node; here a node's place is its rank among the
-- plan's nodes, which is its bit in the plan.
use Rattle.std.specs.Prelude.{ℕ, suc, ◌+◌, ◌*◌, ◌/◌, ◌%◌, ◌^◌, Bool, true, false, not, cond, ◌&&◌, ◌||◌, List, [], ◌∷◌, eqb, ltb}
use Rattle.tree.specs.Nodes.{up_to, path_node}
use Rattle.plan.specs.declared.Plan.{Plan}

-- u_y and v_y, the children of u_(y-1), the lower one first
abbrev pub rising_pair : ℕ → ℕ → ℕ → List ℕ
rising_pair n i y = let u = path_node n i y in (2 * (u / 2)) ∷ (2 * (u / 2) + 1) ∷ []

-- the 2n nodes of a plan for block i, in rising number
unfoldable pub plan_nodes : ℕ → ℕ → List ℕ
plan_nodes n i = up_to n (rising_pair n i)

unfoldable pub member : ℕ → List ℕ → Bool
member u [] = false
member u (w ∷ us) = eqb u w || member u us

unfoldable pub every : (ℕ → Bool) → List ℕ → Bool
every f [] = true
every f (u ∷ us) = f u && every f us

-- a node's place: how many stand before it
unfoldable pub place_in : ℕ → List ℕ → ℕ
place_in u [] = 0
place_in u (w ∷ us) = cond (eqb u w) 0 (suc (place_in u us))

-- the place of node u in a plan
abbrev pub place_of : ℕ → Plan → ℕ → ℕ
place_of n p u = place_in u (plan_nodes n p.index.0)

-- bit k of f
abbrev pub bit : ℕ → ℕ → ℕ
bit k f = f / 2 ^ k % 2

-- the bit of u's place is set
abbrev pub filled_at : ℕ → Plan → ℕ → Bool
filled_at n p u = eqb (bit (place_of n p u) p.filled) 1

-- Whether the plan waits for u's tag: it is for a block of the card, u is among its nodes, and u's place is not filled.
unfoldable pub awaits : ℕ → Plan → ℕ → Bool
awaits n p u = ltb p.index.0 (2 ^ n) && (member u (plan_nodes n p.index.0) && not (filled_at n p u))

-- the plan with the place of u filled, which was not
unfoldable pub fill : ℕ → Plan → ℕ → Plan
fill n p u = record { index = p.index; root = p.root; filled = p.filled + 2 ^ place_of n p u }

-- whether every place is filled
unfoldable pub full : ℕ → Plan → Bool
full n p = every (filled_at n p) (plan_nodes n p.index.0)
