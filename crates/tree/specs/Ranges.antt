-- The ranges of the card that a write changes.
use Rattle.std.specs.Prelude.{ℕ, zero, suc, ◌+◌, ◌*◌, ◌/◌, cond, List, [], ◌∷◌, ◌++◌, eqb, drop}
use Rattle.tree.specs.Numbers.{be}
use Rattle.tree.specs.Layout.{size, offset}
use Rattle.tree.specs.Nodes.{path_node}

pub record Range : Type 0 where
  pub start : ℕ
  pub count : ℕ

-- the whole entry of the path's node u, and of its sibling w the tag
abbrev pub range_of : ℕ → ℕ → ℕ → Range
range_of n u w =
    cond (eqb w u) (record { start = offset n w; count = size n w + 16 }) (record { start = offset n w + size n w; count = 16 })

-- the two children of u_(y-1), of which one is u_y, the lower one first
abbrev pub range_pair : ℕ → ℕ → ℕ → List Range
range_pair n i y =
    let u = path_node n i y in
    range_of n u (2 * (u / 2)) ∷ range_of n u (2 * (u / 2) + 1) ∷ []

-- those of levels 1 to k
unfoldable pub ranges_to : ℕ → ℕ → ℕ → List Range
ranges_to n i zero = []
ranges_to n i (suc y) = ranges_to n i y ++ range_pair n i (suc y)

-- all of a write to block i, sorted by where they start
abbrev pub ranges_of : ℕ → ℕ → List Range
ranges_of n i = ranges_to n i n

-- start and count of each, four bytes each
unfoldable pub encode : List Range → List ℕ
encode [] = []
encode (r ∷ rs) = be 4 r.start ++ (be 4 r.count ++ encode rs)

-- a range buffer after a write to block i: the ranges, and behind them the bytes that it had
abbrev pub listed : ℕ → ℕ → List ℕ → List ℕ
listed n i buffer = encode (ranges_of n i) ++ drop (16 * n) buffer
