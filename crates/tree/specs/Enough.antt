-- That nothing but the counted messages is tagged: a call's outcome is the same under two tag functions that agree on these.
use Rattle.std.specs.Prelude.{◌≡◌, ℕ}
use mathlib.Core.List.{List, Memᴰ}
use Rattle.tree.specs.Calls.{Call, outcome}
use Rattle.tree.specs.declared.Anchor.{Anchor}

abbrev pub Enough : (List ℕ → List ℕ) → Anchor → List ℕ → Call → Type 0
Enough F a card c =
    (G : List ℕ → List ℕ) → ((m : List ℕ) → Memᴰ m (outcome F a card c).counted → F m ≡ G m) → outcome F a card c ≡ outcome G a card c
