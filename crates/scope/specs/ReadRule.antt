-- Demand 2, of a read: it is accepted exactly when every tag on its path is the CMAC of its message.
use Rattle.std.specs.Prelude.{◌≡◌, List, ℕ, ◌≤◌}
use Rattle.std.proofs.Math.Option.{none}
use Rattle.cmac.specs.Cmac.{cmac_of}
use Rattle.tree.specs.Layout.{tag}
use Rattle.tree.specs.Nodes.{path_node}
use Rattle.tree.specs.Labels.{message, labels}
use Rattle.tree.specs.Limits.{first_failing}
use Rattle.tree.specs.Calls.{read, limits, outcome}
use Rattle.tree.specs.declared.Anchor.{Anchor}
use Rattle.tree.specs.Answer.{Whole}

-- the tags of u_1 to u_n on the card are the CMACs of their messages, with T for the root's nonce and the card's nonces below
abbrev pub PathRight : Anchor → List ℕ → ℕ → Type 0
PathRight a card i =
    let n = a.depth in
    (y : ℕ) → 1 ≤ y → y ≤ n → tag n card (path_node n i y) ≡ cmac_of a.key (message (labels n a.root.0 card) (path_node n i y))

-- For every input: an accepted read passed its limits and every tag on its path is right; and within the limits that is enough.
pub record ReadRule (a : Anchor) (card : List ℕ) (i : ℕ) (buffer : List ℕ) : Type 0 where
  pub only_if : (outcome (cmac_of a.key) a card (read i buffer)).answer ≡ Whole
      → (first_failing (limits a card (read i buffer)) ≡ none) × PathRight a card i
  pub if-right : first_failing (limits a card (read i buffer)) ≡ none → PathRight a card i
      → (outcome (cmac_of a.key) a card (read i buffer)).answer ≡ Whole
