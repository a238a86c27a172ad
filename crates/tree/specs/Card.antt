-- Cards as format, wipe, write and plan leave them, and tags as read, write and check see them, for any function F that makes a tag of a
-- message.
use Rattle.std.specs.Prelude.{ℕ, Bool, cond, List, [], ◌∷◌, ◌++◌}
use Rattle.std.proofs.Math.Option.{Option, none, some}
use Rattle.std.proofs.lemmas.List.Edits.{sets}
use Rattle.words.specs.Bytes.{same}
use Rattle.tree.specs.Layout.{offset, tag}
use Rattle.tree.specs.Nodes.{pairs, all_nodes}
use Rattle.tree.specs.Labels.{Labels, message, labels, blank_labels, written_labels}

-- what is put on a card for a node, put for each node of a list, one after the other
unfoldable pub put_each : (ℕ → List ℕ → List ℕ) → List ℕ → List ℕ → List ℕ
put_each put [] card = card
put_each put (u ∷ us) card = put_each put us (put u card)

-- the labels of nodes put in their places, and every tag left as it is
unfoldable pub laid : ℕ → Labels → List ℕ → List ℕ → List ℕ
laid n L us card = put_each (λ u c. sets c (offset n u) (L u)) us card

module _ (F : List ℕ → List ℕ) where
  -- the card with node u's label and tag put in its place
  abbrev pub stamp : ℕ → Labels → List ℕ → ℕ → List ℕ
  stamp n L card u = sets card (offset n u) (L u ++ F (message L u))

  -- the same for each node of a list
  unfoldable pub stamped : ℕ → Labels → List ℕ → List ℕ → List ℕ
  stamped n L us card = put_each (λ u c. stamp n L c u) us card

  -- all nonces t, all blocks zero, all tags right
  unfoldable pub blanked : ℕ → ℕ → List ℕ → List ℕ
  blanked n t card = stamped n (blank_labels n t) (all_nodes n) card

  -- block i is b; t is the root nonce that the card was read with, and r the last nonce used
  unfoldable pub written : ℕ → ℕ → ℕ → List ℕ → ℕ → List ℕ → List ℕ
  written n t r card i b = stamped n (written_labels n t r card i b) (pairs n i) card

  -- the tag of node u is that of its message
  abbrev pub right : ℕ → ℕ → List ℕ → ℕ → Bool
  right n t card u = same (F (message (labels n t card) u)) (tag n card u)

  -- the first node of a list whose tag is wrong
  unfoldable pub first_wrong : ℕ → ℕ → List ℕ → List ℕ → Option ℕ
  first_wrong n t card [] = none
  first_wrong n t card (u ∷ us) = cond (right n t card u) (first_wrong n t card us) (some u)

  -- the messages that are checked until it is found: its own is the last of them
  unfoldable pub checked : ℕ → ℕ → List ℕ → List ℕ → List (List ℕ)
  checked n t card [] = []
  checked n t card (u ∷ us) = message (labels n t card) u ∷ cond (right n t card u) (checked n t card us) []
