-- The cards that format, wipe and write leave: their labels, their messages and their tags.
use mathlib.Core.Path.{◌≡◌, sym, ap, subst, ◌∙◌}
use mathlib.Core.List.{List}
use mathlib.Core.Logic.{◌⊎◌, inl, inr, ⊎_elim}
use Prim.Native.Nat.{ℕ, ◌+◌, ◌/◌, ◌^◌, ◌<◌, ◌≤◌}
use native.Mathlib.Omega.{arith}
use lib.ListN.{length}
use Rattle.tree.specs.Layout.{IsNode, card_length, label, tag}
use Rattle.tree.specs.Nodes.{pairs, all_nodes}
use Rattle.tree.specs.Labels.{Labels, message, labels, blank_labels, new_labels}
use Rattle.tree.specs.Card.{blanked, written}
use Rattle.tree.proofs.NodeLaws.{Off, Child, pairs-child, child-pairs, child-node, pair-node}
use Rattle.tree.proofs.NodeLaws.{child-or-off, off-child, node-among, among-node}
use Rattle.tree.proofs.LabelLaws.{Sized, message-same, labels-root, labels-below, labels-sized, parent-node}
use Rattle.tree.proofs.LabelLaws.{blank-sized, blank-root, new-off, new-root, new-sized}
use Rattle.tree.proofs.CardLaws.{Alike, Shows, length-stamped, stamped-shows, stamped-keeps}

-- the tag of u on a card read under the root nonce t is that of its message
abbrev pub Right : (List ℕ → List ℕ) → ℕ → ℕ → List ℕ → ℕ → Type 0
Right F n t card u = F (message (labels n t card) u) ≡ tag n card u

-- a card whose labels under the root nonce t are those of L, down to the leaves
abbrev pub Labelled : ℕ → ℕ → List ℕ → Labels → Type 0
Labelled n t card L = (u : ℕ) → (u ≡ 1) ⊎ IsNode n u → labels n t card u ≡ L u

pub labelled-message : (n t : ℕ) (card : List ℕ) (L : Labels) → Labelled n t card L → (u : ℕ) → IsNode n u
    → message (labels n t card) u ≡ message L u
labelled-message n t card L f u h = message-same (labels n t card) L u (f u (inr h)) (f (u / 2) (parent-node n u h))

module _ (F : List ℕ → List ℕ) (F16 : (m : List ℕ) → length (F m) ≡ 16) (n : ℕ) (deep : 1 ≤ n) where
  -- Format or wipe

  module _ (t : ℕ) (card : List ℕ) (full : length card ≡ card_length n) where
    pub blanked-length : length (blanked F n t card) ≡ card_length n
    unfolding blanked
    blanked-length = length-stamped F n (blank_labels n t) (all_nodes n) card ∙ full

    blanked-shows : (u : ℕ) → IsNode n u → Shows F F16 n (blank_labels n t) (blank-sized n t) (blanked F n t card) u
    unfolding blanked
    blanked-shows u h =
        stamped-shows F F16 n (blank_labels n t) (blank-sized n t) (all_nodes n) (among-node n) card full u h (inr (node-among n u h))

    pub blanked-labels : Labelled n t (blanked F n t card) (blank_labels n t)
    blanked-labels u (inl e) =
        subst (λ (w : ℕ). labels n t (blanked F n t card) w ≡ blank_labels n t w) (sym e)
        (labels-root n t (blanked F n t card) ∙ sym (blank-root n t deep))
    blanked-labels u (inr h) = labels-below n t (blanked F n t card) u h.low ∙ (blanked-shows u h).label_is

    pub blanked-message : (u : ℕ) → IsNode n u → message (labels n t (blanked F n t card)) u ≡ message (blank_labels n t) u
    blanked-message u h = labelled-message n t (blanked F n t card) (blank_labels n t) blanked-labels u h

    pub blanked-right : (u : ℕ) → IsNode n u → Right F n t (blanked F n t card) u
    blanked-right u h = ap F (blanked-message u h) ∙ sym (blanked-shows u h).tag_is

  -- Write

  module _ (t r : ℕ) (card : List ℕ) (i : ℕ) (b : List ℕ) (full : length card ≡ card_length n) (inside : i < 2 ^ n)
      (long : length b ≡ 64) where
    abbrev L : Labels
    L = new_labels n r i b (labels n t card)

    pub sized : Sized n (new_labels n r i b (labels n t card))
    sized = new-sized n r i b inside (labels n t card) long (labels-sized n t card full)

    pub written-length : length (written F n t r card i b) ≡ card_length n
    unfolding written
    written-length = length-stamped F n L (pairs n i) card ∙ full

    pub written-shows : (w : ℕ) → Child n i inside w → Shows F F16 n L sized (written F n t r card i b) w
    unfolding written
    written-shows w c =
        stamped-shows F F16 n L sized (pairs n i) (pair-node n i inside) card full w (child-node n i inside w c)
        (inr (child-pairs n i inside w c))

    pub written_keeps : (w : ℕ) → IsNode n w → Off n i inside n (w / 2) → Alike n (written F n t r card i b) card w
    unfolding written
    written_keeps w h f =
        stamped-keeps F F16 n L sized (pairs n i) (pair-node n i inside) card full w h
        (λ m. let c = pairs-child n i inside w m in f c.level (omega (arith, c.high)) c.is)

    written-label : (w : ℕ) → IsNode n w → label n (written F n t r card i b) w ≡ new_labels n r i b (labels n t card) w
    written-label w h = go (child-or-off n i inside w h)
      where
        go : Child n i inside w ⊎ Off n i inside n (w / 2) → label n (written F n t r card i b) w ≡ new_labels n r i b (labels n t card) w
        go (inl c) = (written-shows w c).label_is
        go (inr f) =
            (written_keeps w h f).label_same ∙ sym (labels-below n t card w h.low)
            ∙ sym (new-off n r i b inside (labels n t card) w (off-child n i inside w h f))

    -- the labels of the card that a write leaves, under the new root nonce
    pub written-labels : Labelled n (r + n) (written F n t r card i b) (new_labels n r i b (labels n t card))
    written-labels w (inl e) =
        subst (λ (u : ℕ). labels n (r + n) (written F n t r card i b) u ≡ new_labels n r i b (labels n t card) u) (sym e)
        (labels-root n (r + n) (written F n t r card i b) ∙ sym (new-root n r i b inside (labels n t card) deep))
    written-labels w (inr h) = labels-below n (r + n) (written F n t r card i b) w h.low ∙ written-label w h

    pub written-message : (w : ℕ) → IsNode n w
        → message (labels n (r + n) (written F n t r card i b)) w ≡ message (new_labels n r i b (labels n t card)) w
    written-message w h = labelled-message n (r + n) (written F n t r card i b) L written-labels w h

    -- a node that the write stamped is right
    pub stamped-right : (w : ℕ) → Child n i inside w → Right F n (r + n) (written F n t r card i b) w
    stamped-right w c = ap F (written-message w (child-node n i inside w c)) ∙ sym (written-shows w c).tag_is

    -- and any other stays right
    pub right-stays : (w : ℕ) → IsNode n w → Off n i inside n (w / 2) → Right F n t card w → Right F n (r + n) (written F n t r card i b) w
    right-stays w h f right =
        let M = labels n t card in
        ap F (written-message w h
        ∙ message-same L M w (new-off n r i b inside M w (off-child n i inside w h f)) (new-off n r i b inside M (w / 2) f))
        ∙ right ∙ sym (written_keeps w h f).tag_same

-- Cards on which every tag is right

pub record Clean (F : List ℕ → List ℕ) (n t : ℕ) (card : List ℕ) : Type 0 where
  pub full : length card ≡ card_length n
  pub right : (u : ℕ) → IsNode n u → Right F n t card u

module _ (F : List ℕ → List ℕ) (F16 : (m : List ℕ) → length (F m) ≡ 16) (n : ℕ) (deep : 1 ≤ n) where
  -- such is the card that a format or a wipe leaves, whatever it was
  pub clean-blanked : (t : ℕ) (card : List ℕ) → length card ≡ card_length n → Clean F n t (blanked F n t card)
  clean-blanked t card full = record { full = blanked-length F F16 n deep t card full; right = blanked-right F F16 n deep t card full }

  -- and the one that a write on such a card leaves
  pub clean-written : (t r : ℕ) (card : List ℕ) (i : ℕ) (b : List ℕ) → i < 2 ^ n → length b ≡ 64 → Clean F n t card
      → Clean F n (r + n) (written F n t r card i b)
  clean-written t r card i b inside long c =
      record {
        full = written-length F F16 n deep t r card i b c.full inside long;
        right = λ u h.
            ⊎_elim (λ (k : Child n i inside u). stamped-right F F16 n deep t r card i b c.full inside long u k)
            (λ (o : Off n i inside n (u / 2)). right-stays F F16 n deep t r card i b c.full inside long u h o (c.right u h))
            (child-or-off n i inside u h);
      }
