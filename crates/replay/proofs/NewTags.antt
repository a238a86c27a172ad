-- The messages that an accepted call tags: of a write, the new ones of the children of its path; of every call, those that its outcome
-- lists as tagged.
use mathlib.Core.Path.{◌≡◌, refl, sym, ap, ap₂, ◌∙◌}
use mathlib.Core.Bool.{cond}
use mathlib.Core.List.Memᴰ
use mathlib.Core.List.{List, [], ◌∷◌, map, Memᴰ}
use Prim.Native.Nat.{ℕ, ◌+◌, ◌^◌, ◌<◌}
use lib.ListN.{length}
use Rattle.tree.specs.Nodes.{pairs, all_nodes}
use Rattle.tree.specs.Labels.{message, labels, blank_labels, written_labels}
use Rattle.tree.specs.Card.{blanked, written}
use Rattle.tree.specs.Answer.{is_whole}
use Rattle.tree.specs.Calls.{Call, read, write, check, wipe, tags, tagged, Outcome, answer_of, done}
use Rattle.tree.specs.declared.Anchor.{Anchor}
use Rattle.tree.specs.Answer.{Whole}
use Rattle.tree.proofs.LimitLaws.{Passes}
use Rattle.tree.proofs.NodeLaws.{pairs-child, child-pairs, child-node, among-node}
use Rattle.tree.proofs.WriteLaws.{blanked-message, written-message}
use Rattle.tree.proofs.CallLaws.{accepted, outcome-done}
use Rattle.replay.specs.Run.{call, Store, messages, new_tags}
use Rattle.replay.specs.Tagged.{WriteTags}

-- the messages that a write tags are the new ones of the children of its path
module _ (a : Anchor) (card : List ℕ) (i : ℕ) (block ranges : List ℕ) (inside : i < 2 ^ a.depth) (m : List ℕ) where
  abbrev Names : Type 0
  Names = WriteTags a.depth a.root.0 a.reserved.0 card i block m

  abbrev f : ℕ → List ℕ
  f = message (written_labels a.depth a.root.0 a.reserved.0 card i block)

  pub tagged-named : Memᴰ m (tagged a card (write i block ranges)) → Names
  tagged-named h =
      let k = Memᴰ.of_map f (pairs a.depth i) h in
      let c = pairs-child a.depth i inside k.0 k.1 in
      record { node = k.0; level = c.level; high = c.high; child = c.is; is = sym k.2 }

  pub named-tagged : Names → Memᴰ m (tagged a card (write i block ranges))
  named-tagged k =
      Memᴰ.cast k.is
      (Memᴰ.map f (child-pairs a.depth i inside k.node (record { level = k.level; high = k.high; is = k.child })))

module _ (F : List ℕ → List ℕ) (F16 : (m : List ℕ) → length (F m) ≡ 16) where
  -- the messages on the card that a call left are those of the labels that it put there
  messages-same : (f g : ℕ → List ℕ) (us : List ℕ) → ((u : ℕ) → Memᴰ u us → f u ≡ g u) → map f us ≡ map g us
  messages-same f g [] h = refl
  messages-same f g (u ∷ us) h =
      ap₂ (λ (m : List ℕ) (l : List (List ℕ)). m ∷ l) (h u (Memᴰ.head refl)) (messages-same f g us (λ v k. h v (Memᴰ.tail k)))

  -- of an outcome
  abbrev pub tags_in : Call → Outcome → List (List ℕ)
  tags_in c o = cond (is_whole o.answer) (messages o.anchor o.card (tags o.anchor.depth c)) []

  pub done-tags : (a : Anchor) (card : List ℕ) (c : Call) → Passes a card c → tags_in c (done F a card c) ≡ tagged a card c
  done-tags a card (read i buffer) p = refl
  done-tags a card check p = refl
  done-tags a card (write i block ranges) p =
      let n = a.depth in
      let t = a.root.0 in
      let r = a.reserved.0 in
      messages-same (message (labels n (r + n) (written F n t r card i block)))
      (message (written_labels n t r card i block)) (pairs n i)
      (λ u m.
      written-message F F16 n p.sound.deep t r card i block p.sound.full p.inside p.long u
      (child-node n i p.inside u (pairs-child n i p.inside u m)))
  done-tags a card wipe p =
      let n = a.depth in
      let t = a.reserved.0 + a.depth in
      messages-same (message (labels n t (blanked F n t card))) (message (blank_labels n t)) (all_nodes n)
      (λ u m. blanked-message F F16 n p.sound.deep t card p.sound.full u (among-node n u m))

  pub new-tags : (s : Store) (card : List ℕ) (c : Call) → answer_of F s.anchor card c ≡ Whole
      → new_tags F s (call card c) ≡ tagged s.anchor card c
  new-tags s card c e =
      ap (tags_in c) (outcome-done F s.anchor card c e) ∙ done-tags s.anchor card c (accepted F s.anchor card c e).limits-passed
