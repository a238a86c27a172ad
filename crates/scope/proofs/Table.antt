-- Document 01's table, rows a to m, from the rules: one fact over all rows.
use mathlib.Core.Path.{◌≡◌, refl, sym, ap, subst, ◌∙◌}
use mathlib.Core.List.{List}
use mathlib.Core.Logic.{inr}
use Prim.Native.Nat.{ℕ, ◌+◌, ◌*◌, ◌%◌, ◌^◌, ◌<◌, ◌≤◌}
use native.Mathlib.Omega.{arith}
use lib.ListN.{length}
use Rattle.tables.proofs.Tables.{sbox-at}
use Rattle.tables.proofs.Examples.{sbox-entries}
use Rattle.cmac.proofs.Examples.{doubling-row}
use Rattle.tree.specs.Numbers.{be8}
use Rattle.tree.specs.Layout.{IsNode, size, offset, card_length, label}
use Rattle.tree.specs.Nodes.{path_node}
use Rattle.tree.specs.Labels.{labels, raised, new_labels}
use Rattle.tree.specs.Card.{written}
use Rattle.tree.specs.Ranges.{ranges_to}
use Rattle.tree.specs.Limits.{first_failing}
use Rattle.tree.specs.Calls.{Call, write, limits, Outcome, answer_of, done, outcome, format_card, format}
use Rattle.tree.specs.declared.Anchor.{Anchor}
use Rattle.tree.specs.Answer.{Answer}
use Rattle.tree.specs.Answer.{Whole}
use Rattle.tree.proofs.LabelLaws.{labels-below}
use Rattle.tree.proofs.LimitLaws.{Sound, Writes}
use Rattle.tree.proofs.WriteLaws.{written-length, written-labels, Clean, clean-blanked}
use Rattle.tree.proofs.CallLaws.{accepted, clean-accepts, clean-done, outcome-answer, outcome-done, format-accept}
use Rattle.scope.specs.Table.{anchor, refused, RowF, RowG, Table}

-- where no nonce is lost, 1, 2 and 3 ask for a multiple of the depth and for the card's length
sound-at : (key : List ℕ) (n t : ℕ) (card : List ℕ) → 1 ≤ n → n ≤ 16 → t % n ≡ 0 → length card ≡ card_length n
    → Sound (anchor key n t t) card
sound-at key n t card deep shallow m full =
    record { deep = deep; shallow = shallow; multiple = m; reserved_multiple = m; within = omega arith; full = full }

module _ (F : List ℕ → List ℕ) (F16 : (m : List ℕ) → length (F m) ≡ 16) where
  -- a write's new labels, on the card that it left
  left : (n : ℕ) → 1 ≤ n → (t : ℕ) (card : List ℕ) (i : ℕ) (b : List ℕ) → length card ≡ card_length n → i < 2 ^ n → length b ≡ 64
      → (u : ℕ) → IsNode n u → label n (written F n t t card i b) u ≡ new_labels n t i b (labels n t card) u
  left n deep t card i b full inside long u h =
      sym (labels-below n (t + n) (written F n t t card i b) u h.low)
      ∙ written-labels F F16 n deep t t card i b full inside long u (inr h)

  -- a format's card has every tag right, and on such a card a write within its limits is accepted
  formatted : (key : List ℕ) (n : ℕ) (card : List ℕ) → 1 ≤ n → n ≤ 16 → length card ≡ card_length n → Clean F n 0 (format F key n card).card
  unfolding format
  formatted key n card deep shallow full =
      subst (Clean F n 0) (sym (ap (λ (x : Answer). format_card F x n card) (format-accept n card deep shallow full)))
      (clean-blanked F F16 n deep 0 card full)

  module _ (a : Anchor) (card : List ℕ) (i : ℕ) (b r : List ℕ) where
    abbrev call : Call
    call = write i b r

    within : Clean F a.depth a.root.0 card → Writes a card i b r
        → (outcome F a card (write i b r)).answer ≡ Whole
    within clean p = outcome-answer F a card call ∙ clean-accepts F a card clean call p

    -- what an accepted write did, and which limits it passed
    whole : (outcome F a card (write i b r)).answer ≡ Whole → answer_of F a card (write i b r) ≡ Whole
    whole w = sym (outcome-answer F a card call) ∙ w

    did : (outcome F a card (write i b r)).answer ≡ Whole → outcome F a card (write i b r) ≡ done F a card (write i b r)
    did w = outcome-done F a card call (whole w)

    passed : (outcome F a card (write i b r)).answer ≡ Whole → Writes a card i b r
    passed w = (accepted F a card call (whole w)).limits-passed

  -- the nonces of a write's path
  module _ (card b : List ℕ) (long : length b ≡ 64) where
    row-f-nonces : length card ≡ card_length 3
        → (label 3 (written F 3 0 0 card 5 b) 3 ≡ be8 2) × (label 3 (written F 3 0 0 card 5 b) 6 ≡ be8 1)
    unfolding new_labels raised path_node
    row-f-nonces full = (
      left 3 (omega arith) 0 card 5 b full (omega arith) long 3 (record { low = omega arith; high = omega arith }),
      left 3 (omega arith) 0 card 5 b full (omega arith) long 6 (record { low = omega arith; high = omega arith }),
    )

    row-g-nonces : (c : List ℕ) → length card ≡ card_length 2 → length c ≡ 64 →
        let one = written F 2 0 0 card 2 b in
        (label 2 (written F 2 2 2 one 0 c) 3 ≡ be8 1) × (label 2 (written F 2 2 2 one 0 c) 2 ≡ be8 3)
    unfolding new_labels raised path_node
    row-g-nonces c full longc =
        let one = written F 2 0 0 card 2 b in
        let full-one = written-length F F16 2 (omega arith) 0 0 card 2 b full (omega arith) long in (
          left 2 (omega arith) 2 one 0 c full-one (omega arith) longc 3 (record { low = omega arith; high = omega arith })
              ∙ labels-below 2 2 one 3 (omega arith)
              ∙ left 2 (omega arith) 0 card 2 b full (omega arith) long 3 (record { low = omega arith; high = omega arith }),
          left 2 (omega arith) 2 one 0 c full-one (omega arith) longc 2 (record { low = omega arith; high = omega arith }),
        )

  module _ (key b r : List ℕ) (long : length b ≡ 64) where
    row-f : length r ≡ 16 * 3 → RowF F key b r
    row-f room =
        record {
          accepted = λ card full.
              let clean = formatted key 3 card (omega arith) (omega arith) full in
              within (anchor key 3 0 0) (format F key 3 card).card 5 b r clean
              (record {
                sound = sound-at key 3 0 _ (omega arith) (omega arith) refl clean.full;
                inside = omega arith;
                long = long;
                room = omega arith;
                unspent = omega arith;
              });
          nonces = λ card w.
              let o = passed (anchor key 3 0 0) card 5 b r w in
              let n = row-f-nonces card b long o.sound.full in
              rw (did (anchor key 3 0 0) card 5 b r w) (n.0, n.1, refl);
        }

    module _ (c s : List ℕ) (room : length r ≡ 16 * 2) (longc : length c ≡ 64) (rooms : length s ≡ 16 * 2) where
      -- the second write, on what an accepted first one left
      abbrev then : List ℕ → Outcome
      then card = outcome F (anchor key 2 2 2) (written F 2 0 0 card 2 b) (write 0 c s)

      then-nonces : (card : List ℕ) → length card ≡ card_length 2 → (then card).answer ≡ Whole
          → (label 2 (then card).card 3 ≡ be8 1) × (label 2 (then card).card 2 ≡ be8 3) × ((then card).anchor ≡ anchor key 2 4 4)
      then-nonces card full w =
          let n = row-g-nonces card b long c full longc in
          rw (did (anchor key 2 2 2) (written F 2 0 0 card 2 b) 0 c s w) (n.0, n.1, refl)

      then-accepted : (card : List ℕ) → Clean F 2 0 card → Writes (anchor key 2 0 0) card 2 b r → (then card).answer ≡ Whole
      then-accepted card clean p =
          let left = clean-done F F16 (anchor key 2 0 0) card (write 2 b r) p clean in
          within (anchor key 2 2 2) (written F 2 0 0 card 2 b) 0 c s left
          (record {
            sound = sound-at key 2 2 _ (omega arith) (omega arith) refl left.full;
            inside = omega arith;
            long = longc;
            room = omega arith;
            unspent = omega arith;
          })

      row-g : RowG F key b r c s
      row-g =
          record {
            accepted = λ card full.
                let clean = formatted key 2 card (omega arith) (omega arith) full in
                let p : Writes (anchor key 2 0 0) (format F key 2 card).card 2 b r = record {
                  sound = sound-at key 2 0 _ (omega arith) (omega arith) refl clean.full;
                  inside = omega arith;
                  long = long;
                  room = omega arith;
                  unspent = omega arith;
                } in
                let w = within (anchor key 2 0 0) (format F key 2 card).card 2 b r clean p in
                (w, rw (did (anchor key 2 0 0) (format F key 2 card).card 2 b r w) (then-accepted (format F key 2 card).card clean p));
            nonces = λ card w v.
                let e = did (anchor key 2 0 0) card 2 b r w in
                let o = passed (anchor key 2 0 0) card 2 b r w in
                rw e (then-nonces card o.sound.full (rw e at v));
          }

pub table : Table
unfolding ranges_to offset size path_node first_failing limits refused
table =
    record {
      a = refl;
      b = refl;
      c = refl;
      d = refl;
      e = refl;
      f = λ F F16 key b r long room. row-f F F16 key b r long room;
      g = λ F F16 key b r c s longb room longc rooms. row-g F F16 key b r longb c s room longc rooms;
      h = (refl, refl);
      i = refl;
      j = (refl, refl, refl);
      k = (refl, refl);
      l = doubling-row;
      m = λ s rule. (sbox-at s rule 0x00 (omega arith) ∙ sbox-entries.0, sbox-at s rule 0x53 (omega arith) ∙ sbox-entries.1);
    }
