-- What holds where every write that stands since the last accepted wipe had an untouched card, and that the wipe makes it so.
use mathlib.Core.Path.{◌≡◌, sym, ap, subst, ◌∙◌}
use mathlib.Core.List.Memᴰ
use mathlib.Core.List.{List, ◌++◌, map, Memᴰ}
use mathlib.Core.Logic.{inl, ⊎_elim}
use Prim.Native.Nat.{ℕ, ◌+◌, ◌/◌, ◌^◌, ◌<◌, ◌≤◌}
use native.Mathlib.Omega.{arith}
use lib.ListN.{length}
use Rattle.tree.specs.Layout.{IsNode, card_length}
use Rattle.tree.specs.Nodes.{all_nodes}
use Rattle.tree.specs.Labels.{message, labels, new_labels}
use Rattle.tree.specs.Card.{blanked, written}
use Rattle.tree.specs.Calls.{Call, write, wipe, is_write, answer_of}
use Rattle.tree.specs.declared.Anchor.{Anchor}
use Rattle.tree.specs.Answer.{Whole}
use Rattle.tree.proofs.NodeLaws.{Off, Child, child-or-off, off-child, child-node, node-among, among-node}
use Rattle.tree.proofs.LabelLaws.{message-same, new-off}
use Rattle.tree.proofs.WriteLaws.{blanked-message, written-message, Clean}
use Rattle.tree.proofs.CallLaws.{checks-nodes, accepted, clean-done, clean-wiped, outcome-answer}
use Rattle.replay.specs.Array.{zeroed}
use Rattle.replay.specs.Places.{Place}
use Rattle.replay.specs.Run.{Step, call, split, attempt, card_of, call_of, State, next}
use Rattle.replay.specs.Claim
use Rattle.replay.specs.Claim.{GivenLeft, ChecksTagged, Complete, Untouched, WroteUntouched, AcceptedWipe, known, AllComplete}
use Rattle.replay.specs.Claim.{Faithful}
use Rattle.replay.specs.Tagged.{BlankTags, WriteTags}
use Rattle.replay.proofs.Along.{kept-since}
use Rattle.replay.proofs.Moves.{step-whole, stands-whole, write-tells, wrote, Move, still, wrote-block, lost-block, wiped-card, move, wiped}
use Rattle.replay.proofs.Moves.{wipe-moves}
use Rattle.plan.proofs.ListLaws.{contrary}
use Rattle.replay.proofs.Steady.{Safe, Steady, safe-steady, emptied, wipe-safe, steady-next}
use Rattle.replay.proofs.Agreement.{safe-next}

-- every node's message on a card is tagged
abbrev pub AllTagged : State → List ℕ → Type 0
AllTagged s card =
    let n = s.store.anchor.depth in
    (u : ℕ) → IsNode n u → Memᴰ (message (labels n s.store.anchor.root.0 card) u) s.tagged

-- on the card as last left
abbrev pub LeftTagged : State → Type 0
LeftTagged s = AllTagged s s.store.left

module _ (F : List ℕ → List ℕ) (F16 : (m : List ℕ) → length (F m) ≡ 16) where
  -- A write

  module _ (n t r : ℕ) (card : List ℕ) (i : ℕ) (b : List ℕ) (deep : 1 ≤ n) (full : length card ≡ card_length n) (inside : i < 2 ^ n)
      (long : length b ≡ 64) (new M : List (List ℕ)) (names : (m : List ℕ) → WriteTags n t r card i b m → Memᴰ m new) where
    -- it tags the children of its path
    child-tagged : (w : ℕ) → Child n i inside w → Memᴰ (message (labels n (r + n) (written F n t r card i b)) w) (new ++ M)
    child-tagged w c =
        Memᴰ.append_left M (names (message (labels n (r + n) (written F n t r card i b)) w) (record {
          node = w;
          level = c.level;
          high = c.high;
          child = c.is;
          is = written-message F F16 n deep t r card i b full inside long w (child-node n i inside w c);
        }))

    -- and leaves the messages of the other nodes
    off-same : (w : ℕ) → IsNode n w → Off n i inside n (w / 2) → message (labels n (r + n) (written F n t r card i b)) w ≡ message
        (labels n t card) w
    off-same w h f =
        let L = labels n t card in
        written-message F F16 n deep t r card i b full inside long w h
        ∙ message-same (new_labels n r i b L) L w (new-off n r i b inside L w (off-child n i inside w h f))
        (new-off n r i b inside L (w / 2) f)

    pub all-written : ((u : ℕ) → IsNode n u → Memᴰ (message (labels n t card) u) M) → (u : ℕ) → IsNode n u
        → Memᴰ (message (labels n (r + n) (written F n t r card i b)) u) (new ++ M)
    all-written k u h =
        ⊎_elim (λ (c : Child n i inside u). child-tagged u c)
        (λ (f : Off n i inside n (u / 2)). Memᴰ.append_right new (Memᴰ.cast (off-same u h f) (k u h)))
        (child-or-off n i inside u h)

  -- A format or a wipe at the nonce t

  module _ (n t : ℕ) (card : List ℕ) where
    -- it tags every node's message,
    pub blank-tagged : (u : ℕ) → IsNode n u
        → Memᴰ (message (labels n t (blanked F n t card)) u) (map (message (labels n t (blanked F n t card))) (all_nodes n))
    blank-tagged u h = Memᴰ.map (message (labels n t (blanked F n t card))) (node-among n u h)

    module _ (deep : 1 ≤ n) (full : length card ≡ card_length n) (m : List ℕ) where
      pub blank-named : BlankTags n t m → Memᴰ m (map (message (labels n t (blanked F n t card))) (all_nodes n))
      blank-named k =
          Memᴰ.cast (k.is ∙ sym (blanked-message F F16 n deep t card full k.node k.is-node)) (blank-tagged k.node k.is-node)

      -- and nothing else
      pub named_blank : Memᴰ m (map (message (labels n t (blanked F n t card))) (all_nodes n)) → BlankTags n t m
      named_blank h =
          let a = Memᴰ.of_map (message (labels n t (blanked F n t card))) (all_nodes n) h in
          let node = among-node n a.0 a.1 in
          record { node = a.0; is-node = node; is = sym a.2 ∙ blanked-message F F16 n deep t card full a.0 node }

  -- One call

  left-tagged : (s : State) → LeftTagged s → (x : Step) → GivenLeft s.store x → AllTagged s (card_of x)
  left-tagged s k x e = subst (AllTagged s) (sym e) k

  -- a step on the card as last left checks tagged messages alone
  pub checks-tagged : (s : State) → LeftTagged s → (x : Step) → GivenLeft s.store x → Claim.Accepted F s.store x → ChecksTagged s x
  checks-tagged s k x left w u m =
      let a = s.store.anchor in
      let ok = (accepted F a (card_of x) (call_of x) (step-whole F s.store x w)).limits-passed in
      left-tagged s k x left u (checks-nodes a (card_of x) (call_of x) ok u m)

  -- untouched throughout, it was given that card
  pub given-left : (s : State) (x : Step) → Untouched F s.store x → GivenLeft s.store x
  given-left s (call card c) u = u
  given-left s (split card i block ranges puts) u = u.0
  given-left s (attempt card i block ranges journal fate) u = u

  -- What holds: every tag on the card as last left is right and every message on it is tagged, and the tagged messages vouch for the array

  pub record Good (s : State) : Type 0 where
    pub clean : Clean F s.store.anchor.depth s.store.anchor.root.0 s.store.left
    pub tagged : LeftTagged s
    pub safe : Safe s

  -- a wipe makes it so, whatever was before,
  good-wiped : (s : State) (card : List ℕ) → Steady s → answer_of F s.store.anchor card wipe ≡ Whole → Good (wiped F s card)
  good-wiped s card k e =
      let a = s.store.anchor in
      record {
        clean = clean-wiped F F16 a card (accepted F a card wipe e).limits-passed;
        tagged = λ u h. Memᴰ.append_left s.tagged (blank-tagged a.depth (a.reserved.0 + a.depth) card u h);
        safe = wipe-safe F F16 s card k e;
      }

  wiped-next : (s : State) (x : Step) → AcceptedWipe F s.store x
      → (answer_of F s.store.anchor (card_of x) wipe ≡ Whole) × (next F s x ≡ wiped F s (card_of x))
  wiped-next s (call card c) w =
      let a = s.store.anchor in
      let e = ap (answer_of F a card) (sym w.is-wipe) ∙ sym (outcome-answer F a card c) ∙ w.accepted in
      (e, ap (λ (d : Call). next F s (call card d)) w.is-wipe ∙ wipe-moves F F16 s card e)
  wiped-next s (split card i block ranges puts) w = let e = w.is-wipe in let z : ◌≡◌ {A = ℕ} 0 1 = cc in absurd (omega arith)
  wiped-next s (attempt card i block ranges journal fate) w =
      let e = w.is-wipe in let z : ◌≡◌ {A = ℕ} 0 1 = cc in absurd (omega arith)

  pub good-made : (s : State) (x : Step) → Steady s → AcceptedWipe F s.store x → Good (next F s x)
  good-made s x k w = let q = wiped-next s x w in subst Good (sym q.1) (good-wiped s (card_of x) k q.0)

  pub made-empty : (s : State) (x : Step) → Steady s → AcceptedWipe F s.store x
      → (next F s x).store.array ≡ zeroed (2 ^ s.store.anchor.depth)
  made-empty s x k w =
      let q = wiped-next s x w in ap (λ (z : State). z.store.array) q.1 ∙ emptied F F16 s (card_of x) k q.0

  -- and any other step keeps it so, unless it is a write on a touched card
  good-next : (s : State) (x : Step) → Complete F s.store x → Good s → WroteUntouched F s x → Good (next F s x)
  good-next s x complete g untouched = go (move F F16 s x complete)
    where
      a : Anchor
      a = s.store.anchor

      Clean' : State → Type 0
      Clean' z = Clean F z.store.anchor.depth z.store.anchor.root.0 z.store.left

      go : Move F s x → Good (next F s x)
      go (still e f h k) = subst Good (sym e) g
      go (wiped-card card i e q) = subst Good (sym q) (good-wiped s card (safe-steady s g.safe) e)
      go (lost-block i block ranges w) =
          record {
            clean = subst Clean' (sym w.is) g.clean;
            tagged = subst LeftTagged (sym w.is) (λ u h. Memᴰ.append_right w.new (g.tagged u h));
            safe = safe-next F F16 s g.safe x complete (λ v. contrary v w.fallen);
          }
      go (wrote-block i block ranges w) =
          let c = write i block ranges in
          let k = w.tags in
          let ok = (accepted F a (card_of x) c k.whole).limits-passed in
          let same = untouched w.standing (ap is_write k.is-write) in
          let given = given-left s x same in
          let left : w.left ≡ written F a.depth a.root.0 a.reserved.0 (card_of x) i block = w.untouched same in
          let names = λ (m : List ℕ) (h : WriteTags a.depth a.root.0 a.reserved.0 (card_of x) i block m).
          k.names m (write-tells F s x i block ranges k k.reserved m h) in
          let z = wrote s i block w.left w.new in
          record {
            clean = subst Clean' (sym w.is) (subst (Clean F a.depth (a.reserved.0 + a.depth)) (sym left)
                (clean-done F F16 a (card_of x) c ok (subst (Clean F a.depth a.root.0) (sym given) g.clean)));
            tagged = subst LeftTagged (sym w.is) (subst (AllTagged z) (sym left)
                (all-written a.depth a.root.0 a.reserved.0 (card_of x) i block ok.sound.deep ok.sound.full ok.inside ok.long w.new
                s.tagged names (left-tagged s g.tagged x given)));
            safe = safe-next F F16 s g.safe x complete (λ v. checks-tagged s g.tagged x given (stands-whole F s.store x v));
          }

  pub good-place : (s : State) → Good s → {xs : List Step} (p : Place xs) → AllComplete F s p.before → Faithful F s p.before
      → Good (known F s p)
  good-place s g p complete =
      kept-since F (WroteUntouched F) (λ q x. Complete F q.store x) Steady Good (steady-next F F16) (λ q x c. good-made q x) good-next
      p.before s complete (safe-steady s g.safe) (inl g)
