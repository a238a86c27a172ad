-- What a plan answers and hands out. The card that it leaves shows, under the new root nonce, the labels of the write, and every tag as it
-- was; so the messages that it gave can be read off that card. Its nodes are in rising number.
use mathlib.Core.Path.{◌≡◌, refl, sym, ap, subst, ◌∙◌}
use mathlib.Core.List.Memᴰ
use mathlib.Core.List.{List, [], ◌∷◌, ◌++◌, map, Memᴰ}
use mathlib.Core.Logic.{◌⊎◌, inl, inr, ⊎_elim}
use Prim.Native.Nat.{ℕ, zero, suc, ◌+◌, ◌*◌, ◌/◌, ◌^◌, ◌<◌, ◌≤◌}
use native.Mathlib.Nat.{pow-suc}
use native.Mathlib.Omega.{arith}
use lib.ListN.{length, drop}
use Rattle.std.proofs.lemmas.Slice.{drop-append-drop}
use Rattle.words.proofs.Cases.{equal_or_not}
use Rattle.tree.specs.Layout.{IsNode, card_length, label, tag}
use Rattle.tree.specs.Nodes.{up_to, path_node, path, pairs}
use Rattle.tree.specs.Labels.{Labels, message, labels, written_labels}
use Rattle.tree.specs.Card.{laid}
use Rattle.tree.specs.Calls.{write, tagged, Outcome, answer_of, outcome, settled}
use Rattle.tree.specs.declared.Anchor.{Anchor}
use Rattle.tree.specs.Answer.{Answer}
use Rattle.tree.specs.Answer.{Whole, Wrong, Refused}
use Rattle.tree.proofs.NodeLaws.{On, Off, on-or-off, path-level, path_parent, path-root, path-is-node, path-among}
use Rattle.tree.proofs.LabelLaws.{Sized, labels-root, labels-below, labels-sized, new-root, new-off, new-sized}
use Rattle.tree.proofs.LimitLaws.{Writes}
use Rattle.tree.proofs.WriteLaws.{Labelled, labelled-message}
use Rattle.tree.proofs.CallLaws.{accepted, outcome-done}
use Rattle.plan.specs.Places.{rising_pair, plan_nodes}
use Rattle.plan.specs.Rule.{Rising}
use Rattle.plan.specs.Split.{Given, given, Planned, joined, Plans, no_plan, plan_done, plan_settled, planned}
use Rattle.plan.specs.declared.Plan.{Plan}
use Rattle.plan.proofs.PlaceLaws.{plan-pairs, pairs-plan}
use Rattle.plan.proofs.LaidLaws.{laid-label, laid-tag}

-- the bytes behind the messages stay
pub messages-keep : {subkeys : ℕ} {each : List ℕ → ℕ} {o : Planned} {buffer : List ℕ} {answer : Answer} {count : ℕ} {a : Anchor} {p : Plan}
    {card lent messages : List ℕ} → Plans subkeys each o buffer answer count a p card lent messages
    → drop (length (joined o.messages)) messages ≡ drop (length (joined o.messages)) buffer
messages-keep {o = o} {buffer = buffer} k =
    let n = length (joined o.messages) in
    ap (drop n) k.gave ∙ drop-append-drop n buffer (joined o.messages) n (omega arith) refl

-- What it answers

module _ (F : List ℕ → List ℕ) (a : Anchor) (card : List ℕ) (i : ℕ) (block ranges : List ℕ) where
  settled-answer : (o : Answer) → (plan_settled F o a card i block ranges).call.answer ≡ o
  settled-answer Whole = refl
  settled-answer (Wrong u) = refl
  settled-answer (Refused r) = refl

  -- the write's answer
  pub plan-answer : (planned F a card i block ranges).call.answer ≡ answer_of F a card (write i block ranges)
  unfolding planned
  plan-answer = settled-answer (answer_of F a card (write i block ranges))

  pub planned-done : answer_of F a card (write i block ranges) ≡ Whole → planned F a card i block ranges ≡ plan_done F a card i block ranges
  unfolding planned
  planned-done e = ap (λ (o : Answer). plan_settled F o a card i block ranges) e

  settled-refused : (o : Answer) → (o ≡ Whole → ⊥)
      → plan_settled F o a card i block ranges ≡ record { call = settled F o a card (write i block ranges); plan = no_plan; messages = [] }
  settled-refused Whole d = absurd (d refl)
  settled-refused (Wrong u) d = refl
  settled-refused (Refused r) d = refl

  -- refused, it is the refused write
  pub planned-refused : (answer_of F a card (write i block ranges) ≡ Whole → ⊥)
      → planned F a card i block ranges ≡ record { call = outcome F a card (write i block ranges); plan = no_plan; messages = [] }
  unfolding planned outcome
  planned-refused d = settled-refused (answer_of F a card (write i block ranges)) d

-- The card that it leaves

module _ (n t r i : ℕ) (card b : List ℕ) (deep : 1 ≤ n) (full : length card ≡ card_length n) (inside : i < 2 ^ n)
    (long : length b ≡ 64) where
  abbrev L : Labels
  L = written_labels n t r card i b

  abbrev left : List ℕ
  left = laid n L (path n i) card

  sized : Sized n L
  sized = new-sized n r i b inside (labels n t card) long (labels-sized n t card full)

  -- off the path the labels are the old ones
  shown : (u : ℕ) → IsNode n u → On n i inside n u ⊎ Off n i inside n u → (label n card u ≡ L u) ⊎ Memᴰ u (path n i)
  shown u h (inl o) =
      let low : 1 ≤ o.level =
      ⊎_elim (λ (e : o.level ≡ 0). let p = o.is ∙ ap (path_node n i) e ∙ path-root n i inside in absurd (omega (arith, h.low)))
      (λ (d : o.level ≡ 0 → ⊥). omega arith) (equal_or_not o.level 0) in
      inr (Memᴰ.cast o.is (path-among n i inside o.level low o.high))
  shown u h (inr f) = inl (sym (new-off n r i b inside (labels n t card) u f ∙ labels-below n t card u h.low))

  -- under the new root nonce the plan's card shows the labels of the write
  pub plan-labels : Labelled n (r + n) left L
  plan-labels u (inl e) =
      subst (λ (w : ℕ). labels n (r + n) left w ≡ L w) (sym e)
      (labels-root n (r + n) left ∙ sym (new-root n r i b inside (labels n t card) deep))
  plan-labels u (inr h) =
      labels-below n (r + n) left u h.low
      ∙ laid-label n L sized (path n i) (path-is-node n i inside) card full u h (shown u h (on-or-off n i inside n u))

  -- so the messages that it gave can be read off that card
  pub plan-message : (u : ℕ) → IsNode n u → message (labels n (r + n) left) u ≡ message L u
  plan-message u h = labelled-message n (r + n) left L plan-labels u h

  -- and its tags are the old ones
  pub plan-tags : (u : ℕ) → IsNode n u → tag n left u ≡ tag n card u
  plan-tags u h = laid-tag n L sized (path n i) (path-is-node n i inside) card u h

-- The nodes

rising-append : (us vs : List ℕ) → Rising us → Rising vs → ((u w : ℕ) → Memᴰ u us → Memᴰ w vs → u < w) → Rising (us ++ vs)
rising-append [] vs a b f = b
rising-append (u ∷ us) vs a b f = (
  λ w m.
      ⊎_elim (λ (k : Memᴰ w us). a.0 w k) (λ (k : Memᴰ w vs). f u w (Memᴰ.head refl) k) (Memᴰ.append_cases us m),
  rising-append us vs a.1 b (λ x w k l. f x w (Memᴰ.tail k) l),
)

module _ (n i : ℕ) (inside : i < 2 ^ n) where
  record Between (k w : ℕ) : Type 0 where
    low : 2 * 2 ^ k ≤ w
    high : w < 2 * 2 ^ suc k

  -- the children of u_k
  between : (k : ℕ) → k < n → (w : ℕ) → Memᴰ w (rising_pair n i (suc k)) → Between k w
  between k h w m =
      let u = path_node n i (suc k) in
      let e : u / 2 ≡ path_node n i k = path_parent n i inside k h in
      let v = path-level n i inside k (omega arith) in
      let q = pow-suc 2 k in
      ⊎_elim (λ (p : w ≡ 2 * (u / 2)). record { low = omega (arith, v); high = omega (arith, v) })
      (λ (l : Memᴰ w ((2 * (u / 2) + 1) ∷ [])).
      let p : w ≡ 2 * (u / 2) + 1 = Memᴰ.eq_of_singleton l in
      record { low = omega (arith, v); high = omega (arith, v) })
      (Memᴰ.cases_cons m)

  rises : (k : ℕ) → k ≤ n → Rising (up_to k (rising_pair n i)) × ((w : ℕ) → Memᴰ w (up_to k (rising_pair n i)) → w < 2 * 2 ^ k)
  unfolding up_to
  rises zero h = (tt, λ w m. absurd (Memᴰ.not-nil m))
  rises (suc k) h =
      let f = rises k (omega arith) in
      let u = path_node n i (suc k) in (
        rising-append (up_to k (rising_pair n i)) (rising_pair n i (suc k)) f.0
            (λ w m. let e = Memᴰ.eq_of_singleton m in omega arith, (λ w m. absurd (Memᴰ.not-nil m), tt))
            (λ x w l m. omega (arith, f.1 x l, (between k h w m).low)),
        λ w m.
            ⊎_elim (λ (l : Memᴰ w (up_to k (rising_pair n i))). omega (arith, f.1 w l, pow-suc 2 k))
            (λ (l : Memᴰ w (rising_pair n i (suc k))). (between k h w l).high) (Memᴰ.append_cases (up_to k (rising_pair n i)) m),
      )

  pub plan-rises : Rising (plan_nodes n i)
  unfolding plan_nodes
  plan-rises = (rises n (omega arith)).0

-- The messages of an accepted plan

abbrev pub message_of : Given → List ℕ
message_of g = g.message

-- the labels of the write
abbrev pub labels_of : Anchor → List ℕ → ℕ → List ℕ → Labels
labels_of a card i block = written_labels a.depth a.root.0 a.reserved.0 card i block

pub nodes-given : (L : Labels) (us : List ℕ) → map (λ (g : Given). g.node) (map (given L) us) ≡ us
nodes-given L [] = refl
nodes-given L (u ∷ us) = ap (λ (ws : List ℕ). u ∷ ws) (nodes-given L us)

-- it is for a node of the plan, and is that node's on the labels of the write
pub record GivenFor (a : Anchor) (card : List ℕ) (i : ℕ) (block : List ℕ) (g : Given) : Type 0 where
  pub for : Memᴰ g.node (plan_nodes a.depth i)
  pub is : g.message ≡ message (labels_of a card i block) g.node

module _ (F : List ℕ → List ℕ) (a : Anchor) (card : List ℕ) (i : ℕ) (block ranges : List ℕ)
    (whole : answer_of F a card (write i block ranges) ≡ Whole) where
  abbrev gave : ℕ → Given
  gave = given (labels_of a card i block)

  pub messages-are : (planned F a card i block ranges).messages ≡ map gave (plan_nodes a.depth i)
  messages-are = ap (λ (o : Planned). o.messages) (planned-done F a card i block ranges whole)

  ok : Writes a card i block ranges
  ok = (accepted F a card (write i block ranges) whole).limits-passed

  pub given-for : (g : Given) → Memᴰ g (planned F a card i block ranges).messages → GivenFor a card i block g
  given-for g m =
      let k = Memᴰ.of_map gave (plan_nodes a.depth i) (subst (λ (gs : List Given). Memᴰ g gs) messages-are m) in
      subst (λ (x : Given). GivenFor a card i block x) k.2 (record { for = k.1; is = refl })

  -- each node of the plan has one
  pub given-each : (u : ℕ) → Memᴰ u (plan_nodes a.depth i)
      → Memᴰ (given (labels_of a card i block) u) (planned F a card i block ranges).messages
  given-each u m = subst (λ (gs : List Given). Memᴰ (gave u) gs) (sym messages-are) (Memᴰ.map gave m)

  -- they are those that the write tags, in another order
  pub given-tagged : (m : List ℕ) → Memᴰ m (map message_of (planned F a card i block ranges).messages)
      → Memᴰ m (tagged a card (write i block ranges))
  given-tagged m h =
      let k = Memᴰ.of_map message_of (planned F a card i block ranges).messages h in
      let g = given-for k.0 k.1 in
      Memᴰ.cast (sym k.2 ∙ g.is)
      (Memᴰ.map (message (labels_of a card i block)) (plan-pairs a.depth i ok.inside k.0.node g.for))

  pub tagged-given : (m : List ℕ) → Memᴰ m (tagged a card (write i block ranges))
      → Memᴰ m (map message_of (planned F a card i block ranges).messages)
  tagged-given m h =
      let k = Memᴰ.of_map (message (labels_of a card i block)) (pairs a.depth i) h in
      Memᴰ.cast (sym k.2) (Memᴰ.map message_of (given-each k.0 (pairs-plan a.depth i ok.inside k.0 k.1)))

  -- and they come in rising node number
  pub given-rising : Rising (map (λ (g : Given). g.node) (planned F a card i block ranges).messages)
  given-rising =
      subst (λ (gs : List Given). Rising (map (λ (g : Given). g.node) gs)) (sym messages-are)
      (subst Rising (sym (nodes-given (labels_of a card i block) (plan_nodes a.depth i))) (plan-rises a.depth i ok.inside))

  -- Its card and its buffers

  -- the labels of the path are put, and nothing else
  pub planned-card : (planned F a card i block ranges).call.card ≡ laid a.depth (labels_of a card i block) (path a.depth i) card
  planned-card = ap (λ (o : Planned). o.call.card) (planned-done F a card i block ranges whole)

  pub planned-labels : Labelled a.depth (a.reserved.0 + a.depth) (planned F a card i block ranges).call.card (labels_of a card i block)
  planned-labels =
      subst (λ (c : List ℕ). Labelled a.depth (a.reserved.0 + a.depth) c (labels_of a card i block)) (sym planned-card)
      (plan-labels a.depth a.root.0 a.reserved.0 i card block ok.sound.deep ok.sound.full ok.inside ok.long)

  pub planned-tags : (u : ℕ) → IsNode a.depth u → tag a.depth (planned F a card i block ranges).call.card u ≡ tag a.depth card u
  planned-tags u h =
      ap (λ (c : List ℕ). tag a.depth c u) planned-card
      ∙ plan-tags a.depth a.root.0 a.reserved.0 i card block ok.sound.deep ok.sound.full ok.inside ok.long u h

  -- the ranges are the write's
  pub planned-lent : (planned F a card i block ranges).call.lent ≡ (outcome F a card (write i block ranges)).lent
  planned-lent =
      ap (λ (o : Planned). o.call.lent) (planned-done F a card i block ranges whole)
      ∙ sym (ap (λ (o : Outcome). o.lent) (outcome-done F a card (write i block ranges) whole))

  -- the write counts what the plan counts, and then the messages that it tags
  pub planned-counted : (outcome F a card (write i block ranges)).counted
      ≡ (planned F a card i block ranges).call.counted ++ tagged a card (write i block ranges)
  planned-counted =
      ap (λ (o : Outcome). o.counted) (outcome-done F a card (write i block ranges) whole)
      ∙ sym (ap (λ (o : Planned). o.call.counted ++ tagged a card (write i block ranges)) (planned-done F a card i block ranges whole))
