-- Theorem 1: in whatever order the tags come back, a plan with its puts ends as the plain write does.
use mathlib.Core.Path.{◌≡◌, refl, sym, ap, subst, ◌∙◌}
use mathlib.Core.Bool.{Bool, true, false, cond}
use mathlib.Core.List.Memᴰ
use mathlib.Core.List.{List, [], ◌∷◌, ◌++◌, map, Memᴰ}
use mathlib.Core.Logic.{◌⊎◌, inl, inr, ⊎_elim}
use Prim.Native.Nat.{ℕ, ◌+◌, ◌^◌, ◌<◌}
use native.Mathlib.Omega.{arith}
use borrow.Author.Tests.{eqb-true, eqb-false}
use lib.Dec.{eqb}
use lib.ListN.{length}
use Rattle.tree.specs.Nodes.{path_node, path}
use Rattle.tree.specs.Labels.{Labels, message}
use Rattle.tree.specs.Card.{written}
use Rattle.tree.specs.Calls.{write, rooted, raise, renew, Outcome, answer_of}
use Rattle.tree.specs.declared.Anchor.{Anchor}
use Rattle.tree.specs.Answer.{Whole}
use Rattle.tree.proofs.NodeLaws.{path-pairs}
use Rattle.tree.proofs.CardLaws.{length-laid}
use Rattle.tree.proofs.LimitLaws.{Writes, raised-sound}
use Rattle.tree.proofs.CallLaws.{accepted, outcome-done}
use Rattle.plan.specs.Places.{plan_nodes, filled_at, full}
use Rattle.plan.specs.Split.{given, Planned, planned}
use Rattle.plan.specs.Puts.{PutStep, begun, after_all_puts, Placed, EachPut, PutUntouched, PutRight}
use Rattle.plan.specs.Orders.{Apart, Rearranged, message_for, returned, ends, LikeWrite}
use Rattle.plan.proofs.ListLaws.{truth, contrary}
use Rattle.plan.specs.Rule.{Waits}
use Rattle.plan.proofs.PlaceLaws.{full_is, none-awaited, none_filled, pairs-plan}
use Rattle.plan.proofs.TagLaws.{tags_put, written-parts}
use Rattle.plan.proofs.PlanLaws.{planned-done, labels_of, messages-are, given-for, given-each, planned-card, planned-lent}
use Rattle.plan.proofs.PutLaws.{Runs, runs-all}
use Rattle.plan.proofs.WaitLaws.{awaited-waits}
use Rattle.plan.proofs.RunLaws.{ran}
use Rattle.plan.proofs.TurnLaws.{sound-length, Waiting, turns, turns-nodes, turns-right-by, turns-untouched-by}

-- Two neighbours may change places, so that every order is one of those meant.

swap-among : (us vs : List ℕ) (x y w : ℕ) → Memᴰ w (us ++ (x ∷ y ∷ vs)) → Memᴰ w (us ++ (y ∷ x ∷ vs))
swap-among [] vs x y w m =
    ⊎_elim (λ (e : w ≡ x). Memᴰ.tail (Memᴰ.head e))
    (λ (k : Memᴰ w (y ∷ vs)).
    ⊎_elim (λ (e : w ≡ y). Memᴰ.head e) (λ (l : Memᴰ w vs). Memᴰ.tail (Memᴰ.tail l)) (Memᴰ.cases_cons k))
    (Memᴰ.cases_cons m)
swap-among (u ∷ us) vs x y w m =
    ⊎_elim (λ (e : w ≡ u). Memᴰ.head e) (λ (k : Memᴰ w (us ++ (x ∷ y ∷ vs))). Memᴰ.tail (swap-among us vs x y w k))
    (Memᴰ.cases_cons m)

swap-apart : (us vs : List ℕ) (x y : ℕ) → Apart (us ++ (x ∷ y ∷ vs)) → Apart (us ++ (y ∷ x ∷ vs))
swap-apart [] vs x y a = (
  λ m. ⊎_elim (λ (e : y ≡ x). a.0 (Memᴰ.head (sym e))) (λ (k : Memᴰ y vs). a.1.0 k) (Memᴰ.cases_cons m),
  (λ m. a.0 (Memᴰ.tail m), a.1.1),
)
swap-apart (u ∷ us) vs x y a = (λ m. a.0 (swap-among us vs y x u m), swap-apart us vs x y a.1)

pub rearranged-swap : (us vs : List ℕ) (x y : ℕ) (ws : List ℕ) → Rearranged (us ++ (x ∷ y ∷ vs)) ws → Rearranged (us ++ (y ∷ x ∷ vs)) ws
rearranged-swap us vs x y ws o =
    record {
      apart = swap-apart us vs x y o.apart;
      among = λ u m. o.among u (swap-among us vs y x u m);
      all = λ u m. swap-among us vs x y u (o.all u m);
    }

-- the message for a node is the one given for it
message-for : (L : Labels) (us : List ℕ) (u : ℕ) → Memᴰ u us → message_for u (map (given L) us) ≡ message L u
unfolding message_for
message-for L [] u m = absurd (Memᴰ.not-nil m)
message-for L (w ∷ us) u m = go (eqb u w) refl (message-for L us u) (Memᴰ.cases_cons m)
  where
    go : (b : Bool) → eqb u w ≡ b → (Memᴰ u us → message_for u (map (given L) us) ≡ message L u) → (u ≡ w) ⊎ Memᴰ u us
        → cond b (message L w) (message_for u (map (given L) us)) ≡ message L u
    go true e rest c = ap (message L) (sym (eqb-true u w e))
    go false e rest (inl q) = absurd (eqb-false u w e q)
    go false e rest (inr q) = rest q

module _ (F : List ℕ → List ℕ) (F16 : (m : List ℕ) → length (F m) ≡ 16) (a : Anchor) (card : List ℕ) (i : ℕ) (block ranges : List ℕ)
    (whole : answer_of F a card (write i block ranges) ≡ Whole) where
  abbrev n : ℕ
  n = a.depth

  -- the new root nonce
  abbrev t : ℕ
  t = a.reserved.0 + a.depth

  abbrev o : Planned
  o = planned F a card i block ranges

  ok : Writes a card i block ranges
  ok = (accepted F a card (write i block ranges) whole).limits-passed

  -- After the plan

  nothing-filled : (u : ℕ) → filled_at n o.plan u ≡ false
  nothing-filled = none_filled n o.plan (ap (λ (q : Planned). q.plan.filled) (planned-done F a card i block ranges whole))

  index_is : o.plan.index.0 ≡ i
  index_is = ap (λ (q : Planned). q.plan.index.0) (planned-done F a card i block ranges whole)

  not_full : full n o.plan ≡ false
  not_full =
      let u = path_node n i 1 in
      let m = pairs-plan n i ok.inside u (path-pairs n i ok.inside 1 (omega arith) ok.sound.deep) in
      let k = subst (λ (j : ℕ). Memᴰ u (plan_nodes n j)) (sym index_is) m in
      ⊎_elim (λ (e : full n o.plan ≡ true). contrary (full_is n o.plan e u k) (nothing-filled u))
      (λ (e : full n o.plan ≡ false). e) (truth (full n o.plan))

  pub begun-runs : Runs (raise a) i t (begun o)
  begun-runs =
      record {
        index_is = index_is;
        root_is = ap (λ (q : Planned). q.plan.root.0) (planned-done F a card i block ranges whole);
        anchored =
            ap (λ (q : Planned). q.call.anchor) (planned-done F a card i block ranges whole)
            ∙ sym (ap (λ (b : Bool). cond b (rooted (raise a) t) (raise a)) not_full);
      }

  -- Any puts on any cards

  -- the anchor is the new one exactly where every place is filled
  pub anchor-after : (xs : List PutStep)
      → (after_all_puts (begun o) xs).anchor ≡ cond (full n (after_all_puts (begun o) xs).plan) (rooted (raise a) t) (raise a)
  anchor-after xs = (runs-all (raise a) i t xs (begun o) begun-runs).anchored

  pub filled-anchor : (xs : List PutStep) → full n (after_all_puts (begun o) xs).plan ≡ true
      → (after_all_puts (begun o) xs).anchor ≡ renew a
  filled-anchor xs e = anchor-after xs ∙ ap (λ (b : Bool). cond b (rooted (raise a) t) (raise a)) e

  pub unfilled-anchor : (xs : List PutStep) → full n (after_all_puts (begun o) xs).plan ≡ false
      → (after_all_puts (begun o) xs).anchor ≡ raise a
  unfilled-anchor xs e = anchor-after xs ∙ ap (λ (b : Bool). cond b (rooted (raise a) t) (raise a)) e

  -- a plan that waits for no tag more is full
  pub waits-none : (xs : List PutStep) → ((u : ℕ) → Waits n (after_all_puts (begun o) xs).plan u → ⊥) → full n (after_all_puts (begun o) xs).plan ≡ true
  waits-none xs free =
      let q = (after_all_puts (begun o) xs).plan in
      let same = (runs-all (raise a) i t xs (begun o) begun-runs).index_is in
      none-awaited n q (subst (λ (j : ℕ). j < 2 ^ n) (sym same) ok.inside) (λ u k. free u (awaited-waits n q u k))

  -- right tags on untouched cards leave the card of the plain write, whatever refused puts stand among them
  pub filled-card : (xs : List PutStep) → full n (after_all_puts (begun o) xs).plan ≡ true → EachPut (PutRight F o.messages) (begun o) xs
      → EachPut PutUntouched (begun o) xs → (after_all_puts (begun o) xs).left ≡ written F n a.root.0 a.reserved.0 card i block
  filled-card xs e rights untouched =
      let L = labels_of a card i block in
      let k = ran F (raise a) i t L o.messages (given-each F a card i block ranges whole) xs (begun o) begun-runs in
      let same = (runs-all (raise a) i t xs (begun o) begun-runs).index_is in
      k.left_is rights untouched ∙ ap (tags_put n (λ u. F (message L u)) k.nodes) (planned-card F a card i block ranges whole)
      ∙ written-parts n a.root.0 a.reserved.0 i card block ok.sound.full ok.inside ok.long F F16 k.nodes k.among
      (λ w m.
      ⊎_elim (λ (q : filled_at n o.plan w ≡ true). contrary q (nothing-filled w)) (λ (q : Memᴰ w k.nodes). q)
      (k.covered w m
      (full_is n (after_all_puts (begun o) xs).plan e w (subst (λ (j : ℕ). Memᴰ w (plan_nodes n j)) (sym same) m))))

  -- Tags that come back in any order

  module _ (us : List ℕ) (order : Rearranged us (plan_nodes n i)) where
    abbrev puts : List PutStep
    puts = returned F a card i block ranges us

    -- the tag that comes back for node u
    abbrev M : ℕ → List ℕ
    M u = F (message_for u o.messages)

    in-order : map (λ (x : PutStep). x.node) puts ≡ us
    in-order = turns-nodes M us (begun o)

    waiting : Waiting (raise a) i t ok.inside (begun o) us
    waiting =
        record {
          among = order.among;
          unfilled = λ u m. nothing-filled u;
          others = λ u m. inr (order.all u m);
          apart = order.apart;
          sound =
              sound-length (raised-sound ok.sound)
              (ap length (planned-card F a card i block ranges whole) ∙ length-laid n (labels_of a card i block) (path n i) card);
        }

    in-turn : EachPut Placed (begun o) puts × (full n (ends F a card i block ranges us).plan ≡ true)
    in-turn = turns (raise a) i t ok.inside M us (begun o) begun-runs waiting

    -- so there are such puts: accepted, right, untouched, and they fill the plan
    pub turns-placed : EachPut Placed (begun o) puts
    turns-placed = in-turn.0

    pub turns-fill : full n (ends F a card i block ranges us).plan ≡ true
    turns-fill = in-turn.1

    pub turns-right : EachPut (PutRight F o.messages) (begun o) puts
    turns-right =
        turns-right-by F o.messages M us (begun o)
        (λ u m g k e.
        let L = labels_of a card i block in
        ap F (ap (message_for u) (messages-are F a card i block ranges whole) ∙ message-for L (plan_nodes n i) u (order.among u m)
        ∙ ap (message L) (sym e) ∙ sym (given-for F a card i block ranges whole g k).is))

    pub turns-untouched : EachPut PutUntouched (begun o) puts
    turns-untouched = turns-untouched-by M us (begun o)

    pub like-write : LikeWrite F a card i block ranges us
    like-write =
        let d = outcome-done F a card (write i block ranges) whole in
        record {
          in_order = in-order;
          each = turns-placed;
          card-is = filled-card puts turns-fill turns-right turns-untouched ∙ sym (ap (λ (q : Outcome). q.card) d);
          anchor-is = filled-anchor puts turns-fill ∙ sym (ap (λ (q : Outcome). q.anchor) d);
          ranges-are = planned-lent F a card i block ranges whole;
        }

-- The theorem, for any function that makes tags of 16 bytes
pub orders : (F : List ℕ → List ℕ) → ((m : List ℕ) → length (F m) ≡ 16) → (a : Anchor) (card : List ℕ) (i : ℕ) (block ranges us : List ℕ)
    → Rearranged us (plan_nodes a.depth i) → answer_of F a card (write i block ranges) ≡ Whole → LikeWrite F a card i block ranges us
orders F F16 a card i block ranges us order whole = like-write F F16 a card i block ranges whole us order
