-- Tags put in turn, in any order: the split write is filled and untouched, and ends as the plain write does.
use mathlib.Core.Path.{◌≡◌, refl, sym, ap, ap₂, subst, ◌∙◌}
use mathlib.Core.Bool.{Bool, true, false, cond, ◌&&◌, ◌||◌}
use mathlib.Core.List.Memᴰ
use mathlib.Core.List.{List, [], ◌∷◌, Memᴰ}
use mathlib.Core.Logic.{⊎_elim}
use Prim.Native.Nat.{ℕ, ◌+◌}
use native.Mathlib.Omega.{arith}
use borrow.Author.Tests.{eq-eqb}
use lib.Dec.{eqb}
use lib.ListN.{length}
use Rattle.cmac.specs.Cmac.{cmac_of}
use Rattle.cmac.proofs.Laws.{length-cmac}
use Rattle.tree.specs.Answer.{is_whole}
use Rattle.tree.specs.Calls.{write, Outcome, answer_of, outcome}
use Rattle.tree.specs.declared.Anchor.{Anchor}
use Rattle.tree.specs.Answer.{Whole}
use Rattle.tree.proofs.CallLaws.{accepted, outcome-done}
use Rattle.plan.specs.Places.{plan_nodes, full}
use Rattle.plan.specs.Split.{Given, given, Planned}
use Rattle.plan.specs.Puts.{PutStep, Going, begun, after_put, after_all_puts, Placed, EachPut, PutRight}
use Rattle.plan.specs.Orders.{Rearranged, in_turn}
use Rattle.plan.proofs.PlanLaws.{plan-answer, planned-done, labels_of, given-each, planned-lent}
use Rattle.plan.proofs.OrderLaws.{filled-anchor, unfilled-anchor, filled-card, turns-placed, turns-right}
use Rattle.replay.specs.Run.{finished}
use Rattle.plan.proofs.ListLaws.{is-every}
use Rattle.host_bytes.specs.Host.{anchor_bytes, anchor_of, with_root, with_reserved, with_nonces, code_of, Host, Hosts, Codes}
use Rattle.host_bytes.specs.RoundTrip.{Stands}
use Rattle.host_bytes.proofs.HostLaws.{host-call}
use Rattle.host_bytes.proofs.AnchorLaws.{put-stands, code-whole, whole_code}
use Rattle.host_replay.specs.Called.{PlanCalled, PutCalled, split, put_steps, last_anchor, last_card, Meets}
use Rattle.host_replay.specs.Plain.{put_at, all_put, PutsUntouched, tag_for, RightTags, InTurn, LikeWrite, SplitGoesOn}
use Rattle.host_replay.proofs.SplitSteps.{plan_on, PutsTold, put-left, plan-depth, plan-codes, plan-stands, split-puts, split-codes}
use Rattle.host_replay.proofs.SplitSteps.{last-anchor, split-untouched, split-bytes}
use Rattle.host_replay.proofs.Filling.{or_true, whole, tag-is, fills-is, rights-so}

-- Lists of puts in turn

-- what a put answered 0 for is put
pub put-here : (q : PutCalled) (qs : List PutCalled) → Memᴰ q qs → q.code ≡ 0 → put_at q.step.node qs ≡ true
unfolding put_at
put-here q [] m zero = absurd (Memᴰ.not-nil m)
put-here q (p ∷ qs) m zero =
    ⊎_elim
    (λ (e : q ≡ p).
    ap (λ (w : PutCalled). (eqb p.step.node w.step.node && eqb p.code 0) || put_at w.step.node qs) e
    ∙ ap₂ (λ (b c : Bool). (b && c) || put_at p.step.node qs) (eq-eqb p.step.node p.step.node refl)
    (eq-eqb p.code 0 (subst (λ (w : PutCalled). w.code ≡ 0) e zero)))
    (λ (k : Memᴰ q qs).
    ap (λ (b : Bool). (eqb p.step.node q.step.node && eqb p.code 0) || b) (put-here q qs k zero)
    ∙ or_true (eqb p.step.node q.step.node && eqb p.code 0))
    (Memᴰ.cases_cons m)

module _ (s : List ℕ) (p : PlanCalled) where
  turn-untouched : (us : List ℕ) (qs : List PutCalled) (left : List ℕ) → InTurn s p left us qs → PutsUntouched left qs
  turn-untouched [] [] left h = tt
  turn-untouched [] (q ∷ qs) left h = absurd h
  turn-untouched (u ∷ us) [] left h = absurd h
  turn-untouched (u ∷ us) (q ∷ qs) left h = ((λ z. h.0), turn-untouched us qs (last_card left (q ∷ [])) h.3)

  turn-right : (us : List ℕ) (qs : List PutCalled) (left : List ℕ) → InTurn s p left us qs → (q : PutCalled) → Memᴰ q qs
      → q.step.tag ≡ tag_for s p q.step.node
  turn-right [] [] left h r m = absurd (Memᴰ.not-nil m)
  turn-right [] (q ∷ qs) left h r m = absurd h
  turn-right (u ∷ us) [] left h r m = absurd h
  turn-right (u ∷ us) (q ∷ qs) left h r m =
      ⊎_elim
      (λ (e : r ≡ q).
      subst (λ (w : PutCalled). w.step.tag ≡ tag_for s p w.step.node) (sym e) (h.2 ∙ ap (tag_for s p) (sym h.1)))
      (λ (k : Memᴰ r qs). turn-right us qs (last_card left (q ∷ [])) h.3 r k) (Memᴰ.cases_cons m)

  -- each of the nodes has one that answered 0
  turn_at : (us : List ℕ) (qs : List PutCalled) (left : List ℕ) → InTurn s p left us qs
      → ((q : PutCalled) → Memᴰ q qs → q.code ≡ 0) → (u : ℕ) → Memᴰ u us → put_at u qs ≡ true
  unfolding put_at
  turn_at [] qs left h all w m = absurd (Memᴰ.not-nil m)
  turn_at (u ∷ us) [] left h all w m = absurd h
  turn_at (u ∷ us) (q ∷ qs) left h all w m =
      ⊎_elim
      (λ (e : w ≡ u).
      let k = Memᴰ.head refl in
      ap (λ (v : ℕ). put_at v (q ∷ qs)) (e ∙ sym h.1) ∙ put-here q (q ∷ qs) k (all q k))
      (λ (k : Memᴰ w us).
      ap (λ (b : Bool). (eqb q.step.node w && eqb q.code 0) || b)
      (turn_at us qs (last_card left (q ∷ [])) h.3 (λ r l. all r (Memᴰ.tail l)) w k)
      ∙ or_true (eqb q.step.node w && eqb q.code 0))
      (Memᴰ.cases_cons m)

  -- they are the puts of the list, whose tags M are right
  same-puts : (F : List ℕ → List ℕ) (ms : List Given) (M : ℕ → List ℕ) (us : List ℕ)
      → ((u : ℕ) → Memᴰ u us → (T : List ℕ) → ((m : Given) → Memᴰ m ms → m.node ≡ u → T ≡ F m.message)
      → tag_for s p u ≡ T)
      → (qs : List PutCalled) (g : Going) → PutsTold g qs → InTurn s p g.left us qs
      → EachPut Placed g (in_turn g M us) → EachPut (PutRight F ms) g (in_turn g M us) → put_steps qs ≡ in_turn g M us
  unfolding in_turn
  same-puts F ms M [] is [] g t h placed right = refl
  same-puts F ms M [] is (q ∷ qs) g t h placed right = absurd h
  same-puts F ms M (u ∷ us) is [] g t h placed right = absurd h
  same-puts F ms M (u ∷ us) is (q ∷ qs) g t h placed right =
      ap₂ (λ (x : PutStep) (xs : List PutStep). x ∷ xs) here
      (same-puts F ms M us (λ w k. is w (Memᴰ.tail k)) qs (after_put g q.step) t.1
      (subst (λ (l : List ℕ). InTurn s p l us qs) (sym (put-left g q t.0)) h.3)
      (move (EachPut Placed) placed.1) (move (EachPut (PutRight F ms)) right.1)
      ∙ ap (λ (x : PutStep). in_turn (after_put g x) M us) here)
    where
      first : PutStep
      first = record { card = g.left; node = u; tag = M u }

      same : {c d x y : List ℕ} {v w : ℕ} → c ≡ d → v ≡ w → x ≡ y
          → ◌≡◌ {A = PutStep} (record { card = c; node = v; tag = x }) (record { card = d; node = w; tag = y })
      same e f h = cc

      here : q.step ≡ first
      here = same h.0 h.1 (h.2 ∙ is u (Memᴰ.head refl) (M u) (λ m k e. right.0 placed.0 m k e))

      move : (P : Going → List PutStep → Type 0) → P (after_put g first) (in_turn (after_put g first) M us)
          → P (after_put g q.step) (in_turn (after_put g q.step) M us)
      move P h = subst (λ (x : PutStep). P (after_put g x) (in_turn (after_put g x) M us)) (sym here) h

-- accepted puts answered 0
placed-zero : (qs : List PutCalled) (g : Going) → PutsTold g qs → EachPut Placed g (put_steps qs)
    → (q : PutCalled) → Memᴰ q qs → q.code ≡ 0
placed-zero [] g t h r m = absurd (Memᴰ.not-nil m)
placed-zero (q ∷ qs) g t h r m =
    ⊎_elim (λ (e : r ≡ q). subst (λ (w : PutCalled). w.code ≡ 0) (sym e) (t.0.coded ∙ ap code_of h.0 ∙ whole_code))
    (λ (k : Memᴰ r qs). placed-zero qs (after_put g q.step) t.1 h.1 r k) (Memᴰ.cases_cons m)

module _ (s : List ℕ) (long : length s ≡ anchor_bytes) (p : PlanCalled) (qs : List PutCalled) (met : Meets (split s p qs))
    (zero : p.code ≡ 0) where
  abbrev a : Anchor
  a = anchor_of s

  abbrev F : List ℕ → List ℕ
  F = cmac_of a.key

  abbrev o : Planned
  o = plan_on a p

  stands : Stands s (anchor_of s)
  stands = record { long = long; is = refl }

  done : answer_of (cmac_of (anchor_of s).key) (anchor_of s) p.card (write p.index p.block p.ranges) ≡ Whole
  done = whole a s stands p qs met zero

  told : PutsTold (begun (plan_on (anchor_of s) p)) qs
  told = split-puts a s stands p qs met zero

  module _ (us : List ℕ) (order : Rearranged us (plan_nodes a.depth p.index))
      (turn : InTurn s p p.left us qs) where
    placed : EachPut Placed (begun o) (put_steps qs)
    placed =
        let L = labels_of a p.card p.index p.block in
        let each = turns-placed F (length-cmac a.key) a p.card p.index p.block p.ranges done us order in
        let right = turns-right F (length-cmac a.key) a p.card p.index p.block p.ranges done us order in
        subst (EachPut Placed (begun o))
        (sym (same-puts s p F o.messages _ us
        (λ u m T t.
        let h = order.among u m in
        tag-is a s stands p qs met zero u h
        ∙ sym (t (given L u) (given-each F a p.card p.index p.block p.ranges done u h) refl))
        qs (begun o) told (subst (λ (l : List ℕ). InTurn s p l us qs) (plan-codes a s stands p qs met).left turn)
        each right))
        each

    all-zero : (q : PutCalled) → Memᴰ q qs → q.code ≡ 0
    all-zero = placed-zero qs (begun o) told placed

    turn-fills : all_put s p qs ≡ true
    turn-fills =
        is-every (λ u. put_at u qs) (plan_nodes a.depth p.index) (λ u m. turn_at s p us qs p.left turn all-zero u (order.all u m))

  -- the write's outcome
  abbrev wrote : Outcome
  wrote = outcome (cmac_of (anchor_of s).key) (anchor_of s) p.card (write p.index p.block p.ranges)

  like-outcome : all_put s p qs ≡ true → RightTags s p qs → PutsUntouched p.left qs
      → Codes (outcome (cmac_of (anchor_of s).key) (anchor_of s) p.card (write p.index p.block p.ranges)) p.code
      (anchor_of (last_anchor p.anchor qs)) (last_card p.left qs) p.lent
  like-outcome f r u =
      let c = split-codes a s stands p qs met in
      let full-here = ap (λ (n : ℕ). full n (after_all_puts (begun o) (put_steps qs)).plan)
      (sym (plan-depth F a p.card p.index p.block p.ranges)) ∙ fills-is a s stands p qs met zero ∙ f in
      let d = outcome-done F a p.card (write p.index p.block p.ranges) done in
      let w : is_whole o.call.answer ≡ true = ap is_whole (plan-answer F a p.card p.index p.block p.ranges ∙ done) in
      let is = ap (λ (b : Bool). cond b (finished o (put_steps qs)) o.call) w in
      record {
        coded = zero ∙ sym (ap (λ (x : Outcome). code_of x.answer) d ∙ whole_code);
        anchored = c.anchored ∙ ap (λ (x : Outcome). x.anchor) is
            ∙ filled-anchor F (length-cmac a.key) a p.card p.index p.block p.ranges done (put_steps qs) full-here
            ∙ sym (ap (λ (x : Outcome). x.anchor) d);
        left = c.left ∙ ap (λ (x : Outcome). x.card) is
            ∙ filled-card F (length-cmac a.key) a p.card p.index p.block p.ranges done (put_steps qs) full-here
            (rights-so a s stands p qs met zero r) (split-untouched a s stands p qs met zero u)
            ∙ sym (ap (λ (x : Outcome). x.card) d);
        filled = c.filled ∙ ap (λ (x : Outcome). x.lent) is ∙ planned-lent F a p.card p.index p.block p.ranges done;
      }

  -- the plan stored the reserved nonce, and the last put the root nonce
  planned-bytes : p.anchor ≡ with_reserved s (a.reserved.0 + a.depth)
  planned-bytes =
      (plan-codes a s stands p qs met).anchored
      ∙ ap (λ (q : Planned). cond (is_whole q.call.answer) (with_reserved s q.call.anchor.reserved.0) s)
      (planned-done F a p.card p.index p.block p.ranges done)

  like-bytes : anchor_of (last_anchor p.anchor qs) ≡ wrote.anchor → last_anchor p.anchor qs ≡ with_nonces s wrote.anchor
  like-bytes e =
      let t = ap (λ (x : Outcome). x.anchor) (outcome-done F a p.card (write p.index p.block p.ranges) done) in
      let d = planned-done F a p.card p.index p.block p.ranges done in
      let sound = (accepted F a p.card (write p.index p.block p.ranges) done).limits-passed.sound in
      ⊎_elim
      (λ (same : last_anchor p.anchor qs ≡ p.anchor).
      let k : a.root.0 ≡ a.reserved.0 + a.depth =
      ap (λ (b : Anchor). b.root.0)
      (sym ((plan-stands a s stands p qs met zero).0.is ∙ ap (λ (q : Planned). q.call.anchor) d) ∙ ap anchor_of (sym same) ∙ e ∙ t) in
      absurd (omega (arith, k, sound.deep, sound.within)))
      (λ (new : last_anchor p.anchor qs ≡ with_root p.anchor (plan_on a p).plan.root.0).
      new
      ∙ ap₂ with_root planned-bytes (ap (λ (q : Planned). q.plan.root.0) d) ∙ ap (with_nonces s) (sym t))
      (split-bytes a s stands p qs met zero)

  like-write : all_put s p qs ≡ true → RightTags s p qs → PutsUntouched p.left qs → LikeWrite s p qs
  like-write f r u =
      let c = like-outcome f r u in
      let w : is_whole wrote.answer ≡ true = ap is_whole (code-whole wrote.answer (sym c.coded ∙ zero)) in
      subst (λ (h : Host). Hosts h p.code (last_anchor p.anchor qs) (last_card p.left qs) p.lent)
      (sym (host-call s p.card long (write p.index p.block p.ranges)))
      (record {
        coded = c.coded;
        anchored = like-bytes c.anchored ∙ sym (ap (λ (b : Bool). cond b (with_nonces s wrote.anchor) s) w);
        left = c.left;
        filled = c.filled;
      })

  -- a plan that its puts do not fill
  lost-stays : all_put s p qs ≡ false → last_anchor p.anchor qs ≡ p.anchor
  lost-stays f =
      let d = planned-done F a p.card p.index p.block p.ranges done in
      let ok = (accepted F a p.card (write p.index p.block p.ranges) done).limits-passed in
      let k = (plan-stands a s stands p qs met zero).0 in
      let none-full = ap (λ (n : ℕ). full n (after_all_puts (begun o) (put_steps qs)).plan)
      (sym (plan-depth F a p.card p.index p.block p.ranges)) ∙ fills-is a s stands p qs met zero ∙ f in
      let e = (last-anchor qs (begun o) p.anchor k told).is
      ∙ unfilled-anchor F (length-cmac a.key) a p.card p.index p.block p.ranges done (put_steps qs) none-full in
      ⊎_elim (λ (same : last_anchor p.anchor qs ≡ p.anchor). same)
      (λ (new : last_anchor p.anchor qs ≡ with_root p.anchor (plan_on a p).plan.root.0).
      let moved : a.root.0 ≡ a.reserved.0 + a.depth =
      ap (λ (b : Anchor). b.root.0)
      (sym e ∙ ap anchor_of (new ∙ ap (λ (q : Planned). with_root p.anchor q.plan.root.0) d)
      ∙ (put-stands p.anchor k.long (a.reserved.0 + a.depth) ok.unspent).is) in
      absurd (omega (arith, moved, ok.sound.deep, ok.sound.within)))
      (split-bytes a s stands p qs met zero)

  pub split-goes-on : SplitGoesOn s p qs
  split-goes-on =
      record {
        raises = planned-bytes;
        lost-stays = lost-stays;
        like-write = like-write;
        in-turn = λ us order turn. (
          all-zero us order turn,
          turn-fills us order turn,
          λ q m z. turn-right s p us qs p.left turn q m,
          turn-untouched s p us qs p.left turn,
        );
      }
