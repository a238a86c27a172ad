-- A split write in C's own terms: whether it stands, and that right tags are right in the list.
use mathlib.Core.Path.{◌≡◌, refl, sym, ap, ap₂, subst, ◌∙◌}
use mathlib.Core.Bool.{Bool, true, false, cond, ◌&&◌, ◌||◌}
use mathlib.Core.List.Memᴰ
use mathlib.Core.List.{List, [], ◌∷◌, ◌++◌, map, append_assoc, Memᴰ}
use mathlib.Core.Logic.{◌⊎◌, inl, inr, ⊎_elim}
use Prim.Native.Nat.{ℕ, ◌+◌}
use native.Mathlib.Omega.{arith}
use borrow.Author.Tests.{eq-eqb, ne_eqb, eqb-true, eqb-false}
use lib.Dec.{eqb}
use lib.ListN.{length, take, drop}
use lib.Seq.{take-append-le, drop_at, take_all}
use Rattle.words.proofs.Cases.{equal_or_not}
use Rattle.cmac.specs.Cmac.{cmac_of}
use Rattle.cmac.proofs.Laws.{length-cmac}
use Rattle.tree.specs.Layout.{size}
use Rattle.tree.specs.Labels.{Labels, message, labels}
use Rattle.tree.specs.Calls.{write, answer_of, raise}
use Rattle.tree.specs.declared.Anchor.{Anchor}
use Rattle.tree.specs.Answer.{Whole}
use Rattle.tree.proofs.ByteLaws.{length-be}
use Rattle.tree.proofs.LabelLaws.{labels-sized, new-root, new-sized}
use Rattle.tree.proofs.LimitLaws.{Writes}
use Rattle.tree.proofs.CountLaws.{length-message}
use Rattle.tree.proofs.CallLaws.{accepted}
use Rattle.plan.specs.Places.{plan_nodes, every, filled_at, fill, full}
use Rattle.plan.specs.Split.{Given, given, joined, Planned}
use Rattle.plan.specs.Puts.{PutStep, Going, begun, after_put, after_all_puts, EachPut, PutRight}
use Rattle.plan.proofs.PlaceLaws.{Awaited, fill-same, fill-other, none_filled, plan-node}
use Rattle.plan.proofs.PlanLaws.{plan-answer, planned-done, labels_of, messages-are, given-for}
use Rattle.plan.proofs.PutLaws.{put_in, put-answer, PutMove, stood, took, put-move, Runs, runs-depth, runs-step, runs-all}
use Rattle.plan.proofs.OrderLaws.{begun-runs}
use Rattle.replay.specs.Run.{fills}
use Rattle.host_bytes.specs.Host.{code_of}
use Rattle.host_bytes.specs.RoundTrip.{Stands}
use Rattle.host_bytes.proofs.AnchorLaws.{code-whole, whole_code}
use Rattle.host_replay.specs.Called.{PlanCalled, PutCalled, split, put_steps, Meets}
use Rattle.host_replay.specs.Plain.{put_at, all_put, message_for, tag_for, RightTags}
use Rattle.host_replay.proofs.SplitSteps.{plan_on, PutTold, PutsTold, plan-depth, plan-codes, split-puts}

-- The message for a node, in the buffer

message-for : (n : ℕ) (L : Labels) (us rest : List ℕ) → ((u : ℕ) → Memᴰ u us → length (message L u) ≡ size n u + 9)
    → (u : ℕ) → Memᴰ u us → message_for n us u (joined (map (given L) us) ++ rest) ≡ message L u
unfolding message_for joined
message-for n L [] rest long u m = absurd (Memᴰ.not-nil m)
message-for n L (w ∷ us) rest long u m =
    ap (message_for n (w ∷ us) u) (append_assoc x y rest)
    ∙ go (eqb u w) refl (message-for n L us rest (λ v k. long v (Memᴰ.tail k)) u) (Memᴰ.cases_cons m)
  where
    x : List ℕ
    x = message L w

    y : List ℕ
    y = joined (map (given L) us)

    x-long : length (message L w) ≡ size n w + 9
    x-long = long w (Memᴰ.head refl)

    go : (b : Bool) → eqb u w ≡ b → (Memᴰ u us → message_for n us u (joined (map (given L) us) ++ rest) ≡ message L u)
        → (u ≡ w) ⊎ Memᴰ u us
        → cond b (take (size n w + 9) (message L w ++ (joined (map (given L) us) ++ rest)))
        (message_for n us u (drop (size n w + 9) (message L w ++ (joined (map (given L) us) ++ rest)))) ≡ message L u
    go true e next c =
        take-append-le (size n w + 9) x (y ++ rest) (omega (arith, x-long)) ∙ take_all (size n w + 9) x (omega (arith, x-long))
        ∙ ap (message L) (sym (eqb-true u w e))
    go false e next (inl q) = absurd (eqb-false u w e q)
    go false e next (inr q) = ap (message_for n us u) (drop_at x (y ++ rest) (size n w + 9) x-long) ∙ next q

-- What is filled

or_false : (b : Bool) → (b || false) ≡ b
or_false true = refl
or_false false = refl

pub or_true : (b : Bool) → (b || true) ≡ true
or_true true = refl
or_true false = refl

pub and_false : (b : Bool) → (b && false) ≡ false
and_false true = refl
and_false false = refl

or-assoc : (a b c : Bool) → ((a || b) || c) ≡ (a || (b || c))
or-assoc true b c = refl
or-assoc false b c = refl

every-same : (f g : ℕ → Bool) (us : List ℕ) → ((u : ℕ) → Memᴰ u us → f u ≡ g u) → every f us ≡ every g us
unfolding every
every-same f g [] h = refl
every-same f g (u ∷ us) h = ap₂ ◌&&◌ (h u (Memᴰ.head refl)) (every-same f g us (λ w m. h w (Memᴰ.tail m)))

module _ (a : Anchor) (i r : ℕ) where
  abbrev n : ℕ
  n = a.depth

  -- a put fills its node where it answered 0, and no other
  filled-step : (g : Going) → Runs a i r g → (q : PutCalled) → PutTold g q → (u : ℕ) → Memᴰ u (plan_nodes a.depth i)
      → filled_at a.depth (after_put g q.step).plan u ≡ (filled_at a.depth g.plan u || (eqb q.step.node u && eqb q.code 0))
  filled-step g k q t u m = go (put-move g x)
    where
      x : PutStep
      x = q.step

      old : Bool
      old = filled_at a.depth g.plan u

      go : PutMove g q.step
          → filled_at a.depth (after_put g q.step).plan u ≡ (filled_at a.depth g.plan u || (eqb q.step.node u && eqb q.code 0))
      go (stood d e) =
          ap (λ (w : Going). filled_at n w.plan u) e
          ∙ sym (ap (λ (b : Bool). old || (eqb x.node u && b)) (ne_eqb q.code 0 (λ z. d (code-whole _ (sym t.coded ∙ z))))
          ∙ ap (λ (b : Bool). old || b) (and_false (eqb x.node u)) ∙ or_false old)
      go (took o e) =
          let zero = t.coded ∙ ap code_of (put-answer g.anchor g.plan x.card x.node x.tag ∙ o) ∙ whole_code in
          let d = runs-depth a i r g k in
          let w = subst (λ (j : ℕ). Awaited j g.plan x.node) d (put_in g.anchor g.plan x.card x.node o).1 in
          ap (λ (z : Going). filled_at n z.plan u) e ∙ ap (λ (j : ℕ). filled_at n (fill j g.plan x.node) u) d
          ∙ ⊎_elim
          (λ (s : u ≡ x.node).
          ap (filled_at n (fill n g.plan x.node)) s ∙ fill-same n g.plan x.node w.unfilled
          ∙ sym (ap₂ (λ (b c : Bool). old || (b && c)) (eq-eqb x.node u (sym s)) (eq-eqb q.code 0 zero) ∙ or_true old))
          (λ (d : u ≡ x.node → ⊥).
          fill-other n g.plan x.node u w.unfilled w.among (subst (λ (j : ℕ). Memᴰ u (plan_nodes n j)) (sym k.index_is) m) d
          ∙ sym (ap (λ (b : Bool). old || (b && eqb q.code 0)) (ne_eqb x.node u (λ s. d (sym s))) ∙ or_false old))
          (equal_or_not u x.node)

  filled-end : (qs : List PutCalled) (g : Going) → Runs a i r g → PutsTold g qs → (u : ℕ) → Memᴰ u (plan_nodes a.depth i)
      → filled_at a.depth (after_all_puts g (put_steps qs)).plan u ≡ (filled_at a.depth g.plan u || put_at u qs)
  unfolding after_all_puts put_at
  filled-end [] g k t u m = sym (or_false (filled_at a.depth g.plan u))
  filled-end (q ∷ qs) g k t u m =
      filled-end qs (after_put g q.step) (runs-step a i r g k q.step) t.1 u m
      ∙ ap (λ (b : Bool). b || put_at u qs) (filled-step g k q t.0 u m)
      ∙ or-assoc (filled_at a.depth g.plan u) (eqb q.step.node u && eqb q.code 0) (put_at u qs)

-- each that answered 0 had the tag M of its node
puts-right : (F : List ℕ → List ℕ) (ms : List Given) (M : ℕ → List ℕ) → ((m : Given) → Memᴰ m ms → M m.node ≡ F m.message)
    → (qs : List PutCalled) (g : Going) → PutsTold g qs
    → ((q : PutCalled) → Memᴰ q qs → q.code ≡ 0 → q.step.tag ≡ M q.step.node)
    → EachPut (PutRight F ms) g (put_steps qs)
puts-right F ms M is [] g t h = tt
puts-right F ms M is (q ∷ qs) g t h = (
  λ w m k e. h q (Memᴰ.head refl) (t.0.coded ∙ ap code_of w ∙ whole_code) ∙ ap M (sym e) ∙ is m k,
  puts-right F ms M is qs (after_put g q.step) t.1 (λ p k. h p (Memᴰ.tail k)),
)

-- A plan that answered 0, given the anchor a

module _ (a : Anchor) (s : List ℕ) (stands : Stands s a) (p : PlanCalled) (qs : List PutCalled) (met : Meets (split s p qs))
    (zero : p.code ≡ 0) where
  abbrev F : List ℕ → List ℕ
  F = cmac_of a.key

  abbrev o : Planned
  o = plan_on a p

  pub whole : answer_of (cmac_of a.key) a p.card (write p.index p.block p.ranges) ≡ Whole
  whole =
      sym (plan-answer F a p.card p.index p.block p.ranges)
      ∙ code-whole o.call.answer (sym (plan-codes a s stands p qs met).coded ∙ zero)

  ok : Writes a p.card p.index p.block p.ranges
  ok = (accepted F a p.card (write p.index p.block p.ranges) whole).limits-passed

  abbrev L : Labels
  L = labels_of a p.card p.index p.block

  long : (u : ℕ) → Memᴰ u (plan_nodes a.depth p.index) → length (message L u) ≡ size a.depth u + 9
  long u m =
      let n = a.depth in
      let t = a.reserved.0 in
      length-message n L
      (new-sized n t p.index p.block ok.inside (labels n a.root.0 p.card) ok.long (labels-sized n a.root.0 p.card ok.sound.full))
      (ap length (new-root n t p.index p.block ok.inside (labels n a.root.0 p.card) ok.sound.deep) ∙ length-be 8 (t + n))
      u (plan-node n p.index ok.inside u m)

  -- the message for a node in the buffer is the one of the write's labels, and its tag that one's
  message-is : (u : ℕ) → Memᴰ u (plan_nodes a.depth p.index)
      → message_for a.depth (plan_nodes a.depth p.index) u p.messages ≡ message (labels_of a p.card p.index p.block) u
  message-is u m =
      let us = plan_nodes a.depth p.index in
      let ms = o.messages in
      ap (message_for a.depth us u)
      ((plan-codes a s stands p qs met).gave
      ∙ ap (λ (l : List Given). joined l ++ drop (length (joined ms)) p.buffer)
      (messages-are F a p.card p.index p.block p.ranges whole))
      ∙ message-for a.depth L us (drop (length (joined ms)) p.buffer) long u m

  pub tag-is : (u : ℕ) → Memᴰ u (plan_nodes a.depth p.index)
      → tag_for s p u ≡ cmac_of a.key (message (labels_of a p.card p.index p.block) u)
  tag-is u m =
      ap (λ (b : Anchor). cmac_of b.key (message_for b.depth (plan_nodes b.depth p.index) u p.messages)) stands.is
      ∙ ap F (message-is u m)

  -- the puts fill the plan where each of its nodes has one that answered 0
  pub fills-is : fills (plan_on a p) (put_steps qs) ≡ all_put s p qs
  unfolding full
  fills-is =
      let k = begun-runs F (length-cmac a.key) a p.card p.index p.block p.ranges whole in
      let e = after_all_puts (begun o) (put_steps qs) in
      ap (λ (n : ℕ). full n e.plan) (plan-depth F a p.card p.index p.block p.ranges)
      ∙ ap (λ (i : ℕ). every (filled_at a.depth e.plan) (plan_nodes a.depth i))
      (runs-all (raise a) p.index (a.reserved.0 + a.depth) (put_steps qs) (begun o) k).index_is
      ∙ every-same (filled_at a.depth e.plan) (λ u. put_at u qs) (plan_nodes a.depth p.index)
      (λ u m.
      filled-end (raise a) p.index (a.reserved.0 + a.depth) qs (begun o) k (split-puts a s stands p qs met zero) u m
      ∙ ap (λ (b : Bool). b || put_at u qs)
      (none_filled a.depth o.plan (ap (λ (q : Planned). q.plan.filled) (planned-done F a p.card p.index p.block p.ranges whole)) u))
      ∙ ap (λ (b : Anchor). every (λ u. put_at u qs) (plan_nodes b.depth p.index)) (sym stands.is)

  -- and had the right tags in the list where they had them
  pub rights-so : RightTags s p qs → EachPut (PutRight (cmac_of a.key) (plan_on a p).messages) (begun (plan_on a p)) (put_steps qs)
  rights-so h =
      puts-right F o.messages (tag_for s p)
      (λ m k.
      let g = given-for F a p.card p.index p.block p.ranges whole m k in
      tag-is m.node g.for ∙ ap F (sym g.is))
      qs (begun o) (split-puts a s stands p qs met zero) h
