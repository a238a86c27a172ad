-- A plan and its puts for C are a split write of the list.
use mathlib.Core.Path.{◌≡◌, refl, sym, ap, ap₂, subst, ◌∙◌}
use mathlib.Core.Bool.{Bool, true, false, cond}
use mathlib.Core.List.{List, [], ◌∷◌}
use mathlib.Core.Logic.{◌⊎◌, inl, inr}
use Prim.Native.Nat.{ℕ}
use native.Mathlib.Omega.{arith}
use borrow.Author.Tests.{eq-eqb, ne_eqb, eqb-true, eqb-false}
use lib.Dec.{eqb}
use Rattle.cmac.specs.Cmac.{cmac_of}
use Rattle.tree.specs.Numbers.{be8}
use Rattle.tree.specs.Answer.{is_whole}
use Rattle.tree.specs.Calls.{write, answer_of}
use Rattle.tree.specs.declared.Anchor.{Anchor}
use Rattle.tree.specs.Answer.{Answer}
use Rattle.tree.specs.Answer.{Whole, Wrong, Refused}
use Rattle.plan.specs.Split.{Planned, plan_settled, planned, put}
use Rattle.plan.specs.Puts.{PutStep, Going, begun, after_put, after_all_puts, EachPut, PutUntouched}
use Rattle.replay.specs.Run.{finished, split_outcome}
use Rattle.plan.proofs.ListLaws.{contrary}
use Rattle.plan.proofs.StoreLaws.{sets-again}
use Rattle.host_bytes.specs.Host.{anchor_of, with_root, code_of, Codes}
use Rattle.host_bytes.specs.Split.{hosted_plan, HostsPlan}
use Rattle.host_bytes.specs.RoundTrip.{Stands, StandsPlan}
use Rattle.host_bytes.proofs.AnchorLaws.{code-whole, whole_code}
use Rattle.host_bytes.proofs.SplitTripLaws.{plan-told, plan-stored, plan-refused, put-told, put-stored, put-bytes, put-keeps-root}
use Rattle.host_bytes.proofs.SplitTripLaws.{put_refused}
use Rattle.host_replay.specs.Called.{PlanCalled, PutCalled, split, put_steps, last_anchor, last_card, PutsMeet}
use Rattle.host_replay.specs.Called.{NonePut, Meets}
use Rattle.host_replay.specs.Plain.{PutsUntouched}

-- Answers as one number

pub code_is : (x : Answer) (code : ℕ) → code ≡ code_of x → eqb code 0 ≡ is_whole x
code_is x code e = go x e
  where
    no : (x : Answer) → code ≡ code_of x → (x ≡ Whole → ⊥) → eqb code 0 ≡ false
    no x e d = ne_eqb code 0 (λ (z : code ≡ 0). d (code-whole x (sym e ∙ z)))

    go : (x : Answer) → code ≡ code_of x → eqb code 0 ≡ is_whole x
    go Whole e = eq-eqb code 0 (e ∙ whole_code)
    go (Wrong u) e = no (Wrong u) e (λ p. let z : ◌≡◌ {A = ℕ} 0 1 = cc in omega arith)
    go (Refused r) e = no (Refused r) e (λ p. let z : ◌≡◌ {A = ℕ} 0 1 = cc in omega arith)

-- The puts

-- a put for C is the put from what is known
pub record PutTold (g : Going) (q : PutCalled) : Type 0 where
  pub coded : q.code ≡ code_of (put g.anchor g.plan q.step.card q.step.node q.step.tag).answer
  pub left : q.card ≡ (put g.anchor g.plan q.step.card q.step.node q.step.tag).card
  pub anchored : Stands q.anchor (put g.anchor g.plan q.step.card q.step.node q.step.tag).anchor

abbrev pub PutsTold : Going → List PutCalled → Type 0
PutsTold g [] = Unit {0}
PutsTold g (q ∷ qs) = PutTold g q × PutsTold (after_put g q.step) qs

-- given the bytes of what is known
module _ (g : Going) (q : PutCalled) (s b : List ℕ) (a : Stands s g.anchor) (p : StandsPlan b g.plan) (qs : List PutCalled)
    (m : PutsMeet s b (q ∷ qs)) where
  abbrev x : PutStep
  x = q.step

  told_here : PutTold g q
  told_here =
      subst (λ (c : Anchor). PutTold (record { anchor = c; plan = g.plan; left = g.left }) q) a.is
      (let t = put-told s x.card b a.long g.plan p x.node x.tag m.0 q.code q.anchor q.plan q.card m.1 in
      let k = put-stored s x.card b a.long g.plan p x.node x.tag m.0 q.code q.anchor q.plan q.card m.1 in
      record { coded = t.coded; left = t.left; anchored = k.0 })

  anchor-here : Stands q.anchor (after_put g q.step).anchor
  unfolding after_put
  anchor-here = told_here.anchored

  plan-here : StandsPlan q.plan (after_put g q.step).plan
  unfolding after_put
  plan-here =
      subst (λ (c : Anchor). StandsPlan q.plan (put c g.plan q.step.card q.step.node q.step.tag).plan) a.is
      (put-stored s x.card b a.long g.plan p x.node x.tag m.0 q.code q.anchor q.plan q.card m.1).1

  -- the anchor's bytes are as they were, or have the plan's root nonce
  bytes-here : (q.anchor ≡ s) ⊎ (q.anchor ≡ with_root s g.plan.root.0)
  bytes-here = put-bytes s x.card b a.long g.plan p x.node x.tag m.0 q.code q.anchor q.plan q.card m.1

  root-here : (after_put g q.step).plan.root.0 ≡ g.plan.root.0
  unfolding after_put
  root-here = put-keeps-root g.anchor g.plan x.card x.node x.tag

puts-told : (qs : List PutCalled) (g : Going) (s b : List ℕ) → Stands s g.anchor → StandsPlan b g.plan → PutsMeet s b qs
    → PutsTold g qs
puts-told [] g s b a p m = tt
puts-told (q ∷ qs) g s b a p m = (
  told_here g q s b a p qs m,
  puts-told qs (after_put g q.step) q.anchor q.plan (anchor-here g q s b a p qs m) (plan-here g q s b a p qs m) m.2,
)

-- The anchor's bytes in the end are those of before, or have the plan's root nonce.

-- from the bytes s on
abbrev Kept : List ℕ → ℕ → List ℕ → Type 0
Kept s r e = (e ≡ s) ⊎ (e ≡ with_root s r)

kept_next : (s : List ℕ) (r : ℕ) (e f : List ℕ) → Kept s r e → (f ≡ e) ⊎ (f ≡ with_root e r) → Kept s r f
kept_next s r e f k (inl q) = subst (Kept s r) (sym q) k
kept_next s r e f (inl p) (inr q) = inr (q ∙ ap (λ (l : List ℕ). with_root l r) p)
kept_next s r e f (inr p) (inr q) = inr (q ∙ ap (λ (l : List ℕ). with_root l r) p ∙ sets-again (be8 r) s 24)

puts-bytes : (qs : List PutCalled) (g : Going) (s e b : List ℕ) (r : ℕ) → Stands e g.anchor → StandsPlan b g.plan
    → g.plan.root.0 ≡ r → PutsMeet e b qs → Kept s r e → Kept s r (last_anchor e qs)
puts-bytes [] g s e b r a p root m k = k
puts-bytes (q ∷ qs) g s e b r a p root m k =
    puts-bytes qs (after_put g q.step) s q.anchor q.plan r (anchor-here g q e b a p qs m) (plan-here g q e b a p qs m)
    (root-here g q e b a p qs m ∙ root) m.2
    (kept_next s r e q.anchor k
    (subst (λ (t : ℕ). (q.anchor ≡ e) ⊎ (q.anchor ≡ with_root e t)) root (bytes-here g q e b a p qs m)))

-- what is known after it
pub put-left : (g : Going) (q : PutCalled) → PutTold g q → (after_put g q.step).left ≡ cond (eqb q.code 0) q.card g.left
unfolding after_put
put-left g q t =
    sym (ap₂ (λ (b : Bool) (c : List ℕ). cond b c g.left)
    (code_is (put g.anchor g.plan q.step.card q.step.node q.step.tag).answer q.code t.coded) t.left)

put-anchor : (g : Going) (q : PutCalled) → PutTold g q → Stands q.anchor (after_put g q.step).anchor
unfolding after_put
put-anchor g q t = t.anchored

pub last-anchor : (qs : List PutCalled) (g : Going) (s : List ℕ) → Stands s g.anchor → PutsTold g qs
    → Stands (last_anchor s qs) (after_all_puts g (put_steps qs)).anchor
unfolding after_all_puts
last-anchor [] g s a t = a
last-anchor (q ∷ qs) g s a t = last-anchor qs (after_put g q.step) q.anchor (put-anchor g q t.0) t.1

pub last-card : (qs : List PutCalled) (g : Going) → PutsTold g qs → last_card g.left qs ≡ (after_all_puts g (put_steps qs)).left
unfolding after_all_puts
last-card [] g t = refl
last-card (q ∷ qs) g t =
    ap (λ (l : List ℕ). last_card l qs) (sym (put-left g q t.0)) ∙ last-card qs (after_put g q.step) t.1

-- each on the card as the step before left it
puts-untouched : (qs : List PutCalled) (g : Going) → PutsTold g qs → PutsUntouched g.left qs → EachPut PutUntouched g (put_steps qs)
puts-untouched [] g t u = tt
puts-untouched (q ∷ qs) g t u = (
  λ w. u.0 (t.0.coded ∙ ap code_of w ∙ whole_code),
  puts-untouched qs (after_put g q.step) t.1 (subst (λ (l : List ℕ). PutsUntouched l qs) (sym (put-left g q t.0)) u.1),
)

-- puts of which none answered 0 leave everything
none_moves : (qs : List PutCalled) (s b card : List ℕ) → PutsMeet s b qs → NonePut qs → (last_anchor s qs ≡ s) × (last_card card qs ≡ card)
none_moves [] s b card m n = (refl, refl)
none_moves (q ∷ qs) s b card m n =
    let x = q.step in
    let k = put_refused s x.card b x.node x.tag q.code q.anchor q.plan q.card m.1 n.0 in
    let rest = none_moves qs q.anchor q.plan card m.2 n.1 in
    (rest.0 ∙ k.0, ap (λ (c : Bool). last_card (cond c q.card card) qs) (ne_eqb q.code 0 n.0) ∙ rest.1)

-- The plan

module _ (F : List ℕ → List ℕ) (a : Anchor) (card : List ℕ) (i : ℕ) (block ranges : List ℕ) where
  -- it leaves the anchor's depth,
  pub plan-depth : (planned F a card i block ranges).call.anchor.depth ≡ a.depth
  unfolding planned
  plan-depth = go (answer_of F a card (write i block ranges))
    where
      go : (x : Answer) → (plan_settled F x a card i block ranges).call.anchor.depth ≡ a.depth
      go Whole = refl
      go (Wrong u) = refl
      go (Refused r) = refl

  -- and refused all of it
  refused-anchor : is_whole (planned F a card i block ranges).call.answer ≡ false → (planned F a card i block ranges).call.anchor ≡ a
  unfolding planned
  refused-anchor = go (answer_of F a card (write i block ranges))
    where
      go : (x : Answer) → is_whole (plan_settled F x a card i block ranges).call.answer ≡ false
          → (plan_settled F x a card i block ranges).call.anchor ≡ a
      go Whole e = contrary refl e
      go (Wrong u) e = refl
      go (Refused r) e = refl

-- the plan that pat_plan makes with the anchor a
abbrev pub plan_on : Anchor → PlanCalled → Planned
plan_on a p = planned (cmac_of a.key) a p.card p.index p.block p.ranges

-- answer and ranges are the plan's
split-same : (o : Planned) (puts : List PutStep)
    → ((split_outcome o puts).answer ≡ o.call.answer) × ((split_outcome o puts).lent ≡ o.call.lent)
split-same o puts = go (is_whole o.call.answer)
  where
    go : (b : Bool) →
        let w = cond b (finished o puts) o.call in (w.answer ≡ o.call.answer) × (w.lent ≡ o.call.lent)
    go true = (refl, refl)
    go false = (refl, refl)

-- given the anchor a
module _ (a : Anchor) (s : List ℕ) (stands : Stands s a) (p : PlanCalled) (qs : List PutCalled) (m : Meets (split s p qs)) where
  abbrev o : Planned
  o = plan_on a p

  pub plan-codes : HostsPlan (hosted_plan s p.room p.buffer (plan_on a p))
      p.code p.anchor p.plan p.left p.lent p.messages
  plan-codes =
      subst (λ (c : Anchor). HostsPlan (hosted_plan s p.room p.buffer (plan_on c p))
      p.code p.anchor p.plan p.left p.lent p.messages) stands.is
      (plan-told s p.card p.room p.index p.block p.ranges p.buffer p.code p.anchor p.plan p.left p.lent p.messages
      stands.long m.0.plan-room m.0.message-room m.0.says)

  pub plan-stands : p.code ≡ 0 → Stands p.anchor (plan_on a p).call.anchor × StandsPlan p.plan (plan_on a p).plan
  plan-stands zero =
      subst (λ (c : Anchor). Stands p.anchor (plan_on c p).call.anchor × StandsPlan p.plan (plan_on c p).plan) stands.is
      (plan-stored s p.card p.room p.index p.block p.ranges p.buffer p.code p.anchor p.plan p.left p.lent p.messages
      m.0.says zero)

  accepted-code : is_whole o.call.answer ≡ true → p.code ≡ 0
  accepted-code e = eqb-true p.code 0 (code_is o.call.answer p.code plan-codes.coded ∙ e)

  refused-code : is_whole o.call.answer ≡ false → p.code ≡ 0 → ⊥
  refused-code e = eqb-false p.code 0 (code_is o.call.answer p.code plan-codes.coded ∙ e)

  -- accepted, its puts are the puts of the list
  pub split-puts : p.code ≡ 0 → PutsTold (begun (plan_on a p)) qs
  split-puts zero =
      let k = plan-stands zero in
      puts-told qs (begun o) p.anchor p.plan k.0 k.1 m.1

  -- refused, they leave what it was given
  refused-puts : is_whole o.call.answer ≡ false → (last_anchor p.anchor qs ≡ p.anchor) × (last_card p.left qs ≡ p.left)
  refused-puts e = none_moves qs p.anchor p.plan p.left m.1 (m.2 (refused-code e))

  pub split-stands : Stands (last_anchor p.anchor qs) (split_outcome (plan_on a p) (put_steps qs)).anchor
  split-stands = go (is_whole o.call.answer) refl
    where
      go : (b : Bool) → is_whole o.call.answer ≡ b → Stands (last_anchor p.anchor qs) (cond b (finished o (put_steps qs)) o.call).anchor
      go true e =
          let zero = accepted-code e in
          last-anchor qs (begun o) p.anchor (plan-stands zero).0 (split-puts zero)
      go false e =
          let k = plan-refused s p.card p.room p.index p.block p.ranges p.buffer p.code p.anchor p.plan p.left p.lent p.messages
          m.0.says (refused-code e) in
          subst (λ (l : List ℕ). Stands l o.call.anchor) (sym ((refused-puts e).0 ∙ k.0))
          (subst (Stands s) (sym (refused-anchor (cmac_of a.key) a p.card p.index p.block p.ranges e)) stands)

  split-left : last_card p.left qs ≡ (split_outcome (plan_on a p) (put_steps qs)).card
  split-left = go (is_whole o.call.answer) refl
    where
      go : (b : Bool) → is_whole o.call.answer ≡ b → last_card p.left qs ≡ (cond b (finished o (put_steps qs)) o.call).card
      go true e = ap (λ (l : List ℕ). last_card l qs) plan-codes.left ∙ last-card qs (begun o) (split-puts (accepted-code e))
      go false e = (refused-puts e).1 ∙ plan-codes.left

  -- what was answered and left is what the list has
  pub split-codes : Codes (split_outcome (plan_on a p) (put_steps qs)) p.code
      (anchor_of (last_anchor p.anchor qs)) (last_card p.left qs) p.lent
  split-codes =
      record {
        coded = plan-codes.coded ∙ ap code_of (sym (split-same o (put_steps qs)).0);
        anchored = split-stands.is;
        left = split-left;
        filled = plan-codes.filled ∙ sym (split-same o (put_steps qs)).1;
      }

  -- where every card was as the step before left it, so it is in the list
  pub split-untouched : p.code ≡ 0 → PutsUntouched p.left qs
      → EachPut PutUntouched (begun (plan_on a p)) (put_steps qs)
  split-untouched zero u =
      puts-untouched qs (begun o) (split-puts zero) (subst (λ (l : List ℕ). PutsUntouched l qs) plan-codes.left u)

  -- the anchor's bytes in the end, accepted
  pub split-bytes : p.code ≡ 0
      → (last_anchor p.anchor qs ≡ p.anchor) ⊎ (last_anchor p.anchor qs ≡ with_root p.anchor (plan_on a p).plan.root.0)
  split-bytes zero =
      let k = plan-stands zero in
      puts-bytes qs (begun o) p.anchor p.anchor p.plan o.plan.root.0 k.0 k.1 refl m.1 (inl refl)
