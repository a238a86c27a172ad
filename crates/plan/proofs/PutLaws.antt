-- What a put does to a plan that goes on: refused it changes nothing, accepted it fills one place more.
use mathlib.Core.Path.{◌≡◌, refl, sym, ap, subst, ◌∙◌}
use mathlib.Core.Bool.{Bool, true, false, not, cond}
use mathlib.Core.List.{List, [], ◌∷◌}
use mathlib.Core.Logic.{◌⊎◌, inl, inr, ⊎_elim}
use mathlib.Core.Option.{Option, none, some}
use Prim.Native.Nat.{ℕ, ◌+◌, ◌≤◌}
use native.Mathlib.Omega.{arith}
use borrow.Author.Tests.{not-false}
use lib.ListN.{length}
use lib.Seq.{sets}
use Rattle.words.specs.Bytes.{part}
use Rattle.tree.specs.Layout.{IsNode, size, offset, label, tag}
use Rattle.tree.specs.Limits.{first_failing}
use Rattle.tree.specs.Answer.{is_whole}
use Rattle.tree.specs.Calls.{check, first_limits, limits, verdict, rooted}
use Rattle.tree.specs.declared.Anchor.{Anchor}
use Rattle.tree.specs.declared.Refusal.{Refusal}
use Rattle.tree.specs.declared.Refusal.TheVariants.{NotAwaited}
use Rattle.tree.specs.Answer.{Answer}
use Rattle.tree.specs.Answer.{Whole, Wrong, Refused}
use Rattle.tree.proofs.ByteLaws.{part-sets-apart}
use Rattle.tree.proofs.LayoutLaws.{few-leaves, entry-apart, entry-fits}
use Rattle.tree.proofs.LimitLaws.{no-limits, stop, stop-first, skip_first, passed-both, passes, pass, Sound, first-passed, pass_all}
use Rattle.tree.proofs.CallLaws.{verdict-whole}
use Rattle.plan.specs.Places.{awaits, fill, full}
use Rattle.plan.specs.Split.{Given, no_plan, place_limit, put_answer, Put, put_done, put_settled, put}
use Rattle.plan.specs.Puts.{PutStep, Going, after_put, after_all_puts, Placed, EachPut, PutUntouched, PutRight}
use Rattle.plan.specs.declared.Plan.{Plan}
use Rattle.plan.proofs.PlaceLaws.{Awaited, awaited, is-awaited, awaited-not-full, plan-node}
use Rattle.plan.proofs.StoreLaws.{part-sets}
use Rattle.plan.proofs.LaidLaws.{label-off-tag}

-- anchor, plan and card as they were
pub record Unchanged (a : Anchor) (p : Plan) (card : List ℕ) (o : Put) : Type 0 where
  pub anchor-same : o.anchor ≡ a
  pub plan-same : o.plan ≡ p
  pub card-same : o.card ≡ card

module _ (a : Anchor) (p : Plan) (card : List ℕ) (u : ℕ) where
  -- accepted exactly where limits 1 to 3 are passed and the plan waits for the node
  pub put_in : put_answer a p card u ≡ Whole → Sound a card × Awaited a.depth p u
  unfolding put_answer
  put_in e =
      let both = passed-both (first_limits a (length card)) (place_limit a.depth p u ∷ []) (verdict-whole _ none e).0 in
      let last = passes (place_limit a.depth p u) [] both.1 in
      (first-passed a card both.0, awaited a.depth p u (not-false (awaits a.depth p u) last.0))

  -- a check has these limits alone
  pass-first : Sound a card → first_failing (first_limits a (length card)) ≡ none
  unfolding limits
  pass-first s = (passed-both (first_limits a (length card)) [] (pass_all a card check s)).0

  pub put-accept : Sound a card → Awaited a.depth p u → put_answer a p card u ≡ Whole
  unfolding put_answer
  put-accept s h =
      ap (λ (r : Option Refusal). verdict r none)
      (skip_first (first_limits a (length card)) (place_limit a.depth p u ∷ []) (pass-first s)
      ∙ pass (place_limit a.depth p u) [] (ap not (is-awaited a.depth p u h)) no-limits)

  -- a full plan takes no tag

  -- 1, 2 and 3 come first, and behind them is 9
  pub put_first : (r : Refusal) → first_failing (first_limits a (length card)) ≡ some r → put_answer a p card u ≡ Refused r
  unfolding put_answer
  put_first r e =
      ap (λ (s : Option Refusal). verdict s none) (stop-first (first_limits a (length card)) (place_limit a.depth p u ∷ []) r e)

  pub put-nine : Sound a card → awaits a.depth p u ≡ false → put_answer a p card u ≡ Refused NotAwaited
  unfolding put_answer
  put-nine s e =
      ap (λ (r : Option Refusal). verdict r none)
      (skip_first (first_limits a (length card)) (place_limit a.depth p u ∷ []) (pass-first s)
      ∙ stop (place_limit a.depth p u) [] (ap not e))

  settled-answer : (x : List ℕ) (o : Answer) → (put_settled o a p card u x).answer ≡ o
  settled-answer x Whole = refl
  settled-answer x (Wrong w) = refl
  settled-answer x (Refused r) = refl

  pub put-answer : (x : List ℕ) → (put a p card u x).answer ≡ put_answer a p card u
  unfolding put
  put-answer x = settled-answer x (put_answer a p card u)

  settled-unchanged : (x : List ℕ) (o : Answer) → (o ≡ Whole → ⊥) → Unchanged a p card (put_settled o a p card u x)
  settled-unchanged x Whole d = absurd (d refl)
  settled-unchanged x (Wrong w) d = record { anchor-same = refl; plan-same = refl; card-same = refl }
  settled-unchanged x (Refused r) d = record { anchor-same = refl; plan-same = refl; card-same = refl }

  pub put-unchanged : (x : List ℕ) → (put_answer a p card u ≡ Whole → ⊥) → Unchanged a p card (put a p card u x)
  unfolding put
  put-unchanged x d = settled-unchanged x (put_answer a p card u) d

  -- accepted, it puts its tag at its node, and that is all that it does to the card
  module _ (x : List ℕ) (x16 : length x ≡ 16) (whole : put_answer a p card u ≡ Whole) where
    abbrev n : ℕ
    n = a.depth

    left_is : (put a p card u x).card ≡ sets card (offset n u + size n u) x
    unfolding put
    left_is = ap (λ (o : Answer). (put_settled o a p card u x).card) whole

    node : IsNode n u
    node = let w = (put_in whole).1 in plan-node n p.index.0 w.inside u w.among

    pub put-tag : tag n (put a p card u x).card u ≡ x
    unfolding tag
    put-tag =
        let o = offset n u + size n u in
        ap (λ (c : List ℕ). part c o 16) left_is ∙ ap (part (sets card o x) o) (sym x16)
        ∙ part-sets x card o (omega (arith, (put_in whole).0.full, entry-fits n u node))

    pub put-labels : (w : ℕ) → IsNode n w → label n (put a p card u x).card w ≡ label n card w
    unfolding label
    put-labels w h =
        ap (λ (c : List ℕ). part c (offset n w) (size n w)) left_is
        ∙ part-sets-apart x card (offset n u + size n u) (offset n w) (size n w)
        (⊎_elim (λ (l : offset n w + size n w ≤ offset n u + size n u). inl l)
        (λ (g : offset n u + size n u + 16 ≤ offset n w). inr (omega arith)) (label-off-tag n w u h node))

    pub put-others : (w : ℕ) → IsNode n w → (w ≡ u → ⊥) → tag n (put a p card u x).card w ≡ tag n card w
    unfolding tag
    put-others w h d =
        ap (λ (c : List ℕ). part c (offset n w + size n w) 16) left_is
        ∙ part-sets-apart x card (offset n u + size n u) (offset n w + size n w) 16
        (⊎_elim (λ (l : offset n w + (size n w + 16) ≤ offset n u). inl (omega arith))
        (λ (g : offset n u + (size n u + 16) ≤ offset n w). inr (omega arith)) (entry-apart n w u h node d))

-- what a refused plan hands out takes no tag
pub no-plan-takes : (a : Anchor) (card : List ℕ) (u : ℕ) → put_answer a no_plan card u ≡ Whole → ⊥
no-plan-takes a card u e =
    let k = put_in a no_plan card u e in
    let l = few-leaves a.depth k.0.shallow in
    omega (arith, k.1.inside)

-- The steps

-- what is known after an accepted put under the anchor a
abbrev pub went : Anchor → Plan → PutStep → Going
went a p x =
    let o = put_done a p x.card x.node x.tag in
    record { anchor = o.anchor; plan = o.plan; left = o.card }

-- a put leaves what is known as it was, or is taken
pub data PutMove (g : Going) (x : PutStep) : Type 0 where
  stood : (Placed g x → ⊥) → after_put g x ≡ g → PutMove g x
  took : put_answer g.anchor g.plan x.card x.node ≡ Whole → after_put g x ≡ went g.anchor g.plan x → PutMove g x

pub put-move : (g : Going) (x : PutStep) → PutMove g x
unfolding after_put put
put-move g x = go (put_answer g.anchor g.plan x.card x.node) refl
  where
    state : Answer → Going
    state o =
        let s = put_settled o g.anchor g.plan x.card x.node x.tag in
        record { anchor = s.anchor; plan = s.plan; left = cond (is_whole s.answer) s.card g.left }

    not-placed : (o : Answer) → put_answer g.anchor g.plan x.card x.node ≡ o → (o ≡ Whole → ⊥) → Placed g x → ⊥
    not-placed o e d q = d (sym e ∙ sym (put-answer g.anchor g.plan x.card x.node x.tag) ∙ q)

    go : (o : Answer) → put_answer g.anchor g.plan x.card x.node ≡ o → PutMove g x
    go Whole e = took e (ap state e)
    go (Wrong w) e = stood (not-placed (Wrong w) e (λ q. let z : ◌≡◌ {A = ℕ} 0 1 = cc in omega arith)) (ap state e)
    go (Refused r) e = stood (not-placed (Refused r) e (λ q. let z : ◌≡◌ {A = ℕ} 0 1 = cc in omega arith)) (ap state e)

-- Refused puts may stand anywhere, with any tag and any card.

pub refused-stays : (g : Going) (x : PutStep) → (Placed g x → ⊥) → after_put g x ≡ g
refused-stays g x d = go (put-move g x)
  where
    go : PutMove g x → after_put g x ≡ g
    go (stood k e) = e
    go (took o e) = absurd (d (put-answer g.anchor g.plan x.card x.node x.tag ∙ o))

pub refused-right : (F : List ℕ → List ℕ) (ms : List Given) (g : Going) (x : PutStep) (xs : List PutStep) → (Placed g x → ⊥)
    → EachPut (PutRight F ms) g xs → EachPut (PutRight F ms) g (x ∷ xs)
refused-right F ms g x xs d h = (λ q. absurd (d q), subst (λ (k : Going). EachPut (PutRight F ms) k xs) (sym (refused-stays g x d)) h)

pub refused-untouched : (g : Going) (x : PutStep) (xs : List PutStep) → (Placed g x → ⊥) → EachPut PutUntouched g xs
    → EachPut PutUntouched g (x ∷ xs)
refused-untouched g x xs d h = (λ q. absurd (d q), subst (λ (k : Going). EachPut PutUntouched k xs) (sym (refused-stays g x d)) h)

-- No put changes key or depth.

abbrev SameKey : Anchor → Anchor → Type 0
SameKey b a = (b.key ≡ a.key) × (b.depth ≡ a.depth)

done-key : (a : Anchor) (p : Plan) (card : List ℕ) (u : ℕ) (x : List ℕ) → SameKey (put_done a p card u x).anchor a
done-key a p card u x = go (full a.depth (fill a.depth p u))
  where
    go : (b : Bool) → SameKey (cond b (rooted a p.root.0) a) a
    go true = (refl, refl)
    go false = (refl, refl)

put-key : (g : Going) (x : PutStep) → SameKey (after_put g x).anchor g.anchor
put-key g x = go (put-move g x)
  where
    go : PutMove g x → SameKey (after_put g x).anchor g.anchor
    go (stood d e) = (ap (λ (h : Going). h.anchor.key) e, ap (λ (h : Going). h.anchor.depth) e)
    go (took o e) =
        let k = done-key g.anchor g.plan x.card x.node x.tag in
        (ap (λ (h : Going). h.anchor.key) e ∙ k.0, ap (λ (h : Going). h.anchor.depth) e ∙ k.1)

pub puts-key : (xs : List PutStep) (g : Going)
    → ((after_all_puts g xs).anchor.key ≡ g.anchor.key) × ((after_all_puts g xs).anchor.depth ≡ g.anchor.depth)
unfolding after_all_puts
puts-key [] g = (refl, refl)
puts-key (x ∷ xs) g =
    let k = puts-key xs (after_put g x) in
    let j = put-key g x in
    (k.0 ∙ j.0, k.1 ∙ j.1)

-- What holds all along: block and new root nonce are the plan's, and the anchor is the new one exactly where every place is filled.
pub record Runs (a : Anchor) (i r : ℕ) (g : Going) : Type 0 where
  pub index_is : g.plan.index.0 ≡ i
  pub root_is : g.plan.root.0 ≡ r
  pub anchored : g.anchor ≡ cond (full a.depth g.plan) (rooted a r) a

module _ (a : Anchor) (i r : ℕ) where
  depth-of : (b : Bool) → (cond b (rooted a r) a).depth ≡ a.depth
  depth-of true = refl
  depth-of false = refl

  pub runs-depth : (g : Going) → Runs a i r g → g.anchor.depth ≡ a.depth
  runs-depth g k = ap (λ (b : Anchor). b.depth) k.anchored ∙ depth-of (full a.depth g.plan)

  -- a plan that waits for a tag goes on under the old anchor
  pub runs-old : (g : Going) → Runs a i r g → (u : ℕ) → Awaited a.depth g.plan u → g.anchor ≡ a
  runs-old g k u w = k.anchored ∙ ap (λ (b : Bool). cond b (rooted a r) a) (awaited-not-full a.depth g.plan u w)

  -- an accepted put
  pub record Takes (g : Going) (x : PutStep) : Type 0 where
    pub placed : Placed g x
    pub waits : Awaited a.depth g.plan x.node
    pub is : after_put g x ≡ went a g.plan x

  pub step : (g : Going) → Runs a i r g → (x : PutStep) → (after_put g x ≡ g) ⊎ Takes g x
  step g k x = go (put-move g x)
    where
      go : PutMove g x → (after_put g x ≡ g) ⊎ Takes g x
      go (stood d e) = inl e
      go (took o e) =
          let w = subst (λ (n : ℕ). Awaited n g.plan x.node) (runs-depth g k)
          (put_in g.anchor g.plan x.card x.node o).1 in
          inr (record {
            placed = put-answer g.anchor g.plan x.card x.node x.tag ∙ o;
            waits = w;
            is = e ∙ ap (λ (b : Anchor). went b g.plan x) (runs-old g k x.node w);
          })

  runs-went : (g : Going) → Runs a i r g → (x : PutStep) → Runs a i r (went a g.plan x)
  unfolding fill
  runs-went g k x =
      record {
        index_is = k.index_is;
        root_is = k.root_is;
        anchored = ap (λ (q : ℕ). cond (full a.depth (fill a.depth g.plan x.node)) (rooted a q) a) k.root_is;
      }

  pub runs-step : (g : Going) → Runs a i r g → (x : PutStep) → Runs a i r (after_put g x)
  runs-step g k x =
      ⊎_elim (λ (e : after_put g x ≡ g). subst (λ (h : Going). Runs a i r h) (sym e) k)
      (λ (t : Takes g x). subst (λ (h : Going). Runs a i r h) (sym t.is) (runs-went g k x)) (step g k x)

  pub runs-all : (xs : List PutStep) (g : Going) → Runs a i r g → Runs a i r (after_all_puts g xs)
  unfolding after_all_puts
  runs-all [] g k = k
  runs-all (x ∷ xs) g k = runs-all xs (after_put g x) (runs-step g k x)
