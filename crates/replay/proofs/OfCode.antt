-- Demand 3 of the code: every call that ran is a step of the list that the theorem speaks of, by the contracts alone.
use mathlib.Core.Path.{◌≡◌, refl, sym, ap, ap₂, subst, ◌∙◌}
use mathlib.Core.Bool.{Bool, true, false, cond}
use mathlib.Core.List.{List, [], ◌∷◌, ◌++◌, map}
use Prim.Native.Nat.{ℕ}
use native.Mathlib.Omega.{arith}
use lib.ListN.{length, drop}
use Rattle.cmac.specs.Cmac.{cmac_of}
use Rattle.tree.specs.Layout.{IsCard}
use Rattle.std.specs.Result.{result_unwrap_or}
use Rattle.tree.specs.Answer.{is_whole, answer_in, limited_in}
use Rattle.tree.specs.Calls.{read, write, check, wipe, formatted, outcome, format}
use Rattle.tree.specs.declared.Anchor.{Anchor}
use Rattle.tree.specs.Answer.{Answer}
use Rattle.tree.specs.Answer.{Whole}
use Rattle.tree.proofs.CallLaws.{format-in}
use Rattle.cmac.proofs.Laws.{length-cmac}
use Rattle.plan.specs.Split.{Planned, planned, no_plan, joined, put_answer}
use Rattle.plan.specs.Puts.{PutStep, Going, begun, after_put, after_all_puts}
use Rattle.plan.specs.declared.Plan.{Plan}
use Rattle.plan.proofs.PlanLaws.{plan-answer, planned-refused}
use Rattle.plan.proofs.PutLaws.{no-plan-takes, PutMove, stood, took, put-move}
use Rattle.calls.proofs.format.Reads as format-code
use Rattle.calls.proofs.read.Reads as read-code
use Rattle.calls.proofs.write.Reads as write-code
use Rattle.calls.proofs.check.Reads as check-code
use Rattle.calls.proofs.wipe.Reads as wipe-code
use Rattle.split.proofs.plan.Reads as plan-code
use Rattle.split.proofs.put_tag.Reads as put-code
use Rattle.recovery.proofs.write.Reads as attempt-code
use Rattle.replay.specs.Places.{Place}
use Rattle.cmac.specs.Traced.{subkeys_count, cmac_count}
use Rattle.journal.specs.Journal.{journal_of}
use Rattle.journal.specs.Journalled.{Journalled, journalled, Journals}
use Rattle.journal.proofs.JournalledLaws.{journalled-answer, journalled-done}
use Rattle.replay.specs.Run.{Fate, unheard, lost, stood, State, finished, split_outcome, anchor_after, attempt_outcome, start, result, next}
use Rattle.replay.specs.Run.{after}
use Rattle.replay.specs.Claim.{AllComplete}
use Rattle.replay.specs.Ran.{PlanRan, PutRan, AttemptRan, Ran, call, split, attempt, chip_anchor, step_of, steps, last_anchor, last_card, back_of, Tells, PutsMeet}
use Rattle.replay.specs.Ran.{PlanMeets, AttemptMeets, Meets, Formatted, History, Demand3Of}
use Rattle.replay.proofs.PlaceLaws.{first, later, no_place, at_places}
use Rattle.replay.proofs.Anchors.{next-key}
use Rattle.replay.proofs.Theorem.{demand3, unforged, afresh}

-- What a contract says of a call that returned: x is what it was given, r what it answered, e what it left. Where it answered an error,
-- the anchor and a put's plan are those that it was given, format's anchor has its key and depth, and a plan is one that waits for nothing.

pub format-ran : (κs : _) (x : _) (r : _) (e : _) → format-code.Learnt κs x r e
    → Formatted x.0 x.1.0 x.1.1.0.now (limited_in r)
    (result_unwrap_or r (formatted x.0 x.1.0)) e.1.1.0.now
format-ran κs x r e learnt = learnt

pub read-ran : (κs : _) (x : _) (r : _) (e : _) → read-code.Learnt κs x r e
    → Meets x.0 (call x.1.0.now (read x.1.1.0.0 x.1.1.1.0.now)
    (record { answer = answer_in r.value; count = r.count; anchor = x.0; card = x.1.0.now; lent = e.1.1.1.0.now }))
read-ran κs x r e learnt = learnt

pub write-ran : (κs : _) (x : _) (r : _) (e : _) → write-code.Learnt κs x r e
    → Meets x.0 (call x.1.0.now (write x.1.1.0.0 x.1.1.1.0.now x.1.1.1.1.0.now)
    (record {
      answer = answer_in r.value;
      count = r.count;
      anchor = result_unwrap_or r.value x.0;
      card = e.1.0.now;
      lent = e.1.1.1.1.0.now;
    }))
write-ran κs x r e learnt = learnt

pub check-ran : (κs : _) (x : _) (r : _) (e : _) → check-code.Learnt κs x r e
    → Meets x.0 (call x.1.0.now check
    (record { answer = answer_in r.value; count = r.count; anchor = x.0; card = x.1.0.now; lent = [] }))
check-ran κs x r e learnt = learnt

pub wipe-ran : (κs : _) (x : _) (r : _) (e : _) → wipe-code.Learnt κs x r e
    → Meets x.0 (call x.1.0.now wipe
    (record { answer = answer_in r.value; count = r.count; anchor = result_unwrap_or r.value x.0; card = e.1.0.now; lent = [] }))
wipe-ran κs x r e learnt = learnt

pub plan-ran : (κs : _) (x : _) (r : _) (e : _) → plan-code.Learnt κs x r e
    → PlanMeets x.0 (record {
      card = x.1.0.now;
      index = x.1.1.0.0;
      block = x.1.1.1.0.now;
      ranges = x.1.1.1.1.0.now;
      buffer = x.1.1.1.1.1.0.now;
      back = record {
        answer = answer_in r.value;
        count = r.count;
        anchor = (result_unwrap_or r.value (record { anchor = x.0; plan = no_plan })).anchor;
        card = e.1.0.now;
        lent = e.1.1.1.1.0.now;
      };
      plan = (result_unwrap_or r.value (record { anchor = x.0; plan = no_plan })).plan;
      messages = e.1.1.1.1.1.0.now;
    })
plan-ran κs x r e learnt = learnt

pub put-ran : (κs : _) (x : _) (r : _) (e : _) → put-code.Learnt κs x r e
    → PutsMeet x.0 x.1.0 (record {
      step = record { card = x.1.1.0.now; node = x.1.1.1.0.0; tag = x.1.1.1.1.0 };
      answer = limited_in r;
      anchor = (result_unwrap_or r (record { anchor = x.0; plan = x.1.0 })).anchor;
      plan = (result_unwrap_or r (record { anchor = x.0; plan = x.1.0 })).plan;
      card = e.1.1.0.now;
    } ∷ [])
put-ran κs x r e learnt = (learnt, tt)

-- however far it came
pub attempt-ran : (κs : _) (x : _) (r : _) (e : _) → attempt-code.Learnt κs x r e → (fate : Fate)
    → AttemptMeets x.0 (record {
      card = x.1.0.now;
      index = x.1.1.0.0;
      block = x.1.1.1.0.now;
      ranges = x.1.1.1.1.0.now;
      journal = x.1.1.1.1.1.0.now;
      back = record {
        answer = answer_in r.value;
        count = r.count;
        anchor = (result_unwrap_or r.value (record { raised = x.0; anchor = x.0 })).anchor;
        card = e.1.0.now;
        lent = e.1.1.1.1.0.now;
      };
      raised = (result_unwrap_or r.value (record { raised = x.0; anchor = x.0 })).raised;
      filled = e.1.1.1.1.1.0.now;
      fate = fate;
    })
attempt-ran κs x r e learnt fate = learnt

-- A plan with its puts gave back what a split write is in the list.

-- what is known after puts that ran
abbrev last_plan : Plan → List PutRan → Plan
last_plan p [] = p
last_plan p (q ∷ qs) = last_plan q.plan qs

going-same : {a b : Anchor} {p q : Plan} {l m : List ℕ} → a ≡ b → p ≡ q → l ≡ m
    → ◌≡◌ {A = Going} (record { anchor = a; plan = p; left = l }) (record { anchor = b; plan = q; left = m })
going-same e f g = cc

puts-follow : (qs : List PutRan) (g : Going) → PutsMeet g.anchor g.plan qs
    → after_all_puts g (map (λ (q : PutRan). q.step) qs)
    ≡ record { anchor = last_anchor g.anchor qs; plan = last_plan g.plan qs; left = last_card g.left qs }
unfolding after_put after_all_puts
puts-follow [] g h = refl
puts-follow (q ∷ qs) g h =
    let z : Going = record { anchor = q.anchor; plan = q.plan; left = cond (is_whole q.answer) q.card g.left } in
    ap (λ (w : Going). after_all_puts w (map (λ (q : PutRan). q.step) qs)) (one q g (h.0, tt)) ∙ puts-follow qs z h.1
  where
    one : (q : PutRan) (g : Going) → PutsMeet g.anchor g.plan (q ∷ [])
        → after_put g q.step ≡ record { anchor = q.anchor; plan = q.plan; left = cond (is_whole q.answer) q.card g.left }
    one q g h =
        let k = h.0 in
        going-same (sym k.anchored) (sym k.planned)
        (ap₂ (λ (o : Answer) (l : List ℕ). cond (is_whole o) l g.left) (sym k.answered) (sym k.left))

-- a refused plan takes no tag
none-taken : (xs : List PutStep) (g : Going) → g.plan ≡ no_plan → after_all_puts g xs ≡ g
unfolding after_all_puts
none-taken [] g e = refl
none-taken (x ∷ xs) g e = ap (λ (w : Going). after_all_puts w xs) (go (put-move g x)) ∙ none-taken xs g e
  where
    go : PutMove g x → after_put g x ≡ g
    go (stood d q) = q
    go (took w q) = absurd (no-plan-takes g.anchor x.card x.node
        (subst (λ (p : Plan). put_answer g.anchor p x.card x.node ≡ Whole) e w))

module _ (key : List ℕ) where
  abbrev F : List ℕ → List ℕ
  F = cmac_of key

  -- of the plan
  module _ (a : Anchor) (e : a.key ≡ key) (p : PlanRan) (qs : List PutRan) (h : Meets a (split p qs)) where
    abbrev o : Planned
    o = planned F a p.card p.index p.block p.ranges

    abbrev puts : List PutStep
    puts = map (λ (q : PutRan). q.step) qs

    reported : Tells key (planned F a p.card p.index p.block p.ranges).call p.back
    reported =
        subst
        (λ (m : List ℕ). Tells m (planned (cmac_of m) a p.card p.index p.block p.ranges).call p.back)
        e h.0.reports

    handed : p.plan ≡ (planned F a p.card p.index p.block p.ranges).plan
    handed = subst (λ (m : List ℕ). p.plan ≡ (planned (cmac_of m) a p.card p.index p.block p.ranges).plan) e h.0.planned

    -- and of its puts
    followed : after_all_puts (begun o) puts
        ≡ record { anchor = last_anchor p.back.anchor qs; plan = last_plan p.plan qs; left = last_card p.back.card qs }
    followed =
        let g : Going = record { anchor = p.back.anchor; plan = p.plan; left = p.back.card } in
        ap (λ (w : Going). after_all_puts w puts) (going-same (sym reported.gives.anchored) (sym handed) (sym reported.gives.left))
        ∙ puts-follow qs g h.1

    -- a refused plan's leave everything
    refused-puts : is_whole o.call.answer ≡ false → after_all_puts (begun o) puts ≡ begun o
    refused-puts f =
        none-taken puts (begun o)
        (ap (λ (q : Planned). q.plan) (planned-refused F a p.card p.index p.block p.ranges
        (λ w.
        let k = sym (ap is_whole (plan-answer F a p.card p.index p.block p.ranges ∙ w)) ∙ f in
        let z : ◌≡◌ {A = ℕ} 0 1 = cc in omega arith)))

    split-tells : Tells key (split_outcome o puts) (back_of a (split p qs))
    split-tells = go (is_whole o.call.answer) refl
      where
        go : (b : Bool) → is_whole o.call.answer ≡ b → Tells key (cond b (finished o puts) o.call) (back_of a (split p qs))
        go true f =
            record {
              gives = record {
                answered = reported.gives.answered;
                anchored = sym (ap (λ (g : Going). g.anchor) followed);
                left = sym (ap (λ (g : Going). g.left) followed);
                filled = reported.gives.filled;
              };
              counted = reported.counted;
            }
        go false f =
            record {
              gives = record {
                answered = reported.gives.answered;
                anchored = sym (ap (λ (g : Going). g.anchor) followed) ∙ ap (λ (g : Going). g.anchor) (refused-puts f);
                left = sym (ap (λ (g : Going). g.left) followed) ∙ ap (λ (g : Going). g.left) (refused-puts f);
                filled = reported.gives.filled;
              };
              counted = reported.counted;
            }

  -- of an attempt
  module _ (a : Anchor) (e : a.key ≡ key) (t : AttemptRan) (h : AttemptMeets a t) where
    abbrev j : Journalled
    j = journalled F a t.card t.index t.block t.ranges t.journal

    keyed-journal : Journals (subkeys_count key) (cmac_count key) (journalled F a t.card t.index t.block t.ranges t.journal)
        t.back.answer t.back.count t.raised t.back.anchor t.back.card t.back.lent t.filled
    keyed-journal =
        subst (λ (m : List ℕ). Journals (subkeys_count m) (cmac_count m) (journalled (cmac_of m) a t.card t.index t.block t.ranges t.journal)
        t.back.answer t.back.count t.raised t.back.anchor t.back.card t.back.lent t.filled) e h

    chip-same : (fate : Fate) → chip_anchor a t fate ≡ anchor_after a j fate
    chip-same unheard = refl
    chip-same lost = keyed-journal.raises
    chip-same stood = keyed-journal.reports.gives.anchored

    attempt-tells : Tells key (attempt_outcome a j t.fate) (back_of a (attempt t))
    attempt-tells =
        let k = keyed-journal.reports in
        record {
          gives = record {
            answered = k.gives.answered;
            anchored = chip-same t.fate;
            left = k.gives.left;
            filled = k.gives.filled;
          };
          counted = k.counted;
        }

    -- accepted, it filled the journal
    attempt-journals : t.back.answer ≡ Whole → t.filled ≡ journal_of F a.depth t.back.anchor.root.0 t.index t.back.card
    attempt-journals w =
        let k = keyed-journal in
        let g = k.reports.gives in
        let v = sym (journalled-answer F a t.card t.index t.block t.ranges t.journal) ∙ sym g.answered ∙ w in
        let d = journalled-done F a t.card t.index t.block t.ranges t.journal v in
        k.journals ∙ ap (λ (q : Journalled). q.journal) d
        ∙ ap₂ (λ (b : Anchor) (l : List ℕ). journal_of F a.depth b.root.0 t.index l)
        (sym (g.anchored ∙ ap (λ (q : Journalled). q.call.anchor) d)) (sym (g.left ∙ ap (λ (q : Journalled). q.call.card) d))

  -- Each step of a history is one of the list: what it answered and left is the outcome that the list has at its place.

  pub step-tells : (s : State) → s.store.anchor.key ≡ key → (r : Ran) → Meets s.store.anchor r
      → Tells key (result F s.store (step_of r)) (back_of s.store.anchor r)
  step-tells s e (call card c back) h =
      subst (λ (m : List ℕ). Tells m (outcome (cmac_of m) s.store.anchor card c) back) e h
  step-tells s e (split p qs) h = split-tells s.store.anchor e p qs h
  step-tells s e (attempt t) h = attempt-tells s.store.anchor e t h

  -- what its contract says of it, after the steps before it
  abbrev Met : State → List Ran → Ran → Type 0
  Met s before r =
      let a = (after F s (steps before)).store.anchor in
      (a.key ≡ key) × Meets a r

  follows : (rs : List Ran) (s : State) → AllComplete F s (steps rs) → s.store.anchor.key ≡ key → History s.store.anchor rs
      → (p : Place rs) → Met s p.before p.item
  unfolding next after
  follows [] s complete k h = λ p. absurd (no_place p)
  follows (r ∷ rs) s complete k h =
      let done = complete (first (step_of r) (steps rs)) in
      at_places (Met s) r rs (k, h.0)
      (follows rs (next F s (step_of r)) (λ p. complete (later (step_of r) p)) ((next-key F (length-cmac key) s (step_of r) done).0 ∙ k)
      (subst (λ (a : Anchor). History a rs) (moved r s (step-tells s k r h.0)) h.1))
    where
      moved : (r : Ran) (s : State) → Tells key (result F s.store (step_of r)) (back_of s.store.anchor r)
          → (back_of s.store.anchor r).anchor ≡ (next F s (step_of r)).store.anchor
      moved r s here = here.gives.anchored

  -- a plan's messages
  plan-gives : (a : Anchor) → a.key ≡ key → (q : PlanRan) (qs : List PutRan) → Meets a (split q qs) →
      let given = joined (planned F a q.card q.index q.block q.ranges).messages in
      q.messages ≡ given ++ drop (length given) q.buffer
  plan-gives a e q qs h =
      subst
      (λ (m : List ℕ).
      let given = joined (planned (cmac_of m) a q.card q.index q.block q.ranges).messages in
      q.messages ≡ given ++ drop (length given) q.buffer)
      e h.0.gave

module _ (key : List ℕ) (n : ℕ) (card : List ℕ) (a : Anchor) (left : List ℕ) (made : Formatted key n card Whole a left) (rs : List Ran)
    (ran : History a rs) (complete : AllComplete (cmac_of key) (start (cmac_of key) key n card) (steps rs)) where
  accepted : IsCard n card
  unfolding format
  accepted = format-in n card (sym made.answered)

  begun-so : a ≡ (start (cmac_of key) key n card).store.anchor
  unfolding start
  begun-so = made.anchored

  keyed : (start (cmac_of key) key n card).store.anchor.key ≡ key
  unfolding start format
  keyed = refl

  met : (p : Place rs) → Met key (start (cmac_of key) key n card) p.before p.item
  met = follows key rs (start (cmac_of key) key n card) complete keyed (subst (λ (b : Anchor). History b rs) begun-so ran)

  pub demand3-of-code : Demand3Of key n card rs
  demand3-of-code =
      record {
        demand = demand3 key n accepted.deep accepted.shallow card accepted.full (steps rs) complete;
        unforged = unforged key n accepted.deep accepted.shallow card accepted.full (steps rs) complete;
        afresh = afresh key n accepted.deep accepted.shallow card accepted.full (steps rs) complete;
        gave = λ p q qs e.
            let a = (after (cmac_of key) (start (cmac_of key) key n card) (steps p.before)).store.anchor in
            plan-gives key a (met p).0 q qs (subst (λ (r : Ran). Meets a r) e (met p).1);
        journals = λ p t e w.
            let a = (after (cmac_of key) (start (cmac_of key) key n card) (steps p.before)).store.anchor in
            attempt-journals key a (met p).0 t (subst (λ (r : Ran). Meets a r) e (met p).1) w;
        told = λ p. step-tells key (after (cmac_of key) (start (cmac_of key) key n card) (steps p.before)) (met p).0 p.item (met p).1;
      }
