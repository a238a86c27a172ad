-- A plan whose puts fill it is one write for demand 3, and so is an attempt that stood; what a lost one leaves.
use mathlib.Core.Path.{◌≡◌, refl, sym, ap, subst, ◌∙◌}
use mathlib.Core.Bool.{Bool, true, false, cond}
use mathlib.Core.List.Memᴰ
use mathlib.Core.List.{List, Memᴰ}
use mathlib.Core.Logic.{◌⊎◌, inl, inr, ⊎_elim}
use Prim.Native.Nat.{ℕ}
use lib.ListN.{length}
use Rattle.tree.specs.Answer.{is_whole}
use Rattle.tree.specs.Calls.{write, Outcome, answer_of}
use Rattle.tree.specs.declared.Anchor.{Anchor}
use Rattle.tree.specs.Answer.{Whole}
use Rattle.tree.proofs.CallLaws.{outcome-answer, outcome-done}
use Rattle.plan.specs.Split.{Planned, planned}
use Rattle.plan.specs.Puts.{PutStep, Going, begun, after_all_puts, EachPut, PutUntouched}
use Rattle.plan.proofs.PlanLaws.{plan-answer, planned-refused, planned-lent}
use Rattle.journal.specs.Journalled.{Journalled}
use Rattle.journal.proofs.JournalledLaws.{journalled-answer, journalled-done, write-whole}
use Rattle.replay.specs.Run.{Fate, stood, Step, call, split, attempt, State, fills, finished, result, next}
use Rattle.replay.specs.Claim.{Complete}
use Rattle.replay.specs.Tagged.{CallTags, JournalTags, StepTags}
use Rattle.replay.specs.OneWrite.{Alike, OneWrite, LostWrite, LostPlan, StoodWrite, OneAttempt}
use Rattle.replay.proofs.Moves.{split-tagged, attempt-tags}
use Rattle.replay.proofs.Moves.{whole-or-not, step-refused, Wrote, Lost, call-wrote, call-left, split-wrote, split-leaves, split-lost}
use Rattle.replay.proofs.Moves.{split-left, attempt-left}
use Rattle.replay.proofs.Moves.{split-answer}
use Rattle.replay.proofs.Moves.{attempt-unheard, attempt-refused, attempt-wrote, attempt-lost}

module _ (F : List ℕ → List ℕ) (F16 : (m : List ℕ) → length (F m) ≡ 16) (s : State) where
  abbrev a : Anchor
  a = s.store.anchor

  -- writes that stand, of one block, move alike
  wrote-alike : {x y : Step} {i : ℕ} {block ranges : List ℕ} → Wrote F s x i block ranges → Wrote F s y i block ranges
      → (result F s.store x).lent ≡ (result F s.store y).lent → Alike F s x y
  wrote-alike p q e =
      record {
        answered = p.tags.accepted ∙ sym q.tags.accepted;
        listed = e;
        anchored = ap (λ (z : State). z.store.anchor) p.is ∙ sym (ap (λ (z : State). z.store.anchor) q.is);
        moved = ap (λ (z : State). z.store.array) p.is ∙ sym (ap (λ (z : State). z.store.array) q.is);
      }

  -- a message tagged after one is tagged after the other, if its new ones are
  tags-also : {y z : Step} {i : ℕ} {block ranges : List ℕ} (P : List ℕ → Type 0) (p : Wrote F s y i block ranges)
      (q : Wrote F s z i block ranges) (m : List ℕ) → (Memᴰ m p.new → P m ⊎ Memᴰ m q.new) → Memᴰ m (next F s y).tagged
      → P m ⊎ Memᴰ m (next F s z).tagged
  tags-also P p q m f h =
      ⊎_elim
      (λ (l : Memᴰ m p.new).
      ⊎_elim (λ (k : P m). inl k)
      (λ (k : Memᴰ m q.new). inr (subst (λ (r : State). Memᴰ m r.tagged) (sym q.is) (Memᴰ.append_left s.tagged k))) (f l))
      (λ (l : Memᴰ m s.tagged). inr (subst (λ (r : State). Memᴰ m r.tagged) (sym q.is) (Memᴰ.append_right q.new l)))
      (Memᴰ.append_cases p.new (subst (λ (r : State). Memᴰ m r.tagged) p.is h))

  -- what a lost one leaves
  pub lost-leaves : {x : Step} {i : ℕ} {block ranges : List ℕ} → Lost F s x i block ranges → LostWrite F s x
  lost-leaves {x} w =
      record {
        anchored = ap (λ (z : State). z.store.anchor) w.is;
        array-kept = ap (λ (z : State). z.store.array) w.is;
        left-kept = ap (λ (z : State). z.store.left) w.is;
        tagged = λ m h.
            ⊎_elim (λ (k : Memᴰ m w.new). inl (w.tags.tells m k)) (λ (k : Memᴰ m s.tagged). inr k)
            (Memᴰ.append_cases w.new (subst (λ (z : State). Memᴰ m z.tagged) w.is h));
        all-tagged = λ m o.
            subst (λ (z : State). Memᴰ m z.tagged) (sym w.is)
            (⊎_elim (λ (k : StepTags F s.store.anchor x m). Memᴰ.append_left s.tagged (w.tags.names m k))
            (λ (k : Memᴰ m s.tagged). Memᴰ.append_right w.new k) o);
      }

  module _ (card : List ℕ) (i : ℕ) (block ranges : List ℕ) where
    abbrev w : Step
    w = call card (write i block ranges)

    -- A plan with its puts

    module _ (puts : List PutStep) where
      abbrev o : Planned
      o = planned F a card i block ranges

      abbrev g : Going
      g = after_all_puts (begun o) puts

      abbrev x : Step
      x = split card i block ranges puts

      answer-same : (result F s.store x).answer ≡ (result F s.store w).answer
      answer-same =
          split-answer o puts ∙ plan-answer F a card i block ranges ∙ sym (outcome-answer F a card (write i block ranges))

      -- whether accepted or not, the ranges are the plan's
      lent_is : (result F s.store x).lent ≡ o.call.lent
      lent_is = go (is_whole o.call.answer)
        where
          go : (b : Bool) → (cond b (finished o puts) o.call).lent ≡ o.call.lent
          go true = refl
          go false = refl

      -- accepted, and filled

      module _ (e : answer_of F s.store.anchor card (write i block ranges) ≡ Whole) (f : fills o puts ≡ true)
          (k : Complete F s.store x) where
        abbrev split-is : Wrote F s x i block ranges
        split-is = split-wrote F F16 s card i block ranges e puts k f

        abbrev call-is : Wrote F s w i block ranges
        call-is = call-wrote F F16 s card i block ranges e

        left_after : (next F s x).store.left ≡ g.left
        left_after = ap (λ (z : State). z.store.left) split-is.is ∙ split-leaves F F16 s card i block ranges e puts k f

        accepted-one : OneWrite F s card i block ranges puts
        accepted-one =
            let same = λ (m : List ℕ) (q : ⊥ ⊎ Memᴰ m (next F s w).tagged). ⊎_elim (λ (z : ⊥). absurd z) (λ (h : Memᴰ m (next F s w).tagged). h) q in
            record {
              alike = wrote-alike split-is call-is
                  (lent_is ∙ planned-lent F a card i block ranges e);
              tagged = λ m h.
                  same m (tags-also (λ l. ⊥) split-is call-is m (λ l. inr (call-is.tags.names m (split-is.tags.tells m l))) h);
              all-tagged = λ m h.
                  ⊎_elim (λ (z : ⊥). absurd z) (λ (h : Memᴰ m (next F s x).tagged). h)
                  (tags-also (λ l. ⊥) call-is split-is m (λ l. inr (split-is.tags.names m (call-is.tags.tells m l))) h);
              after_puts = λ v. left_after;
              left = λ untouched.
                  left_after ∙ filled-left untouched ∙ sym (ap (λ (z : State). z.store.left) call-is.is);
            }
          where
            filled-left : EachPut PutUntouched (begun o) puts → g.left ≡ call-is.left
            filled-left untouched = split-left F F16 s card i block ranges e puts k f untouched ∙ sym (call-left F F16 s card i block ranges e)

      -- refused

      refused-one : (answer_of F s.store.anchor card (write i block ranges) ≡ Whole → ⊥) → OneWrite F s card i block ranges puts
      refused-one d =
          let none : (result F s.store w).answer ≡ Whole → ⊥ = λ v. d (sym (outcome-answer F a card (write i block ranges)) ∙ v) in
          let e : next F s x ≡ next F s w = step-refused F s x (λ v. none (sym answer-same ∙ v)) ∙ sym (step-refused F s w none) in
          record {
            alike = record {
              answered = answer-same;
              listed = lent_is ∙ ap (λ (q : Planned). q.call.lent) (planned-refused F a card i block ranges d);
              anchored = ap (λ (z : State). z.store.anchor) e;
              moved = ap (λ (z : State). z.store.array) e;
            };
            tagged = λ m h. subst (λ (z : State). Memᴰ m z.tagged) e h;
            all-tagged = λ m h. subst (λ (z : State). Memᴰ m z.tagged) (sym e) h;
            after_puts = λ v. absurd (none (sym answer-same ∙ v));
            left = λ untouched. ap (λ (z : State). z.store.left) e;
          }

      -- the puts fill the plan, if it is accepted
      pub one-write : ((planned F s.store.anchor card i block ranges).call.answer ≡ Whole → fills (planned F s.store.anchor card i block ranges) puts ≡ true)
          → Complete F s.store (split card i block ranges puts) → OneWrite F s card i block ranges puts
      one-write f k =
          ⊎_elim
          (λ (e : answer_of F a card (write i block ranges) ≡ Whole).
          accepted-one e (f (plan-answer F a card i block ranges ∙ e)) k)
          (λ (d : answer_of F a card (write i block ranges) ≡ Whole → ⊥). refused-one d)
          (whole-or-not F F16 s (answer_of F a card (write i block ranges)))

      -- and a plan that they leave unfinished is lost
      pub lost-plan : (planned F s.store.anchor card i block ranges).call.answer ≡ Whole
          → fills (planned F s.store.anchor card i block ranges) puts ≡ false → LostPlan F s card i block ranges puts
      lost-plan v f =
          record {
            leaves = lost-leaves (split-lost F F16 s card i block ranges (sym (plan-answer F a card i block ranges) ∙ v) puts f);
            gave-tagged = λ m h. split-tagged F s card i block ranges puts m h;
          }

    -- An attempt

    module _ (journal : List ℕ) where
      abbrev t : Fate → Step
      t fate = attempt card i block ranges journal fate

      stood-is : (result F s.store (t stood)).answer ≡ Whole → StoodWrite F s card i block ranges journal
      stood-is v =
          let u = sym (journalled-answer F a card i block ranges journal) ∙ v in
          let e = write-whole F a card i block ranges journal u in
          let p = attempt-wrote F F16 s card i block ranges e journal u in
          let q = call-wrote F F16 s card i block ranges e in
          record {
            alike = wrote-alike p q
                (ap (λ (j : Journalled). j.call.lent) (journalled-done F a card i block ranges journal u)
                ∙ sym (ap (λ (o : Outcome). o.lent) (outcome-done F a card (write i block ranges) e)));
            left = ap (λ (z : State). z.store.left) p.is ∙ attempt-left F F16 s card i block ranges e journal u
                ∙ sym (ap (λ (z : State). z.store.left) q.is ∙ call-left F F16 s card i block ranges e);
            tagged = λ m h.
                tags-also (JournalTags F a card i block) p q m
                (λ l.
                ⊎_elim (λ (k : CallTags a card (write i block ranges) m). inr (q.tags.names m k))
                (λ (k : JournalTags F a card i block m). inl k) (p.tags.tells m l)) h;
            all-tagged = λ m r.
                ⊎_elim
                (λ (k : JournalTags F a card i block m).
                subst (λ (z : State). Memᴰ m z.tagged) (sym p.is) (Memᴰ.append_left s.tagged (p.tags.names m (inr k))))
                (λ (h : Memᴰ m (next F s w).tagged).
                ⊎_elim (λ (z : ⊥). absurd z) (λ (h : Memᴰ m (next F s (t stood)).tagged). h)
                (tags-also (λ l. ⊥) q p m (λ l. inr (p.tags.names m (inl (q.tags.tells m l)))) h)) r;
          }

      pub one-attempt : OneAttempt F s card i block ranges journal
      one-attempt =
          record {
            refused = λ fate d. attempt-refused F s card i block ranges journal fate d;
            unheard-still = attempt-unheard F s card i block ranges journal;
            tags = λ fate h v.
                let u = sym (journalled-answer F a card i block ranges journal) ∙ v in
                attempt-tags F F16 s card i block ranges (write-whole F a card i block ranges journal u) journal u fate h;
            lost-leaves = λ v.
                let u = sym (journalled-answer F a card i block ranges journal) ∙ v in
                lost-leaves (attempt-lost F F16 s card i block ranges (write-whole F a card i block ranges journal u) journal u);
            stood-write = stood-is;
          }
