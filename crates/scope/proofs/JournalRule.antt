-- What a journalled write answers and leaves.
use mathlib.Core.Path.{◌≡◌, refl, sym, ap, subst, ◌∙◌}
use mathlib.Core.Bool.{not}
use mathlib.Core.List.{List, ◌∷◌}
use mathlib.Core.Option.{Option, none, some}
use Prim.Native.Nat.{ℕ, ◌+◌, ◌*◌}
use native.Mathlib.Omega.{arith}
use borrow.Author.Tests.{ne_eqb}
use lib.ListN.{length}
use Rattle.cmac.specs.Cmac.{cmac_of}
use Rattle.cmac.specs.Traced.{subkeys_count, cmac_count}
use Rattle.cmac.proofs.Laws.{length-cmac}
use Rattle.tree.specs.Layout.{card_length}
use Rattle.tree.specs.Ranges.{ranges_of}
use Rattle.tree.specs.Card.{first_wrong, written}
use Rattle.tree.specs.Limits.{first_failing}
use Rattle.tree.specs.Calls.{write, first_limits, write_limits, limits, checks, verdict, Outcome, count_in, count_of, answer_of, outcome}
use Rattle.tree.specs.declared.Anchor.{Anchor}
use Rattle.tree.specs.declared.Refusal.{Refusal}
use Rattle.tree.specs.declared.Refusal.TheVariants.{Journal}
use Rattle.tree.specs.Answer.{Answer}
use Rattle.tree.specs.Answer.{Whole, Wrong, Refused}
use Rattle.tree.proofs.LimitLaws.{Writes, skip, stop, stop-first, skip_first, equal_is}
use Rattle.tree.proofs.CallLaws.{accepted, outcome-answer, outcome-done, outcome-is}
use Rattle.tree.proofs.WriteLaws.{written-length}
use Rattle.journal.specs.Journal.{journal_length, journal_of}
use Rattle.journal.specs.Journalled.{Journalled, journal_limit, journalled_answer, journalled_done, journalled_refused}
use Rattle.journal.proofs.GatherLaws.{ranges-fit}
use Rattle.journal.proofs.BlockLaws.{listed-front}
use Rattle.journal.proofs.ViewLaws.{part-last}
use Rattle.journal.proofs.JournalLaws.{own-length, own-message, own-tag, own-root, own-list, own-new}
use Rattle.journal.proofs.JournalledLaws.{journalled-answer, journalled-done, journalled-refused, write-whole}
use Rattle.scope.specs.CountRule.{count}
use Rattle.scope.specs.Ordered.{InOrder}
use Rattle.scope.specs.JournalRule.{wrote, journalled_count, Holds, Filled, JournalRule}
use Rattle.scope.proofs.Ordered.{gathered-order}
use Rattle.scope.proofs.CountRule.{count-rule}

module _ (a : Anchor) (card : List ℕ) (i : ℕ) (block ranges journal : List ℕ) where
  abbrev F : List ℕ → List ℕ
  F = cmac_of a.key

  abbrev o : Journalled
  o = wrote a card i block ranges journal

  abbrev w : Outcome
  w = outcome (cmac_of a.key) a card (write i block ranges)

  abbrev wrong_one : Option ℕ
  wrong_one = first_wrong (cmac_of a.key) a.depth a.root.0 card (checks a.depth (write i block ranges))

  answer : (wrote a card i block ranges journal).call.answer ≡ journalled_answer (cmac_of a.key) a card i block ranges journal
  answer = journalled-answer F a card i block ranges journal

  -- by its limits

  limited : (r : Refusal) → first_failing (first_limits a (length card)) ≡ some r → o.call.answer ≡ Refused r
  unfolding journalled_answer
  limited r e = answer ∙ ap (λ (x : Option Refusal). verdict x wrong_one) (stop-first (first_limits a (length card)) _ r e)

  ten : first_failing (first_limits a (length card)) ≡ none → (length journal ≡ 56 * a.depth + 80 → ⊥) → o.call.answer ≡ Refused Journal
  unfolding journalled_answer
  ten e d =
      answer
      ∙ ap (λ (x : Option Refusal). verdict x wrong_one)
      (skip_first (first_limits a (length card)) _ e
      ∙ stop (journal_limit a.depth (length journal)) _ (ap not (ne_eqb (length journal) (journal_length a.depth) d)))

  answers : first_failing (first_limits a (length card)) ≡ none → length journal ≡ 56 * a.depth + 80 → o.call.answer ≡ w.answer
  unfolding journalled_answer answer_of limits
  answers e l =
      let rest = write_limits a i (length block) (length ranges) in
      answer
      ∙ ap (λ (x : Option Refusal). verdict x wrong_one)
      (skip_first (first_limits a (length card)) (journal_limit a.depth (length journal) ∷ rest) e
      ∙ skip (journal_limit a.depth (length journal)) rest (equal_is (length journal) (journal_length a.depth) l)
      ∙ sym (skip_first (first_limits a (length card)) rest e))
      ∙ sym (outcome-answer F a card (write i block ranges))

  -- accepted

  module _ (whole : (wrote a card i block ranges journal).call.answer ≡ Whole) where
    did : journalled_answer (cmac_of a.key) a card i block ranges journal ≡ Whole
    did = sym answer ∙ whole

    plain : answer_of (cmac_of a.key) a card (write i block ranges) ≡ Whole
    plain = write-whole F a card i block ranges journal did

    pub ok : Writes a card i block ranges
    ok = (accepted F a card (write i block ranges) plain).limits-passed

    pub is-done : wrote a card i block ranges journal ≡ journalled_done (cmac_of a.key) a card i block ranges
    is-done = journalled-done F a card i block ranges journal did

    abbrev left : List ℕ
    left = written (cmac_of a.key) a.depth a.root.0 a.reserved.0 card i block

    pub left-full : length (written (cmac_of a.key) a.depth a.root.0 a.reserved.0 card i block) ≡ card_length a.depth
    left-full =
        written-length F (length-cmac a.key) a.depth ok.sound.deep a.root.0 a.reserved.0 card i block ok.sound.full ok.inside ok.long

    holds : Holds a card i block ranges journal (wrote a card i block ranges journal)
    holds =
        let n = a.depth in
        let t = a.reserved.0 + n in
        let deep = ok.sound.deep in
        let l = own-length n t i left ok.inside deep left-full F (length-cmac a.key _) in
        rw is-done (record {
          long = l;
          root = own-root n t i left ok.inside deep left-full F;
          listed = own-list n t i left ok.inside deep left-full F ∙ sym (listed-front n i (16 * n) ranges refl);
          new =
              subst (λ (s : List ℕ). InOrder (ranges_of n i) s left) (sym (own-new n t i left ok.inside deep left-full F))
              (gathered-order (ranges_of n i) left (λ r m. omega (arith, ranges-fit n i ok.inside deep n (omega arith) r m, left-full)));
          tag =
              part-last (journal_of F n t i left) (56 * n + 64) 16 (omega arith) ∙ own-tag n t i left ok.inside deep left-full F
              ∙ ap F (sym (own-message n t i left ok.inside deep left-full F));
        })

    filled : Filled a card i block ranges journal (wrote a card i block ranges journal)
    filled =
        record {
          is-write = ap (λ (j : Journalled). j.call) is-done ∙ sym (outcome-done F a card (write i block ranges) plain);
          raised = ap (λ (j : Journalled). j.raised) is-done;
          final = ap (λ (j : Journalled). j.call.anchor) is-done;
          holds = holds;
        }

    counts-as : journalled_count a card i block ranges journal ≡ count a card (write i block ranges)
    counts-as = ap (count_of (subkeys_count a.key) (cmac_count a.key)) filled.is-write

  -- refused

  module _ (no : (wrote a card i block ranges journal).call.answer ≡ Whole → ⊥) where
    is-refused : wrote a card i block ranges journal
        ≡ journalled_refused (cmac_of a.key) (journalled_answer (cmac_of a.key) a card i block ranges journal) a card i block ranges journal
    is-refused = journalled-refused F a card i block ranges journal (λ e. no (answer ∙ e))

    refused-call : (x : Answer) → (x ≡ Whole → ⊥) →
        let r = journalled_refused (cmac_of a.key) x a card i block ranges journal in
        (r.call.anchor ≡ a) × (r.raised ≡ a) × (r.call.card ≡ card) × (r.call.lent ≡ ranges) × (r.journal ≡ journal)
    refused-call Whole d = absurd (d refl)
    refused-call (Wrong u) d = (refl, refl, refl, refl, refl)
    refused-call (Refused r) d = (refl, refl, refl, refl, refl)

    kept : (o.call.anchor ≡ a) × (o.raised ≡ a) × (o.call.card ≡ card) × (o.call.lent ≡ ranges) × (o.journal ≡ journal)
    kept =
        rw is-refused
        (refused-call (journalled_answer (cmac_of a.key) a card i block ranges journal) (λ e. no (answer ∙ e)))

  pub journal-rule : JournalRule a card i block ranges journal
  journal-rule =
      record {
        order = refl;
        limited = limited;
        ten = ten;
        answers = answers;
        counts = counts;
        counts-none = λ r e. ap (λ (x : Answer). count_in (subkeys_count a.key) (cmac_count a.key) x o.call.counted) e;
        counts-whole = λ e.
            counts-as e ∙ (count-rule a card).writes i block ranges (outcome-answer F a card (write i block ranges) ∙ plain e);
        kept = kept;
        accepted = filled;
      }
    where
      by : (x : Answer) → o.call.answer ≡ x → w.answer ≡ x
          → journalled_count a card i block ranges journal ≡ count a card (write i block ranges)
      by Whole p q = counts-as p
      by (Refused r) p q =
          ap (λ (x : Answer). count_in (subkeys_count a.key) (cmac_count a.key) x o.call.counted) p
          ∙ sym (ap (λ (x : Answer). count_in (subkeys_count a.key) (cmac_count a.key) x w.counted) q)
      by (Wrong u) p q =
          let d : o.call.answer ≡ Whole → ⊥ = λ e. let k = sym p ∙ e in let z : ◌≡◌ {A = ℕ} 0 1 = cc in omega arith in
          ap (count_of (subkeys_count a.key) (cmac_count a.key))
          (ap (λ (j : Journalled). j.call) (is-refused d)
          ∙ ap (λ (x : Answer). (journalled_refused (cmac_of a.key) x a card i block ranges journal).call) (sym answer ∙ p)
          ∙ sym (outcome-is F a card (write i block ranges) (Wrong u) q))

      counts : first_failing (first_limits a (length card)) ≡ none → length journal ≡ 56 * a.depth + 80
          → journalled_count a card i block ranges journal ≡ count a card (write i block ranges)
      counts e l = by o.call.answer refl (sym (answers e l))
