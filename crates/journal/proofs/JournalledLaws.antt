-- What a journalled write answers, and what it is then. Its limits are the write's, and the journal's length among them; so what it accepts
-- the write accepts, and what it refuses for a tag the write does.
use mathlib.Core.Path.{◌≡◌, refl, sym, ap, ◌∙◌}
use mathlib.Core.List.{List}
use mathlib.Core.Option.{Option, none, some}
use Prim.Native.Nat.{ℕ}
use native.Mathlib.Omega.{arith}
use lib.ListN.{length}
use Rattle.tree.specs.Answer.{Answer, Whole, Wrong, Refused}
use Rattle.tree.specs.Card.{first_wrong}
use Rattle.tree.specs.Limits.{first_failing}
use Rattle.tree.specs.Calls.{write, first_limits, write_limits, limits, checks, verdict, answer_of}
use Rattle.tree.specs.declared.Anchor.{Anchor}
use Rattle.tree.specs.declared.Node.{Node}
use Rattle.tree.specs.declared.Refusal.{Refusal}
use Rattle.tree.proofs.LimitLaws.{skip_first, passed-both, passes, pass, is-equal, equal_is}
use Rattle.tree.proofs.CallLaws.{verdict-whole}
use Rattle.journal.specs.Journal.{journal_length}
use Rattle.journal.specs.Journalled.{journal_limit, journalled_limits, journalled_answer, journalled_done, journalled_refused}
use Rattle.journal.specs.Journalled.{journalled_settled, journalled}

module _ (F : List ℕ → List ℕ) (a : Anchor) (card : List ℕ) (i : ℕ) (block ranges journal : List ℕ) where
  abbrev given : Answer
  given = journalled_answer F a card i block ranges journal

  settled-answer : (x : Answer) → (journalled_settled F x a card i block ranges journal).call.answer ≡ x
  settled-answer Whole = refl
  settled-answer (Wrong u) = refl
  settled-answer (Refused r) = refl

  pub journalled-answer : (journalled F a card i block ranges journal).call.answer ≡ journalled_answer F a card i block ranges journal
  unfolding journalled
  journalled-answer = settled-answer given

  -- accepted, it is the write with its journal
  pub journalled-done : journalled_answer F a card i block ranges journal ≡ Whole
      → journalled F a card i block ranges journal ≡ journalled_done F a card i block ranges
  unfolding journalled
  journalled-done e = ap (λ (x : Answer). journalled_settled F x a card i block ranges journal) e

  settled-refused : (x : Answer) → (x ≡ Whole → ⊥)
      → journalled_settled F x a card i block ranges journal ≡ journalled_refused F x a card i block ranges journal
  settled-refused Whole d = absurd (d refl)
  settled-refused (Wrong u) d = refl
  settled-refused (Refused r) d = refl

  -- refused, it leaves everything
  pub journalled-refused : (journalled_answer F a card i block ranges journal ≡ Whole → ⊥)
      → journalled F a card i block ranges journal
      ≡ journalled_refused F (journalled_answer F a card i block ranges journal) a card i block ranges journal
  unfolding journalled
  journalled-refused d = settled-refused given d

  -- Its limits

  pub journalled-passed : first_failing (journalled_limits a (length card) i (length block) (length ranges) (length journal)) ≡ none
      → (first_failing (limits a card (write i block ranges)) ≡ none) × (length journal ≡ journal_length a.depth)
  unfolding limits
  journalled-passed e =
      let p = passed-both (first_limits a (length card)) _ e in
      let q = passes (journal_limit a.depth (length journal)) (write_limits a i (length block) (length ranges)) p.1 in (
        skip_first (first_limits a (length card)) (write_limits a i (length block) (length ranges)) p.0 ∙ q.1,
        is-equal (length journal) (journal_length a.depth) q.0,
      )

  pub journalled-pass : first_failing (limits a card (write i block ranges)) ≡ none → length journal ≡ journal_length a.depth
      → first_failing (journalled_limits a (length card) i (length block) (length ranges) (length journal)) ≡ none
  unfolding limits
  journalled-pass e long =
      let p = passed-both (first_limits a (length card)) (write_limits a i (length block) (length ranges)) e in
      skip_first (first_limits a (length card)) _ p.0
      ∙ pass (journal_limit a.depth (length journal)) (write_limits a i (length block) (length ranges))
      (equal_is (length journal) (journal_length a.depth) long) p.1

  -- What it answers, the write answers

  abbrev wrong_one : Option ℕ
  wrong_one = first_wrong F a.depth a.root.0 card (checks a.depth (write i block ranges))

  verdict-none : (r : Option Refusal) (x : Answer) → verdict r wrong_one ≡ x → ((s : Refusal) → x ≡ Refused s → ⊥) → r ≡ none
  verdict-none none x e d = refl
  verdict-none (some s) x e d = absurd (d s (sym e))

  not-limited : (x : Answer) → journalled_answer F a card i block ranges journal ≡ x → ((s : Refusal) → x ≡ Refused s → ⊥)
      → answer_of F a card (write i block ranges) ≡ x
  unfolding journalled_answer answer_of
  not-limited x e d =
      let l = verdict-none (first_failing (journalled_limits a (length card) i (length block) (length ranges) (length journal))) x e d in
      ap (λ (r : Option Refusal). verdict r wrong_one) ((journalled-passed l).0 ∙ sym l) ∙ e

  pub write-whole : journalled_answer F a card i block ranges journal ≡ Whole → answer_of F a card (write i block ranges) ≡ Whole
  write-whole e = not-limited Whole e (λ s p. let z : ◌≡◌ {A = ℕ} 0 1 = cc in omega arith)

  pub write-wrong : (u : Node) → journalled_answer F a card i block ranges journal ≡ Wrong u
      → answer_of F a card (write i block ranges) ≡ Wrong u
  write-wrong u e = not-limited (Wrong u) e (λ s p. let z : ◌≡◌ {A = ℕ} 0 1 = cc in omega arith)

  -- the journal has its length
  pub journal-long : journalled_answer F a card i block ranges journal ≡ Whole → length journal ≡ journal_length a.depth
  unfolding journalled_answer
  journal-long e = (journalled-passed (verdict-whole _ _ e).0).1

  -- and where it has, the write's acceptance suffices
  pub journalled-accept : answer_of F a card (write i block ranges) ≡ Whole → length journal ≡ journal_length a.depth
      → journalled_answer F a card i block ranges journal ≡ Whole
  unfolding journalled_answer answer_of
  journalled-accept e long =
      let v = verdict-whole _ _ e in
      ap (λ (r : Option Refusal). verdict r wrong_one) (journalled-pass v.0 long ∙ sym v.0) ∙ e
