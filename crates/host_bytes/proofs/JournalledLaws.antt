-- What a journalled write and a recovery answer, and that refused they leave everything as it was.
use mathlib.Core.Path.{◌≡◌, refl, sym, ap, subst, ◌∙◌}
use mathlib.Core.Bool.{Bool, cond}
use mathlib.Core.List.{List, []}
use mathlib.Core.Option.{Option, none, some}
use Prim.Native.Nat.{ℕ, ◌+◌, ◌^◌, ◌<◌}
use native.Mathlib.Omega.{arith}
use lib.ListN.{length}
use Rattle.tree.specs.Card.{first_wrong}
use Rattle.tree.specs.Limits.{Limit, first_failing}
use Rattle.tree.specs.Answer.{Answer, Whole, Wrong, Refused, node_of}
use Rattle.tree.specs.Calls.{Call, write, first_limits, limits, checks, verdict, answer_of}
use Rattle.tree.specs.declared.Anchor.{Anchor}
use Rattle.tree.specs.declared.Refusal.{Refusal}
use Rattle.tree.proofs.LimitLaws.{skip_first, passed-both, passes, passed}
use Rattle.tree.proofs.CallLaws.{verdict-whole, outcome-answer}
use Rattle.tree.proofs.AnswerLaws.{node-small}
use Rattle.journal.specs.Journalled.{Journalled, journal_limit, journalled_limits, journalled_answer, journalled_settled, journalled}
use Rattle.journal.specs.Recovery.{recovery_answer, mended, recovered}
use Rattle.host_bytes.proofs.AnchorLaws.{not-whole, Leaves}

module _ (F : List ℕ → List ℕ) (a : Anchor) (card : List ℕ) (i : ℕ) (block ranges journal : List ℕ) where
  abbrev c : Call
  c = write i block ranges

  abbrev row : List Limit
  row = journalled_limits a (length card) i (length block) (length ranges) (length journal)

  abbrev wrong : Option ℕ
  wrong = first_wrong F a.depth a.root.0 card (checks a.depth c)

  settled-is : (x : Answer) → (journalled_settled F x a card i block ranges journal).call.answer ≡ x
  settled-is Whole = refl
  settled-is (Wrong u) = refl
  settled-is (Refused r) = refl

  pub journalled-is : (journalled F a card i block ranges journal).call.answer ≡ journalled_answer F a card i block ranges journal
  unfolding journalled
  journalled-is = settled-is (journalled_answer F a card i block ranges journal)

  -- within its limits are those of the write
  within : first_failing row ≡ none → first_failing (limits a card c) ≡ none
  unfolding limits
  within e =
      let both = passed-both (first_limits a (length card)) _ e in
      let own = passes (journal_limit a.depth (length journal)) _ both.1 in
      skip_first (first_limits a (length card)) _ both.0 ∙ own.1

  -- accepted, it had nonces left
  pub had-nonces : journalled_answer F a card i block ranges journal ≡ Whole → a.reserved.0 + a.depth < 2 ^ 64
  unfolding journalled_answer
  had-nonces e = (passed a card c (within (verdict-whole (first_failing row) wrong e).0)).unspent

  -- the node that it names has at most 17 bits
  pub journalled-node : node_of (journalled F a card i block ranges journal).call.answer < 131072
  unfolding journalled_answer answer_of
  journalled-node = subst (λ (x : Answer). node_of x < 131072) (sym journalled-is) (go (first_failing row) refl)
    where
      go : (r : Option Refusal) → first_failing row ≡ r → node_of (verdict r wrong) < 131072
      go (some r) e = omega arith
      go none e =
          subst (λ (x : Answer). node_of x < 131072)
          (outcome-answer F a card c ∙ ap (λ (r : Option Refusal). verdict r wrong) (within e)) (node-small F a card c)

  -- refused, it leaves everything
  pub record Stays (o : Journalled) : Type 0 where
    pub card-kept : o.call.card ≡ card
    pub lent-kept : o.call.lent ≡ ranges
    pub journal-kept : o.journal ≡ journal

  settled-stays : (x : Answer) → (x ≡ Whole → ⊥) → Stays (journalled_settled F x a card i block ranges journal)
  settled-stays Whole d = absurd (d refl)
  settled-stays (Wrong u) d = record { card-kept = refl; lent-kept = refl; journal-kept = refl }
  settled-stays (Refused r) d = record { card-kept = refl; lent-kept = refl; journal-kept = refl }

  pub journalled-stays : ((journalled F a card i block ranges journal).call.answer ≡ Whole → ⊥)
      → Stays (journalled F a card i block ranges journal)
  unfolding journalled
  journalled-stays d = settled-stays (journalled_answer F a card i block ranges journal) (λ w. d (journalled-is ∙ w))

pub recovered-leaves : (F : List ℕ → List ℕ) (a : Anchor) (card journal : List ℕ) → Leaves card [] (recovered F a card journal)
unfolding recovered
recovered-leaves F a card journal =
    record {
      card-kept = λ d.
          ap (λ (b : Bool). cond b (mended F a.depth a.root.0 journal card) card) (not-whole (recovery_answer F a card journal) d);
      lent-kept = λ d. refl;
    }
