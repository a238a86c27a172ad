-- What a recovery answers and leaves.
use mathlib.Core.Path.{◌≡◌, refl, sym, ap, subst, ◌∙◌}
use mathlib.Core.Bool.{Bool, true, false, not, cond}
use mathlib.Core.List.{List, [], ◌∷◌}
use mathlib.Core.Logic.{◌⊎◌, inl, inr}
use mathlib.Core.Option.{Option, none, some}
use Prim.Native.Nat.{ℕ, ◌+◌, ◌*◌}
use native.Mathlib.Omega.{arith}
use borrow.Author.Tests.{ne_eqb}
use lib.ListN.{length}
use Rattle.std.proofs.Math.Nat.{add-mod_right}
use Rattle.words.specs.Bytes.{at}
use Rattle.words.proofs.Cases.{equal_or_not}
use Rattle.cmac.specs.Cmac.{cmac_of}
use Rattle.cmac.proofs.Laws.{length-cmac}
use Rattle.tree.specs.Layout.{card_length}
use Rattle.tree.specs.Ranges.{ranges_of}
use Rattle.tree.specs.Card.{written}
use Rattle.tree.specs.Limits.{Limit, first_failing}
use Rattle.tree.specs.Calls.{check, limits, first_limits, verdict, raise, renew}
use Rattle.tree.specs.declared.Anchor.{Anchor}
use Rattle.tree.specs.declared.Refusal.{Refusal}
use Rattle.tree.specs.declared.Refusal.TheVariants.{Journal}
use Rattle.tree.specs.Answer.{Answer, Whole, Wrong, Refused, is_whole, refusal_number, number_of}
use Rattle.tree.proofs.ByteLaws.{be-inj}
use Rattle.tree.proofs.LimitLaws.{Sound, Writes, first-passed, raised-sound, pass_all, no-limits, equal_is}
use Rattle.tree.proofs.LimitLaws.{skip, stop, stop-first, skip_first}
use Rattle.tree.proofs.RangeLaws.{ranges-sorted, ranges-total}
use Rattle.journal.specs.Journal.{scattered, journal_length, list_of, new_bytes, block_of, journal_of, applies}
use Rattle.journal.specs.Journalled.{journal_limit}
use Rattle.journal.specs.Recovery.{list_limit, recovery_answer, mended, recovered}
use Rattle.journal.proofs.GatherLaws.{length-part}
use Rattle.journal.proofs.BlockLaws.{IsList, block-is, no-block}
use Rattle.journal.proofs.ViewLaws.{part-last}
use Rattle.journal.proofs.BackLaws.{length-scattered, scattered-outside, written-back}
use Rattle.journal.proofs.JournalLaws.{Applies, applies-is, is-applies, applies-not, own-length, own-root, own-list, own-new, own-applies}
use Rattle.scope.specs.Ordered.{OutOf}
use Rattle.scope.specs.JournalRule.{wrote}
use Rattle.scope.specs.RecoveryRule.{Fits, For, mended_by, Mended, RecoveryRule, FinishRule}
use Rattle.scope.proofs.Ordered.{scattered-order}
use Rattle.scope.proofs.Failing.{first-numbers}
use Rattle.scope.proofs.JournalRule.{ok, is-done, left-full}

module _ (a : Anchor) (card journal : List ℕ) where
  abbrev F : List ℕ → List ℕ
  F = cmac_of a.key

  abbrev own : Limit
  own = list_limit (cmac_of a.key) a.depth a.root.0 journal

  answer : (recovered (cmac_of a.key) a card journal).answer ≡ recovery_answer (cmac_of a.key) a card journal
  unfolding recovered
  answer = refl

  limited : (r : Refusal) → first_failing (first_limits a (length card)) ≡ some r → (mended_by a card journal).answer ≡ Refused r
  unfolding recovery_answer
  limited r e = answer ∙ ap (λ (x : Option Refusal). verdict x none) (stop-first (first_limits a (length card)) _ r e)

  other-length : first_failing (first_limits a (length card)) ≡ none → (length journal ≡ 56 * a.depth + 80 → ⊥)
      → (mended_by a card journal).answer ≡ Refused Journal
  unfolding recovery_answer
  other-length e d =
      answer
      ∙ ap (λ (x : Option Refusal). verdict x none)
      (skip_first (first_limits a (length card)) _ e
      ∙ stop (journal_limit a.depth (length journal)) _ (ap not (ne_eqb (length journal) (journal_length a.depth) d)))

  module _ (e : first_failing (first_limits a (length card)) ≡ none) (long : length journal ≡ 56 * a.depth + 80) where
    abbrev sound : Sound a card
    sound = first-passed a card e

    -- the ranges alone are left to decide
    behind : recovery_answer (cmac_of a.key) a card journal ≡ verdict (first_failing (own ∷ [])) none
    unfolding recovery_answer
    behind =
        ap (λ (x : Option Refusal). verdict x none)
        (skip_first (first_limits a (length card)) (journal_limit a.depth (length journal) ∷ own ∷ []) e
        ∙ skip (journal_limit a.depth (length journal)) (own ∷ []) (equal_is (length journal) (journal_length a.depth) long))

    fits-applies : Fits a journal → applies (cmac_of a.key) a.depth a.root.0 journal ≡ true
    fits-applies f =
        is-applies F a.depth a.root.0 journal
        (record { root = f.root; tag = sym f.tag ∙ part-last journal (56 * a.depth + 64) 16 (omega arith) })

    applies-fits : Applies (cmac_of a.key) a.depth a.root.0 journal → Fits a journal
    applies-fits p = record { root = p.root; tag = part-last journal (56 * a.depth + 64) 16 (omega arith) ∙ sym p.tag }

    for-list : (i : ℕ) → For a journal i → IsList a.depth (list_of a.depth journal) i
    for-list i f = record { inside = f.inside; is = f.listed }

    list-for : (i : ℕ) → IsList a.depth (list_of a.depth journal) i → For a journal i
    list-for i f = record { inside = f.inside; listed = f.is }

    -- none applies
    idle : (Fits a journal → ⊥) → ((mended_by a card journal).answer ≡ Whole) × ((mended_by a card journal).card ≡ card)
    unfolding recovered mended scattered
    idle d =
        let p = applies-not F a.depth a.root.0 journal (λ x. d (applies-fits x)) in
        let w : recovery_answer (cmac_of a.key) a card journal ≡ Whole =
        behind ∙ ap (λ (x : Option Refusal). verdict x none) (skip own [] (rw p refl) ∙ no-limits) in
        (w, rw (w, p) refl)

    -- it applies, and no write has its ranges
    no-write : Fits a journal → ((i : ℕ) → For a journal i → ⊥) → (mended_by a card journal).answer ≡ Refused Journal
    no-write f d =
        let p = fits-applies f in
        let q = no-block a.depth (list_of a.depth journal) (λ i l. d i (list-for i l)) in
        answer ∙ behind ∙ ap (λ (x : Option Refusal). verdict x none) (stop own [] (rw (p, q) refl))

    module _ (f : Fits a journal) (i : ℕ) (g : For a journal i) where
      block : block_of a.depth (list_of a.depth journal) ≡ some i
      block = block-is a.depth (list_of a.depth journal) i sound.deep sound.shallow (for-list i g)

      whole : recovery_answer (cmac_of a.key) a card journal ≡ Whole
      whole =
          let p = fits-applies f in
          behind ∙ ap (λ (x : Option Refusal). verdict x none) (skip own [] (rw (p, block) refl) ∙ no-limits)

      pub put-back : (recovered (cmac_of a.key) a card journal).card
          ≡ scattered (ranges_of a.depth i) (new_bytes a.depth journal) card
      unfolding recovered mended
      put-back = rw (whole, fits-applies f, block) refl

      applied : ((mended_by a card journal).answer ≡ Whole) × Mended a card journal i (mended_by a card journal).card
      applied =
          let n = a.depth in
          let new = new_bytes n journal in
          let l = length-part journal (8 + 16 * n) (40 * n + 56) (omega arith) in (
            answer ∙ whole,
            subst (Mended a card journal i) (sym put-back)
                (record {
                  long = length-scattered (ranges_of n i) new card;
                  new =
                      scattered-order (ranges_of n i) new card (card_length n) (ranges-sorted n i g.inside sound.deep)
                      (omega (arith, sound.full)) (omega (arith, ranges-total n i g.inside sound.deep));
                  others = scattered-outside (ranges_of n i) new card;
                }),
          )

    ten-long : (mended_by a card journal).answer ≡ Refused Journal → Fits a journal × ((i : ℕ) → For a journal i → ⊥)
    ten-long r = go (applies (cmac_of a.key) a.depth a.root.0 journal) refl
      where
        never : (mended_by a card journal).answer ≡ Whole → ⊥
        never w = let k = sym w ∙ r in let z : ◌≡◌ {A = ℕ} 0 1 = cc in omega arith

        go : (b : Bool) → applies (cmac_of a.key) a.depth a.root.0 journal ≡ b → Fits a journal × ((i : ℕ) → For a journal i → ⊥)
        go true p =
            let f = applies-fits (applies-is F a.depth a.root.0 journal p) in
            (f, λ i g. never (applied f i g).0)
        go false p =
            absurd (never (idle (λ f. let k = sym p ∙ fits-applies f in let z : ◌≡◌ {A = ℕ} 0 1 = cc in omega arith)).0)

  ten : (mended_by a card journal).answer ≡ Refused Journal
      → (length journal ≡ 56 * a.depth + 80 → ⊥) ⊎ (Fits a journal × ((i : ℕ) → For a journal i → ⊥))
  ten r = go (equal_or_not (length journal) (56 * a.depth + 80)) (first_failing (first_limits a (length card))) refl
    where
      go : (length journal ≡ 56 * a.depth + 80) ⊎ (length journal ≡ 56 * a.depth + 80 → ⊥) → (x : Option Refusal)
          → first_failing (first_limits a (length card)) ≡ x
          → (length journal ≡ 56 * a.depth + 80 → ⊥) ⊎ (Fits a journal × ((i : ℕ) → For a journal i → ⊥))
      go (inr d) x e = inl d
      go (inl l) none e = inr (ten-long e l r)
      go (inl l) (some q) e =
          let k : refusal_number q ≡ 10 = ap number_of (sym (limited q e) ∙ r) in
          absurd (first-numbers a (length card) q 10 e k (λ (z : ◌≡◌ {A = ℕ} 10 1). omega arith) (λ (z : ◌≡◌ {A = ℕ} 10 2). omega arith)
          (λ (z : ◌≡◌ {A = ℕ} 10 3). omega arith))

  kept-by : (x : Answer) → (x ≡ Whole → ⊥) → cond (is_whole x) (mended (cmac_of a.key) a.depth a.root.0 journal card) card ≡ card
  kept-by Whole d = absurd (d refl)
  kept-by (Wrong u) d = refl
  kept-by (Refused r) d = refl

  pub recovery-rule : RecoveryRule a card journal
  unfolding recovered recovery_answer
  recovery-rule =
      record {
        order = refl;
        limited = limited;
        other-length = other-length;
        no-write = no-write;
        ten = ten;
        ten-number = refl;
        applied = applied;
        idle = idle;
        kept = kept-by (recovery_answer (cmac_of a.key) a card journal);
        anchor-kept = refl;
        blind = λ other l. rw l refl;
        uncounted = refl;
      }

-- A journalled write and what recovery makes of it

within-limits : (a : Anchor) (card : List ℕ) → Sound a card → first_failing (first_limits a (length card)) ≡ none
unfolding limits
within-limits a card s = pass_all a card check s

module _ (a : Anchor) (card : List ℕ) (i : ℕ) (block ranges journal : List ℕ)
    (whole : (wrote a card i block ranges journal).call.answer ≡ Whole) where
  abbrev n : ℕ
  n = a.depth

  abbrev t : ℕ
  t = a.reserved.0 + a.depth

  abbrev left : List ℕ
  left = written (cmac_of a.key) a.depth a.root.0 a.reserved.0 card i block

  abbrev filled : List ℕ
  filled = journal_of (cmac_of a.key) n t i left

  abbrev p : Writes a card i block ranges
  p = ok a card i block ranges journal whole

  abbrev full : length left ≡ card_length n
  full = left-full a card i block ranges journal whole

  long : length filled ≡ 56 * n + 80
  long = own-length n t i left p.inside p.sound.deep full (cmac_of a.key) (length-cmac a.key _)

  finishes : (torn : List ℕ) → length torn ≡ length card → ((j : ℕ) → OutOf (ranges_of n i) j → at torn j ≡ at card j)
      → ((recovered (cmac_of a.key) (renew a) torn filled).answer ≡ Whole) × ((recovered (cmac_of a.key) (renew a) torn filled).card ≡ left)
  finishes torn l stands =
      let s : Sound (renew a) torn = record {
        deep = p.sound.deep;
        shallow = p.sound.shallow;
        multiple = add-mod_right a.reserved.0 n ∙ p.sound.reserved_multiple;
        reserved_multiple = add-mod_right a.reserved.0 n ∙ p.sound.reserved_multiple;
        within = omega arith;
        full = l ∙ p.sound.full;
      } in
      let e = within-limits (renew a) torn s in
      let f : Fits (renew a) filled = applies-fits (renew a) torn filled e long
      (applies-is (cmac_of a.key) n t filled (own-applies n t i left p.inside p.sound.deep full (cmac_of a.key))) in
      let g : For (renew a) filled i = record {
        inside = p.inside;
        listed = own-list n t i left p.inside p.sound.deep full (cmac_of a.key);
      } in (
        (applied (renew a) torn filled e long f i g).0,
        put-back (renew a) torn filled e long f i g
            ∙ ap (λ (new : List ℕ). scattered (ranges_of n i) new torn) (own-new n t i left p.inside p.sound.deep full (cmac_of a.key))
            ∙ written-back (cmac_of a.key) (length-cmac a.key) n p.sound.deep a.root.0 a.reserved.0 card i block p.sound.full p.inside
            p.long torn (record { long = l; stands = stands }),
      )

  begins : (other : List ℕ) → length other ≡ length card
      → ((recovered (cmac_of a.key) (raise a) other filled).answer ≡ Whole)
      × ((recovered (cmac_of a.key) (raise a) other filled).card ≡ other)
  begins other l =
      let e = ap (λ (k : ℕ). first_failing (first_limits (raise a) k)) l ∙ within-limits (raise a) card (raised-sound p.sound) in
      idle (raise a) other filled e long
      (λ f.
      let r = be-inj 8 a.root.0 t (omega (arith, p.sound.within, p.unspent)) p.unspent
      (sym f.root ∙ own-root n t i left p.inside p.sound.deep full (cmac_of a.key)) in
      omega (arith, p.sound.within, p.sound.deep))

pub finish-rule : (a : Anchor) (card : List ℕ) (i : ℕ) (block ranges journal : List ℕ) → FinishRule a card i block ranges journal
finish-rule a card i block ranges journal =
    record {
      finished = λ w. rw (is-done a card i block ranges journal w) (finishes a card i block ranges journal w);
      begun = λ w. rw (is-done a card i block ranges journal w) (begins a card i block ranges journal w);
    }
