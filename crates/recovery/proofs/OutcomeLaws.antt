-- How the code comes to what a journalled write and a recovery give: by the first limit that fails, by the write within it, and by what the
-- journal says.
use mathlib.Core.Path.{◌≡◌, refl, sym, ap, subst, ◌∙◌}
use mathlib.Core.Bool.{true, false}
use mathlib.Core.List.{List, [], ◌∷◌, ◌++◌}
use mathlib.Core.Option.{Option, none, some}
use Prim.Native.Nat.{ℕ}
use lib.ListN.{length}
use Rattle.std.specs.Prelude.{Err}
use Rattle.cmac.specs.Cmac.{cmac_of}
use Rattle.cmac.specs.Traced.{subkeys_count, cmac_count}
use Rattle.tree.specs.Ranges.{ranges_of}
use Rattle.tree.specs.Limits.{Limit as Test, first_failing}
use Rattle.tree.specs.Calls.{Call, write, first_limits, limits, verdict, Gives, Reports, Outcome, raise, answer_of, settled, outcome}
use Rattle.tree.specs.declared.Anchor.{Anchor}
use Rattle.tree.specs.declared.Refusal.{Refusal}
use Rattle.tree.specs.declared.Refusal.TheVariants.{Journal}
use Rattle.tree.specs.declared.Error.{Error}
use Rattle.tree.specs.declared.Error.TheVariants.{WrongTag, Limit}
use Rattle.tree.specs.Answer.{Answer, Whole, Wrong, Refused, refused_as}
use Rattle.tree.specs.Tests.{tested}
use Rattle.tree.proofs.LimitLaws.{Sound, first-passed, stop-first, skip_first, passed-both, passes, is-equal, this_fails}
use Rattle.tree.proofs.CallLaws.{outcome-answer, outcome-is}
use Rattle.journal.specs.Journal.{journal_length, journal_of, scattered, list_of, new_bytes, block_of, applies}
use Rattle.journal.specs.Journalled.{journal_limit, journalled_limits, journalled_answer, journalled_settled, journalled, Journals}
use Rattle.journal.specs.Recovery.{list_limit, recovery_answer, mended, recovered}

-- The journalled write

module _ (a : Anchor) (card : List ℕ) (i : ℕ) (block ranges journal : List ℕ) where
  abbrev F : List ℕ → List ℕ
  F = cmac_of a.key

  abbrev once : ℕ
  once = subkeys_count a.key

  abbrev each : List ℕ → ℕ
  each = cmac_count a.key

  abbrev c : Call
  c = write i block ranges

  abbrev row : List Test
  row = journalled_limits a (length card) i (length block) (length ranges) (length journal)

  abbrev Told : Answer → ℕ → Anchor → Anchor → List ℕ → List ℕ → List ℕ → Type 0
  Told x k raised b left lent kept = Journals once each (journalled F a card i block ranges journal) x k raised b left lent kept

  -- a limit refuses it
  pub write-limited : (r : Refusal) → tested row ≡ Err r
      → Told (Refused r) 0 a a card ranges journal
  unfolding journalled journalled_answer
  write-limited r e =
      rw (this_fails row e) (record {
        reports = record { gives = record { answered = refl; anchored = refl; left = refl; filled = refl }; counted = refl };
        raises = refl;
        journals = refl;
      })

  -- what its limits leave: those of the write, and the length of the journal
  pub record Passed : Type 0 where
    pub sound : Sound a card
    pub journal-long : length journal ≡ journal_length a.depth
    pub limits-passed : first_failing (limits a card (write i block ranges)) ≡ none

  pub passed : first_failing row ≡ none → Passed
  unfolding limits
  passed e =
      let both = passed-both (first_limits a (length card)) _ e in
      let own = passes (journal_limit a.depth (length journal)) _ both.1 in
      record {
        sound = first-passed a card both.0;
        journal-long = is-equal (length journal) (journal_length a.depth) own.0;
        limits-passed = skip_first (first_limits a (length card)) _ both.0 ∙ own.1;
      }

  -- within them it answers what the write does
  answers : first_failing row ≡ none
      → journalled_answer F a card i block ranges journal ≡ answer_of F a card c
  unfolding journalled_answer answer_of
  answers e = rw (e, (passed e).limits-passed) refl

  settles : (x : Answer) → first_failing row ≡ none
      → x ≡ (outcome F a card c).answer
      → journalled F a card i block ranges journal ≡ journalled_settled F x a card i block ranges journal
  unfolding journalled
  settles x e f =
      ap (λ (y : Answer). journalled_settled F y a card i block ranges journal) (answers e ∙ sym (outcome-answer F a card c) ∙ sym f)

  reported : (x : Answer) (k : ℕ) (b : Anchor) (left lent : List ℕ) → Reports once each (outcome F a card c) x k b left lent
      → Reports once each (settled F x a card c) x k b left lent
  reported x k b left lent told =
      subst (λ (o : Outcome). Reports once each o x k b left lent) (outcome-is F a card c x (sym told.gives.answered)) told

  -- the write within is refused
  pub write-refused : (x : Error) (k : ℕ) (left lent : List ℕ)
      → first_failing row ≡ none
      → Reports once each (outcome F a card c) (refused_as x) k a left lent
      → Told (refused_as x) k a a left lent journal
  write-refused (WrongTag u) k left lent e told =
      rw (settles (Wrong u) e told.gives.answered)
      (record { reports = reported (Wrong u) k a left lent told; raises = refl; journals = refl })
  write-refused (Limit r) k left lent e told =
      rw (settles (Refused r) e told.gives.answered)
      (record { reports = reported (Refused r) k a left lent told; raises = refl; journals = refl })

  -- it is whole
  pub write-whole : (k : ℕ) (raised b : Anchor) (left lent filled : List ℕ)
      → first_failing row ≡ none
      → Reports once each (outcome F a card c) Whole k b left lent
      → raised ≡ raise a → filled ≡ journal_of F a.depth b.root.0 i left → Told Whole k raised b left lent filled
  write-whole k raised b left lent filled e told r f =
      let g = (reported Whole k b left lent told).gives in
      rw (settles Whole e told.gives.answered)
      (record {
        reports = reported Whole k b left lent told;
        raises = r;
        journals =
            f ∙ ap (λ (d : Anchor). journal_of F a.depth d.root.0 i left) g.anchored
            ∙ ap (λ (l : List ℕ). journal_of F a.depth (settled F Whole a card c).anchor.root.0 i l) g.left;
      })

-- The recovery

module _ (a : Anchor) (card journal : List ℕ) where
  abbrev G : List ℕ → List ℕ
  G = cmac_of a.key

  abbrev first_row : List Test
  first_row = first_limits a (length card) ++ (journal_limit a.depth (length journal) ∷ [])

  abbrev Brought : Answer → List ℕ → Type 0
  Brought x left = Gives (recovered G a card journal) x a left []

  -- a limit refuses it
  pub recover-limited : (r : Refusal) → tested first_row ≡ Err r
      → Brought (Refused r) card
  unfolding recovered recovery_answer
  recover-limited r e =
      rw (stop-first first_row (list_limit G a.depth a.root.0 journal ∷ []) r (this_fails first_row e))
      (record { answered = refl; anchored = refl; left = refl; filled = refl })

  -- what they leave
  pub record Measured : Type 0 where
    pub sound : Sound a card
    pub journal-long : length journal ≡ journal_length a.depth

  pub measured : first_failing first_row ≡ none → Measured
  measured e =
      let both = passed-both (first_limits a (length card)) (journal_limit a.depth (length journal) ∷ []) e in
      record {
        sound = first-passed a card both.0;
        journal-long = is-equal (length journal) (journal_length a.depth) (passes (journal_limit a.depth (length journal)) [] both.1).0;
      }

  -- then the list decides
  decides : first_failing first_row ≡ none
      → recovery_answer G a card journal ≡ verdict (first_failing (list_limit G a.depth a.root.0 journal ∷ [])) none
  unfolding recovery_answer
  decides e = ap (λ (r : Option Refusal). verdict r none) (skip_first first_row (list_limit G a.depth a.root.0 journal ∷ []) e)

  -- the journal is not to be applied
  pub recover-other : first_failing first_row ≡ none
      → applies G a.depth a.root.0 journal ≡ false → Brought Whole card
  unfolding recovered mended scattered first_failing
  recover-other e f = rw (decides e, f) (record { answered = refl; anchored = refl; left = refl; filled = refl })

  -- it is, and has no write's ranges
  pub recover-unlisted : first_failing first_row ≡ none
      → applies G a.depth a.root.0 journal ≡ true → block_of a.depth (list_of a.depth journal) ≡ none
      → Brought (Refused Journal) card
  unfolding recovered first_failing
  recover-unlisted e f g = rw (decides e, f, g) (record { answered = refl; anchored = refl; left = refl; filled = refl })

  -- it is, and has those of a block's write
  pub recover-block : (i : ℕ) (left : List ℕ)
      → first_failing first_row ≡ none
      → applies G a.depth a.root.0 journal ≡ true → block_of a.depth (list_of a.depth journal) ≡ some i
      → left ≡ scattered (ranges_of a.depth i) (new_bytes a.depth journal) card → Brought Whole left
  unfolding recovered mended first_failing
  recover-block i left e f g h = rw (decides e, f, g) (record { answered = refl; anchored = refl; left = h; filled = refl })
