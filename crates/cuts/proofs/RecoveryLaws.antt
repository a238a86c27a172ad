-- What a cut may leave of a recovery, and what one leaves that finishes.
use mathlib.Core.Path.{◌≡◌, refl, sym, ap, ◌∙◌}
use mathlib.Core.Bool.{Bool, true, false, cond}
use mathlib.Core.List.Memᴰ
use mathlib.Core.List.{List, []}
use mathlib.Core.Option.{Option, none, some}
use Prim.Native.Nat.{ℕ, ◌≤◌}
use native.Mathlib.Omega.{arith}
use lib.ListN.{length}
use Rattle.tree.specs.Layout.{card_length}
use Rattle.tree.specs.Ranges.{Range}
use Rattle.tree.specs.Answer.{Answer, Whole, is_whole}
use Rattle.tree.specs.Calls.{first_limits}
use Rattle.tree.proofs.LimitLaws.{passed-both, first-passed}
use Rattle.tree.proofs.CallLaws.{verdict-whole}
use Rattle.journal.specs.Journal.{gathered, scattered, list_of, new_bytes, block_of, applies}
use Rattle.journal.specs.Recovery.{ranges_for, recovery_answer, mended, recovered}
use Rattle.journal.proofs.GatherLaws.{Fit, ranges-fit}
use Rattle.journal.proofs.BlockLaws.{block-some}
use Rattle.journal.proofs.BackLaws.{scattered-back, beside-sym, beside-scattered}
use Rattle.cuts.specs.Media.{Media, Part, ranges_out, all_out, one_step}
use Rattle.cuts.specs.World.{whole, cut, recovering, left_by, recovery, media_after}
use Rattle.cuts.specs.NotEmpty.{pending_ranges, RecoveryCuts}
use Rattle.cuts.proofs.CutLaws.{cut-one, cut-now}

module _ (F : List ℕ → List ℕ) (m : Media) (whole-answer : (recovery F m).answer ≡ Whole) where
  abbrev writes : List Range
  writes = pending_ranges F m

  abbrev p : Part
  p = ranges_out (pending_ranges F m) (recovered F m.anchor m.card m.journal).card

  answer-is : recovery_answer F m.anchor m.card m.journal ≡ Whole
  unfolding recovered
  answer-is = whole-answer

  recovery-card : (recovery F m).card ≡ scattered (pending_ranges F m) (new_bytes m.anchor.depth m.journal) m.card
  unfolding recovered mended
  recovery-card =
      ap (λ (x : Answer). cond (is_whole x) (scattered writes (new_bytes m.anchor.depth m.journal) m.card) m.card) whole-answer

  recovery-end : media_after F m (recovering whole)
      ≡ record { anchor = m.anchor; journal = m.journal; card = scattered (pending_ranges F m) (new_bytes m.anchor.depth m.journal) m.card }
  unfolding media_after recovered
  recovery-end =
      ap (λ (b : Bool). cond b (left_by m (recovery F m)) m) (ap is_whole whole-answer)
      ∙ ap (λ (c : List ℕ). let v : Media = record { anchor = m.anchor; journal = m.journal; card = c } in v) recovery-card

  recovery-leaves : (w : Media) → media_after F m (recovering (cut w)) ≡ w
  unfolding media_after
  recovery-leaves w = ap (λ (b : Bool). cond b w m) (ap is_whole whole-answer)

  -- its ranges lie on the card
  full : length m.card ≡ card_length m.anchor.depth
  unfolding recovery_answer
  full =
      let v = verdict-whole _ _ answer-is in
      (first-passed m.anchor m.card (passed-both (first_limits m.anchor (length m.card)) _ v.0).0).full

  deep : 1 ≤ m.anchor.depth
  unfolding recovery_answer
  deep =
      let v = verdict-whole _ _ answer-is in
      (first-passed m.anchor m.card (passed-both (first_limits m.anchor (length m.card)) _ v.0).0).deep

  fit : Fit (length m.card) (pending_ranges F m)
  fit = go (applies F n m.anchor.root.0 m.journal) (block_of n (list_of n m.journal)) refl
    where
      n : ℕ
      n = m.anchor.depth

      go : (b : Bool) (o : Option ℕ) → block_of n (list_of n m.journal) ≡ o → Fit (length m.card) (cond b (ranges_for n o) [])
      go false o e r k = absurd (Memᴰ.not-nil k)
      go true none e r k = absurd (Memᴰ.not-nil k)
      go true (some i) e r k =
          let inside = (block-some n (list_of n m.journal) i e).inside in
          omega (arith, ranges-fit n i inside deep n (omega arith) r k, full)

  -- what is put into them is the card that it leaves
  one-step : all_out (one_step F m) m ≡ media_after F m (recovering whole)
  one-step =
      let d = scattered writes (new_bytes m.anchor.depth m.journal) m.card in
      let b = beside-sym writes d m.card (beside-scattered writes (new_bytes m.anchor.depth m.journal) m.card) in
      ap (λ (c : List ℕ). let v : Media = record { anchor = m.anchor; journal = m.journal; card = c } in v)
      (ap (λ (c : List ℕ). scattered writes (gathered writes c) m.card) recovery-card
      ∙ scattered-back writes m.card d (λ r k. omega (arith, fit r k, b.long)) b)
      ∙ sym recovery-end

  pub recovery-cuts : RecoveryCuts F m
  recovery-cuts =
      record {
        shown = λ w c.
            let t = cut-one m w p c in (t.anchor, t.journal, record { long = t.long; stands = t.stands });
        cuts = λ w e. cut-now m w p [] (record { anchor = e.0; journal = e.1; long = e.2.long; stands = e.2.stands });
        any-ranges = λ new.
            let b = beside-scattered writes new m.card in
            cut-now m (record { anchor = m.anchor; journal = m.journal; card = scattered writes new m.card }) p []
            (record { anchor = refl; journal = refl; long = b.long; stands = b.stands });
        cut-leaves = recovery-leaves;
        to-end = recovery-end;
        one = one-step;
      }
