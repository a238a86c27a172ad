-- What a cut may leave of an attempt, by its fate.
use mathlib.Core.Path.{◌≡◌, refl, sym, ap, ap₂, subst, ◌∙◌}
use mathlib.Core.Bool.{Bool, cond}
use mathlib.Core.List.{List, [], ◌∷◌}
use mathlib.Core.Logic.{◌⊎◌, inl, inr, ⊎_elim}
use Prim.Native.Nat.{ℕ, ◌+◌}
use native.Mathlib.Omega.{arith}
use borrow.Author.Tests.{eq-eqb, ne_eqb}
use lib.Dec.{eqb}
use lib.ListN.{length}
use Rattle.words.specs.Bytes.{at}
use Rattle.tree.specs.Layout.{card_length}
use Rattle.tree.specs.Ranges.{Range, ranges_of}
use Rattle.tree.specs.Answer.{Whole, is_whole}
use Rattle.tree.specs.Calls.{write, raise, renew}
use Rattle.tree.specs.declared.Anchor.{Anchor}
use Rattle.tree.proofs.LimitLaws.{Writes}
use Rattle.tree.proofs.CallLaws.{accepted}
use Rattle.tree.proofs.WriteLaws.{written-length}
use Rattle.journal.specs.Journal.{scattered, journal_length}
use Rattle.journal.specs.Journalled.{Journalled, journalled_answer, journalled_done}
use Rattle.journal.proofs.JournalLaws.{own-length}
use Rattle.journal.proofs.BackLaws
use Rattle.journal.proofs.BackLaws.{beside-scattered, written-back}
use Rattle.journal.proofs.JournalledLaws.{journalled-answer, journalled-done, write-whole, journal-long}
use Rattle.replay.specs.Run.{Fate, unheard, lost, stood}
use Rattle.replay.proofs.PlaceLaws.{first, later, no_place, at_places}
use Rattle.cuts.specs.Media.{Media, Part, anchor_out, journal_out, ranges_out, out, all_out, four_steps, Torn, Cut, fate_of}
use Rattle.cuts.specs.World.{attempting, whole, cut, tried, media_after}
use Rattle.cuts.specs.NotEmpty.{Beside, new_card, new_journal, Shown, AttemptCuts}
use Rattle.cuts.proofs.Mending.{beside-refl}

-- A cut is in the first step or in a later one.
module _ (m w : Media) where
  cut-none : Cut [] m w → ⊥
  cut-none c = no_place c.place

  pub cut-first : (p : Part) (ps : List Part) → Cut (p ∷ ps) m w → Torn p m w ⊎ Cut ps (out p m) w
  cut-first p ps c =
      at_places (λ before y. Torn y (all_out before m) w → Torn p m w ⊎ Cut ps (out p m) w) p ps (λ t. inl t)
      (λ q t. inr (record { place = q; torn = t })) c.place c.torn

  pub cut-now : (p : Part) (ps : List Part) → Torn p m w → Cut (p ∷ ps) m w
  cut-now p ps t = record { place = first p ps; torn = t }

  pub cut-later : (p : Part) (ps : List Part) → Cut ps (out p m) w → Cut (p ∷ ps) m w
  cut-later p ps c = record { place = later p c.place; torn = c.torn }

  pub cut-one : (p : Part) → Cut (p ∷ []) m w → Torn p m w
  cut-one p c =
      ⊎_elim (λ (t : Torn p m w). t) (λ (d : Cut [] (out p m) w). absurd (no_place d.place)) (cut-first p [] c)

-- between the two ways to say that a card stands outside ranges
pub beside-of : (rs : List Range) (c d : List ℕ) → BackLaws.Beside rs d c → Beside rs c d
beside-of rs c d b = record { long = b.long; stands = λ j o. b.stands j o }

pub of-beside : (rs : List Range) (c d : List ℕ) → Beside rs c d → BackLaws.Beside rs d c
of-beside rs c d b = record { long = b.long; stands = λ j o. b.stands j o }

module _ (F : List ℕ → List ℕ) (F16 : (m : List ℕ) → length (F m) ≡ 16) (m : Media) (i : ℕ) (block ranges : List ℕ)
    (whole-answer : (tried F m i block ranges).call.answer ≡ Whole) where
  abbrev a : Anchor
  a = m.anchor

  abbrev n : ℕ
  n = m.anchor.depth

  abbrev rs : List Range
  rs = ranges_of m.anchor.depth i

  abbrev card : List ℕ
  card = new_card F m i block

  abbrev o : Journalled
  o = journalled_done F m.anchor m.card i block ranges

  answered : journalled_answer F m.anchor m.card i block ranges m.journal ≡ Whole
  answered = sym (journalled-answer F a m.card i block ranges m.journal) ∙ whole-answer

  pub tried-is : tried F m i block ranges ≡ journalled_done F m.anchor m.card i block ranges
  tried-is = journalled-done F a m.card i block ranges m.journal answered

  pub tried-ok : Writes m.anchor m.card i block ranges
  tried-ok = (accepted F a m.card (write i block ranges) (write-whole F a m.card i block ranges m.journal answered)).limits-passed

  abbrev steps : List Part
  steps = four_steps (journalled_done F m.anchor m.card i block ranges) i

  fates : (f : Fate) (w : Media) → Shown F m i block f w → fate_of m.anchor w.anchor ≡ f
  fates unheard w e =
      ap (λ (v : Media). fate_of a v.anchor) e
      ∙ ap (λ (b : Bool). cond b unheard (cond (eqb a.root.0 a.root.0) lost stood)) (eq-eqb a.reserved.0 a.reserved.0 refl)
  fates lost w e =
      let deep = tried-ok.sound.deep in
      ap (fate_of a) e.0
      ∙ ap₂ (λ (b c : Bool). cond b unheard (cond c lost stood))
      (ne_eqb (a.reserved.0 + n) a.reserved.0 (λ z. omega arith)) (eq-eqb a.root.0 a.root.0 refl)
  fates stood w e =
      let deep = tried-ok.sound.deep in
      let within = tried-ok.sound.within in
      ap (fate_of a) e.0
      ∙ ap₂ (λ (b c : Bool). cond b unheard (cond c lost stood))
      (ne_eqb (a.reserved.0 + n) a.reserved.0 (λ z. omega arith)) (ne_eqb (a.reserved.0 + n) a.root.0 (λ z. omega arith))

  abbrev p₁ : Part
  p₁ = anchor_out (raise m.anchor)

  abbrev p₂ : Part
  p₂ = journal_out (new_journal F m i block)

  abbrev p₃ : Part
  p₃ = anchor_out (renew m.anchor)

  abbrev p₄ : Part
  p₄ = ranges_out (ranges_of m.anchor.depth i) (new_card F m i block)

  abbrev m₁ : Media
  m₁ = out p₁ m

  abbrev m₂ : Media
  m₂ = out p₂ m₁

  abbrev m₃ : Media
  m₃ = out p₃ m₂

  at-last : (w : Media) → Torn p₄ m₃ w → (f : Fate) × Shown F m i block f w
  at-last w t = (stood, (t.anchor, t.journal, record { long = t.long; stands = t.stands }))

  at_third : (w : Media) → Torn p₃ m₂ w → length (new_journal F m i block) ≡ length m.journal → (f : Fate) × Shown F m i block f w
  at_third w (inl e) long =
      (lost, (ap (λ (v : Media). v.anchor) e, ap (λ (v : Media). length v.journal) e ∙ long, ap (λ (v : Media). v.card) e))
  at_third w (inr e) long = (
    stood,
    (
      ap (λ (v : Media). v.anchor) e,
      ap (λ (v : Media). v.journal) e,
      record { long = ap (λ (v : Media). length v.card) e; stands = λ j k. ap (λ (v : Media). at v.card j) e },
    ),
  )

  at_second : (w : Media) → Torn p₂ m₁ w → (f : Fate) × Shown F m i block f w
  at_second w t = (lost, (t.anchor, t.long, t.card))

  at-first : (w : Media) → Torn p₁ m w → (f : Fate) × Shown F m i block f w
  at-first w (inl e) = (unheard, e)
  at-first w (inr e) =
      (lost, (ap (λ (v : Media). v.anchor) e, ap (λ (v : Media). length v.journal) e, ap (λ (v : Media). v.card) e))

  pub card-full : length (new_card F m i block) ≡ card_length m.anchor.depth
  card-full =
      written-length F F16 n tried-ok.sound.deep a.root.0 a.reserved.0 m.card i block tried-ok.sound.full tried-ok.inside tried-ok.long

  pub journal-full : length (new_journal F m i block) ≡ journal_length m.anchor.depth
  journal-full =
      own-length n (a.reserved.0 + n) i card tried-ok.inside tried-ok.sound.deep card-full F (F16 _)

  journal-same : length (new_journal F m i block) ≡ length m.journal
  journal-same = journal-full ∙ sym (journal-long F a m.card i block ranges m.journal answered)

  cut-shows : (w : Media) → Cut steps m w → (f : Fate) × Shown F m i block f w
  cut-shows w c =
      ⊎_elim (at-first w)
      (λ (c : Cut (p₂ ∷ p₃ ∷ p₄ ∷ []) m₁ w).
      ⊎_elim (at_second w)
      (λ (c : Cut (p₃ ∷ p₄ ∷ []) m₂ w).
      ⊎_elim (λ (t : Torn p₃ m₂ w). at_third w t journal-same)
      (λ (c : Cut (p₄ ∷ []) m₃ w). at-last w (cut-one m₃ w p₄ c))
      (cut-first m₂ w p₃ (p₄ ∷ []) c))
      (cut-first m₁ w p₂ (p₃ ∷ p₄ ∷ []) c))
      (cut-first m w p₁ (p₂ ∷ p₃ ∷ p₄ ∷ []) c)

  shows-cut : (f : Fate) (w : Media) → Shown F m i block f w → Cut steps m w
  shows-cut unheard w e = cut-now m w p₁ (p₂ ∷ p₃ ∷ p₄ ∷ []) (inl e)
  shows-cut lost w e =
      cut-later m w p₁ (p₂ ∷ p₃ ∷ p₄ ∷ [])
      (cut-now m₁ w p₂ (p₃ ∷ p₄ ∷ []) (record { anchor = e.0; long = e.1; card = e.2 }))
  shows-cut stood w e =
      cut-later m w p₁ (p₂ ∷ p₃ ∷ p₄ ∷ [])
      (cut-later m₁ w p₂ (p₃ ∷ p₄ ∷ [])
      (cut-later m₂ w p₃ (p₄ ∷ [])
      (cut-now m₃ w p₄ [] (record { anchor = e.0; journal = e.1; long = e.2.long; stands = e.2.stands }))))

  -- said of the steps of the attempt
  of-steps : {w : Media} → Cut steps m w → Cut (four_steps (tried F m i block ranges) i) m w
  of-steps {w} c = subst (λ (o : Journalled). Cut (four_steps o i) m w) (sym tried-is) c

  pub shown : (w : Media) → Cut (four_steps (tried F m i block ranges) i) m w
      → Shown F m i block (fate_of m.anchor w.anchor) w
  shown w c =
      let k = cut-shows w (subst (λ (o : Journalled). Cut (four_steps o i) m w) tried-is c) in
      subst (λ (f : Fate). Shown F m i block f w) (sym (fates k.0 w k.1)) k.1

  pub to-end : media_after F m (attempting i block ranges whole)
      ≡ record { anchor = renew m.anchor; journal = new_journal F m i block; card = new_card F m i block }
  unfolding media_after
  to-end =
      ap (λ (o : Journalled). cond (is_whole o.call.answer) (all_out (four_steps o i) m) m) tried-is
      ∙ ap (λ (c : List ℕ). let w : Media = record { anchor = renew a; journal = new_journal F m i block; card = c } in w)
      (written-back F F16 n tried-ok.sound.deep a.root.0 a.reserved.0 m.card i block tried-ok.sound.full tried-ok.inside tried-ok.long
      m.card (beside-refl rs m.card))

  cut-leaves : (w : Media) → media_after F m (attempting i block ranges (cut w)) ≡ w
  unfolding media_after
  cut-leaves w = ap (λ (b : Bool). cond b w m) (ap is_whole whole-answer)

  pub whole-stood : fate_of m.anchor (renew m.anchor) ≡ stood
  whole-stood =
      fates stood (record { anchor = renew a; journal = new_journal F m i block; card = m.card })
      (refl, refl, record { long = refl; stands = λ j k. refl })

  pub attempt-cuts : AttemptCuts F m i block ranges
  attempt-cuts =
      record {
        shown = shown;
        cuts = λ f w e. of-steps (shows-cut f w e);
        fates = fates;
        nothing-out = of-steps (shows-cut unheard m refl);
        any-journal = λ journal long.
            of-steps (shows-cut lost (record { anchor = raise a; journal = journal; card = m.card }) (refl, long, refl));
        any-ranges = λ new.
            of-steps (shows-cut stood (record { anchor = renew a; journal = new_journal F m i block; card = scattered rs new m.card })
            (refl, refl, beside-of rs m.card (scattered rs new m.card) (beside-scattered rs new m.card)));
        cut-leaves = cut-leaves;
        to-end = to-end;
      }
