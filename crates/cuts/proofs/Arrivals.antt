-- How far an attempt came: what is behind it then, on the media and in what is known.
use mathlib.Core.Path.{◌≡◌, refl, sym, ap, ◌∙◌}
use mathlib.Core.Bool.{Bool, cond}
use mathlib.Core.List.{List}
use mathlib.Core.Logic.{inl, inr}
use Prim.Native.Nat.{ℕ, ◌+◌}
use native.Mathlib.Omega.{arith}
use lib.ListN.{length}
use Rattle.tree.specs.Ranges.{ranges_of}
use Rattle.tree.specs.Answer.{Whole, is_whole}
use Rattle.tree.specs.Calls.{renew}
use Rattle.tree.specs.declared.Anchor.{Anchor}
use Rattle.journal.specs.Journalled.{Journalled, journalled_answer}
use Rattle.journal.proofs.BackLaws.{beside-sym, beside-written}
use Rattle.journal.proofs.JournalledLaws.{journalled-answer, write-whole}
use Rattle.replay.specs.Run.{Fate, unheard, lost, stood, Step, attempt, State, next, after}
use Rattle.replay.proofs.Moves.{not-whole, Wrote, Lost, attempt-unheard, attempt-refused, attempt-wrote, attempt-left, attempt-lost}
use Rattle.cuts.specs.Media.{Media, all_out, four_steps, fate_of}
use Rattle.cuts.specs.World.{Ending, whole, cut, attempting, World, ended, tried, media_after, next_world, Possible}
use Rattle.cuts.specs.Claim.{ByRoot}
use Rattle.cuts.specs.NotEmpty.{new_card, new_journal, Shown}
use Rattle.cuts.proofs.CutLaws.{beside-of, tried-is, tried-ok, shown, to-end, whole-stood}

-- the world in which the chip has the anchor that is known
abbrev pub held : State → List ℕ → List ℕ → Media
held s journal card = record { anchor = s.store.anchor; journal = journal; card = card }

abbrev pub placed : State → List ℕ → List ℕ → World
placed s journal card = record { media = held s journal card; known = s }

pub placed-is : (w : World) → w.media.anchor ≡ w.known.store.anchor → placed w.known w.media.journal w.media.card ≡ w
placed-is w e =
    ap
    (λ (a : Anchor).
    let m : Media = record { anchor = a; journal = w.media.journal; card = w.media.card } in
    let z : World = record { media = m; known = w.known } in
    z)
    (sym e)

module _ (F : List ℕ → List ℕ) (F16 : (m : List ℕ) → length (F m) ≡ 16) (s : State) (journal card : List ℕ) (i : ℕ)
    (block ranges : List ℕ) where
  abbrev m : Media
  m = held s journal card

  abbrev a : Anchor
  a = s.store.anchor

  abbrev o : Journalled
  o = tried F m i block ranges

  abbrev x : Fate → Step
  x fate = attempt card i block ranges journal fate

  -- the world behind it
  abbrev pub behind : Fate → Media → World
  behind fate v = record { media = v; known = next F s (attempt card i block ranges journal fate) }

  next-is : (e : Ending) (v : Media) (fate : Fate) → media_after F m (attempting i block ranges e) ≡ v
      → fate_of s.store.anchor v.anchor ≡ fate → next_world F (placed s journal card) (attempting i block ranges e) ≡ behind fate v
  unfolding next_world after
  next-is e v fate p q =
      ap (λ (z : Media). let w : World = record { media = z; known = next F s (x (fate_of a z.anchor)) } in w) p
      ∙ ap (λ (f : Fate). behind f v) q

  -- refused
  pub refused-is : (e : Ending)
      → ((tried F (held s journal card) i block ranges).call.answer ≡ Whole → ⊥)
      → next_world F (placed s journal card) (attempting i block ranges e) ≡ placed s journal card
  unfolding media_after
  refused-is e d =
      let p : media_after F m (attempting i block ranges e) ≡ m =
      ap (λ (b : Bool). cond b (ended e (all_out (four_steps o i) m)) m) (not-whole F s.store o.call.answer d) in
      next-is e m (fate_of a a) p refl
      ∙ ap (λ (z : State). let w : World = record { media = m; known = z } in w)
      (attempt-refused F s card i block ranges journal (fate_of a a) d)

  module _ (accepted : (tried F (held s journal card) i block ranges).call.answer ≡ Whole) where
    answered : journalled_answer F a card i block ranges journal ≡ Whole
    answered = sym (journalled-answer F a card i block ranges journal) ∙ accepted

    accepted-is : (e : Ending) → media_after F m (attempting i block ranges e) ≡ ended e (all_out (four_steps o i) m)
    unfolding media_after
    accepted-is e = ap (λ (b : Bool). cond b (ended e (all_out (four_steps o i) m)) m) (ap is_whole accepted)

    abbrev pub full_media : Media
    full_media =
        let m : Media = held s journal card in
        record { anchor = renew s.store.anchor; journal = new_journal F m i block; card = new_card F m i block }

    full-shown : Shown F m i block stood full_media
    full-shown =
        let ok = tried-ok F F16 m i block ranges accepted in (
          refl,
          refl,
          beside-of (ranges_of a.depth i) card (new_card F m i block)
              (beside-sym (ranges_of a.depth i) card (new_card F m i block)
              (beside-written F F16 a.depth ok.sound.deep a.root.0 a.reserved.0 card i block ok.sound.full ok.inside ok.long)),
        )

    -- it came so far, and the media show it
    pub record Arrived (e : Ending) : Type 0 where
      pub fate : Fate
      pub media : Media
      pub is : next_world F (placed s journal card) (attempting i block ranges e) ≡ behind fate media
      pub shown : Shown F (held s journal card) i block fate media

    pub whole-is : next_world F (placed s journal card) (attempting i block ranges whole) ≡ behind stood full_media
    whole-is = next-is whole full_media stood (to-end F F16 m i block ranges accepted) (whole-stood F F16 m i block ranges accepted)

    pub cut-is : (v : Media) → next_world F (placed s journal card) (attempting i block ranges (cut v))
        ≡ behind (fate_of s.store.anchor v.anchor) v
    cut-is v = next-is (cut v) v (fate_of a v.anchor) (accepted-is (cut v)) refl

    pub cut-shown : (v : Media) → Possible F (held s journal card) (attempting i block ranges (cut v))
        → Shown F (held s journal card) i block (fate_of s.store.anchor v.anchor) v
    cut-shown v p = shown F F16 m i block ranges accepted v (p accepted)

    pub arrives : (e : Ending) → Possible F (held s journal card) (attempting i block ranges e)
        → Arrived e
    arrives whole p = record { fate = stood; media = full_media; is = whole-is; shown = full-shown }
    arrives (cut v) p = record { fate = fate_of a v.anchor; media = v; is = cut-is v; shown = cut-shown v p }

    -- What is known then

    pub lost-move : Lost F s (attempt card i block ranges journal lost) i block ranges
    lost-move = attempt-lost F F16 s card i block ranges (write-whole F a card i block ranges journal answered) journal answered

    pub stood-move : Wrote F s (attempt card i block ranges journal stood) i block ranges
    stood-move = attempt-wrote F F16 s card i block ranges (write-whole F a card i block ranges journal answered) journal answered

    pub stood-left : stood-move.left ≡ new_card F (held s journal card) i block
    unfolding stood-move
    stood-left = attempt-left F F16 s card i block ranges (write-whole F a card i block ranges journal answered) journal answered

    pub unheard-still : next F s (attempt card i block ranges journal unheard) ≡ s
    unheard-still = attempt-unheard F s card i block ranges journal

    -- the chip has the anchor that is known
    pub chip-of : (fate : Fate) (v : Media) → Shown F (held s journal card) i block fate v
        → v.anchor ≡ (next F s (attempt card i block ranges journal fate)).store.anchor
    chip-of unheard v e = ap (λ (z : Media). z.anchor) e ∙ sym (ap (λ (z : State). z.store.anchor) unheard-still)
    chip-of lost v e = e.0 ∙ sym (ap (λ (z : State). z.store.anchor) lost-move.is)
    chip-of stood v e = e.0 ∙ sym (ap (λ (z : State). z.store.anchor) stood-move.is)

    -- and its root nonce tells array and card
    pub root-of : (fate : Fate) (v : Media) → Shown F (held s journal card) i block fate v
        → ByRoot (placed s journal card) (behind fate v) (tried F (held s journal card) i block ranges) i block
    root-of unheard v e =
        let ok = tried-ok F F16 m i block ranges accepted in
        let deep = ok.sound.deep in
        let within = ok.sound.within in
        let root : v.anchor.root.0 ≡ a.root.0 = ap (λ (z : Media). z.anchor.root.0) e in
        record {
          old = λ p. (ap (λ (z : State). z.store.array) unheard-still, ap (λ (z : State). z.store.left) unheard-still);
          new = λ p. absurd (omega arith);
          either = inl root;
        }
    root-of lost v e =
        let ok = tried-ok F F16 m i block ranges accepted in
        let deep = ok.sound.deep in
        let within = ok.sound.within in
        let root : v.anchor.root.0 ≡ a.root.0 = ap (λ (z : Anchor). z.root.0) e.0 in
        record {
          old = λ p. (ap (λ (z : State). z.store.array) lost-move.is, ap (λ (z : State). z.store.left) lost-move.is);
          new = λ p. absurd (omega arith);
          either = inl root;
        }
    root-of stood v e =
        let ok = tried-ok F F16 m i block ranges accepted in
        let deep = ok.sound.deep in
        let within = ok.sound.within in
        let root : v.anchor.root.0 ≡ a.reserved.0 + a.depth = ap (λ (z : Anchor). z.root.0) e.0 in
        record {
          old = λ p. absurd (omega arith);
          new = λ p. (
            ap (λ (z : State). z.store.array) stood-move.is,
            ap (λ (z : State). z.store.left) stood-move.is ∙ stood-left
                ∙ sym (ap (λ (q : Journalled). q.call.card) (tried-is F F16 m i block ranges accepted)),
          );
          either = inr root;
        }
