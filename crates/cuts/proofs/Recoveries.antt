-- A recovery, whole or cut, keeps what holds along a list, and one that finishes restores; or the journal is forged.
use mathlib.Core.Path.{◌≡◌, refl, sym, ap, subst, ◌∙◌}
use mathlib.Core.Bool.{Bool, true, false, cond}
use mathlib.Core.List.{List}
use mathlib.Core.Logic.{◌⊎◌, inl, inr, ⊎_elim}
use Prim.Native.Nat.{ℕ}
use lib.ListN.{length}
use Rattle.tree.specs.Answer.{Answer, Whole, is_whole}
use Rattle.tree.specs.Calls.{read, outcome}
use Rattle.tree.specs.declared.Anchor.{Anchor}
use Rattle.tree.proofs.LimitLaws.{Reads}
use Rattle.tree.proofs.CallLaws.{clean-accepts, outcome-answer}
use Rattle.journal.specs.Recovery.{mended, recovered}
use Rattle.replay.specs.Run.{call, State, after}
use Rattle.cuts.specs.Media.{Media}
use Rattle.cuts.specs.World.{Ending, whole, cut, recovering, World, recovery, media_after, next_world, Possible}
use Rattle.cuts.specs.Claim.{Shows, Restores, ForgedJournal}
use Rattle.cuts.specs.NotEmpty.{pending_ranges}
use Rattle.cuts.proofs.Mending.{Fine, Fake, consult}
use Rattle.cuts.proofs.CutLaws.{of-beside}
use Rattle.cuts.proofs.RecoveryLaws.{recovery-cuts}
use Rattle.cuts.proofs.Known.{Core, core-sound, served}
use Rattle.cuts.proofs.Arrivals.{held, placed}
use Rattle.cuts.proofs.Attempts.{open_after, Inv}

module _ (F : List ℕ → List ℕ) (F16 : (m : List ℕ) → length (F m) ≡ 16) (s : State) (journal card : List ℕ) where
  abbrev m : Media
  m = held s journal card

  abbrev a : Anchor
  a = s.store.anchor

  -- the card as last left shows the array
  shows : Core F F16 s → Shows F s.store.anchor s.store.left s.store.array
  shows core i buffer inside long =
      let ok : Reads a s.store.left i buffer = record { sound = core-sound F F16 s core; inside = inside; long = long } in
      let w : (outcome F a s.store.left (read i buffer)).answer ≡ Whole =
      outcome-answer F a s.store.left (read i buffer) ∙ clean-accepts F a s.store.left core.good.clean (read i buffer) ok in
      (w, (served F F16 s core (call s.store.left (read i buffer)) refl).agrees w)

  module _ (fine : Fine F s journal card) where
    answered : (recovery F m).answer ≡ Whole
    unfolding recovered
    answered = fine.answered

    leaves : media_after F m (recovering whole) ≡ record { anchor = s.store.anchor; journal = journal; card = s.store.left }
    unfolding media_after recovered
    leaves =
        ap
        (λ (x : Answer).
        let v : Media = record { anchor = a; journal = journal; card = cond (is_whole x) (mended F a.depth a.root.0 journal card) card } in
        cond (is_whole x) v m)
        fine.answered
        ∙ ap (λ (c : List ℕ). let v : Media = record { anchor = a; journal = journal; card = c } in v) fine.gives

    cut-leaves : (v : Media) → media_after F m (recovering (cut v)) ≡ v
    unfolding media_after
    cut-leaves v = ap (λ (x : Answer). cond (is_whole x) v m) answered

    pub restores : Core F F16 s → Restores F (placed s journal card)
    restores core = record { accepted = answered; leaves = leaves; shows = shows core }

    behind : (e : Ending) (v : Media) → media_after F m (recovering e) ≡ v
        → next_world F (placed s journal card) (recovering e) ≡ record { media = v; known = s }
    unfolding next_world after
    behind e v p = ap (λ (z : Media). let w : World = record { media = z; known = s } in w) p

    pub recovery-keeps : (b : Bool) (e : Ending) → Inv F F16 b (placed s journal card)
        → Possible F (held s journal card) (recovering e)
        → Inv F F16 (open_after b (recovering e)) (next_world F (placed s journal card) (recovering e))
    unfolding open_after
    recovery-keeps b whole inv possible =
        subst (Inv F F16 false) (sym (behind whole (record { anchor = a; journal = journal; card = s.store.left }) leaves))
        (record { chip = refl; core = inv.core; long = inv.long; pend = inl refl; rest = λ z. refl })
    recovery-keeps b (cut v) inv possible =
        let k = (recovery-cuts F m answered).shown v (possible answered) in
        subst (Inv F F16 true) (sym (behind (cut v) v (cut-leaves v)))
        (record {
          chip = k.0;
          core = inv.core;
          long = ap length k.1 ∙ inv.long;
          pend = subst (λ (j : List ℕ). Rattle.cuts.proofs.Mending.Pend F s j v.card) (sym k.1)
              (fine.again v.card (of-beside (pending_ranges F m) card v.card k.2));
          rest = λ z. cc;
        })

  forged : Fake F s journal → ForgedJournal F (placed s journal card)
  forged f = record { root = f.root; right = f.right; untagged = f.untagged }

  pub look : {b : Bool} → Inv F F16 b (placed s journal card) → ForgedJournal F (placed s journal card) ⊎ Fine F s journal card
  look inv =
      ⊎_elim (λ (f : Fake F s journal). inl (forged f)) (λ (f : Fine F s journal card). inr f)
      (consult F s (core-sound F F16 s inv.core) journal card inv.long inv.core.told inv.pend)
