-- A call, a split write and a recovery keep what holds along a list.
use mathlib.Core.Path.{◌≡◌, refl, sym, ap, ap₂, subst, ◌∙◌}
use mathlib.Core.Bool.{Bool, true, false, cond, ◌&&◌}
use mathlib.Core.List.{List}
use mathlib.Core.Logic.{inl, ⊎_elim}
use Prim.Native.Nat.{ℕ}
use lib.ListN.{length}
use Rattle.tree.specs.Answer.{Answer, Whole, Wrong, Refused, is_whole}
use Rattle.tree.specs.Calls.{Call, read, write, check, wipe, renews, answer_of, settled, outcome}
use Rattle.tree.specs.declared.Anchor.{Anchor}
use Rattle.tree.proofs.CallLaws.{outcome-answer}
use Rattle.journal.specs.Journal.{journal_length}
use Rattle.plan.specs.Split.{Planned, planned}
use Rattle.plan.specs.Puts.{PutStep}
use Rattle.plan.proofs.PlanLaws.{plan-answer, planned-refused}
use Rattle.replay.specs.Run.{Step, call, split, call_of, State, split_outcome, finished, result, stands, next, after}
use Rattle.replay.specs.Claim.{Complete, Untouched}
use Rattle.replay.proofs.Moves.{whole-or-not, not-whole, step-refused, split-answer, Move, still, wrote-block, lost-block, wiped-card, move}
use Rattle.replay.proofs.Anchors.{next-key}
use Rattle.cuts.specs.Media.{Media}
use Rattle.cuts.specs.World.{calling, splitting, World, left_by, media_after}
use Rattle.cuts.specs.World.{next_world, Possible}
use Rattle.cuts.proofs.Known.{Core, core-next}
use Rattle.cuts.proofs.Arrivals.{held, placed}
use Rattle.cuts.proofs.Attempts.{open_after, Inv}

module _ (F : List ℕ → List ℕ) (F16 : (m : List ℕ) → length (F m) ≡ 16) (s : State) (journal card : List ℕ) where
  abbrev m : Media
  m = held s journal card

  abbrev a : Anchor
  a = s.store.anchor

  abbrev behind : Step → World
  behind x = record { media = left_by m (result F s.store x); known = next F s x }

  -- a step that stands, and writes
  stood-keeps : (b : Bool) (x : Step) → Core F F16 s → length journal ≡ journal_length s.store.anchor.depth
      → Complete F s.store x → Untouched F s.store x → stands F s.store x ≡ true → renews (call_of x) ≡ true → Inv F F16 b (behind x)
  unfolding next
  stood-keeps b x core long complete untouched st r =
      let left : (result F s.store x).card ≡ (next F s x).store.left =
      ap₂ (λ (p q : Bool). cond (p && q) (result F s.store x).card s.store.left) (sym st) (sym r) in
      record {
        chip = refl;
        core = core-next F F16 s x complete untouched core;
        long = long ∙ ap journal_length (sym (next-key F F16 s x complete).1);
        pend = inl left;
        rest = λ e. left;
      }

  -- a refused call leaves anchor and card
  settled-same : (o : Answer) (c : Call) → (o ≡ Whole → ⊥)
      → left_by (held s journal card) (settled F o s.store.anchor card c)
      ≡ held s journal card
  settled-same Whole c d = absurd (d refl)
  settled-same (Wrong u) c d = refl
  settled-same (Refused r) c d = refl

  outcome-same : (c : Call) → ((outcome F s.store.anchor card c).answer ≡ Whole → ⊥)
      → left_by (held s journal card) (outcome F s.store.anchor card c)
      ≡ held s journal card
  unfolding outcome
  outcome-same c d = settled-same (answer_of F a card c) c (λ e. d (outcome-answer F a card c ∙ e))

  -- and so does one that only looks
  looks-same : (c : Call) → renews c ≡ false
      → left_by (held s journal card) (outcome F s.store.anchor card c)
      ≡ held s journal card
  unfolding outcome
  looks-same (read i buffer) e = go (answer_of F a card (read i buffer))
    where
      go : (o : Answer) → left_by (held s journal card)
          (settled F o s.store.anchor card (read i buffer)) ≡ held s journal card
      go Whole = refl
      go (Wrong u) = refl
      go (Refused r) = refl
  looks-same (write i block ranges) e = cc
  looks-same check e = go (answer_of F a card check)
    where
      go : (o : Answer) → left_by (held s journal card)
          (settled F o s.store.anchor card check) ≡ held s journal card
      go Whole = refl
      go (Wrong u) = refl
      go (Refused r) = refl
  looks-same wipe e = cc

  pub looks-still : (c : Call) → renews c ≡ false → next F s (call card c) ≡ s
  looks-still c e = go (move F F16 s (call card c) tt)
    where
      go : Move F s (call card c) → next F s (call card c) ≡ s
      go (still p f g none) = p
      go (wrote-block i block ranges w) = let z : false ≡ true = sym e ∙ ap renews w.tags.is-write in absurd cc
      go (lost-block i block ranges w) = let z : false ≡ true = sym e ∙ ap renews w.tags.is-write in absurd cc
      go (wiped-card card' i p q) =
          let z : false ≡ true = sym e ∙ ap (λ (x : Step). renews (call_of x)) i in absurd cc

  -- what changes neither media nor what is known
  still-keeps : {b : Bool} (v : Media) (z : State) → v ≡ held s journal card → z ≡ s
      → Inv F F16 b (placed s journal card) → Inv F F16 b (record { media = v; known = z })
  still-keeps {b} v z p q inv =
      subst (λ (u : Media). Inv F F16 b (record { media = u; known = z })) (sym p)
      (subst (λ (y : State). Inv F F16 b (record { media = m; known = y })) (sym q) inv)

  pub call-keeps : (b : Bool) (c : Call) → Inv F F16 b (placed s journal card) → (renews c ≡ true → b ≡ false)
      → Inv F F16 (open_after b (calling c)) (next_world F (placed s journal card) (calling c))
  unfolding open_after next_world media_after after
  call-keeps b c inv closed = go (renews c) refl
    where
      writes : renews c ≡ true → (outcome F s.store.anchor card c).answer ≡ Whole → Inv F F16 b (behind (call card c))
      writes r w = stood-keeps b (call card c) inv.core inv.long tt (inv.rest (closed r)) (ap is_whole w) r

      go : (k : Bool) → renews c ≡ k → Inv F F16 b (behind (call card c))
      go true r =
          ⊎_elim (λ (w : (outcome F a card c).answer ≡ Whole). writes r w)
          (λ (d : (outcome F a card c).answer ≡ Whole → ⊥).
          still-keeps (left_by m (outcome F a card c)) (next F s (call card c)) (outcome-same c d) (step-refused F s (call card c) d) inv)
          (whole-or-not F F16 s (outcome F a card c).answer)
      go false r = still-keeps (left_by m (outcome F a card c)) (next F s (call card c)) (looks-same c r) (looks-still c r) inv

  pub split-keeps : (b : Bool) (i : ℕ) (block ranges : List ℕ) (puts : List PutStep) → Inv F F16 b (placed s journal card) → b ≡ false
      → Possible F (held s journal card) (splitting i block ranges puts)
      → Inv F F16 (open_after b (splitting i block ranges puts)) (next_world F (placed s journal card) (splitting i block ranges puts))
  unfolding open_after next_world media_after after
  split-keeps b i block ranges puts inv closed possible =
      ⊎_elim
      (λ (w : o.call.answer ≡ Whole).
      let g = possible w in
      stood-keeps b x inv.core inv.long (λ e f. g.right) (inv.rest closed, g.untouched)
      (ap₂ (λ (p q : Bool). p && q) (ap is_whole w) g.filled) refl)
      (λ (d : o.call.answer ≡ Whole → ⊥).
      still-keeps (left_by m (split_outcome o puts)) (next F s x) (refused-same d)
      (step-refused F s x (λ e. d (sym (split-answer o puts) ∙ e))) inv)
      (whole-or-not F F16 s o.call.answer)
    where
      o : Planned
      o = planned F s.store.anchor card i block ranges

      x : Step
      x = split card i block ranges puts

      refused-same : (o.call.answer ≡ Whole → ⊥) → left_by m (split_outcome o puts) ≡ m
      refused-same d =
          let c = write i block ranges in
          let no : answer_of F a card c ≡ Whole → ⊥ = λ e. d (plan-answer F a card i block ranges ∙ e) in
          ap (λ (k : Bool). left_by m (cond k (finished o puts) o.call)) (not-whole F s.store o.call.answer d)
          ∙ ap (λ (p : Planned). left_by m p.call) (planned-refused F a card i block ranges no)
          ∙ outcome-same c (λ e. no (sym (outcome-answer F a card c) ∙ e))
