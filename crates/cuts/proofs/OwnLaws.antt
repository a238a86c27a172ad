-- Our own journals are no forgery: the journal's tag is wrong, or its message is tagged.
use mathlib.Core.Path.{◌≡◌, refl, sym, ap, subst, ◌∙◌}
use mathlib.Core.Bool.{Bool, cond}
use mathlib.Core.List.{List, [], ◌∷◌, Memᴰ}
use mathlib.Core.List.Memᴰ
use mathlib.Core.Logic.{◌⊎◌, inl, inr, ⊎_elim}
use Prim.Native.Nat.{ℕ, ◌+◌}
use lib.ListN.{length}
use Rattle.tree.specs.Answer.{Whole, is_whole}
use Rattle.tree.specs.Calls.{Call}
use Rattle.plan.specs.Puts.{PutStep}
use Rattle.journal.specs.Journal.{message_of, tag_of, journal_message}
use Rattle.journal.specs.Journalled.{Journalled}
use Rattle.journal.specs.Recovery.{recovered}
use Rattle.journal.proofs.JournalLaws.{own-message}
use Rattle.replay.specs.Places.{Place}
use Rattle.replay.specs.Run.{Fate, unheard, lost, stood, State, next}
use Rattle.replay.proofs.PlaceLaws.{first, later}
use Rattle.replay.proofs.Moves.{whole-or-not, not-whole}
use Rattle.replay.proofs.Unforged.{kept}
use Rattle.cuts.specs.Media.{Media, fate_of}
use Rattle.cuts.specs.World.{Ending, whole, cut, Item, attempting, recovering, calling, splitting, World, ended, left_by, tried, recovery}
use Rattle.cuts.specs.World.{media_after}
use Rattle.cuts.specs.World.{steps_of, next_world, world_after, Possible}
use Rattle.cuts.specs.NotEmpty.{new_card, new_journal, Shown}
use Rattle.cuts.proofs.CutLaws.{tried-is, tried-ok, card-full}
use Rattle.cuts.proofs.RecoveryLaws.{recovery-cuts}
use Rattle.cuts.proofs.Arrivals.{held, placed, placed-is, cut-is, cut-shown, refused-is, behind, whole-is, lost-move, stood-move}
use Rattle.cuts.proofs.Chip.{Chip, AllPossible, chip-next}

module _ (F : List ℕ → List ℕ) (F16 : (m : List ℕ) → length (F m) ≡ 16) (n : ℕ) where
  -- a journal whose tag is wrong, or whose message is tagged
  abbrev pub Mine : List ℕ → State → Type 0
  Mine journal s = (F (message_of n journal) ≡ tag_of n journal → ⊥) ⊎ Memᴰ (message_of n journal) s.tagged

  -- what is asked of the cut of an attempt
  abbrev pub OwnCut : Media → Item → Type 0
  OwnCut m (attempting i block ranges whole) = Unit {0}
  OwnCut m (attempting i block ranges (cut v)) =
      (F (message_of n v.journal) ≡ tag_of n v.journal → ⊥)
      ⊎ ((v.journal ≡ m.journal) ⊎ (v.journal ≡ (tried F m i block ranges).journal))
  OwnCut m (recovering e) = Unit {0}
  OwnCut m (calling c) = Unit {0}
  OwnCut m (splitting i block ranges puts) = Unit {0}

  module _ (s : State) (journal card : List ℕ) (deep : s.store.anchor.depth ≡ n) where
    abbrev m : Media
    m = held s journal card

    next-journal : (x : Item) → (next_world F (placed s journal card) x).media.journal ≡ (media_after F m x).journal
    unfolding next_world
    next-journal x = refl

    call-journal : (c : Call) → (media_after F m (calling c)).journal ≡ journal
    unfolding media_after
    call-journal c = refl

    split-journal : (i : ℕ) (block ranges : List ℕ) (puts : List PutStep)
        → (media_after F m (splitting i block ranges puts)).journal ≡ journal
    unfolding media_after
    split-journal i block ranges puts = refl

    -- steps keep it
    grows : (x : Item) (j : List ℕ) → Mine j s → Mine j (next_world F (placed s journal card) x).known
    unfolding next_world
    grows x j (inl d) = inl d
    grows x j (inr h) = inr (kept F (steps_of F m x) s (message_of n j) h)

    -- an attempt

    module _ (i : ℕ) (block ranges : List ℕ)
        (w : (tried F (held s journal card) i block ranges).call.answer ≡ Whole) where
      abbrev message : List ℕ
      message = journal_message s.store.anchor.depth (s.store.anchor.reserved.0 + s.store.anchor.depth) i (new_card F m i block)

      has-message : message_of n (new_journal F m i block) ≡ message
      has-message =
          let ok = tried-ok F F16 m i block ranges w in
          ap (λ (k : ℕ). message_of k (new_journal F m i block)) (sym deep)
          ∙ own-message s.store.anchor.depth (s.store.anchor.reserved.0 + s.store.anchor.depth) i (new_card F m i block) ok.inside
          ok.sound.deep
          (card-full F F16 m i block ranges w) F

      lost-mine : (j : List ℕ) → j ≡ new_journal F m i block → Mine j (behind F F16 s journal card i block ranges lost m).known
      lost-mine j e =
          let l = lost-move F F16 s journal card i block ranges w in
          inr (subst (λ (z : State). Memᴰ (message_of n j) z.tagged) (sym l.is)
          (Memᴰ.append_left s.tagged (l.tags.names (message_of n j) (inr (ap (message_of n) e ∙ has-message)))))

      stood-mine : (j : List ℕ) → j ≡ new_journal F m i block → Mine j (behind F F16 s journal card i block ranges stood m).known
      stood-mine j e =
          let l = stood-move F F16 s journal card i block ranges w in
          inr (subst (λ (z : State). Memᴰ (message_of n j) z.tagged) (sym l.is)
          (Memᴰ.append_left s.tagged (l.tags.names (message_of n j) (inr (ap (message_of n) e ∙ has-message)))))

      old-mine : (fate : Fate) (j : List ℕ) → Mine j s → Mine j (behind F F16 s journal card i block ranges fate m).known
      unfolding next
      old-mine fate j (inl d) = inl d
      old-mine fate j (inr h) = inr (Memᴰ.append_right _ h)

      cut-mine : (fate : Fate) (v : Media) → Shown F m i block fate v → Mine journal s
          → (F (message_of n v.journal) ≡ tag_of n v.journal → ⊥)
          ⊎ ((v.journal ≡ journal) ⊎ (v.journal ≡ (tried F m i block ranges).journal))
          → Mine v.journal (behind F F16 s journal card i block ranges fate v).known
      cut-mine unheard v e k o =
          old-mine unheard v.journal (subst (λ (j : List ℕ). Mine j s) (sym (ap (λ (z : Media). z.journal) e)) k)
      cut-mine lost v e k (inl d) = inl d
      cut-mine lost v e k (inr (inl q)) = old-mine lost v.journal (subst (λ (j : List ℕ). Mine j s) (sym q) k)
      cut-mine lost v e k (inr (inr q)) =
          lost-mine v.journal (q ∙ ap (λ (o : Journalled). o.journal) (tried-is F F16 m i block ranges w))
      cut-mine stood v e k o = stood-mine v.journal e.1

      attempt-mine : (e : Ending) → Possible F m (attempting i block ranges e) → OwnCut m (attempting i block ranges e) → Mine journal s
          → Mine (next_world F (placed s journal card) (attempting i block ranges e)).media.journal
          (next_world F (placed s journal card) (attempting i block ranges e)).known
      attempt-mine whole p o k =
          subst (λ (z : World). Mine z.media.journal z.known) (sym (whole-is F F16 s journal card i block ranges w))
          (stood-mine (new_journal F m i block) refl)
      attempt-mine (cut v) p o k =
          let f = fate_of s.store.anchor v.anchor in
          subst (λ (z : World). Mine z.media.journal z.known) (sym (cut-is F F16 s journal card i block ranges w v))
          (cut-mine f v (cut-shown F F16 s journal card i block ranges w v p) k o)

    -- an item

    recovery-journal : (e : Ending) → Possible F m (recovering e) → (media_after F m (recovering e)).journal ≡ journal
    unfolding media_after recovered
    recovery-journal e p =
        ⊎_elim
        (λ (w : (recovery F m).answer ≡ Whole).
        ap (λ (b : Bool). (cond b (ended e (left_by m (recovery F m))) m).journal) (ap is_whole w) ∙ done e p w)
        (λ (d : (recovery F m).answer ≡ Whole → ⊥).
        ap (λ (b : Bool). (cond b (ended e (left_by m (recovery F m))) m).journal) (not-whole F s.store (recovery F m).answer d))
        (whole-or-not F F16 s (recovery F m).answer)
      where
        done : (e : Ending) → Possible F m (recovering e) → (recovery F m).answer ≡ Whole
            → (ended e (left_by m (recovery F m))).journal ≡ journal
        done whole p w = refl
        done (cut v) p w = ((recovery-cuts F m w).shown v (p w)).1

    same_mine : (x : Item) → (next_world F (placed s journal card) x).media.journal ≡ journal → Mine journal s
        → Mine (next_world F (placed s journal card) x).media.journal (next_world F (placed s journal card) x).known
    same_mine x e k =
        grows x (next_world F (placed s journal card) x).media.journal (subst (λ (j : List ℕ). Mine j s) (sym e) k)

    mine-placed : (x : Item) → Possible F m x → OwnCut m x → Mine journal s
        → Mine (next_world F (placed s journal card) x).media.journal (next_world F (placed s journal card) x).known
    mine-placed (attempting i block ranges e) p o k =
        ⊎_elim (λ (w : (tried F m i block ranges).call.answer ≡ Whole). attempt-mine i block ranges w e p o k)
        (λ (d : (tried F m i block ranges).call.answer ≡ Whole → ⊥).
        subst (λ (z : World). Mine z.media.journal z.known) (sym (refused-is F F16 s journal card i block ranges e d)) k)
        (whole-or-not F F16 s (tried F m i block ranges).call.answer)
    mine-placed (recovering e) p o k = same_mine (recovering e) (next-journal (recovering e) ∙ recovery-journal e p) k
    mine-placed (calling c) p o k = same_mine (calling c) (next-journal (calling c) ∙ call-journal c) k
    mine-placed (splitting i block ranges puts) p o k =
        same_mine (splitting i block ranges puts) (next-journal (splitting i block ranges puts) ∙ split-journal i block ranges puts) k

  -- A list

  mine-next : (w : World) (x : Item) → Chip F F16 w → w.known.store.anchor.depth ≡ n → Possible F w.media x → OwnCut w.media x
      → Mine w.media.journal w.known → Mine (next_world F w x).media.journal (next_world F w x).known
  mine-next w x chip =
      subst
      (λ (z : World).
      z.known.store.anchor.depth ≡ n → Possible F z.media x → OwnCut z.media x → Mine z.media.journal z.known
      → Mine (next_world F z x).media.journal (next_world F z x).known)
      (placed-is w chip) (λ d. mine-placed w.known w.media.journal w.media.card d x)

  pub mine-after : (xs : List Item) (w : World) → Chip F F16 w → AllPossible F F16 w xs
      → ((p : Place xs) → (world_after F w p.before).known.store.anchor.depth ≡ n)
      → ((p : Place xs) → OwnCut (world_after F w p.before).media p.item) → Mine w.media.journal w.known
      → Mine (world_after F w xs).media.journal (world_after F w xs).known
  unfolding world_after
  mine-after [] w chip possible depth own k = k
  mine-after (x ∷ xs) w chip possible depth own k =
      let here = first x xs in
      mine-after xs (next_world F w x) (chip-next F F16 w x chip (possible here)) (λ p. possible (later x p)) (λ p. depth (later x p))
      (λ p. own (later x p)) (mine-next w x chip (depth here) (possible here) (own here) k)
