-- A forgery is none of our own, and is at a recovery that would apply it.
use mathlib.Core.Path.{◌≡◌, refl, sym, ap, subst, ◌∙◌}
use mathlib.Core.List.{List, Memᴰ}
use mathlib.Core.Logic.{inl, ⊎_elim}
use Prim.Native.Nat.{ℕ, ◌≤◌}
use lib.ListN.{length}
use Rattle.tree.specs.Layout.{card_length}
use Rattle.tree.specs.declared.Anchor.{Anchor}
use Rattle.journal.specs.Journal.{message_of, tag_of, journal_length}
use Rattle.journal.proofs.JournalLaws.{is-applies}
use Rattle.replay.specs.Places.{Place}
use Rattle.replay.specs.Run.{State, start, after}
use Rattle.replay.specs.Claim.{AllComplete}
use Rattle.replay.proofs.PlaceLaws.{earlier}
use Rattle.replay.proofs.Theorem.{key-any}
use Rattle.cuts.specs.World.{Ending, whole, cut, Item, attempting, recovering, calling, splitting, World, steps, begins, world_after}
use Rattle.cuts.specs.World.{before, Lawful}
use Rattle.cuts.specs.Claim.{IsRecovery, Kept, Forgery, Recovers}
use Rattle.cuts.specs.NotEmpty.{WrongTag, OwnJournals, NoForgery}
use Rattle.cuts.proofs.Chip.{known-is, chip-at, all-complete}
use Rattle.cuts.proofs.OwnLaws.{OwnCut, mine-after}
use Rattle.cuts.proofs.Begins.{inv-begins}
use Rattle.cuts.proofs.Kept.{recovers-from}

-- a recovery
is-recovering : (x : Item) → IsRecovery x → (e : Ending) × (x ≡ recovering e)
is-recovering (attempting i block ranges e) k = absurd k
is-recovering (recovering e) k = (e, refl)
is-recovering (calling c) k = absurd k
is-recovering (splitting i block ranges puts) k = absurd k

module _ (F : List ℕ → List ℕ) (F16 : (m : List ℕ) → length (F m) ≡ 16) (key : List ℕ) (n : ℕ) (deep : 1 ≤ n) (shallow : n ≤ 16)
    (card : List ℕ) (full : length card ≡ card_length n) (journal : List ℕ) (long : length journal ≡ journal_length n)
    (xs : List Item) (lawful : Lawful F (begins F key n card journal) xs) where
  abbrev w₀ : World
  w₀ = begins F key n card journal

  pub recovers-any : Recovers F (begins F key n card journal) xs
  recovers-any = recovers-from F F16 w₀ xs (inv-begins F F16 key n deep shallow card full journal long) lawful

  chip : w₀.media.anchor ≡ w₀.known.store.anchor
  chip = (inv-begins F F16 key n deep shallow card full journal long).chip

  known₀ : w₀.known ≡ start F key n card
  unfolding begins
  known₀ = refl

  -- the depth stays
  depth-at : (p : Place xs) → (world_after F w₀ p.before).known.store.anchor.depth ≡ n
  depth-at p =
      let complete = subst (λ (s : State). AllComplete F s (steps F w₀ p.before)) known₀
      (all-complete F F16 p.before w₀ chip (λ q. lawful.possible (earlier p q))) in
      ap (λ (s : State). s.store.anchor.depth) (known-is F p.before w₀ ∙ ap (λ (s : State). after F s (steps F w₀ p.before)) known₀)
      ∙ (key-any F F16 key n deep shallow card full complete).1

  chip-depth : (p : Place xs) → (world_after F w₀ p.before).media.anchor.depth ≡ n
  chip-depth p = ap (λ (a : Anchor). a.depth) (chip-at F F16 xs w₀ chip lawful.possible p) ∙ depth-at p

  -- Our own journals

  module _ (own : OwnJournals F w₀ n xs) where
    own-cut : (p : Place xs) (x : Item) → p.item ≡ x → OwnCut F F16 n (world_after F w₀ p.before).media x
    own-cut p (attempting i block ranges whole) e = tt
    own-cut p (attempting i block ranges (cut v)) e = own.torn p i block ranges v e
    own-cut p (recovering e) k = tt
    own-cut p (calling c) e = tt
    own-cut p (splitting i block ranges puts) e = tt

    none-forged : Forgery F w₀ xs → ⊥
    none-forged f =
        let p = f.place in
        let w = world_after F w₀ p.before in
        let d = chip-depth p in
        ⊎_elim
        (λ (z : WrongTag F w₀ n w.media.journal).
        z (subst (λ (k : ℕ). F (message_of k w.media.journal) ≡ tag_of k w.media.journal) d f.forged.right))
        (λ (z : Memᴰ (message_of n w.media.journal) w.known.tagged).
        f.forged.untagged (subst (λ (k : ℕ). Memᴰ (message_of k w.media.journal) w.known.tagged) (sym d) z))
        (mine-after F F16 n p.before w₀ chip (λ q. lawful.possible (earlier p q)) (λ q. depth-at (earlier p q))
        (λ q. own-cut (earlier p q) q.item refl) (inl own.first))

  pub no-forgery-any : NoForgery F (begins F key n card journal) n xs
  no-forgery-any =
      record {
        none-forged = none-forged;
        own-kept = λ own.
            ⊎_elim (λ (k : Kept F w₀ xs). k) (λ (f : Forgery F w₀ xs). absurd (none-forged own f)) recovers-any;
        applied = λ f.
            let m = (before F w₀ f.place).media in
            is-applies F m.anchor.depth m.anchor.root.0 m.journal (record { root = f.forged.root; tag = f.forged.right });
        at-recovery = λ f. is-recovering f.place.item f.recovery;
      }
