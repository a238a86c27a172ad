-- What is claimed of a list, from what holds at each item of it.
use mathlib.Core.Path.{◌≡◌, refl, sym, ap, subst, ◌∙◌}
use mathlib.Core.Bool.{true, false}
use mathlib.Core.List.{List, [], ◌∷◌}
use mathlib.Core.Logic.{◌⊎◌, inl, inr, ⊎_elim}
use Prim.Native.Nat.{ℕ, ◌+◌}
use lib.ListN.{length, set}
use Rattle.tree.specs.Answer.{Whole}
use Rattle.tree.specs.Calls.{Call, renews}
use Rattle.tree.specs.declared.Anchor.{Anchor}
use Rattle.plan.proofs.ListLaws.{truth}
use Rattle.replay.specs.Array.{Array}
use Rattle.replay.specs.Places.{Place, Behind}
use Rattle.replay.specs.Run.{State, after}
use Rattle.replay.proofs.PlaceLaws.{first, later}
use Rattle.cuts.specs.Media.{Media}
use Rattle.cuts.specs.World.{Ending, whole, Item, attempting, recovering, calling, splitting, World, tried, media_after, next_world}
use Rattle.cuts.specs.World.{world_after}
use Rattle.cuts.specs.World.{Writes, Settled, Possible, Lawful}
use Rattle.cuts.specs.Claim.{Shows, Restores, Kept, Forgery, Recovers}
use Rattle.cuts.proofs.Attempts.{Inv}
use Rattle.cuts.proofs.Others.{looks-still}
use Rattle.cuts.proofs.Recovers.{all_open, settled-closed, Here, HereFrom, here-or-forged}
use Rattle.cuts.proofs.Chip.{Chip, world-append, AllPossible, chip-next, chip-at}
use Rattle.cuts.proofs.IsList.{by-root}

module _ (F : List ℕ → List ℕ) (F16 : (m : List ℕ) → length (F m) ≡ 16) where
  looks-only : (c : Call) → (renews c ≡ true → ⊥) → renews c ≡ false
  looks-only c d = ⊎_elim (λ (e : renews c ≡ true). absurd (d e)) (λ (e : renews c ≡ false). e) (truth (renews c))

  -- what does not write moves nothing that is known
  between-still : (xs : List Item) (w : World) → ((r : Place xs) → Writes r.item → ⊥) → (world_after F w xs).known ≡ w.known
  unfolding world_after next_world after
  between-still [] w none = refl
  between-still (recovering e ∷ xs) w none = between-still xs (next_world F w (recovering e)) (λ r. none (later (recovering e) r))
  between-still (attempting i block ranges e ∷ xs) w none = absurd (none (first (attempting i block ranges e) xs) tt)
  between-still (calling c ∷ xs) w none =
      between-still xs (next_world F w (calling c)) (λ r. none (later (calling c) r))
      ∙ looks-still F F16 w.known w.media.journal w.media.card c (looks-only c (none (first (calling c) xs)))
  between-still (splitting i block ranges puts ∷ xs) w none = absurd (none (first (splitting i block ranges puts) xs) tt)

  module _ (w₀ : World) (xs : List Item) (chip : Chip F F16 w₀) (possible : AllPossible F F16 w₀ xs)
      (here : HereFrom F F16 false w₀ xs) where
    at : (p : Place xs) (x : Item) → p.item ≡ x → Here F F16 (all_open false p.before) (world_after F w₀ p.before) x
    at p x e = subst (Here F F16 (all_open false p.before) (world_after F w₀ p.before)) e (here p)

    closed : (p : Place xs) → Settled p.before → all_open false p.before ≡ false
    closed p s = settled-closed p.before false (λ e. cc) s

    module _ (p q : Place xs) (b : Behind p q) (i : ℕ) (block ranges : List ℕ) (e : Ending) (is : p.item ≡ attempting i block ranges e)
        (accepted : (tried F (world_after F w₀ p.before).media i block ranges).call.answer ≡ Whole)
        (none : (r : Place b.between) → Writes r.item → ⊥) (is-whole : q.item ≡ recovering whole) where
      abbrev w : World
      w = world_after F w₀ p.before

      abbrev v : World
      v = next_world F (world_after F w₀ p.before) (attempting i block ranges e)

      abbrev u : World
      u = world_after F w₀ q.before

      known-same : (world_after F w₀ q.before).known ≡ (next_world F (world_after F w₀ p.before) (attempting i block ranges e)).known
      unfolding world_after
      known-same =
          ap (λ (ys : List Item). (world_after F w₀ ys).known) b.is
          ∙ ap (λ (z : World). z.known) (world-append F p.before (p.item ∷ b.between) w₀)
          ∙ between-still b.between (next_world F w p.item) none
          ∙ ap (λ (x : Item). (next_world F w x).known) is

      chip-p : Chip F F16 w
      chip-p = chip-at F F16 xs w₀ chip possible p

      p-possible : Possible F w.media (attempting i block ranges e)
      p-possible = subst (Possible F w.media) is (possible p)

      chip-same : u.media.anchor ≡ v.media.anchor
      chip-same =
          chip-at F F16 xs w₀ chip possible q ∙ ap (λ (z : State). z.store.anchor) known-same
          ∙ sym (chip-next F F16 w (attempting i block ranges e) chip-p p-possible)

      restores : Restores F u
      restores = at q (recovering whole) is-whole

      shown : (array : Array) → u.known.store.array ≡ array →
          let m = media_after F u.media (recovering whole) in
          Shows F m.anchor m.card array
      shown array k =
          subst (λ (m : Media). Shows F m.anchor m.card array) (sym restores.leaves)
          (subst (λ (z : Array). Shows F u.media.anchor u.known.store.left z) k restores.shows)

      abbrev Promise : Item → Type 0
      Promise x =
          let m = media_after F u.media x in
          let a = w.media.anchor in
          let array = w.known.store.array in
          (m.anchor.root.0 ≡ a.root.0 → Shows F m.anchor m.card array)
          × (m.anchor.root.0 ≡ a.reserved.0 + a.depth → Shows F m.anchor m.card (set array i block))
          × ((m.anchor.root.0 ≡ a.root.0) ⊎ (m.anchor.root.0 ≡ a.reserved.0 + a.depth))

      promised : Promise q.item
      promised =
          let r = by-root F F16 i block ranges e w chip-p p-possible accepted in
          let root : (media_after F u.media (recovering whole)).anchor.root.0 ≡ v.media.anchor.root.0 =
          ap (λ (m : Media). m.anchor.root.0) restores.leaves ∙ ap (λ (a : Anchor). a.root.0) chip-same in
          let array : u.known.store.array ≡ v.known.store.array = ap (λ (z : State). z.store.array) known-same in
          subst Promise (sym is-whole) (
            λ k. shown w.known.store.array (array ∙ (r.old (sym root ∙ k)).0),
            λ k. shown (set w.known.store.array i block) (array ∙ (r.new (sym root ∙ k)).0),
            ⊎_elim (λ (k : v.media.anchor.root.0 ≡ w.media.anchor.root.0). inl (root ∙ k))
                (λ (k : v.media.anchor.root.0 ≡ w.media.anchor.reserved.0 + w.media.anchor.depth). inr (root ∙ k)) r.either,
          )

    pub kept : Kept F w₀ xs
    kept =
        record {
          restored = λ p is. at p (recovering whole) is;
          promised = λ p q b i block ranges e is accepted none is-whole. promised p q b i block ranges e is accepted none is-whole;
          attempts = λ p i block ranges e is. at p (attempting i block ranges e) is;
          splits = λ p i block ranges puts is. at p (splitting i block ranges puts) is;
          calls = λ p c is s. (at p (calling c) is (closed p s)).0;
          agrees = λ p c is s. (at p (calling c) is (closed p s)).1;
        }

  pub recovers-from : (w : World) (xs : List Item) → Inv F F16 false w → Lawful F w xs → Recovers F w xs
  recovers-from w xs inv l =
      ⊎_elim (λ (k : HereFrom F F16 false w xs). inl (kept w xs inv.chip l.possible k)) (λ (f : Forgery F w xs). inr f)
      (here-or-forged F F16 w xs inv l)
