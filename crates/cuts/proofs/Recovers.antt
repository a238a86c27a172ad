-- The claim over cuts: every finished recovery restores, and where no cut is open every step is served; or a forged journal is shown.
use mathlib.Core.Path.{◌≡◌, refl, sym, subst, ◌∙◌}
use mathlib.Core.Bool.{Bool, true, false}
use mathlib.Core.List.{List, [], ◌∷◌}
use mathlib.Core.Logic.{◌⊎◌, inl, inr, ⊎_elim}
use Prim.Native.Nat.{ℕ}
use lib.ListN.{length}
use Rattle.tree.specs.Answer.{Whole}
use Rattle.tree.specs.Calls.{Call, write, limits, outcome}
use Rattle.journal.specs.Journalled.{journalled_limits}
use Rattle.plan.specs.Puts.{PutStep}
use Rattle.replay.specs.Places.{Place}
use Rattle.replay.specs.Run.{unheard, Step, call, split, attempt, card_of, told, State}
use Rattle.replay.specs.Claim.{Agrees}
use Rattle.replay.proofs.PlaceLaws.{first, later, no_place, at_places}
use Rattle.replay.proofs.Moves.{split-answer}
use Rattle.cuts.specs.World.{Ending, whole, cut, Item, attempting, recovering, calling, splitting, World, tried, laid_out, next_world}
use Rattle.cuts.specs.World.{world_after}
use Rattle.cuts.specs.World.{Writes, Finished, Settled, Possible, Lawful}
use Rattle.cuts.specs.Claim.{Serves, IsRecovery, Restores, ForgedJournal, Forgery}
use Rattle.cuts.proofs.Mending.{Fine}
use Rattle.cuts.proofs.Known.{Served, served}
use Rattle.cuts.proofs.Arrivals.{placed, placed-is}
use Rattle.cuts.proofs.Attempts.{open_after, Inv, attempt-keeps}
use Rattle.cuts.proofs.Others.{call-keeps, split-keeps}
use Rattle.cuts.proofs.Recoveries.{restores, recovery-keeps, look}

-- whether a cut is open behind the items of a list
unfoldable pub all_open : Bool → List Item → Bool
all_open b [] = b
all_open b (x ∷ xs) = all_open (open_after b x) xs

-- By place none is open, and so none is.
pub finished-later : (x : Item) (xs : List Item) → (x ≡ recovering whole → ⊥) → Finished (x ∷ xs) → Finished xs
finished-later x xs d f =
    at_places (λ before y. y ≡ recovering whole → Finished xs) x xs (λ e. absurd (d e)) (λ p e. record { place = p; is = e }) f.place f.is

settled-later : (x : Item) (xs : List Item) → Settled (x ∷ xs) → Settled xs
settled-later x xs f p c = f (later x p) c

pub settled-closed : (xs : List Item) (b : Bool) → (b ≡ true → Finished xs) → Settled xs → all_open b xs ≡ false
unfolding all_open open_after
settled-closed [] true f s = absurd (no_place (f refl).place)
settled-closed [] false f s = refl
settled-closed (attempting i block ranges whole ∷ xs) b f s =
    settled-closed xs b (λ e. finished-later (attempting i block ranges whole) xs (λ z. cc) (f e))
    (settled-later (attempting i block ranges whole) xs s)
settled-closed (attempting i block ranges (cut v) ∷ xs) b f s =
    settled-closed xs true (λ e. s (first (attempting i block ranges (cut v)) xs) tt)
    (settled-later (attempting i block ranges (cut v)) xs s)
settled-closed (recovering whole ∷ xs) b f s = settled-closed xs false (λ e. cc) (settled-later (recovering whole) xs s)
settled-closed (recovering (cut v) ∷ xs) b f s =
    settled-closed xs true (λ e. s (first (recovering (cut v)) xs) tt)
    (settled-later (recovering (cut v)) xs s)
settled-closed (calling c ∷ xs) b f s =
    settled-closed xs b (λ e. finished-later (calling c) xs (λ z. cc) (f e))
    (settled-later (calling c) xs s)
settled-closed (splitting i block ranges puts ∷ xs) b f s =
    settled-closed xs b (λ e. finished-later (splitting i block ranges puts) xs (λ z. cc) (f e))
    (settled-later (splitting i block ranges puts) xs s)

module _ (F : List ℕ → List ℕ) (F16 : (m : List ℕ) → length (F m) ≡ 16) where
  -- What is claimed of an item, where a cut may be open before it

  abbrev ServedCall : World → Call → Type 0
  ServedCall w c =
      let m = w.media in
      let o = outcome F m.anchor m.card c in
      Serves (limits m.anchor m.card c) o.answer
      × (o.answer ≡ Whole → Agrees m.anchor.depth w.known.store.array m.card o.lent (told c))

  abbrev pub Here : Bool → World → Item → Type 0
  Here b w (attempting i block ranges e) =
      let m = w.media in
      Serves (journalled_limits m.anchor (length m.card) i (length block) (length ranges) (length m.journal))
      (tried F m i block ranges).call.answer
  Here b w (recovering whole) = Restores F w
  Here b w (recovering (cut v)) = Unit {0}
  Here b w (calling c) = b ≡ false → ServedCall w c
  Here b w (splitting i block ranges puts) =
      let m = w.media in
      Serves (limits m.anchor m.card (write i block ranges)) (laid_out F m i block ranges).call.answer

  -- One item

  abbrev Keeps : Bool → Item → World → Type 0
  Keeps b x w =
      Inv F F16 b w → Possible F w.media x → (Writes x → b ≡ false)
      → (IsRecovery x × ForgedJournal F w) ⊎ (Inv F F16 (open_after b x) (next_world F w x) × Here b w x)

  module _ (s : State) (journal card : List ℕ) where
    abbrev w : World
    w = placed s journal card

    answered : (b : Bool) → Inv F F16 b w → b ≡ false → (x : Step) → card_of x ≡ card → Served F F16 s x
    answered b inv e x k = served F F16 s inv.core x (k ∙ inv.rest e)

    call-here : (b : Bool) (c : Call) → Inv F F16 b w → b ≡ false → ServedCall w c
    call-here b c inv e =
        let k = answered b inv e (call card c) refl in
        (record { never-wrong = k.never-wrong; accepts = k.accepts }, k.agrees)

    attempt-here : (b : Bool) (i : ℕ) (block ranges : List ℕ) (e : Ending) → Inv F F16 b w → b ≡ false
        → Here b w (attempting i block ranges e)
    attempt-here b i block ranges e inv closed =
        let k = answered b inv closed (attempt card i block ranges journal unheard) refl in
        record { never-wrong = k.never-wrong; accepts = k.accepts }

    split-here : (b : Bool) (i : ℕ) (block ranges : List ℕ) (puts : List PutStep) → Inv F F16 b w → b ≡ false
        → Here b w (splitting i block ranges puts)
    split-here b i block ranges puts inv closed =
        let k = answered b inv closed (split card i block ranges puts) refl in
        let e = split-answer (laid_out F w.media i block ranges) puts in
        record { never-wrong = λ u q. k.never-wrong u (e ∙ q); accepts = λ l. sym e ∙ k.accepts l }

    recovery-here : (b : Bool) (e : Ending) → Inv F F16 b w → Fine F s journal card → Here b w (recovering e)
    recovery-here b whole inv f = restores F F16 s journal card f inv.core
    recovery-here b (cut v) inv f = tt

    keeps-placed : (b : Bool) (x : Item) → Keeps b x (placed s journal card)
    keeps-placed b (attempting i block ranges e) inv possible closed =
        let c = closed tt in
        inr (
          attempt-keeps F F16 s journal card i block ranges inv.core (inv.rest c) inv.long b e inv possible,
          attempt-here b i block ranges e inv c,
        )
    keeps-placed b (recovering e) inv possible closed =
        ⊎_elim (λ (f : ForgedJournal F w). inl (tt, f))
        (λ (f : Fine F s journal card). inr (recovery-keeps F F16 s journal card f b e inv possible, recovery-here b e inv f))
        (look F F16 s journal card inv)
    keeps-placed b (calling c) inv possible closed = inr (call-keeps F F16 s journal card b c inv closed, call-here b c inv)
    keeps-placed b (splitting i block ranges puts) inv possible closed =
        let c = closed tt in
        inr (split-keeps F F16 s journal card b i block ranges puts inv c possible, split-here b i block ranges puts inv c)

  keeps : (w : World) (b : Bool) (x : Item) → Keeps b x w
  keeps w b x inv =
      subst (Keeps b x) (placed-is w inv.chip) (keeps-placed w.known w.media.journal w.media.card b x) inv

  -- The list

  abbrev Fair : Bool → World → List Item → Type 0
  Fair b w xs =
      (p : Place xs) → Possible F (world_after F w p.before).media p.item × (Writes p.item → all_open b p.before ≡ false)

  abbrev pub HereFrom : Bool → World → List Item → Type 0
  HereFrom b w xs = (p : Place xs) → Here (all_open b p.before) (world_after F w p.before) p.item

  all : (xs : List Item) (b : Bool) (w : World) → Inv F F16 b w → Fair b w xs → HereFrom b w xs ⊎ Forgery F w xs
  unfolding all_open world_after
  all [] b w inv fair = inl (λ p. absurd (no_place p))
  all (x ∷ xs) b w inv fair =
      let now = fair (first x xs) in
      ⊎_elim
      (λ (f : IsRecovery x × ForgedJournal F w). inr (record { place = first x xs; recovery = f.0; forged = f.1 }))
      (λ (k : Inv F F16 (open_after b x) (next_world F w x) × Here b w x).
      ⊎_elim
      (λ (rest : HereFrom (open_after b x) (next_world F w x) xs).
      inl (at_places (λ before y. Here (all_open b before) (world_after F w before) y) x xs k.1 rest))
      (λ (f : Forgery F (next_world F w x) xs). inr (record { place = later x f.place; recovery = f.recovery; forged = f.forged }))
      (all xs (open_after b x) (next_world F w x) k.0 (λ p. fair (later x p))))
      (keeps w b x inv now.0 now.1)

  pub here-or-forged : (w : World) (xs : List Item) → Inv F F16 false w → Lawful F w xs → HereFrom false w xs ⊎ Forgery F w xs
  here-or-forged w xs inv l =
      all xs false w inv (λ p. (l.possible p, λ k. settled-closed p.before false (λ e. cc) (l.settled p k)))
