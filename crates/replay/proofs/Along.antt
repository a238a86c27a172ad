-- What is known along a list of calls, and claims of every call of it.
use mathlib.Core.Path.{◌≡◌, refl, subst}
use mathlib.Core.List.{List, [], ◌∷◌, ◌++◌}
use mathlib.Core.Logic.{◌⊎◌, inl, inr, ⊎_elim}
use Prim.Native.Nat.{ℕ}
use native.Mathlib.Omega.{arith}
use Rattle.tree.specs.Calls.{Call, read, write, check, wipe}
use Rattle.tree.specs.Answer.{Answer}
use Rattle.tree.specs.Answer.{Whole, Wrong, Refused}
use Rattle.replay.specs.Places.{Place}
use Rattle.replay.specs.Run.{Step, call_of, Store, State, result, next, after}
use Rattle.replay.specs.Claim.{AcceptedWipe, known, Everywhere, Unwiped}
use Rattle.replay.proofs.PlaceLaws.{first, later, rest, no_place, at_places}

module _ (F : List ℕ → List ℕ) where
  pub after-append : (xs ys : List Step) (s : State) → after F s (xs ++ ys) ≡ after F (after F s xs) ys
  unfolding after
  after-append [] ys s = refl
  after-append (x ∷ xs) ys s = after-append xs ys (next F s x)

  module _ (P : State → Step → Type 0) where
    -- of the first call and, from there, of those behind it
    pub everywhere : (s : State) (x : Step) (xs : List Step) → P s x → Everywhere F (next F s x) xs P → Everywhere F s (x ∷ xs) P
    unfolding after
    everywhere s x xs here rest = at_places (λ before y. P (after F s before) y) x xs here rest

  -- Since the last accepted wipe

  wipe-or-not : (c : Call) → (c ≡ wipe) ⊎ (c ≡ wipe → ⊥)
  wipe-or-not (read i buffer) = inr (λ e. let z : ◌≡◌ {A = ℕ} 0 1 = cc in omega arith)
  wipe-or-not (write i block ranges) = inr (λ e. let z : ◌≡◌ {A = ℕ} 0 1 = cc in omega arith)
  wipe-or-not check = inr (λ e. let z : ◌≡◌ {A = ℕ} 0 1 = cc in omega arith)
  wipe-or-not wipe = inl refl

  wipes-or-not : (s : Store) (x : Step) → AcceptedWipe F s x ⊎ (AcceptedWipe F s x → ⊥)
  wipes-or-not s x = go (result F s x).answer refl (wipe-or-not (call_of x))
    where
      refused : (o : Answer) → (result F s x).answer ≡ o → (o ≡ Whole → ⊥) → AcceptedWipe F s x ⊎ (AcceptedWipe F s x → ⊥)
      refused o e d = inr (λ w. d (subst (λ (a : Answer). a ≡ Whole) e w.accepted))

      go : (o : Answer) → (result F s x).answer ≡ o → (call_of x ≡ wipe) ⊎ (call_of x ≡ wipe → ⊥)
          → AcceptedWipe F s x ⊎ (AcceptedWipe F s x → ⊥)
      go Whole e (inl i) = inl (record { accepted = e; is-wipe = i })
      go Whole e (inr d) = inr (λ w. d w.is-wipe)
      go (Wrong u) e o = refused (Wrong u) e (λ p. let z : ◌≡◌ {A = ℕ} 0 1 = cc in omega arith)
      go (Refused r) e o = refused (Refused r) e (λ p. let z : ◌≡◌ {A = ℕ} 0 1 = cc in omega arith)

  -- a list has an accepted wipe
  pub record Wiped (s : State) (xs : List Step) : Type 0 where
    pub place : Place xs
    pub wipes : AcceptedWipe F (known F s place).store place.item

  -- it is the first call, or among the others
  wiped-where : (s : State) (x : Step) (xs : List Step) → Wiped s (x ∷ xs) → AcceptedWipe F s.store x ⊎ Wiped (next F s x) xs
  unfolding after
  wiped-where s x xs w =
      at_places (λ before y. AcceptedWipe F (after F s before).store y → AcceptedWipe F s.store x ⊎ Wiped (next F s x) xs) x xs
      (λ k. inl k) (λ p k. inr (record { place = p; wipes = k })) w.place w.wipes

  wiped-or-not : (xs : List Step) (s : State) → Wiped s xs ⊎ (Wiped s xs → ⊥)
  unfolding after
  wiped-or-not [] s = inr (λ w. no_place w.place)
  wiped-or-not (x ∷ xs) s = go (wipes-or-not s.store x) (wiped-or-not xs (next F s x))
    where
      go : AcceptedWipe F s.store x ⊎ (AcceptedWipe F s.store x → ⊥) → Wiped (next F s x) xs ⊎ (Wiped (next F s x) xs → ⊥)
          → Wiped s (x ∷ xs) ⊎ (Wiped s (x ∷ xs) → ⊥)
      go (inl k) r = inl (record { place = first x xs; wipes = k })
      go (inr d) (inl w) = inl (record { place = later x w.place; wipes = w.wipes })
      go (inr d) (inr e) = inr (λ w. ⊎_elim d e (wiped-where s x xs w))

  module _ (P : State → Step → Type 0) where
    abbrev pub Since : State → List Step → Type 0
    Since s xs = (p : Place xs) → Unwiped F s p → P (known F s p) p.item

    since-first : (s : State) (x : Step) (xs : List Step) → Since s (x ∷ xs) → (Wiped (next F s x) xs → ⊥) → P s x
    unfolding after
    since-first s x xs f none =
        f (first x xs) (λ q b w.
        none (record {
          place = rest x xs b.between q b.is;
          wipes = subst (λ (l : List Step). AcceptedWipe F (after F s l).store q.item) b.is w;
        }))

    since-later : (s : State) (x : Step) (xs : List Step) → Since s (x ∷ xs) → Since (next F s x) xs
    unfolding after
    since-later s x xs f p none =
        f (later x p) (λ q b w.
        none (rest x xs (p.before ++ (p.item ∷ b.between)) q b.is) (record { between = b.between; is = refl })
        (subst (λ (l : List Step). AcceptedWipe F (after F s l).store q.item) b.is w))

    -- What an accepted wipe makes of any state that is R, and what every step that P holds of keeps, holds after a list on which P holds
    -- since the last accepted wipe, if it held before. Of every step K is known.
    pub kept-since : (K : State → Step → Type 0) (R Q : State → Type 0) → ((s : State) (x : Step) → K s x → R s → R (next F s x))
        → ((s : State) (x : Step) → K s x → R s → AcceptedWipe F s.store x → Q (next F s x))
        → ((s : State) (x : Step) → K s x → Q s → P s x → Q (next F s x))
        → (xs : List Step) (s : State) → Everywhere F s xs K → R s → Q s ⊎ Wiped s xs → Since s xs → Q (after F s xs)
    unfolding after
    kept-since K R Q steady makes keeps [] s k r (inl q) f = q
    kept-since K R Q steady makes keeps [] s k r (inr w) f = absurd (no_place w.place)
    kept-since K R Q steady makes keeps (x ∷ xs) s k r o f =
        kept-since K R Q steady makes keeps xs (next F s x) (λ p. k (later x p)) (steady s x (k (first x xs)) r)
        (go (wiped-or-not xs (next F s x))) (since-later s x xs f)
      where
        now : (Wiped (next F s x) xs → ⊥) → Q s ⊎ Wiped s (x ∷ xs) → Q (next F s x)
        now none (inl q) = keeps s x (k (first x xs)) q (since-first s x xs f none)
        now none (inr w) =
            ⊎_elim (λ (h : AcceptedWipe F s.store x). makes s x (k (first x xs)) r h) (λ (h : Wiped (next F s x) xs). absurd (none h))
            (wiped-where s x xs w)

        go : Wiped (next F s x) xs ⊎ (Wiped (next F s x) xs → ⊥) → Q (next F s x) ⊎ Wiped (next F s x) xs
        go (inl w) = inr w
        go (inr none) = inl (now none o)
