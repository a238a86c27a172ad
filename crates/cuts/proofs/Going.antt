-- Lists go on wherever the paper lets them.
use mathlib.Core.Path.{◌≡◌, refl, sym, ap, subst, ◌∙◌}
use mathlib.Core.Bool.{true, false}
use mathlib.Core.List.{List, [], ◌∷◌, ◌++◌, append_assoc, Memᴰ}
use mathlib.Core.Logic.{◌⊎◌}
use Prim.Native.Nat.{ℕ}
use lib.ListN.{length}
use Rattle.tree.specs.Answer.{Whole}
use Rattle.tree.specs.Calls.{Call, renews}
use Rattle.tree.specs.declared.Anchor.{Anchor}
use Rattle.plan.specs.Split.{Given, planned}
use Rattle.plan.specs.Puts.{PutStep, Going, begun, after_put, after_all_puts, EachPut, PutUntouched, PutRight}
use Rattle.plan.specs.Places.{plan_nodes}
use Rattle.plan.specs.Orders.{Rearranged, returned}
use Rattle.plan.specs.Rule.{Waits}
use Rattle.replay.specs.Places.{Place}
use Rattle.replay.specs.Run.{State, fills, after}
use Rattle.replay.specs.Tagged.{Accepts}
use Rattle.replay.proofs.PlaceLaws.{first, later, earlier, last, no_place, at_places, at_more}
use Rattle.replay.proofs.Moves.{both_true, split-answer}
use Rattle.replay.proofs.Unforged.{goes_on}
use Rattle.cuts.specs.Media.{Media}
use Rattle.cuts.specs.World.{whole, cut, Item, attempting, recovering, calling, splitting, World, world_after, WasCut, Writes, Finished}
use Rattle.cuts.specs.World.{tried, Settled}
use Rattle.cuts.specs.World.{GoesThrough, Possible, Lawful}
use Rattle.cuts.specs.NotEmpty.{WrongTag, GoesOn}
use Rattle.cuts.proofs.Recovers.{finished-later}

-- What is asked of the first item and those behind it, and of a later one and those behind that, is asked at every place.
at_behind : {A : Type 0} (P : A → List A → Type 0) (x : A) (xs : List A) → P x xs → ((p : Place xs) → P p.item p.behind)
    → (p : Place (x ∷ xs))
    → P p.item p.behind
at_behind {A} P x xs here rest p = go p.before p.item p.behind p.is
  where
    go : (before : List A) (y : A) (behind : List A) → x ∷ xs ≡ before ++ (y ∷ behind) → P y behind
    go [] y behind e =
        let h : x ≡ y = cc in
        let t : xs ≡ behind = cc in
        subst (λ (z : A). P z behind) h (subst (P x) t here)
    go (z ∷ before) y behind e =
        let t : xs ≡ before ++ (y ∷ behind) = cc in
        rest (record { before = before; item = y; behind = behind; is = t })

-- Cuts that are open

Closed : Item → List Item → Type 0
Closed y behind = WasCut y → Finished behind

settled-first : (x : Item) (xs : List Item) → (WasCut x → Finished xs) → Settled xs → Settled (x ∷ xs)
settled-first x xs here rest p = at_behind (λ y behind. WasCut y → Finished behind) x xs here rest p

settled-rest : (x : Item) (xs : List Item) → Settled (x ∷ xs) → Settled xs
settled-rest x xs s p c = s (later x p) c

finished-more : (xs ys : List Item) → Finished xs → Finished (xs ++ ys)
finished-more xs ys f =
    let p = f.place in
    record {
      place = record {
        before = p.before;
        item = p.item;
        behind = p.behind ++ ys;
        is = ap (λ (l : List Item). l ++ ys) p.is ∙ append_assoc p.before (p.item ∷ p.behind) ys;
      };
      is = f.is;
    }

-- a last item that does not close leaves what was
finished-front : (xs : List Item) (x : Item) → (x ≡ recovering whole → ⊥) → Finished (xs ++ (x ∷ [])) → Finished xs
finished-front [] x d f = finished-later x [] d f
finished-front (y ∷ xs) x d f =
    at_places (λ before z. z ≡ recovering whole → Finished (y ∷ xs)) y (xs ++ (x ∷ [])) (λ e. record { place = first y xs; is = e })
    (λ p e. let k = finished-front xs x d (record { place = p; is = e }) in record { place = later y k.place; is = k.is }) f.place f.is

settled-none : Settled []
settled-none p = absurd (no_place p)

settled-more : (xs : List Item) (x : Item) → Settled xs → (WasCut x → ⊥) → Settled (xs ++ (x ∷ []))
settled-more [] x s d = settled-first x [] (λ c. absurd (d c)) settled-none
settled-more (y ∷ xs) x s d =
    settled-first y (xs ++ (x ∷ [])) (λ c. finished-more xs (x ∷ []) (s (first y xs) c)) (settled-more xs x (settled-rest y xs s) d)

settled-recovered : (xs : List Item) → Settled (xs ++ (recovering whole ∷ []))
settled-recovered [] = settled-first (recovering whole) [] (λ c. absurd c) settled-none
settled-recovered (y ∷ xs) =
    settled-first y (xs ++ (recovering whole ∷ [])) (λ c. record { place = last xs (recovering whole); is = refl }) (settled-recovered xs)

opened : (xs : List Item) (x : Item) → WasCut x → Settled (xs ++ (x ∷ [])) → ⊥
opened xs x c s = no_place (s (last xs x) c).place

still-open : (xs : List Item) (x : Item) → (x ≡ recovering whole → ⊥) → Settled (xs ++ (x ∷ [])) → Settled xs
still-open [] x d s = settled-none
still-open (y ∷ xs) x d s =
    settled-first y xs (λ c. finished-front xs x d (s (first y (xs ++ (x ∷ []))) c)) (still-open xs x d (settled-rest y (xs ++ (x ∷ [])) s))

module _ (F : List ℕ → List ℕ) (F16 : (m : List ℕ) → length (F m) ≡ 16) (w₀ : World) where
  abbrev here : List Item → Media
  here xs = (world_after F w₀ xs).media

  lawful-more : (xs : List Item) (x : Item) → Lawful F w₀ xs → Possible F (here xs) x → (Writes x → Settled xs)
      → Lawful F w₀ (xs ++ (x ∷ []))
  lawful-more xs x l p s =
      record {
        possible = at_more (λ before y. Possible F (world_after F w₀ before).media y) xs x l.possible p;
        settled = at_more (λ before y. Writes y → Settled before) xs x l.settled s;
      }

  lawful-before : (xs : List Item) → Lawful F w₀ xs → (p : Place xs) → Lawful F w₀ p.before
  lawful-before xs l p = record { possible = λ q. l.possible (earlier p q); settled = λ q. l.settled (earlier p q) }

  -- Split writes

  at_each : (P : Going → PutStep → Type 0) (xs : List PutStep) (g : Going)
      → ((p : Place xs) → P (after_all_puts g p.before) p.item) → EachPut P g xs
  unfolding after_all_puts
  at_each P [] g h = tt
  at_each P (x ∷ xs) g h = (h (first x xs), at_each P xs (after_put g x) (λ p. h (later x p)))

  filled : (a : Anchor) (card : List ℕ) (i : ℕ) (block ranges : List ℕ) (puts : List PutStep) →
      let o = planned F a card i block ranges in
      o.call.answer ≡ Whole → ((u : ℕ) → Waits a.depth (after_all_puts (begun o) puts).plan u → ⊥) → fills o puts ≡ true
  unfolding after
  filled a card i block ranges puts w free =
      let s : State = record { store = record { anchor = a; array = []; left = [] }; tagged = [] } in
      (both_true F s.store _ _ ((goes_on F F16 s).stands-split [] card i block ranges puts w free)).1

  goes-through : (m : Media) (i : ℕ) (block ranges : List ℕ) (puts : List PutStep) →
      let o = planned F m.anchor m.card i block ranges in
      o.call.answer ≡ Whole
      → ((p : Place puts) →
      let g = after_all_puts (begun o) p.before in
      Accepts g p.item
      → (p.item.card ≡ g.left) × ((k : Given) → Memᴰ k o.messages → k.node ≡ p.item.node → p.item.tag ≡ F k.message))
      × ((u : ℕ) → Waits m.anchor.depth (after_all_puts (begun o) puts).plan u → ⊥)
      → GoesThrough F o puts
  goes-through m i block ranges puts w h =
      let o = planned F m.anchor m.card i block ranges in
      record {
        right = at_each (PutRight F o.messages) puts (begun o) (λ p a. (h.0 p a).1);
        untouched = at_each PutUntouched puts (begun o) (λ p a. (h.0 p a).0);
        filled = filled m.anchor m.card i block ranges puts w h.1;
      }

  in-turn : (m : Media) (i : ℕ) (block ranges us : List ℕ) → Rearranged us (plan_nodes m.anchor.depth i)
      → Possible F m (splitting i block ranges (returned F m.anchor m.card i block ranges us))
  unfolding after
  in-turn m i block ranges us order w =
      let s : State = record { store = record { anchor = m.anchor; array = []; left = m.card }; tagged = [] } in
      let puts = returned F m.anchor m.card i block ranges us in
      let k = (goes_on F F16 s).in-turn [] i block ranges us order in
      let full = (both_true F s.store _ _ (k.2 (split-answer (planned F m.anchor m.card i block ranges) puts ∙ w))).1 in
      record { right = k.0 w full; untouched = k.1.1; filled = full }

  -- what is asked of a journal that a cut attempt left
  abbrev TornIn : ℕ → List Item → Item → Type 0
  TornIn n before x =
      (i : ℕ) (block ranges : List ℕ) (v : Media) → x ≡ attempting i block ranges (cut v) →
      let m = (world_after F w₀ before).media in
      WrongTag F w₀ n v.journal ⊎ ((v.journal ≡ m.journal) ⊎ (v.journal ≡ (tried F m i block ranges).journal))

  looks : (c : Call) → renews c ≡ false → renews c ≡ true → ⊥
  looks c e f = let z : false ≡ true = sym e ∙ f in absurd cc

  pub goes-on : GoesOn F w₀
  goes-on =
      record {
        lawful-none = record { possible = λ p. absurd (no_place p); settled = λ p. absurd (no_place p) };
        lawful-before = lawful-before;
        looks = λ xs c l e. lawful-more xs (calling c) l tt (λ f. absurd (looks c e f));
        recovers = λ xs l. lawful-more xs (recovering whole) l tt (λ f. absurd f);
        recovers-cut = λ xs v l p. lawful-more xs (recovering (cut v)) l p (λ f. absurd f);
        calls = λ xs c l s. lawful-more xs (calling c) l tt (λ f. s);
        attempts = λ xs i block ranges l s. lawful-more xs (attempting i block ranges whole) l tt (λ f. s);
        attempts-cut = λ xs i block ranges v l s p. lawful-more xs (attempting i block ranges (cut v)) l p (λ f. s);
        splits = λ xs i block ranges puts l s h.
            lawful-more xs (splitting i block ranges puts) l (λ w. goes-through (here xs) i block ranges puts w (h w)) (λ f. s);
        splits-in-turn = λ xs i block ranges us l s order.
            lawful-more xs (splitting i block ranges (returned F (here xs).anchor (here xs).card i block ranges us)) l
            (in-turn (here xs) i block ranges us order) (λ f. s);
        settled-none = settled-none;
        settled-recovered = settled-recovered;
        settled-attempt = λ xs i block ranges s. settled-more xs (attempting i block ranges whole) s (λ c. c);
        settled-call = λ xs c s. settled-more xs (calling c) s (λ k. k);
        settled-split = λ xs i block ranges puts s. settled-more xs (splitting i block ranges puts) s (λ k. k);
        opened = λ xs i block ranges v. opened xs (attempting i block ranges (cut v)) tt;
        opened-again = λ xs v. opened xs (recovering (cut v)) tt;
        still-open = still-open;
        attempt-waits = λ xs i block ranges e l. l.settled (last xs (attempting i block ranges e)) tt;
        call-waits = λ xs c r l. l.settled (last xs (calling c)) r;
        split-waits = λ xs i block ranges puts l. l.settled (last xs (splitting i block ranges puts)) tt;
        own-none = λ n wrong. record { first = wrong; torn = λ p. absurd (no_place p) };
        own-more = λ n xs x own h. record { first = own.first; torn = at_more (TornIn n) xs x own.torn h };
      }
