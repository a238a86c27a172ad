-- Places in a list.
use mathlib.Core.Path.{◌≡◌, refl, sym, ap, ap₂, subst, ◌∙◌}
use mathlib.Core.List.{List, [], ◌∷◌, ◌++◌, map, map-append, append_assoc}
use Prim.Native.Nat.{ℕ}
use native.Mathlib.Omega.{arith}
use Rattle.replay.specs.Places.{Place, Behind}

module _ {A : Type 0} where
  -- the first
  abbrev pub first : (x : A) (xs : List A) → Place (x ∷ xs)
  first x xs = record { before = []; item = x; behind = xs; is = refl }

  -- a place of the rest
  abbrev pub later : (x : A) {xs : List A} → Place xs → Place (x ∷ xs)
  later x p = record { before = x ∷ p.before; item = p.item; behind = p.behind; is = ap (λ (l : List A). x ∷ l) p.is }

  -- a place before a place
  abbrev pub earlier : {xs : List A} (p : Place xs) → Place p.before → Place xs
  earlier p q =
      record {
        before = q.before;
        item = q.item;
        behind = q.behind ++ (p.item ∷ p.behind);
        is = p.is ∙ ap (λ (l : List A). l ++ (p.item ∷ p.behind)) q.is
            ∙ append_assoc q.before (q.item ∷ q.behind) (p.item ∷ p.behind);
      }

  -- a place behind a place
  abbrev pub farther : {xs : List A} (p : Place xs) → Place p.behind → Place xs
  farther p q =
      record {
        before = p.before ++ (p.item ∷ q.before);
        item = q.item;
        behind = q.behind;
        is = p.is ∙ ap (λ (l : List A). p.before ++ (p.item ∷ l)) q.is
            ∙ sym (append_assoc p.before (p.item ∷ q.before) (q.item ∷ q.behind));
      }

  -- the last
  abbrev pub last : (xs : List A) (x : A) → Place (xs ++ (x ∷ []))
  last xs x = record { before = xs; item = x; behind = []; is = refl }

  pub tail-same : {x : A} {xs ys : List A} → x ∷ xs ≡ x ∷ ys → xs ≡ ys
  tail-same e = cc

  -- a place behind the first is one of the rest
  abbrev pub rest : (x : A) (xs before : List A) (q : Place (x ∷ xs)) → q.before ≡ x ∷ before → Place xs
  rest x xs before q e =
      record {
        before = before;
        item = q.item;
        behind = q.behind;
        is = tail-same (q.is ∙ ap (λ (l : List A). l ++ (q.item ∷ q.behind)) e);
      }

  pub no_place : Place {A = A} [] → ⊥
  no_place p = go p.before p.is
    where
      go : (before : List A) → [] ≡ before ++ (p.item ∷ p.behind) → ⊥
      go [] e = let z : ◌≡◌ {A = ℕ} 0 1 = cc in omega arith
      go (x ∷ before) e = let z : ◌≡◌ {A = ℕ} 0 1 = cc in omega arith

  -- What holds at the first place of a list and at those behind it holds at every place.
  pub at_places : (P : List A → A → Type 0) (x : A) (xs : List A) → P [] x → ((p : Place xs) → P (x ∷ p.before) p.item)
      → (p : Place (x ∷ xs)) → P p.before p.item
  at_places P x xs here rest p = go p.before p.item p.behind p.is
    where
      go : (before : List A) (y : A) (behind : List A) → x ∷ xs ≡ before ++ (y ∷ behind) → P before y
      go [] y behind e = subst (P []) (head e) here
        where
          head : x ∷ xs ≡ y ∷ behind → x ≡ y
          head e = cc
      go (z ∷ before) y behind e =
          subst (λ (q : A). P (q ∷ before) y) (head e) (rest (record { before = before; item = y; behind = behind; is = tail e }))
        where
          head : x ∷ xs ≡ z ∷ (before ++ (y ∷ behind)) → x ≡ z
          head e = cc

          tail : x ∷ xs ≡ z ∷ (before ++ (y ∷ behind)) → xs ≡ before ++ (y ∷ behind)
          tail e = cc

  -- and so with one more at the end
  pub at_more : (P : List A → A → Type 0) (xs : List A) (x : A) → ((p : Place xs) → P p.before p.item) → P xs x
      → (p : Place (xs ++ (x ∷ []))) → P p.before p.item
  at_more P [] x f here = at_places P x [] here (λ p. absurd (no_place p))
  at_more P (y ∷ ys) x f here =
      at_places P y (ys ++ (x ∷ [])) (f (first y ys)) (at_more (λ before z. P (y ∷ before) z) ys x (λ p. f (later y p)) here)

-- What is asked of an item only if no item behind it is W. With one more item at the end it holds if it did and holds of that item, too,
-- or if that item is W.
module _ {A : Type 0} (W P : List A → A → Type 0) where
  abbrev pub HoldsSince : List A → Type 0
  HoldsSince xs = (p : Place xs) → ((q : Place xs) → Behind p q → W q.before q.item → ⊥) → P p.before p.item

  module _ (xs : List A) (x : A) where
    abbrev pub Asked : List A → A → Type 0
    Asked before y =
        ((q : Place (xs ++ (x ∷ []))) (between : List A) → q.before ≡ before ++ (y ∷ between) → W q.before q.item → ⊥) → P before y

    holds-all : ((p : Place xs) → Asked p.before p.item) → P xs x → HoldsSince (xs ++ (x ∷ []))
    holds-all f here p none = at_more Asked xs x f (λ k. here) p (λ q between e w. none q (record { between = between; is = e }) w)

    pub holds_more : HoldsSince xs → P xs x → HoldsSince (xs ++ (x ∷ []))
    holds_more f here = holds-all (λ p none. f p (λ q b w. none (earlier (last xs x) q) b.between b.is w)) here

    pub holds-ended : W xs x → P xs x → HoldsSince (xs ++ (x ∷ []))
    holds-ended w here = holds-all (λ p none. absurd (none (last xs x) p.behind p.is w)) here

-- Places of a list under a function
module _ {A B : Type 0} (f : A → B) where
  abbrev pub mapped : {xs : List A} → Place xs → Place (map f xs)
  mapped p =
      record {
        before = map f p.before;
        item = f p.item;
        behind = map f p.behind;
        is = ap (map f) p.is ∙ map-append f p.before (p.item ∷ p.behind);
      }

  -- each is the image of a place
  pub record Image (xs : List A) (q : Place (map f xs)) : Type 0 where
    pub place : Place xs
    pub before-is : map f place.before ≡ q.before
    pub item-is : f place.item ≡ q.item

  pub image : (xs : List A) (q : Place (map f xs)) → Image xs q
  image xs q = go xs q.before q.item q.behind q.is
    where
      go : (xs : List A) (before : List B) (y : B) (behind : List B) (is : map f xs ≡ before ++ (y ∷ behind))
          → Image xs (record { before = before; item = y; behind = behind; is = is })
      go [] [] y behind e = let z : ◌≡◌ {A = ℕ} 0 1 = cc in absurd (omega arith)
      go [] (z ∷ before) y behind e = let z : ◌≡◌ {A = ℕ} 0 1 = cc in absurd (omega arith)
      go (x ∷ xs) [] y behind e = record { place = first x xs; before-is = refl; item-is = cc e }
      go (x ∷ xs) (z ∷ before) y behind e =
          let tail : map f xs ≡ before ++ (y ∷ behind) = cc e in
          let head : f x ≡ z = cc e in
          let k = go xs before y behind tail in
          record {
            place = later x k.place;
            before-is = ap₂ (λ (h : B) (l : List B). h ∷ l) head k.before-is;
            item-is = k.item-is;
          }
