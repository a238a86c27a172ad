-- Lists of nodes: who is a member, at which place, and what is so of all.
use mathlib.Core.Path.{◌≡◌, refl, sym, ap, subst, ◌∙◌}
use mathlib.Core.Bool.{Bool, true, false, cond, ◌&&◌, ◌||◌}
use mathlib.Core.List.Memᴰ
use mathlib.Core.List.{List, [], ◌∷◌, ◌++◌, Memᴰ}
use mathlib.Core.Logic.{◌⊎◌, inl, inr, ⊎_elim}
use Prim.Native.Nat.{ℕ, zero, suc, ◌+◌, ◌<◌}
use native.Mathlib.Omega.{arith}
use borrow.Author.Tests.{eqb-true, eqb-false, eq-eqb, ne_eqb}
use lib.Dec.{eqb}
use lib.ListN.{length}
use Rattle.plan.specs.Places.{member, every, place_in}
use Rattle.plan.specs.Orders.{Apart}

pub and_both : (a b : Bool) → (a && b) ≡ true → (a ≡ true) × (b ≡ true)
and_both true b e = (refl, e)
and_both false b e = let z : ◌≡◌ {A = ℕ} 0 1 = cc in absurd (omega arith)

pub both-and : (a b : Bool) → a ≡ true → b ≡ true → (a && b) ≡ true
both-and true b p q = q
both-and false b p q = p

pub truth : (b : Bool) → (b ≡ true) ⊎ (b ≡ false)
truth true = inl refl
truth false = inr refl

pub contrary : {A : Type 0} {b : Bool} → b ≡ true → b ≡ false → A
contrary {A} {b} p q = let z : ◌≡◌ {A = ℕ} 0 1 = cc in absurd (omega arith)

-- Members

pub member_is : (u : ℕ) (us : List ℕ) → member u us ≡ true → Memᴰ u us
unfolding member
member_is u [] e = let z : ◌≡◌ {A = ℕ} 0 1 = cc in absurd (omega arith)
member_is u (w ∷ us) e = go (eqb u w) refl e (member_is u us)
  where
    go : (b : Bool) → eqb u w ≡ b → (b || member u us) ≡ true → (member u us ≡ true → Memᴰ u us) → Memᴰ u (w ∷ us)
    go true p e rest = Memᴰ.head (eqb-true u w p)
    go false p e rest = Memᴰ.tail (rest e)

pub is_member : (u : ℕ) (us : List ℕ) → Memᴰ u us → member u us ≡ true
unfolding member
is_member u [] m = absurd (Memᴰ.not-nil m)
is_member u (w ∷ us) m = go (eqb u w) refl (is_member u us) (Memᴰ.cases_cons m)
  where
    go : (b : Bool) → eqb u w ≡ b → (Memᴰ u us → member u us ≡ true) → (u ≡ w) ⊎ Memᴰ u us → (b || member u us) ≡ true
    go true p rest c = refl
    go false p rest (inl e) = absurd (eqb-false u w p e)
    go false p rest (inr k) = rest k

pub every-is : (f : ℕ → Bool) (us : List ℕ) → every f us ≡ true → (u : ℕ) → Memᴰ u us → f u ≡ true
unfolding every
every-is f [] e u m = absurd (Memᴰ.not-nil m)
every-is f (w ∷ us) e u m =
    let p = and_both (f w) (every f us) e in
    ⊎_elim (λ (q : u ≡ w). ap f q ∙ p.0) (λ (k : Memᴰ u us). every-is f us p.1 u k) (Memᴰ.cases_cons m)

pub is-every : (f : ℕ → Bool) (us : List ℕ) → ((u : ℕ) → Memᴰ u us → f u ≡ true) → every f us ≡ true
unfolding every
is-every f [] h = refl
is-every f (w ∷ us) h = both-and (f w) (every f us) (h w (Memᴰ.head refl)) (is-every f us (λ u m. h u (Memᴰ.tail m)))

-- Places

-- two members with one place are one
pub place-inj : (us : List ℕ) (u w : ℕ) → Memᴰ u us → Memᴰ w us → place_in u us ≡ place_in w us → u ≡ w
unfolding place_in
place-inj [] u w mu mw e = absurd (Memᴰ.not-nil mu)
place-inj (v ∷ us) u w mu mw e =
    go (eqb u v) refl (eqb w v) refl (place-inj us u w) (Memᴰ.cases_cons mu) (Memᴰ.cases_cons mw) e
  where
    go : (a : Bool) → eqb u v ≡ a → (b : Bool) → eqb w v ≡ b → (Memᴰ u us → Memᴰ w us → place_in u us ≡ place_in w us → u ≡ w)
        → (u ≡ v) ⊎ Memᴰ u us → (w ≡ v) ⊎ Memᴰ w us
        → cond a 0 (suc (place_in u us)) ≡ cond b 0 (suc (place_in w us)) → u ≡ w
    go true p true q rest cu cw e = eqb-true u v p ∙ sym (eqb-true w v q)
    go true p false q rest cu cw e = absurd (omega arith)
    go false p true q rest cu cw e = absurd (omega arith)
    go false p false q rest (inl x) cw e = absurd (eqb-false u v p x)
    go false p false q rest (inr x) (inl y) e = absurd (eqb-false w v q y)
    go false p false q rest (inr x) (inr y) e = rest x y (omega arith)

-- of one list after another
pub place-left : (us vs : List ℕ) (u : ℕ) → Memᴰ u us → place_in u (us ++ vs) ≡ place_in u us
unfolding place_in
place-left [] vs u m = absurd (Memᴰ.not-nil m)
place-left (w ∷ us) vs u m = go (eqb u w) refl (place-left us vs u) (Memᴰ.cases_cons m)
  where
    go : (b : Bool) → eqb u w ≡ b → (Memᴰ u us → place_in u (us ++ vs) ≡ place_in u us) → (u ≡ w) ⊎ Memᴰ u us
        → cond b 0 (suc (place_in u (us ++ vs))) ≡ cond b 0 (suc (place_in u us))
    go true e rest c = refl
    go false e rest (inl q) = absurd (eqb-false u w e q)
    go false e rest (inr q) = ap suc (rest q)

pub place-right : (us vs : List ℕ) (u : ℕ) → (Memᴰ u us → ⊥) → place_in u (us ++ vs) ≡ length us + place_in u vs
unfolding place_in
place-right [] vs u d = omega arith
place-right (w ∷ us) vs u d =
    rw (ne_eqb u w (λ e. d (Memᴰ.head e))) (let p = place-right us vs u (λ m. d (Memᴰ.tail m)) in omega arith)

-- what is no member has the length for its place
pub place_none : (us : List ℕ) (u : ℕ) → (Memᴰ u us → ⊥) → place_in u us ≡ length us
unfolding place_in
place_none [] u d = refl
place_none (w ∷ us) u d = rw (ne_eqb u w (λ e. d (Memᴰ.head e))) (ap suc (place_none us u (λ m. d (Memᴰ.tail m))))

-- a member stands below it
pub place-below : (us : List ℕ) (u : ℕ) → Memᴰ u us → place_in u us < length us
unfolding place_in
place-below [] u m = absurd (Memᴰ.not-nil m)
place-below (w ∷ us) u m = go (eqb u w) refl (place-below us u) (Memᴰ.cases_cons m)
  where
    go : (b : Bool) → eqb u w ≡ b → (Memᴰ u us → place_in u us < length us) → (u ≡ w) ⊎ Memᴰ u us
        → cond b 0 (suc (place_in u us)) < suc (length us)
    go true e rest c = omega arith
    go false e rest (inl q) = absurd (eqb-false u w e q)
    go false e rest (inr q) = let p = rest q in omega arith

-- and what stands below it is one
pub below-member : (us : List ℕ) (u : ℕ) → place_in u us < length us → Memᴰ u us
unfolding place_in
below-member [] u h = absurd (omega arith)
below-member (w ∷ us) u h = go (eqb u w) refl (below-member us u) h
  where
    go : (b : Bool) → eqb u w ≡ b → (place_in u us < length us → Memᴰ u us) → cond b 0 (suc (place_in u us)) < suc (length us)
        → Memᴰ u (w ∷ us)
    go true e rest h = Memᴰ.head (eqb-true u w e)
    go false e rest h = Memᴰ.tail (rest (omega arith))

-- where none stands twice, each place has its member
pub record At (us : List ℕ) (k : ℕ) : Type 0 where
  pub node : ℕ
  pub among : Memᴰ node us
  pub is : place_in node us ≡ k

pub place_at : (us : List ℕ) → Apart us → (k : ℕ) → k < length us → At us k
unfolding place_in
place_at [] a k l = absurd (omega arith)
place_at (w ∷ us) a zero l = record { node = w; among = Memᴰ.head refl; is = rw (eq-eqb w w refl) }
place_at (w ∷ us) a (suc k) l =
    let p = place_at us a.1 k (omega arith) in
    let d : p.node ≡ w → ⊥ = λ (e : p.node ≡ w). a.0 (subst (λ (v : ℕ). Memᴰ v us) e p.among) in
    record { node = p.node; among = Memᴰ.tail p.among; is = rw (ne_eqb p.node w d) (ap suc p.is) }

pub apart-append : (us vs : List ℕ) → Apart us → Apart vs → ((w : ℕ) → Memᴰ w us → Memᴰ w vs → ⊥) → Apart (us ++ vs)
apart-append [] vs a b d = b
apart-append (u ∷ us) vs a b d = (
  λ m. ⊎_elim (λ (k : Memᴰ u us). a.0 k) (λ (k : Memᴰ u vs). d u (Memᴰ.head refl) k) (Memᴰ.append_cases us m),
  apart-append us vs a.1 b (λ w m k. d w (Memᴰ.tail m) k),
)
