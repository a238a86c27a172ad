-- Which limit a refusal comes from.
use mathlib.Core.Path.{◌≡◌, refl, sym, ap, ◌∙◌}
use mathlib.Core.Bool.{Bool, true, false, cond}
use mathlib.Core.List.Memᴰ
use mathlib.Core.List.{List, [], ◌∷◌, Memᴰ}
use mathlib.Core.Logic.{◌⊎◌, inl, inr, ⊎_elim}
use mathlib.Core.Option.{Option, none, some}
use Prim.Native.Nat.{ℕ, ◌≤◌}
use native.Mathlib.Omega.{arith}
use Rattle.tree.specs.Limits.{Limit, depth_limit, nonce_limit, card_limit, first_failing}
use Rattle.tree.specs.Answer.{refusal_number, number_of}
use Rattle.tree.specs.Calls.{verdict, first_limits}
use Rattle.tree.specs.declared.Anchor.{Anchor}
use Rattle.tree.specs.declared.Refusal.{Refusal}

-- a limit of the list fails, and its number is k
pub record Failing (ls : List Limit) (k : ℕ) : Type 0 where
  pub limit : Limit
  pub among : Memᴰ limit ls
  pub fails : limit.fails ≡ true
  pub number : refusal_number limit.refusal ≡ k

pub first-failing : (ls : List Limit) (r : Refusal) (k : ℕ) → first_failing ls ≡ some r → refusal_number r ≡ k → Failing ls k
unfolding first_failing
first-failing [] r k e h = let z : ◌≡◌ {A = ℕ} 0 1 = cc in absurd (omega arith)
first-failing (l ∷ ls) r k e h = go (first-failing ls r k) l.fails refl e
  where
    go : (first_failing ls ≡ some r → refusal_number r ≡ k → Failing ls k) → (b : Bool) → l.fails ≡ b
        → cond b (some l.refusal) (first_failing ls) ≡ some r → Failing (l ∷ ls) k
    go rest true f e =
        let q : l.refusal ≡ r = cc in
        record { limit = l; among = Memᴰ.head refl; fails = f; number = ap refusal_number q ∙ h }
    go rest false f e = let x = rest e h in record { limit = x.limit; among = Memᴰ.tail x.among; fails = x.fails; number = x.number }

-- of an answer that is a limit's number
pub answer-failing : (ls : List Limit) (w : Option ℕ) (k : ℕ) → number_of (verdict (first_failing ls) w) ≡ k → 1 ≤ k → (k ≡ 8 → ⊥)
    → Failing ls k
answer-failing ls w k e low other = go (first_failing ls) refl w e
  where
    go : (x : Option Refusal) → first_failing ls ≡ x → (w : Option ℕ) → number_of (verdict x w) ≡ k → Failing ls k
    go (some r) f w e = first-failing ls r k f e
    go none f (some u) e = absurd (other (sym e))
    go none f none e = absurd (omega arith)

-- one of 1, 2 and 3
pub among-first : (a : Anchor) (len k : ℕ) (l : Limit) → Memᴰ l (first_limits a len) → refusal_number l.refusal ≡ k
    → ((k ≡ 1) ⊎ ((l ≡ nonce_limit a.depth a.root.0 a.reserved.0) × (k ≡ 2))) ⊎ (k ≡ 3)
among-first a len k l m h =
    ⊎_elim (λ (e : l ≡ depth_limit a.depth). inl (inl (sym h ∙ ap (λ (x : Limit). refusal_number x.refusal) e)))
    (λ (n : Memᴰ l (nonce_limit a.depth a.root.0 a.reserved.0 ∷ card_limit a.depth len ∷ [])).
    ⊎_elim
    (λ (e : l ≡ nonce_limit a.depth a.root.0 a.reserved.0). inl (inr (e, sym h ∙ ap (λ (x : Limit). refusal_number x.refusal) e)))
    (λ (o : Memᴰ l (card_limit a.depth len ∷ [])).
    inr (sym h ∙ ap (λ (x : Limit). refusal_number x.refusal) (Memᴰ.eq_of_singleton o))) (Memᴰ.cases_cons n))
    (Memᴰ.cases_cons m)

pub first-numbers : (a : Anchor) (len : ℕ) (r : Refusal) (k : ℕ) → first_failing (first_limits a len) ≡ some r → refusal_number r ≡ k
    → (k ≡ 1 → ⊥) → (k ≡ 2 → ⊥) → (k ≡ 3 → ⊥) → ⊥
first-numbers a len r k e h one two three =
    let x = first-failing (first_limits a len) r k e h in
    go (among-first a len k x.limit x.among x.number)
  where
    go : {A : Type 0} → ((k ≡ 1) ⊎ (A × (k ≡ 2))) ⊎ (k ≡ 3) → ⊥
    go (inl (inl e)) = one e
    go (inl (inr e)) = two e.1
    go (inr e) = three e
