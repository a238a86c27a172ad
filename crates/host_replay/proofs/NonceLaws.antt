-- The nonces that each call for C leaves, by what stands and what was lost.
use mathlib.Core.Path.{◌≡◌, refl, sym, ap, ap₂, subst, ◌∙◌}
use mathlib.Core.Bool.{Bool, true, false, not, cond, ◌&&◌}
use mathlib.Core.List.{List, [], ◌∷◌, ◌++◌, append_assoc, map-append}
use Prim.Native.Nat.{ℕ, ◌+◌, ◌*◌}
use native.Mathlib.Omega.{arith}
use lib.ListN.{length}
use Rattle.cmac.specs.Cmac.{cmac_of}
use Rattle.cmac.proofs.Laws.{length-cmac}
use Rattle.tree.specs.Calls.{wipe}
use Rattle.tree.specs.declared.Anchor.{Anchor}
use Rattle.tree.proofs.CallLaws.{outcome-answer}
use Rattle.plan.proofs.ListLaws.{contrary}
use Rattle.replay.specs.Places.{Place}
use Rattle.replay.specs.Run.{Step, State, stands, reserves, next, after, losses}
use Rattle.replay.specs.Claim.{Complete, AllComplete}
use Rattle.replay.specs.Nonces.{NothingLost}
use Rattle.replay.proofs.PlaceLaws.{no_place, mapped}
use Rattle.replay.proofs.Along.{after-append, everywhere}
use Rattle.replay.proofs.Moves.{Move, still, wrote-block, lost-block, wiped-card, move, call-stands}
use Rattle.replay.proofs.Unforged.{goes_on}
use Rattle.host_bytes.specs.Host.{anchor_of}
use Rattle.host_replay.specs.Called.{Held, bytes, anchor_in, Called, given_to, step_of, steps, back_of, History, Formatted, begin}
use Rattle.host_replay.specs.Plain
use Rattle.host_replay.specs.Plain.{renewals_by, losses_by, Each, PlainNonces}
use Rattle.host_replay.proofs.Theorem.{given_is, Follows, followed, complete-before, demand3-of-calls}
use Rattle.host_replay.proofs.ByAnswers.{Ran, stands-so, next-anchor, renewals-by, losses-by}

module _ (F : List ℕ → List ℕ) where
  -- where none was lost, what reserves nonces stands
  nothing-lost : (xs : List Step) (s : State) → losses F s xs ≡ 0 → NothingLost F s xs
  unfolding losses
  nothing-lost [] s e = λ p. absurd (no_place p)
  nothing-lost (x ∷ xs) s e =
      everywhere F (λ z y. reserves F z.store y ≡ true → stands F z.store y ≡ true) s x xs
      (here (reserves F s.store x) (stands F s.store x) (omega (arith, e)))
      (nothing-lost xs (next F s x) (omega (arith, e)))
    where
      here : (b c : Bool) → cond {A = ℕ} (b && not c) 1 0 ≡ 0 → b ≡ true → c ≡ true
      here b true e f = refl
      here true false e f = let z : ◌≡◌ {A = ℕ} 1 0 = e in absurd (omega arith)
      here false false e f = f

  -- the root nonce stays where a step does not stand
  root-kept : (F16 : (m : List ℕ) → length (F m) ≡ 16) (s : State) (x : Step) → Complete F s.store x → stands F s.store x ≡ false
      → (next F s x).store.anchor.root ≡ s.store.anchor.root
  root-kept F16 s x k e = go (move F F16 s x k)
    where
      go : Move F s x → (next F s x).store.anchor.root ≡ s.store.anchor.root
      go (still q f g h) = ap (λ (z : State). z.store.anchor.root) q
      go (wrote-block i block ranges w) = contrary w.standing e
      go (lost-block i block ranges w) = ap (λ (z : State). z.store.anchor.root) w.is
      go (wiped-card card i w q) =
          contrary (ap (stands F s.store) i ∙ call-stands F s.store card wipe (outcome-answer F s.store.anchor card wipe ∙ w)) e

-- the calls before one are a history
pub front-ran : (h : Held) (before behind : List Called) → History h (before ++ behind) → History h before
front-ran h [] behind k = tt
front-ran h (r ∷ before) behind k = (k.0, k.1, front-ran (back_of r).anchor before behind k.2)

module _ (anchor card made left : List ℕ) (formatted : Formatted anchor card 0 made left) (rs : List Called)
    (ran : History (bytes made) rs)
    (complete : AllComplete (cmac_of (anchor_of anchor).key) (begin anchor card) (steps rs)) where
  abbrev k : List ℕ
  k = (anchor_of anchor).key

  abbrev s₀ : State
  s₀ = begin anchor card

  pub followed-each : Each rs (Ran (anchor_of anchor).key (begin anchor card))
  followed-each = followed anchor card made left formatted rs ran complete

  -- in the end
  nonces-after : PlainNonces (anchor_of anchor).depth rs
      (after (cmac_of (anchor_of anchor).key) (begin anchor card) (steps rs)).store.anchor
  nonces-after =
      let n = (anchor_of anchor).depth in
      let d = (demand3-of-calls anchor card made left formatted rs ran complete).nonces in
      let stood = renewals-by k rs s₀ followed-each in
      let fell = losses-by k rs s₀ followed-each in
      record {
        reserved = d.reserved ∙ ap₂ (λ (u v : ℕ). (u + v) * n) stood fell;
        within = d.within;
        multiple = d.multiple;
        reserved_multiple = d.reserved_multiple;
        root = λ none. d.root (nothing-lost (cmac_of k) (steps rs) s₀ (fell ∙ none)) ∙ ap (λ (u : ℕ). u * n) stood;
      }

module _ (anchor card made left : List ℕ) (formatted : Formatted anchor card 0 made left) (rs : List Called)
    (ran : History (bytes made) rs)
    (complete : AllComplete (cmac_of (anchor_of anchor).key) (begin anchor card) (steps rs)) (p : Place rs) where
  abbrev key : List ℕ
  key = (anchor_of anchor).key

  abbrev F : List ℕ → List ℕ
  F = cmac_of (anchor_of anchor).key

  abbrev z₀ : State
  z₀ = begin anchor card

  abbrev z : State
  z = after F z₀ (steps p.before)

  abbrev x : Step
  x = step_of p.item

  abbrev here : Follows key z p.item
  here = followed anchor card made left formatted rs ran complete p

  -- the list up to that call
  abbrev upto : List Called
  upto = p.before ++ (p.item ∷ [])

  upto-ran : History (bytes made) upto
  upto-ran =
      front-ran (bytes made) upto p.behind
      (subst (History (bytes made)) (p.is ∙ sym (append_assoc p.before (p.item ∷ []) p.behind)) ran)

  upto-complete : AllComplete F z₀ (steps upto)
  upto-complete =
      subst (AllComplete F z₀) (sym (map-append step_of p.before (p.item ∷ [])))
      ((goes_on F (length-cmac key) z₀).complete-more (steps p.before) x
      (complete-before anchor card made left formatted rs ran complete p)
      (complete (mapped step_of p)))

  upto-anchor : (after F z₀ (steps upto)).store.anchor ≡ anchor_in (back_of p.item).anchor
  unfolding after
  upto-anchor =
      ap (λ (l : List Step). (after F z₀ l).store.anchor) (map-append step_of p.before (p.item ∷ []))
      ∙ ap (λ (s : State). s.store.anchor) (after-append F (steps p.before) (x ∷ []) z₀)
      ∙ sym (next-anchor key p.item z here)

  pub nonces-at : PlainNonces (anchor_of anchor).depth (p.before ++ (p.item ∷ [])) (anchor_in (back_of p.item).anchor)
  nonces-at =
      subst (PlainNonces (anchor_of anchor).depth upto) upto-anchor
      (nonces-after anchor card made left formatted upto upto-ran upto-complete)

  pub kept-at : Plain.stands p.item ≡ false → (anchor_in (back_of p.item).anchor).root ≡ (anchor_in (given_to p.item)).root
  kept-at e =
      let q = complete (mapped step_of p) in
      ap (λ (a : Anchor). a.root) (next-anchor key p.item z here)
      ∙ root-kept F (length-cmac key) z x q ((stands-so key p.item z here).0 ∙ e)
      ∙ sym (ap (λ (a : Anchor). a.root) (given_is key p.item z here.held here.knows here.handed here.met))
