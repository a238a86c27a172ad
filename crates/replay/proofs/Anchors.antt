-- The anchor along a list: key and depth stay; the reserved nonce is n times the writes and wipes that reserved, the root nonce is at most
-- that, both are multiples of n, and where nothing was lost both are n times the writes and wipes that stand.
use mathlib.Core.Path.{◌≡◌, refl, ap, ap₂, ◌∙◌}
use mathlib.Core.Bool.{Bool, true, false, not, cond, ◌&&◌}
use mathlib.Core.List.{List, [], ◌∷◌}
use Prim.Native.Nat.{ℕ, ◌+◌, ◌*◌, ◌%◌, ◌≤◌}
use native.Mathlib.Nat.{add-mul}
use native.Mathlib.Omega.{arith}
use lib.ListN.{length}
use Rattle.std.proofs.Math.Nat.{add-mod_right}
use Rattle.tree.specs.Answer.{is_whole}
use Rattle.tree.specs.Calls.{wipe, renews, answer_of}
use Rattle.tree.specs.declared.Anchor.{Anchor}
use Rattle.tree.specs.Answer.{Answer, Whole}
use Rattle.tree.proofs.CallLaws.{outcome-answer}
use Rattle.plan.proofs.ListLaws.{contrary}
use Rattle.replay.specs.Run.{Step, call, call_of, Store, State, stands, reserves, next, after, renewals, losses}
use Rattle.replay.specs.Claim.{Complete, AllComplete}
use Rattle.replay.specs.Nonces.{NothingLost}
use Rattle.replay.proofs.PlaceLaws.{first, later}
use Rattle.replay.proofs.Moves.{wrote, lost_write, wiped, Move, still, wrote-block, lost-block, wiped-card, move, both_true}

-- the nonces of an anchor that limit 2 passes
pub record Sound (a : Anchor) : Type 0 where
  pub within : a.root.0 ≤ a.reserved.0
  pub multiple : a.root.0 % a.depth ≡ 0
  pub reserved_multiple : a.reserved.0 % a.depth ≡ 0

module _ (F : List ℕ → List ℕ) (F16 : (m : List ℕ) → length (F m) ≡ 16) where
  -- Key and depth stay.

  pub next-key : (s : State) (x : Step) → Complete F s.store x
      → ((next F s x).store.anchor.key ≡ s.store.anchor.key) × ((next F s x).store.anchor.depth ≡ s.store.anchor.depth)
  next-key s x k = go (move F F16 s x k)
    where
      keyed : (z : State) → next F s x ≡ z → (z.store.anchor.key ≡ s.store.anchor.key) ×
          (z.store.anchor.depth ≡ s.store.anchor.depth)
          → ((next F s x).store.anchor.key ≡ s.store.anchor.key) × ((next F s x).store.anchor.depth ≡ s.store.anchor.depth)
      keyed z e h = (ap (λ (q : State). q.store.anchor.key) e ∙ h.0, ap (λ (q : State). q.store.anchor.depth) e ∙ h.1)

      go : Move F s x → ((next F s x).store.anchor.key ≡ s.store.anchor.key) ×
          ((next F s x).store.anchor.depth ≡ s.store.anchor.depth)
      go (still e f g h) = keyed s e (refl, refl)
      go (wrote-block i block ranges w) = keyed (wrote s i block w.left w.new) w.is (refl, refl)
      go (lost-block i block ranges w) = keyed (lost_write s w.new) w.is (refl, refl)
      go (wiped-card card i e q) = keyed (wiped F s card) q (refl, refl)

  pub after-key : (xs : List Step) (s : State) → AllComplete F s xs
      → ((after F s xs).store.anchor.key ≡ s.store.anchor.key) × ((after F s xs).store.anchor.depth ≡ s.store.anchor.depth)
  unfolding after
  after-key [] s k = (refl, refl)
  after-key (x ∷ xs) s k =
      let p = after-key xs (next F s x) (λ q. k (later x q)) in
      let q = next-key s x (k (first x xs)) in
      (p.0 ∙ q.0, p.1 ∙ q.1)

  -- The nonces

  -- 1 for a step that was lost, and for a write or wipe that stands
  abbrev losing : Store → Step → ℕ
  losing s x = cond (reserves F s x && not (stands F s x)) 1 0

  abbrev renewing : Store → Step → ℕ
  renewing s x = cond (stands F s x && renews (call_of x)) 1 0

  -- What a step makes of both: nothing; it reserves and the root nonce is what was reserved; or it reserves alone.
  data Nonces (s : State) (x : Step) : Type 0 where
    kept : (next F s x).store.anchor.root.0 ≡ s.store.anchor.root.0 → (next F s x).store.anchor.reserved.0 ≡ s.store.anchor.reserved.0
        → reserves F s.store x ≡ false → (stands F s.store x && renews (call_of x)) ≡ false → Nonces s x
    renewed : (next F s x).store.anchor.root.0 ≡ s.store.anchor.reserved.0 + s.store.anchor.depth
        → (next F s x).store.anchor.reserved.0 ≡ s.store.anchor.reserved.0 + s.store.anchor.depth
        → reserves F s.store x ≡ true → (stands F s.store x && renews (call_of x)) ≡ true → Nonces s x
    raised : (next F s x).store.anchor.root.0 ≡ s.store.anchor.root.0
        → (next F s x).store.anchor.reserved.0 ≡ s.store.anchor.reserved.0 + s.store.anchor.depth
        → reserves F s.store x ≡ true → stands F s.store x ≡ false → Nonces s x

  nonces : (s : State) (x : Step) → Complete F s.store x → Nonces s x
  nonces s x k = go (move F F16 s x k)
    where
      root-of : {z : State} → next F s x ≡ z → (next F s x).store.anchor.root.0 ≡ z.store.anchor.root.0
      root-of e = ap (λ (q : State). q.store.anchor.root.0) e

      reserved-of : {z : State} → next F s x ≡ z → (next F s x).store.anchor.reserved.0 ≡ z.store.anchor.reserved.0
      reserved-of e = ap (λ (q : State). q.store.anchor.reserved.0) e

      wiping : (card : List ℕ) → x ≡ call card wipe → answer_of F s.store.anchor card wipe ≡ Whole
          → (reserves F s.store x ≡ true) × ((stands F s.store x && renews (call_of x)) ≡ true)
      wiping card i e =
          let w : (is_whole Whole && true) ≡ true = refl in
          let q = ap (λ (o : Answer). is_whole o && true) (outcome-answer F s.store.anchor card wipe ∙ e) ∙ w in
          (ap (λ (y : Step). reserves F s.store y) i ∙ q, ap (λ (y : Step). stands F s.store y && renews (call_of y)) i ∙ q)

      go : Move F s x → Nonces s x
      go (still e f g h) = kept (root-of e) (reserved-of e) g f
      go (wrote-block i block ranges w) =
          let e = ap (λ (b : Bool). b && renews (call_of x)) w.standing ∙ ap renews w.tags.is-write in
          renewed (root-of w.is) (reserved-of w.is) w.tags.reserved e
      go (lost-block i block ranges w) = raised (root-of w.is) (reserved-of w.is) w.tags.reserved w.fallen
      go (wiped-card card i e q) = let r = wiping card i e in renewed (root-of q) (reserved-of q) r.0 r.1

  -- H is n times the writes and wipes that stand and the lost ones,
  pub after-reserved : (xs : List Step) (s : State) → AllComplete F s xs
      → (after F s xs).store.anchor.reserved.0 ≡ s.store.anchor.reserved.0 + (renewals F s xs + losses F s xs) * s.store.anchor.depth
  unfolding after renewals losses
  after-reserved [] s k = omega arith
  after-reserved (x ∷ xs) s k =
      let r = renewals F (next F s x) xs in
      let l = losses F (next F s x) xs in
      let n = s.store.anchor.depth in
      after-reserved xs (next F s x) (λ q. k (later x q))
      ∙ ap₂ (λ (t m : ℕ). t + (r + l) * m) (here (nonces s x (k (first x xs)))) (next-key s x (k (first x xs))).1
      ∙ sum s.store.anchor.reserved.0 (renewing s.store x) (losing s.store x) r l n
    where
      sum : (t w v k l n : ℕ) → t + (w + v) * n + (k + l) * n ≡ t + ((w + k) + (v + l)) * n
      sum t w v k l n = let e = add-mul (w + v) (k + l) n in let f = ap (λ (z : ℕ). z * n) (same w v k l) in omega arith
        where
          same : (w v k l : ℕ) → (w + v) + (k + l) ≡ (w + k) + (v + l)
          same w v k l = omega arith

      here : Nonces s x → (next F s x).store.anchor.reserved.0
          ≡ s.store.anchor.reserved.0 + (cond (stands F s.store x && renews (call_of x)) 1 0
          + cond (reserves F s.store x && not (stands F s.store x)) 1 0) * s.store.anchor.depth
      here (kept t h f g) = rw (f, g) (h ∙ omega arith)
      here (renewed t h f g) = rw (f, g, (both_true F s.store (stands F s.store x) (renews (call_of x)) g).0) (h ∙ omega arith)
      here (raised t h f g) = rw (f, g) (h ∙ omega arith)

  -- T is at most H, and both stay multiples of n,
  next-sound : (s : State) (x : Step) → Complete F s.store x → Sound s.store.anchor → Sound (next F s x).store.anchor
  next-sound s x k h = go (nonces s x k)
    where
      n : ℕ
      n = s.store.anchor.depth

      d : (next F s x).store.anchor.depth ≡ s.store.anchor.depth
      d = (next-key s x k).1

      more : (s.store.anchor.reserved.0 + s.store.anchor.depth) % s.store.anchor.depth ≡ 0
      more = add-mod_right s.store.anchor.reserved.0 n ∙ h.reserved_multiple

      go : Nonces s x → Sound (next F s x).store.anchor
      go (kept t g f i) =
          record { within = omega (arith, h.within); multiple = rw (t, d) h.multiple; reserved_multiple = rw (g, d) h.reserved_multiple }
      go (renewed t g f i) = record { within = omega arith; multiple = rw (t, d) more; reserved_multiple = rw (g, d) more }
      go (raised t g f i) =
          record { within = omega (arith, h.within); multiple = rw (t, d) h.multiple; reserved_multiple = rw (g, d) more }

  pub after-sound : (xs : List Step) (s : State) → AllComplete F s xs → Sound s.store.anchor → Sound (after F s xs).store.anchor
  unfolding after
  after-sound [] s k h = h
  after-sound (x ∷ xs) s k h = after-sound xs (next F s x) (λ q. k (later x q)) (next-sound s x (k (first x xs)) h)

  -- and where nothing was lost T is H, n times what stands.
  pub after-root : (xs : List Step) (s : State) → AllComplete F s xs → NothingLost F s xs → s.store.anchor.root.0 ≡ s.store.anchor.reserved.0
      → (after F s xs).store.anchor.root.0 ≡ s.store.anchor.root.0 + renewals F s xs * s.store.anchor.depth
  unfolding after renewals
  after-root [] s k f e = omega arith
  after-root (x ∷ xs) s k f e =
      let r = renewals F (next F s x) xs in
      let n = s.store.anchor.depth in
      let q = here (nonces s x (k (first x xs))) in
      after-root xs (next F s x) (λ p. k (later x p)) (λ p. f (later x p)) q.1
      ∙ ap₂ (λ (t m : ℕ). t + r * m) q.0 (next-key s x (k (first x xs))).1
      ∙ sum s.store.anchor.root.0 (renewing s.store x) r n
    where
      sum : (t w k n : ℕ) → t + w * n + k * n ≡ t + (w + k) * n
      sum t w k n = let e = add-mul w k n in omega arith

      here : Nonces s x
          → ((next F s x).store.anchor.root.0
          ≡ s.store.anchor.root.0 + cond (stands F s.store x && renews (call_of x)) 1 0 * s.store.anchor.depth)
          × ((next F s x).store.anchor.root.0 ≡ (next F s x).store.anchor.reserved.0)
      here (kept t h g i) = (rw i (t ∙ omega arith), omega (arith, e))
      here (renewed t h g i) = (rw i (t ∙ omega (arith, e)), omega arith)
      here (raised t h g i) = absurd (contrary (f (first x xs) g) i)
