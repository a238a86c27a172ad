-- Which labels the tagged messages vouch for. Neither card nor depth is known here: only which nodes there are, how long their labels
-- are, and how a message is formed of a node's label, its parent's label and its side.
use mathlib.Core.Path.{◌≡◌, sym, ap, ◌∙◌}
use mathlib.Core.List.{List, Memᴰ}
use mathlib.Core.Logic.{◌⊎◌, inl, inr}
use Prim.Native.Nat.{ℕ, ◌/◌, ◌%◌, ◌^◌, ◌<◌, ◌≤◌}
use native.Mathlib.Omega.{arith}
use lib.ListN.{length}
use Rattle.tree.specs.Numbers.{be8}
use Rattle.tree.specs.Labels.{Labels}
use Rattle.tree.proofs.ByteLaws.{length-be, be-inj}
use Rattle.tree.proofs.LabelLaws.{Parts}

pub record Frame : Type 1 where
  pub Node : ℕ → Type 0
  pub size : ℕ → ℕ
  pub form : List ℕ → List ℕ → ℕ → List ℕ
  -- a message tells its parts
  pub parts : (x p : List ℕ) (s : ℕ) (y q : List ℕ) (t : ℕ) → length p ≡ length q → form x p s ≡ form y q t → Parts x p s y q t

module _ (T : Frame) where
  abbrev pub said : Labels → ℕ → List ℕ
  said I v = T.form (I v) (I (v / 2)) (v % 2)

  -- read as the message of a node whose parent has a nonce, m has one below H
  abbrev pub Below : ℕ → List ℕ → Type 0
  Below H m = (v : ℕ) (x : List ℕ) (s : ℕ) → T.Node v → length x ≡ T.size v → s < 256 ^ 8 → m ≡ T.form x (be8 s) (v % 2) → s < H

  abbrev pub AllBelow : ℕ → List (List ℕ) → Type 0
  AllBelow H M = (m : List ℕ) → Memᴰ m M → Below H m

  -- What m vouches for: read as the message of a node whose parent has its label of I, it gives that node its label of I.
  pub record Vouches (H : ℕ) (I : Labels) (m : List ℕ) : Type 0 where
    pub fits : (v : ℕ) (x : List ℕ) → T.Node v → length x ≡ T.size v → m ≡ T.form x (I (v / 2)) (v % 2) → x ≡ I v
    pub below : Below H m

  abbrev pub AllVouch : ℕ → Labels → List (List ℕ) → Type 0
  AllVouch H I M = (m : List ℕ) → Memᴰ m M → Vouches H I m

  -- no message of a node
  abbrev pub Foreign : List ℕ → Type 0
  Foreign m = (v : ℕ) (x p : List ℕ) (s : ℕ) → T.Node v → length x ≡ T.size v → length p ≡ 8 → m ≡ T.form x p s → ⊥

  pub all-below : {H : ℕ} {I : Labels} {M : List (List ℕ)} → AllVouch H I M → AllBelow H M
  all-below f m h = (f m h).below

  -- the parent of v has a nonce from G up to H
  pub record Nonced (G H : ℕ) (I : Labels) (v : ℕ) : Type 0 where
    pub nonce : ℕ
    pub is : I (v / 2) ≡ be8 nonce
    pub low : G ≤ nonce
    pub high : nonce < H

  abbrev pub AllNonced : ℕ → Labels → Type 0
  AllNonced H I = (v : ℕ) → T.Node v → Nonced 0 H I v

  -- it has no nonce, and vouches for anything
  pub foreign-below : {H : ℕ} {m : List ℕ} → Foreign m → Below H m
  foreign-below f v x s node sized small e = absurd (f v x (be8 s) (v % 2) node sized (length-be 8 s) e)

  pub foreign-vouches : {G H : ℕ} {I : Labels} {m : List ℕ} → AllNonced G I → Foreign m → Vouches H I m
  foreign-vouches {I = I} nonced f =
      record {
        fits = λ v x node sized e.
            let o = nonced v node in
            absurd (f v x (I (v / 2)) (v % 2) node sized (ap length o.is ∙ length-be 8 o.nonce) e);
        below = foreign-below f;
      }

  -- m is a node's message under the labels J, and its parent's nonce is from G up to H
  pub record Says (G H : ℕ) (J : Labels) (m : List ℕ) : Type 0 where
    pub node : ℕ
    pub is-node : T.Node node
    pub fresh : Nonced G H J node
    pub is : m ≡ said J node

  -- One step down a path: under a parent that has its label of I, a node whose message vouches has its own.
  pub down : {H : ℕ} {I : Labels} (L : Labels) (v : ℕ) → Vouches H I (said L v) → T.Node v → length (L v) ≡ T.size v
      → L (v / 2) ≡ I (v / 2) → L v ≡ I v
  down L v h node sized parent = h.fits v (L v) node sized (ap (λ (p : List ℕ). T.form (L v) p (v % 2)) parent)

  -- nonces may be used that no message had
  pub raise : {G H : ℕ} {m : List ℕ} → G ≤ H → Below G m → Below H m
  raise {G} g h v x s node sized small e = let l : s < G = h v x s node sized small e in omega arith

  -- a node's message, read with another parent's nonce, has the same one
  same-nonce : {G H : ℕ} {J : Labels} {m : List ℕ} (k : Says G H J m) → H ≤ 256 ^ 8 → (x : List ℕ) (s side : ℕ) → s < 256 ^ 8
      → m ≡ T.form x (be8 s) side → s ≡ k.fresh.nonce
  same-nonce {H = H} {J = J} k top x s side small e =
      let u = k.node in
      let f = k.fresh in
      let q =
      T.parts x (be8 s) side (J u) (J (u / 2)) (u % 2)
      (length-be 8 s ∙ sym (length-be 8 f.nonce) ∙ sym (ap length f.is))
      (sym e ∙ k.is) in
      be-inj 8 s f.nonce small (omega (arith, f.high)) (q.parent-same ∙ f.is)

  -- and so is no message under a nonce of I, if I has none of those nonces
  other-nonce : {G H : ℕ} {I J : Labels} {m : List ℕ} → Says G H J m → H ≤ 256 ^ 8 → (v : ℕ) (x : List ℕ) → Nonced 0 G I v
      → m ≡ T.form x (I (v / 2)) (v % 2) → ⊥
  other-nonce {G} {H} k top v x o e =
      let f = k.fresh in
      let q = same-nonce k top x o.nonce (v % 2) (omega (arith, o.high, f.low, f.high))
      (e ∙ ap (λ (p : List ℕ). T.form x p (v % 2)) o.is) in
      omega (arith, o.high, f.low)

  pub says-below : {G H : ℕ} {J : Labels} {m : List ℕ} → Says G H J m → H ≤ 256 ^ 8 → Below H m
  says-below k top v x s node sized small e = let q = same-nonce k top x s (v % 2) small e in omega (arith, k.fresh.high)

  -- nor does it change what labels without those nonces are vouched for
  pub says-apart : {G H : ℕ} {I J : Labels} {m : List ℕ} → AllNonced G I → Says G H J m → H ≤ 256 ^ 8 → Vouches H I m
  says-apart nonced k top =
      record {
        fits = λ v x node sized e. absurd (other-nonce k top v x (nonced v node) e);
        below = says-below k top;
      }

  -- under a parent with a fresh nonce an older message says nothing
  stale : {G H : ℕ} {J : Labels} {m : List ℕ} → Below G m → H ≤ 256 ^ 8 → (v : ℕ) (x : List ℕ) → T.Node v → length x ≡ T.size v
      → Nonced G H J v → m ≡ T.form x (J (v / 2)) (v % 2) → ⊥
  stale h top v x node sized f e =
      let l = h v x f.nonce node sized (omega (arith, f.high, top)) (e ∙ ap (λ (p : List ℕ). T.form x p (v % 2)) f.is) in
      omega (arith, f.low)

  -- v and its parent keep their labels
  pub record Keeps (H : ℕ) (I J : Labels) (v : ℕ) : Type 0 where
    pub own : J v ≡ I v
    pub parent : J (v / 2) ≡ I (v / 2)
    pub was : Nonced 0 H I v

  -- An event at fresh nonces, from G up to H, takes the labels I to J: every node either keeps its label under its parent's or
  -- has a parent with a fresh nonce; and of the latter, those whose messages could be exchanged have the same label.
  pub record Event (G H : ℕ) (I J : Labels) : Type 0 where
    pub grows : G ≤ H
    pub top : H ≤ 256 ^ 8
    pub each : (v : ℕ) → T.Node v → Keeps G I J v ⊎ Nonced G H J v
    pub sized : (v : ℕ) → T.Node v → length (J v) ≡ T.size v
    pub coherent : (v w : ℕ) → T.Node v → T.Node w → Nonced G H J v → Nonced G H J w → T.size v ≡ T.size w
        → J (v / 2) ≡ J (w / 2) → v % 2 ≡ w % 2 → J v ≡ J w

  module _ {G H : ℕ} {I J : Labels} (ev : Event G H I J) where
    -- an older message vouches still
    pub event-old : {m : List ℕ} → Vouches G I m → Vouches H J m
    event-old {m} h = record { fits = λ v x node sized e. go v x node sized e (ev.each v node); below = raise ev.grows h.below }
      where
        go : (v : ℕ) (x : List ℕ) → T.Node v → length x ≡ T.size v → m ≡ T.form x (J (v / 2)) (v % 2) → Keeps G I J v ⊎ Nonced G H J v
            → x ≡ J v
        go v x node sized e (inl k) =
            h.fits v x node sized (e ∙ ap (λ (p : List ℕ). T.form x p (v % 2)) k.parent) ∙ sym k.own
        go v x node sized e (inr f) = absurd (stale h.below ev.top v x node sized f e)

    -- where every parent has a fresh nonce, whatever it said
    pub renewed-old : ((v : ℕ) → T.Node v → Nonced G H J v) → {m : List ℕ} → Below G m → Vouches H J m
    renewed-old fresh h =
        record {
          fits = λ v x node sized e. absurd (stale h ev.top v x node sized (fresh v node) e);
          below = raise ev.grows h;
        }

    -- the event's own messages vouch for its labels
    pub event-new : {m : List ℕ} → Says G H J m → Vouches H J m
    event-new {m} k = record { fits = λ v x node sized e. go v x node sized e (ev.each v node); below = says-below k ev.top }
      where
        go : (v : ℕ) (x : List ℕ) → T.Node v → length x ≡ T.size v → m ≡ T.form x (J (v / 2)) (v % 2) → Keeps G I J v ⊎ Nonced G H J v
            → x ≡ J v
        go v x node sized e (inl o) =
            absurd (other-nonce k ev.top v x o.was (e ∙ ap (λ (p : List ℕ). T.form x p (v % 2)) o.parent))
        go v x node sized e (inr f) =
            let u = k.node in
            let q =
            T.parts (J u) (J (u / 2)) (u % 2) x (J (v / 2)) (v % 2)
            (ap length k.fresh.is ∙ length-be 8 k.fresh.nonce ∙ sym (length-be 8 f.nonce) ∙ sym (ap length f.is))
            (sym k.is ∙ e) in
            let long = sym sized ∙ ap length (sym q.label_same) ∙ ev.sized u k.is-node in
            sym q.label_same ∙ sym (ev.coherent v u node k.is-node f k.fresh long (sym q.parent-same) (sym q.side_same))

    pub event-nonced : AllNonced H J
    event-nonced v node = go (ev.each v node)
      where
        go : Keeps G I J v ⊎ Nonced G H J v → Nonced 0 H J v
        go (inl k) =
            let o = k.was in
            record { nonce = o.nonce; is = k.parent ∙ o.is; low = omega arith; high = omega (arith, ev.grows, o.high) }
        go (inr f) = record { nonce = f.nonce; is = f.is; low = omega arith; high = f.high }
