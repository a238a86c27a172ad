-- The safety half: every accepted read and check agrees with the array, or a forged message is shown.
use mathlib.Core.Path.{◌≡◌, refl, sym, ap, subst, ◌∙◌}
use mathlib.Core.Bool.{Bool, true, false}
use mathlib.Core.List.Memᴰ
use mathlib.Core.List.{List, [], ◌∷◌, Memᴰ}
use mathlib.Core.Logic.{◌⊎◌, inl, inr, ⊎_elim}
use Prim.Native.Nat.{ℕ}
use native.Mathlib.Omega.{arith}
use lib.ListN.{length}
use Rattle.words.specs.Bytes.{same}
use Rattle.words.proofs.Same.{same-is, same_refl}
use Rattle.tree.specs.Nodes.{path_node}
use Rattle.tree.specs.Calls.{Call, read, write, check, wipe, checks, Outcome, done}
use Rattle.tree.proofs.LimitLaws.{Passes}
use Rattle.tree.proofs.CallLaws.{read-checks, write-checks, check-checks, accepted, outcome-answer, outcome-done}
use Rattle.replay.specs.Run.{Step, call, split, attempt, card_of, call_of, told, State, stands, next, after}
use Rattle.replay.specs.Claim.{Agrees, seen, ChecksTagged, Complete, Stands, AgreesHere, Forged, AllComplete, Agreement, Forgery}
use Rattle.replay.proofs.PlaceLaws.{first, later, no_place}
use Rattle.replay.proofs.Along.{everywhere}
use Rattle.replay.proofs.Safe.{read_same, check-same, write-backs, lost-backs}
use Rattle.replay.proofs.Moves.{step-whole, stands-whole, call-stands, Move, still, wrote-block, lost-block, wiped-card, move}
use Rattle.plan.proofs.ListLaws.{truth, contrary}
use Rattle.replay.proofs.Steady.{Safe, safe-steady, wipe-safe}

-- a message is among others or not
pub among-or-not : (m : List ℕ) (M : List (List ℕ)) → Memᴰ m M ⊎ (Memᴰ m M → ⊥)
among-or-not m [] = inr (λ h. Memᴰ.not-nil h)
among-or-not m (x ∷ M) = go (same m x) refl (among-or-not m M)
  where
    go : (b : Bool) → same m x ≡ b → Memᴰ m M ⊎ (Memᴰ m M → ⊥) → Memᴰ m (x ∷ M) ⊎ (Memᴰ m (x ∷ M) → ⊥)
    go true e r = inl (Memᴰ.head (same-is m x e))
    go false e (inl h) = inl (Memᴰ.tail h)
    go false e (inr d) = inr (λ k. ⊎_elim (λ (p : m ≡ x). differ p) d (Memᴰ.cases_cons k))
      where
        differ : m ≡ x → ⊥
        differ p =
            let t = ap (same m) (sym p) ∙ same_refl m in
            let z : ◌≡◌ {A = ℕ} 0 1 = cc in
            omega arith

-- all of some nodes' messages are among M, or one is shown that is not
pub record Stray (f : ℕ → List ℕ) (M : List (List ℕ)) (us : List ℕ) : Type 0 where
  pub node : ℕ
  pub among : Memᴰ node us
  pub stray : Memᴰ (f node) M → ⊥

all-or-stray : (f : ℕ → List ℕ) (M : List (List ℕ)) (us : List ℕ) → ((u : ℕ) → Memᴰ u us → Memᴰ (f u) M) ⊎ Stray f M us
all-or-stray f M [] = inl (λ u m. absurd (Memᴰ.not-nil m))
all-or-stray f M (w ∷ us) = go (among-or-not (f w) M) (all-or-stray f M us)
  where
    go : Memᴰ (f w) M ⊎ (Memᴰ (f w) M → ⊥) → ((u : ℕ) → Memᴰ u us → Memᴰ (f u) M) ⊎ Stray f M us
        → ((u : ℕ) → Memᴰ u (w ∷ us) → Memᴰ (f u) M) ⊎ Stray f M (w ∷ us)
    go (inr d) r = inr (record { node = w; among = Memᴰ.head refl; stray = d })
    go (inl a) (inr s) = inr (record { node = s.node; among = Memᴰ.tail s.among; stray = s.stray })
    go (inl a) (inl b) =
        inl (λ u m.
        ⊎_elim (λ (e : u ≡ w). subst (λ (v : ℕ). Memᴰ (f v) M) (sym e) a) (λ (k : Memᴰ u us). b u k) (Memᴰ.cases_cons m))

module _ (F : List ℕ → List ℕ) (F16 : (m : List ℕ) → length (F m) ≡ 16) where
  -- One call

  -- a step that stands checked tagged messages alone, or it forged
  judge : (s : State) (x : Step) → (Stands F s.store x → ChecksTagged s x) ⊎ Forged F s x
  judge s x =
      ⊎_elim
      (λ (f : stands F s.store x ≡ true).
      let w = stands-whole F s.store x f in
      let e = step-whole F s.store x w in
      ⊎_elim (λ (all : ChecksTagged s x). inl (λ v. all))
      (λ (k : Stray (seen s.store x) s.tagged (checks s.store.anchor.depth (call_of x))).
      inr (record {
        accepted = w;
        standing = f;
        node = k.node;
        checked = k.among;
        right = (accepted F s.store.anchor (card_of x) (call_of x) e).tags-right k.node k.among;
        untagged = k.stray;
      }))
      (all-or-stray (seen s.store x) s.tagged (checks s.store.anchor.depth (call_of x))))
      (λ (f : stands F s.store x ≡ false). inl (λ v. contrary v f))
      (truth (stands F s.store x))

  module _ (s : State) (safe : Safe s) where
    shows : (card : List ℕ) (c : Call) → Passes s.store.anchor card c → ChecksTagged s (call card c)
        → Agrees s.store.anchor.depth s.store.array card (done F s.store.anchor card c).lent (told c)
    shows card (read i buffer) p all =
        let n = s.store.anchor.depth in
        read_same safe card p.sound.full i p.inside (λ y h l. all (path_node n i y) (read-checks n i buffer p.inside y h l))
        p.sound.deep
    shows card (write i block ranges) p all = tt
    shows card wipe p all = tt
    shows card check p all = check-same safe card p.full (λ w h. all w (check-checks s.store.anchor.depth w h)) p.deep

    stays : (x : Step) → (Stands F s.store x → ChecksTagged s x) → Move F s x → Safe (next F s x)
    stays x all (still e f g h) = subst Safe (sym e) safe
    stays x all (wrote-block i block ranges w) =
        let a = s.store.anchor in
        let k = w.tags in
        let ok = (accepted F a (card_of x) (write i block ranges) k.whole).limits-passed in
        let n = a.depth in
        subst Safe (sym w.is)
        (write-backs n ok.sound.deep a.root.0 a.reserved.0 (card_of x) ok.sound.full i ok.inside block ok.long w.new k.named safe
        ok.unspent
        (λ v m d.
        all w.standing v
        (subst (λ (c : Call). Memᴰ v (checks n c)) (sym k.is-write)
        (write-checks n i block ranges ok.inside ok.sound.deep v m d))))
    stays x all (lost-block i block ranges w) =
        let a = s.store.anchor in
        let k = w.tags in
        let ok = (accepted F a (card_of x) (write i block ranges) k.whole).limits-passed in
        subst Safe (sym w.is)
        (lost-backs a.depth ok.sound.deep a.root.0 a.reserved.0 (card_of x) ok.sound.full i ok.inside block ok.long w.new k.named safe
        ok.unspent)
    stays x all (wiped-card card i e q) = subst Safe (sym q) (wipe-safe F F16 s card (safe-steady s safe) e)

  -- where all that it checked was tagged, a step agrees with the array
  pub agrees-tagged : (s : State) → Safe s → (x : Step) → (Stands F s.store x → ChecksTagged s x) → AgreesHere F s x
  agrees-tagged s safe (call card c) all w =
      let a = s.store.anchor in
      let e = sym (outcome-answer F a card c) ∙ w in
      subst (λ (o : Outcome). Agrees a.depth s.store.array card o.lent (told c)) (sym (outcome-done F a card c e))
      (shows s safe card c (accepted F a card c e).limits-passed (all (call-stands F s.store card c w)))
  agrees-tagged s safe (split card i block ranges puts) all w = tt
  agrees-tagged s safe (attempt card i block ranges journal fate) all w = tt

  -- and leaves what is known safe
  pub safe-next : (s : State) → Safe s → (x : Step) → Complete F s.store x → (Stands F s.store x → ChecksTagged s x)
      → Safe (next F s x)
  safe-next s safe x k all = stays s safe x all (move F F16 s x k)

  -- The list

  forged-now : (s : State) (x : Step) (xs : List Step) → Forged F s x → Forgery F s (x ∷ xs)
  unfolding after
  forged-now s x xs f = record { place = first x xs; forged = f }

  forged-later : (s : State) (x : Step) (xs : List Step) → Forgery F (next F s x) xs → Forgery F s (x ∷ xs)
  unfolding after
  forged-later s x xs f = record { place = later x f.place; forged = f.forged }

  pub agreement : (xs : List Step) (s : State) → AllComplete F s xs → Safe s → Agreement F s xs ⊎ Forgery F s xs
  unfolding after
  agreement [] s k safe = inl (λ p. absurd (no_place p))
  agreement (x ∷ xs) s k safe =
      ⊎_elim
      (λ (all : Stands F s.store x → ChecksTagged s x).
      ⊎_elim (λ (rest : Agreement F (next F s x) xs). inl (everywhere F (AgreesHere F) s x xs (agrees-tagged s safe x all) rest))
      (λ (f : Forgery F (next F s x) xs). inr (forged-later s x xs f))
      (agreement xs (next F s x) (λ p. k (later x p)) (safe-next s safe x (k (first x xs)) all)))
      (λ (f : Forged F s x). inr (forged-now s x xs f))
      (judge s x)
