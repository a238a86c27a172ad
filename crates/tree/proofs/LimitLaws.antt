-- Limits: the first that fails, test by test and list by list, and what holds where all of a call's are passed.
use mathlib.Core.Path.{◌≡◌, refl, ap, ◌∙◌}
use mathlib.Core.Bool.{Bool, true, false, not, cond, ◌||◌}
use mathlib.Core.List.{List, [], ◌∷◌, ◌++◌}
use mathlib.Core.Logic.{⊎_elim}
use mathlib.Core.Option.{Option, none, some}
use Prim.Native.Nat.{ℕ, ◌+◌, ◌*◌, ◌%◌, ◌^◌, ◌<◌, ◌≤◌}
use native.Mathlib.Omega.{arith}
use borrow.Author.Tests.{ltb-false, leb-false, eqb-true, eqb-false, not-false, eq-eqb, ne_eqb, le-ltb, lt-leb}
use lib.Dec.{eqb, ltb}
use lib.ListN.{length}
use Rattle.std.proofs.Math.Nat.{add-mod_right}
use Rattle.words.proofs.Cases.{below_or_not}
use Rattle.tree.specs.Layout.{IsCard, card_length}
use Rattle.tree.specs.Limits.{Limit, depth_limit, nonce_limit, first_failing}
use Rattle.tree.specs.Tests.{test_result, tested}
use Rattle.tree.specs.Answer.{limited_in}
use Rattle.std.specs.Prelude.{Result, Ok, Err}
use Rattle.tree.specs.Calls.{verdict, Call, read, write, check, wipe, first_limits, own_limits, limits, raise}
use Rattle.tree.specs.declared.Anchor.{Anchor}
use Rattle.tree.specs.declared.Refusal.{Refusal}

-- The first that fails

pub no-limits : first_failing [] ≡ none
unfolding first_failing
no-limits = refl

-- the first one leaves the rest to decide, or decides
pub skip : (l : Limit) (ls : List Limit) → l.fails ≡ false → first_failing (l ∷ ls) ≡ first_failing ls
unfolding first_failing
skip l ls e = rw e

pub stop : (l : Limit) (ls : List Limit) → l.fails ≡ true → first_failing (l ∷ ls) ≡ some l.refusal
unfolding first_failing
stop l ls e = rw e

-- of one list after another
pub stop-first : (ls ms : List Limit) (r : Refusal) → first_failing ls ≡ some r → first_failing (ls ++ ms) ≡ some r
unfolding first_failing
stop-first [] ms r e = let z : ◌≡◌ {A = ℕ} 0 1 = cc in absurd (omega arith)
stop-first (l ∷ ls) ms r e = go (stop-first ls ms r) l.fails e
  where
    go : (first_failing ls ≡ some r → first_failing (ls ++ ms) ≡ some r) → (b : Bool)
        → cond b (some l.refusal) (first_failing ls) ≡ some r → cond b (some l.refusal) (first_failing (ls ++ ms)) ≡ some r
    go rest true e = e
    go rest false e = rest e

pub skip_first : (ls ms : List Limit) → first_failing ls ≡ none → first_failing (ls ++ ms) ≡ first_failing ms
unfolding first_failing
skip_first [] ms e = refl
skip_first (l ∷ ls) ms e = go (skip_first ls ms) l.fails e
  where
    go : (first_failing ls ≡ none → first_failing (ls ++ ms) ≡ first_failing ms) → (b : Bool)
        → cond b (some l.refusal) (first_failing ls) ≡ none → cond b (some l.refusal) (first_failing (ls ++ ms)) ≡ first_failing ms
    go rest true e = let z : ◌≡◌ {A = ℕ} 0 1 = cc in absurd (omega arith)
    go rest false e = rest e

pub passed-both : (ls ms : List Limit) → first_failing (ls ++ ms) ≡ none → (first_failing ls ≡ none) × (first_failing ms ≡ none)
unfolding first_failing
passed-both [] ms e = (refl, e)
passed-both (l ∷ ls) ms e = go (passed-both ls ms) l.fails e
  where
    go : (first_failing (ls ++ ms) ≡ none → (first_failing ls ≡ none) × (first_failing ms ≡ none)) → (b : Bool)
        → cond b (some l.refusal) (first_failing (ls ++ ms)) ≡ none
        → (cond b (some l.refusal) (first_failing ls) ≡ none) × (first_failing ms ≡ none)
    go rest true e = let z : ◌≡◌ {A = ℕ} 0 1 = cc in absurd (omega arith)
    go rest false e = rest e

-- the first limit and the rest are passed
pub passes : (l : Limit) (ls : List Limit) → first_failing (l ∷ ls) ≡ none → (l.fails ≡ false) × (first_failing ls ≡ none)
unfolding first_failing
passes l ls e = go l.fails e
  where
    go : (b : Bool) → cond b (some l.refusal) (first_failing ls) ≡ none → (b ≡ false) × (first_failing ls ≡ none)
    go true e = let z : ◌≡◌ {A = ℕ} 0 1 = cc in absurd (omega arith)
    go false e = (refl, e)

pub pass : (l : Limit) (ls : List Limit) → l.fails ≡ false → first_failing ls ≡ none → first_failing (l ∷ ls) ≡ none
unfolding first_failing
pass l ls f e = rw f e

-- What single limits say

not-or : (a b : Bool) → (a || b) ≡ false → (a ≡ false) × (b ≡ false)
not-or true b e = let z : ◌≡◌ {A = ℕ} 0 1 = cc in absurd (omega arith)
not-or false b e = (refl, e)

or-not : (a b : Bool) → a ≡ false → b ≡ false → (a || b) ≡ false
or-not true b p q = p
or-not false b p q = q

pub is-equal : (m n : ℕ) → not (eqb m n) ≡ false → m ≡ n
is-equal m n e = eqb-true m n (not-false (eqb m n) e)

pub equal_is : (m n : ℕ) → m ≡ n → not (eqb m n) ≡ false
equal_is m n e = ap not (eq-eqb m n e)

pub depth-passes : (n : ℕ) → 1 ≤ n → n ≤ 16 → (depth_limit n).fails ≡ false
depth-passes n deep shallow = or-not (eqb n 0) (ltb 16 n) (ne_eqb n 0 (λ (z : n ≡ 0). omega arith)) (le-ltb 16 n shallow)

pub depth-in : (n : ℕ) → (depth_limit n).fails ≡ false → (1 ≤ n) × (n ≤ 16)
depth-in n e =
    let d = not-or (eqb n 0) (ltb 16 n) e in (
      ⊎_elim (λ (z : n < 1). absurd (eqb-false n 0 d.0 (omega arith))) (λ (g : 1 ≤ n). g) (below_or_not n 1),
      ltb-false 16 n d.1,
    )

pub nonces-pass : (n t h : ℕ) → t % n ≡ 0 → h % n ≡ 0 → t ≤ h → (nonce_limit n t h).fails ≡ false
nonces-pass n t h p q l =
    or-not (not (eqb (t % n) 0)) (not (eqb (h % n) 0) || ltb h t) (equal_is (t % n) 0 p)
    (or-not (not (eqb (h % n) 0)) (ltb h t) (equal_is (h % n) 0 q) (le-ltb h t l))

-- What a row of tests answers

-- one limit's test
pub tested-one : (l : Limit) → cond l.fails (Err l.refusal) (Ok tt) ≡ tested (l ∷ [])
unfolding first_failing
tested-one l = go l.fails
  where
    go : (b : Bool) → ◌≡◌ {A = Result Unit Refusal} (cond b (Err l.refusal) (Ok tt)) (test_result (cond b (some l.refusal) none))
    go true = refl
    go false = refl

-- no limit of the row fails, or the first that does is this one
pub none-failing : (ls : List Limit) {x : Unit} → tested ls ≡ Ok x → first_failing ls ≡ none
none-failing ls e = go (first_failing ls) e
  where
    go : (o : Option Refusal) {x : Unit} → test_result o ≡ Ok x → o ≡ none
    go none e = refl
    go (some r) e = cc

pub this_fails : (ls : List Limit) {r : Refusal} → tested ls ≡ Err r → first_failing ls ≡ some r
this_fails ls e = go (first_failing ls) e
  where
    go : (o : Option Refusal) {r : Refusal} → test_result o ≡ Err r → o ≡ some r
    go none e = cc
    go (some s) e = cc

-- what a row says of the answer
pub limited-tested : (ls : List Limit) → limited_in (tested ls) ≡ verdict (first_failing ls) none
limited-tested ls = go (first_failing ls)
  where
    go : (o : Option Refusal) → limited_in (test_result o) ≡ verdict o none
    go none = refl
    go (some r) = refl

-- What holds where a call's limits are all passed

-- 1, 2 and 3
pub record Sound (a : Anchor) (card : List ℕ) : Type 0 where
  pub deep : 1 ≤ a.depth
  pub shallow : a.depth ≤ 16
  pub multiple : a.root.0 % a.depth ≡ 0
  pub reserved_multiple : a.reserved.0 % a.depth ≡ 0
  pub within : a.root.0 ≤ a.reserved.0
  pub full : length card ≡ card_length a.depth

pub sound-card : {a : Anchor} {card : List ℕ} → Sound a card → IsCard a.depth card
sound-card s = record { deep = s.deep; shallow = s.shallow; full = s.full }

-- and they are passed where more nonces are reserved
pub raised-sound : {a : Anchor} {card : List ℕ} → Sound a card → Sound (raise a) card
raised-sound {a = a} s =
    record {
      deep = s.deep;
      shallow = s.shallow;
      multiple = s.multiple;
      reserved_multiple = add-mod_right a.reserved.0 a.depth ∙ s.reserved_multiple;
      within = omega (arith, s.within);
      full = s.full;
    }

module _ (a : Anchor) (card : List ℕ) where
  pub first-passed : first_failing (first_limits a (length card)) ≡ none → Sound a card
  first-passed e =
      let p = passes _ _ e in
      let q = passes _ _ p.1 in
      let r = passes _ _ q.1 in
      let d = depth-in a.depth p.0 in
      let t = not-or (not (eqb (a.root.0 % a.depth) 0)) (not (eqb (a.reserved.0 % a.depth) 0) || ltb a.reserved.0 a.root.0) q.0 in
      let h = not-or (not (eqb (a.reserved.0 % a.depth) 0)) (ltb a.reserved.0 a.root.0) t.1 in
      record {
        deep = d.0;
        shallow = d.1;
        multiple = is-equal (a.root.0 % a.depth) 0 t.0;
        reserved_multiple = is-equal (a.reserved.0 % a.depth) 0 h.0;
        within = ltb-false a.reserved.0 a.root.0 h.1;
        full = is-equal (length card) (card_length a.depth) r.0;
      }

  pass-first : Sound a card → first_failing (first_limits a (length card)) ≡ none
  pass-first s =
      pass _ _ (depth-passes a.depth s.deep s.shallow)
      (pass _ _ (nonces-pass a.depth a.root.0 a.reserved.0 s.multiple s.reserved_multiple s.within)
      (pass _ _ (equal_is (length card) (card_length a.depth) s.full) no-limits))

-- and the call's own
pub record Reads (a : Anchor) (card : List ℕ) (i : ℕ) (buffer : List ℕ) : Type 0 where
  pub sound : Sound a card
  pub inside : i < 2 ^ a.depth
  pub long : length buffer ≡ 64

pub record Writes (a : Anchor) (card : List ℕ) (i : ℕ) (block ranges : List ℕ) : Type 0 where
  pub sound : Sound a card
  pub inside : i < 2 ^ a.depth
  pub long : length block ≡ 64
  pub room : 16 * a.depth ≤ length ranges
  pub unspent : a.reserved.0 + a.depth < 2 ^ 64

pub record Wipes (a : Anchor) (card : List ℕ) : Type 0 where
  pub sound : Sound a card
  pub unspent : a.reserved.0 + a.depth < 2 ^ 64

abbrev pub Passes : Anchor → List ℕ → Call → Type 0
Passes a card (read i buffer) = Reads a card i buffer
Passes a card (write i block ranges) = Writes a card i block ranges
Passes a card check = Sound a card
Passes a card wipe = Wipes a card

pub passes-sound : (a : Anchor) (card : List ℕ) (c : Call) → Passes a card c → Sound a card
passes-sound a card (read i buffer) p = p.sound
passes-sound a card (write i block ranges) p = p.sound
passes-sound a card check p = p
passes-sound a card wipe p = p.sound

own-passed : (a : Anchor) (card : List ℕ) (c : Call) → Sound a card → first_failing (own_limits a c) ≡ none
    → Passes a card c
own-passed a card (read i buffer) s e =
    let q = passes _ _ e in
    let r = passes _ _ q.1 in
    record { sound = s; inside = leb-false (2 ^ a.depth) i q.0; long = is-equal (length buffer) 64 r.0 }
own-passed a card (write i block ranges) s e =
    let q = passes _ _ e in
    let r = passes _ _ q.1 in
    let t = passes _ _ r.1 in
    let u = passes _ _ t.1 in
    record {
      sound = s;
      inside = leb-false (2 ^ a.depth) i q.0;
      long = is-equal (length block) 64 r.0;
      room = ltb-false (length ranges) (16 * a.depth) t.0;
      unspent = leb-false (2 ^ 64) (a.reserved.0 + a.depth) u.0;
    }
own-passed a card check s e = s
own-passed a card wipe s e = record { sound = s; unspent = leb-false (2 ^ 64) (a.reserved.0 + a.depth) (passes _ _ e).0 }

pass-own : (a : Anchor) (card : List ℕ) (c : Call) → Passes a card c → first_failing (own_limits a c) ≡ none
pass-own a card (read i buffer) p =
    pass _ _ (lt-leb (2 ^ a.depth) i p.inside) (pass _ _ (equal_is (length buffer) 64 p.long) no-limits)
pass-own a card (write i block ranges) p =
    pass _ _ (lt-leb (2 ^ a.depth) i p.inside)
    (pass _ _ (equal_is (length block) 64 p.long)
    (pass _ _ (le-ltb (length ranges) (16 * a.depth) p.room)
    (pass _ _ (lt-leb (2 ^ 64) (a.reserved.0 + a.depth) p.unspent) no-limits)))
pass-own a card check p = no-limits
pass-own a card wipe p = pass _ _ (lt-leb (2 ^ 64) (a.reserved.0 + a.depth) p.unspent) no-limits

pub passed : (a : Anchor) (card : List ℕ) (c : Call) → first_failing (limits a card c) ≡ none → Passes a card c
unfolding limits
passed a card c e =
    let p = passed-both (first_limits a (length card)) (own_limits a c) e in
    own-passed a card c (first-passed a card p.0) p.1

pub pass_all : (a : Anchor) (card : List ℕ) (c : Call) → Passes a card c → first_failing (limits a card c) ≡ none
unfolding limits
pass_all a card c p =
    skip_first (first_limits a (length card)) (own_limits a c) (pass-first a card (passes-sound a card c p)) ∙ pass-own a card c p
