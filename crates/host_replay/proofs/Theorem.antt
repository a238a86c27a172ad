-- Demand 3 of the functions for C, by their contracts alone.
use mathlib.Core.Path.{◌≡◌, refl, sym, ap, ap₂, subst, ◌∙◌}
use mathlib.Core.Bool.{Bool, true, false, ◌&&◌}
use mathlib.Core.List.{List, [], ◌∷◌, ◌++◌}
use Prim.Native.Nat.{ℕ}
use borrow.Author.Tests.{eq-eqb, eqb-true}
use lib.Dec.{eqb}
use lib.ListN.{length, drop}
use Rattle.cmac.specs.Cmac.{cmac_of}
use Rattle.tree.specs.Layout.{IsCard}
use Rattle.cmac.proofs.Laws.{length-cmac}
use Rattle.tree.specs.Calls.{Call, renews, Outcome, outcome, format}
use Rattle.tree.specs.declared.Anchor.{Anchor}
use Rattle.tree.proofs.CallLaws.{format-in}
use Rattle.plan.specs.Split.{planned, joined}
use Rattle.replay.specs.Places.{Place}
use Rattle.plan.proofs.ListLaws.{both-and}
use Rattle.journal.specs.Journal.{journal_of}
use Rattle.replay.specs.Run
use Rattle.replay.specs.Run.{State, heard, has_stood, start, result, next, after}
use Rattle.replay.specs.Claim.{Complete, AllComplete}
use Rattle.replay.proofs.PlaceLaws.{first, later, earlier, mapped, no_place, at_places}
use Rattle.replay.proofs.Anchors.{next-key, after-key}
use Rattle.replay.proofs.Along.{everywhere}
use Rattle.replay.proofs.Theorem.{demand3, unforged, afresh, nonces}
use Rattle.host_bytes.specs.Host.{anchor_bytes, anchor_of, code_of, Codes}
use Rattle.host_bytes.specs.RoundTrip.{Stands}
use Rattle.host_bytes.proofs.AnchorLaws.{whole_code, call-stands, call-codes, format-whole, format-left, format-stands}
use Rattle.host_replay.specs.Called.{Held, bytes, struct, anchor_in, Back, PlanCalled, PutCalled, AttemptCalled, Called, call, split}
use Rattle.host_replay.specs.Called.{attempt, given_to, step_of}
use Rattle.host_replay.specs.Called.{steps, back_of, Says}
use Rattle.host_replay.specs.Called.{Meets, Handed, History, Formatted, begin, Demand3Of}
use Rattle.host_replay.specs.Plain.{all_put, stands, reserves, FilledIn, AllFilled}
use Rattle.host_replay.proofs.SplitSteps.{code_is, plan_on, split-stands, plan-codes, split-codes}
use Rattle.host_replay.proofs.Attempts.{journalled_on, attempt-told, attempt-stands, attempt-codes, attempt-journals}
use Rattle.host_replay.proofs.Filling.{fills-is, rights-so}

-- One call

-- bytes have an anchor's length
abbrev Long : Held → Type 0
Long (bytes s) = length s ≡ anchor_bytes
Long (struct a) = Unit {0}

-- what is handed on stands for the same anchor
handed-long : (h g : Held) → Long h → Handed h g → Long g
handed-long (bytes s) (bytes e) l k = ap length k ∙ l
handed-long (bytes s) (struct b) l k = tt
handed-long (struct a) (bytes e) l k = k.long
handed-long (struct a) (struct b) l k = tt

handed-same : (h g : Held) → Handed h g → anchor_in g ≡ anchor_in h
handed-same (bytes s) (bytes e) k = ap anchor_of k
handed-same (bytes s) (struct b) k = k
handed-same (struct a) (bytes e) k = k.is
handed-same (struct a) (struct b) k = k

-- and a call is one on that anchor
says-long : (g e : Held) (card : List ℕ) (c : Call) (code : ℕ) (left lent : List ℕ) → Long g → Says g e card c code left lent → Long e
says-long (bytes s) (bytes e) card c code left lent l k = (call-stands s l card c code e left lent k).long
says-long (bytes s) (struct b) card c code left lent l k = tt
says-long (struct a) (bytes e) card c code left lent l k = absurd k
says-long (struct a) (struct b) card c code left lent l k = tt

says-codes : (g e : Held) (card : List ℕ) (c : Call) (code : ℕ) (left lent : List ℕ) → Long g → Says g e card c code left lent
    → Codes (outcome (cmac_of (anchor_in g).key) (anchor_in g) card c) code (anchor_in e) left lent
says-codes (bytes s) (bytes e) card c code left lent l k = call-codes s l card c code e left lent k
says-codes (bytes s) (struct b) card c code left lent l k = absurd k
says-codes (struct a) (bytes e) card c code left lent l k = absurd k
says-codes (struct a) (struct b) card c code left lent l k = k

-- what a step answered and left
abbrev pub Told : Outcome → Back → Type 0
Told o b = Codes o b.code (anchor_in b.anchor) b.card b.lent

step-long : (r : Called) → Long (given_to r) → Meets r → Long (back_of r).anchor
step-long (call given card c back) l m = says-long given back.anchor card c back.code back.card back.lent l m
step-long (split given p qs) l m = (split-stands (anchor_of given) given (record { long = l; is = refl }) p qs m).long
step-long (attempt given t) l m = (attempt-stands (anchor_of given) given (record { long = l; is = refl }) t m).long

-- is what the list has, after what is known
step-told : (r : Called) (s : State) → anchor_in (given_to r) ≡ s.store.anchor → Long (given_to r) → Meets r
    → Told (result (cmac_of s.store.anchor.key) s.store (step_of r)) (back_of r)
step-told (call given card c back) s e l m =
    subst (λ (a : Anchor). Told (outcome (cmac_of a.key) a card c) back) e
    (says-codes given back.anchor card c back.code back.card back.lent l m)
step-told (split given p qs) s e l m = split-codes s.store.anchor given (record { long = l; is = e }) p qs m
step-told (attempt given t) s e l m = attempt-codes s.store.anchor given (record { long = l; is = e }) t m

both-refused : {a b c d : Bool} → a ≡ c → (c ≡ true → b ≡ d) → (a && b) ≡ (c && d)
both-refused {c = true} e f = ap₂ ◌&&◌ e (f refl)
both-refused {b = b} {c = false} e f = ap (λ (x : Bool). x && b) e

-- it stands in the list where it stands in C's own terms, and reserves nonces where it does there
abbrev pub SameFate : List ℕ → State → Called → Type 0
SameFate key s r =
    (Run.stands (cmac_of key) s.store (step_of r) ≡ stands r) × (Run.reserves (cmac_of key) s.store (step_of r) ≡ reserves r)

step-stands : (r : Called) (s : State) → anchor_in (given_to r) ≡ s.store.anchor → Long (given_to r) → Meets r
    → SameFate s.store.anchor.key s r
step-stands (call given card c back) s e l m =
    let o = outcome (cmac_of s.store.anchor.key) s.store.anchor card c in
    let w = sym (code_is o.answer back.code (step-told (call given card c back) s e l m).coded) in
    (w, ap (λ (b : Bool). b && renews c) w)
step-stands (split given p qs) s e l m =
    let a = s.store.anchor in
    let stood : Stands given a = record { long = l; is = e } in
    let w = sym (code_is (plan_on a p).call.answer p.code (plan-codes a given stood p qs m).coded) in
    (both-refused w (λ z. fills-is a given stood p qs m (eqb-true p.code 0 z)), w)
step-stands (attempt given t) s e l m =
    let w = sym (code_is (journalled_on s.store.anchor t).call.answer t.code
    (attempt-told s.store.anchor given (record { long = l; is = e }) t m).coded) in
    (ap (λ (b : Bool). b && has_stood t.fate) w, ap (λ (b : Bool). b && heard t.fate) w)

-- Each step of a history is one of the list.
module _ (key : List ℕ) where
  abbrev F : List ℕ → List ℕ
  F = cmac_of key

  -- the anchor's bytes, if it is given bytes, are of their length, and stand for what is known
  abbrev pub Knows : State → Held → Type 0
  Knows s h = (s.store.anchor.key ≡ key) × Long h × (anchor_in h ≡ s.store.anchor)

  module _ (r : Called) (s : State) (h : Held) (k : Knows s h) (handed : Handed h (given_to r)) (m : Meets r) where
    pub given-long : Long (given_to r)
    given-long = handed-long h (given_to r) k.1 handed

    pub given_is : anchor_in (given_to r) ≡ s.store.anchor
    given_is = handed-same h (given_to r) handed ∙ k.2

    pub told_here : Told (result (cmac_of key) s.store (step_of r)) (back_of r)
    told_here =
        subst (λ (l : List ℕ). Told (result (cmac_of l) s.store (step_of r)) (back_of r)) k.0 (step-told r s given_is given-long m)

    pub stands-here : SameFate key s r
    stands-here = subst (λ (l : List ℕ). SameFate l s r) k.0 (step-stands r s given_is given-long m)

    pub knows-next : Complete (cmac_of key) s.store (step_of r) → Knows (next (cmac_of key) s (step_of r)) (back_of r).anchor
    unfolding next
    knows-next done =
        ((next-key F (length-cmac key) s (step_of r) done).0 ∙ k.0, step-long r given-long m, told_here.anchored)

  -- a step that ran where z is known
  pub record Follows (z : State) (r : Called) : Type 0 where
    pub held : Held
    pub knows : Knows z held
    pub handed : Handed held (given_to r)
    pub met : Meets r

  pub follows : (rs : List Called) (s : State) → AllComplete (cmac_of key) s (steps rs) → (h : Held) → Knows s h → History h rs
      → (p : Place rs) → Follows (after (cmac_of key) s (steps p.before)) p.item
  unfolding after
  follows [] s complete h k ran = λ p. absurd (no_place p)
  follows (r ∷ rs) s complete h k ran =
      at_places (λ before q. Follows (after F s (steps before)) q) r rs (record { held = h; knows = k; handed = ran.0; met = ran.1 })
      (follows rs (next F s (step_of r)) (λ p. complete (later (step_of r) p)) (back_of r).anchor
      (knows-next r s h k ran.0 ran.1 (complete (first (step_of r) (steps rs)))) ran.2)

  -- A split write that is filled in C's own terms is complete.

  pub split-stood : (given : List ℕ) (p : PlanCalled) (qs : List PutCalled) (z : State) → Follows z (split given p qs)
      → Stands given z.store.anchor
  split-stood given p qs z f =
      let r : Called = split given p qs in
      record {
        long = given-long r z f.held f.knows f.handed f.met;
        is = given_is r z f.held f.knows f.handed f.met;
      }

  -- and it handed out the plan's messages
  pub gives : (given : List ℕ) (p : PlanCalled) (qs : List PutCalled) (z : State) → Follows z (split given p qs) →
      let ms = joined (planned (cmac_of key) z.store.anchor p.card p.index p.block p.ranges).messages in
      p.messages ≡ ms ++ drop (length ms) p.buffer
  gives given p qs z f =
      subst
      (λ (l : List ℕ).
      let ms = joined (planned (cmac_of l) z.store.anchor p.card p.index p.block p.ranges).messages in
      p.messages ≡ ms ++ drop (length ms) p.buffer)
      f.knows.0 (plan-codes z.store.anchor given (split-stood given p qs z f) p qs f.met).gave

  -- and an attempt that answered 0 its journal
  pub fills-journal : (given : List ℕ) (t : AttemptCalled) (z : State) → Follows z (attempt given t) → t.code ≡ 0
      → t.filled ≡ journal_of (cmac_of key) z.store.anchor.depth (anchor_of t.anchor).root.0 t.index t.left
  fills-journal given t z f zero =
      let r : Called = attempt given t in
      subst (λ (l : List ℕ). t.filled ≡ journal_of (cmac_of l) z.store.anchor.depth (anchor_of t.anchor).root.0 t.index t.left)
      f.knows.0
      (attempt-journals z.store.anchor given
      (record { long = given-long r z f.held f.knows f.handed f.met; is = given_is r z f.held f.knows f.handed f.met }) t f.met zero)

  completed : (r : Called) (z : State) → Follows z r → FilledIn r → Complete (cmac_of key) z.store (step_of r)
  completed (call given card c back) z f h = tt
  completed (split given p qs) z f h =
      subst (λ (l : List ℕ). Complete (cmac_of l) z.store (step_of (split given p qs))) f.knows.0
      (λ w v.
      let a = z.store.anchor in
      let stood = split-stood given p qs z f in
      let zero = (plan-codes a given stood p qs f.met).coded ∙ ap code_of w ∙ whole_code in
      rights-so a given stood p qs f.met zero
      (h (both-and (eqb p.code 0) (all_put given p qs) (eq-eqb p.code 0 zero) (sym (fills-is a given stood p qs f.met zero) ∙ v))))
  completed (attempt given t) z f h = tt

  pub completes : (rs : List Called) (s : State) (h : Held) → Knows s h → History h rs → AllFilled rs
      → AllComplete (cmac_of key) s (steps rs)
  completes [] s h k ran f = λ p. absurd (no_place p)
  completes (r ∷ rs) s h k ran f =
      let here = completed r s (record { held = h; knows = k; handed = ran.0; met = ran.1 }) (f (first r rs)) in
      everywhere F (λ z x. Complete F z.store x) s (step_of r) (steps rs) here
      (completes rs (next F s (step_of r)) (back_of r).anchor (knows-next r s h k ran.0 ran.1 here) ran.2 (λ p. f (later r p)))

module _ (anchor card made left : List ℕ) (formatted : Formatted anchor card 0 made left) (rs : List Called)
    (ran : History (bytes made) rs) where
  abbrev k : List ℕ
  k = (anchor_of anchor).key

  abbrev n : ℕ
  n = (anchor_of anchor).depth

  is-card : IsCard (anchor_of anchor).depth card
  unfolding format
  is-card = format-in n card (format-whole anchor card made left formatted)

  begun : Stands made (begin anchor card).store.anchor
  unfolding start
  begun = format-stands anchor card made left formatted

  left_is : left ≡ (begin anchor card).store.left
  unfolding start
  left_is = format-left anchor card made left formatted

  keyed : (begin anchor card).store.anchor.key ≡ (anchor_of anchor).key
  unfolding start format
  keyed = refl

  depth_is : (begin anchor card).store.anchor.depth ≡ (anchor_of anchor).depth
  unfolding start format
  depth_is = refl

  -- filled split writes are complete
  pub filled-complete : AllFilled rs → AllComplete (cmac_of (anchor_of anchor).key) (begin anchor card) (steps rs)
  filled-complete f = completes k rs (begin anchor card) (bytes made) (keyed, begun.long, begun.is) ran f

  pub followed : AllComplete (cmac_of (anchor_of anchor).key) (begin anchor card) (steps rs) → (p : Place rs)
      → Follows (anchor_of anchor).key
      (after (cmac_of (anchor_of anchor).key) (begin anchor card) (steps p.before)) p.item
  followed complete = follows k rs (begin anchor card) complete (bytes made) (keyed, begun.long, begun.is) ran

  pub complete-before : AllComplete (cmac_of (anchor_of anchor).key) (begin anchor card) (steps rs) → (p : Place rs)
      → AllComplete (cmac_of (anchor_of anchor).key) (begin anchor card) (steps p.before)
  complete-before complete p q = complete (earlier (mapped step_of p) q)

  pub demand3-of-calls : AllComplete (cmac_of (anchor_of anchor).key) (begin anchor card) (steps rs) → Demand3Of anchor card made left rs
  demand3-of-calls complete =
      record {
        begun = begun;
        formatted = left_is;
        demand = demand3 k n is-card.deep is-card.shallow card is-card.full (steps rs) complete;
        unforged = unforged k n is-card.deep is-card.shallow card is-card.full (steps rs) complete;
        afresh = afresh k n is-card.deep is-card.shallow card is-card.full (steps rs) complete;
        nonces = nonces k n is-card.deep is-card.shallow card is-card.full (steps rs) complete;
        gave = λ p given q qs e. gives k given q qs (after (cmac_of k) (begin anchor card) (steps p.before))
            (subst (Follows k (after (cmac_of k) (begin anchor card) (steps p.before))) e (followed complete p));
        journals = λ p given t e zero.
            let z = after (cmac_of k) (begin anchor card) (steps p.before) in
            let kept = after-key (cmac_of k) (length-cmac k) (steps p.before) (begin anchor card) (complete-before complete p) in
            fills-journal k given t z (subst (Follows k z) e (followed complete p)) zero
            ∙ ap (λ (d : ℕ). journal_of (cmac_of k) d (anchor_of t.anchor).root.0 t.index t.left) (kept.1 ∙ depth_is);
        told = λ p.
            let f = followed complete p in
            told_here k p.item (after (cmac_of k) (begin anchor card) (steps p.before)) f.held f.knows f.handed f.met;
      }
