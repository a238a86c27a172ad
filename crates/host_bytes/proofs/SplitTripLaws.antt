-- From pat_plan to its last pat_put_tag: what one stores of plan and anchor is what the next loads, and a refused one leaves every byte.
use mathlib.Core.Path.{◌≡◌, refl, sym, ap, subst, ◌∙◌}
use mathlib.Core.Bool.{Bool, true, false, cond}
use mathlib.Core.List.{List, [], ◌++◌}
use mathlib.Core.Logic.{◌⊎◌, inl, inr, ⊎_elim}
use Prim.Native.Nat.{ℕ, ◌+◌, ◌^◌, ◌<◌}
use native.Mathlib.Omega.{arith}
use borrow.Author.Tests.{eq-eqb, ne_eqb}
use lib.ListN.{length, take, drop}
use Rattle.words.proofs.Cases.{equal_or_not}
use Rattle.cmac.specs.Cmac.{cmac_of}
use Rattle.tree.specs.Numbers.{be8}
use Rattle.tree.specs.Answer.{is_whole}
use Rattle.tree.specs.Calls.{write, rooted, outcome}
use Rattle.tree.specs.declared.Anchor.{Anchor}
use Rattle.tree.specs.Answer.{Answer}
use Rattle.tree.specs.Answer.{Whole, Wrong, Refused}
use Rattle.tree.proofs.LayoutLaws.{few-leaves}
use Rattle.tree.proofs.CallLaws.{accepted, outcome-answer}
use Rattle.plan.specs.Places.{place_of, fill, full}
use Rattle.plan.specs.Split.{Planned, planned, joined, message_room, put_answer, Put, put_settled, put}
use Rattle.plan.specs.declared.Plan.{Plan}
use Rattle.plan.proofs.BitLaws.{set-fits}
use Rattle.plan.proofs.PlaceLaws.{unset, awaited-below}
use Rattle.plan.proofs.PlanLaws.{plan-answer, planned-done, planned-refused}
use Rattle.plan.proofs.PutLaws.{put_in, put-answer, put-unchanged}
use Rattle.host_bytes.specs.Host.{anchor_bytes, refused_length, anchor_of, with_root, with_reserved, code_of}
use Rattle.host_bytes.specs.Split.{plan_bytes, plan_of, bytes_of, tag_bytes, HostPlan, hosted_plan, host_plan, HostsPlan}
use Rattle.host_bytes.specs.Split.{HostPut, root_moved, hosted_put, host_put, HostsPut}
use Rattle.host_bytes.specs.RoundTrip.{Stands, StandsPlan, SplitTrip}
use Rattle.host_bytes.proofs.AnchorLaws.{put-stands, reserve-stands, code-whole, whole_code, not-whole, outcome-leaves}
use Rattle.host_bytes.proofs.SplitLaws.{lengths, plan-unmeasured, host-plan, host-put}
use Rattle.host_bytes.proofs.PlanBytesLaws.{bytes-stand, filled-stand}

-- The plan

-- no messages are none in the buffer
none-given : {buffer : List ℕ} → joined [] ++ drop (length (joined [])) buffer ≡ buffer
unfolding joined
none-given = refl

module _ (s card b : List ℕ) (i : ℕ) (block ranges buffer : List ℕ) where
  abbrev a : Anchor
  a = anchor_of s

  abbrev o : Planned
  o = planned (cmac_of (anchor_of s).key) (anchor_of s) card i block ranges

  -- with buffers of the right lengths it is the hosted plan, and with others it is refused
  plan-cases : (P : HostPlan → Type 0) → P (hosted_plan s b buffer o)
      → P (record { code = refused_length; anchor = s; plan = b; card = card; ranges = ranges; messages = buffer })
      → P (host_plan s card i block ranges b buffer)
  unfolding host_plan
  plan-cases P right wrong = go (lengths s b buffer message_room)
    where
      go : (c : Bool)
          → P (cond c (hosted_plan s b buffer o)
          (record { code = refused_length; anchor = s; plan = b; card = card; ranges = ranges; messages = buffer }))
      go true = right
      go false = wrong

  module _ (code : ℕ) (e made left filled gave : List ℕ) where
    plan-trip : HostsPlan (hosted_plan s b buffer o) code e made left filled gave → length s ≡ anchor_bytes → code ≡ 0
        → Stands e (planned (cmac_of (anchor_of s).key) (anchor_of s) card i block ranges).call.anchor
        × StandsPlan made (planned (cmac_of (anchor_of s).key) (anchor_of s) card i block ranges).plan
    plan-trip g long zero =
        let w = code-whole o.call.answer (sym g.coded ∙ zero) in
        let v = sym (plan-answer (cmac_of a.key) a card i block ranges) ∙ w in
        let ok = (accepted (cmac_of a.key) a card (write i block ranges) v).limits-passed in
        let d = ap (λ (q : Planned). q.plan) (planned-done (cmac_of a.key) a card i block ranges v) in
        let p : Plan = record { index = record { 0 = i }; root = record { 0 = a.reserved.0 + a.depth }; filled = 0 } in
        let f = ap (λ (q : Planned). q.call.anchor) (planned-done (cmac_of a.key) a card i block ranges v) in (
          subst (λ (l : List ℕ). Stands l o.call.anchor)
              (sym (g.anchored ∙ ap (λ (x : Answer). cond (is_whole x) (with_reserved s o.call.anchor.reserved.0) s) w))
              (subst (λ (b : Anchor). Stands (with_reserved s b.reserved.0) b) (sym f)
              (reserve-stands s long (a.reserved.0 + a.depth) ok.unspent)),
          subst (λ (l : List ℕ). StandsPlan l o.plan)
              (sym (g.planned ∙ ap (λ (x : Answer). cond (is_whole x) (bytes_of o.plan) b) w))
              (subst (λ (q : Plan). StandsPlan (bytes_of q) q) (sym d)
              (bytes-stand p (omega (arith, ok.inside, few-leaves a.depth ok.sound.shallow)) ok.unspent (omega arith))),
        )

    plan-leaves : HostsPlan (hosted_plan s b buffer o) code e made left filled gave → (code ≡ 0 → ⊥)
        → (e ≡ s) × (made ≡ b) × (left ≡ card) × (filled ≡ ranges) × (gave ≡ buffer)
    plan-leaves g d =
        let F = cmac_of a.key in
        let no : o.call.answer ≡ Whole → ⊥ = λ w. d (g.coded ∙ ap code_of w ∙ whole_code) in
        let q = planned-refused F a card i block ranges (λ w. no (plan-answer F a card i block ranges ∙ w)) in
        let k = outcome-leaves F a card (write i block ranges) in
        let refused : (outcome F a card (write i block ranges)).answer ≡ Whole → ⊥ =
        λ w. no (plan-answer F a card i block ranges ∙ sym (outcome-answer F a card (write i block ranges)) ∙ w) in (
          g.anchored ∙ ap (λ (c : Bool). cond c (with_reserved s o.call.anchor.reserved.0) s) (not-whole o.call.answer no),
          g.planned ∙ ap (λ (c : Bool). cond c (bytes_of o.plan) b) (not-whole o.call.answer no),
          g.left ∙ ap (λ (q : Planned). q.call.card) q ∙ k.card-kept refused,
          g.filled ∙ ap (λ (q : Planned). q.call.lent) q ∙ k.lent-kept refused,
          g.gave ∙ ap (λ (q : Planned). joined q.messages ++ drop (length (joined q.messages)) buffer) q ∙ none-given,
        )

    pub plan-told : length s ≡ anchor_bytes → length b ≡ plan_bytes → length buffer ≡ message_room
        → HostsPlan (host_plan s card i block ranges b buffer) code e made left filled gave
        → HostsPlan (hosted_plan s b buffer (planned (cmac_of (anchor_of s).key) (anchor_of s) card i block ranges)) code e made left filled gave
    plan-told l m k g =
        subst (λ (h : HostPlan). HostsPlan h code e made left filled gave)
        (host-plan s card i block ranges b buffer (l, m, k)) g

    -- with an anchor of another length none is accepted
    plan-long : HostsPlan (host_plan s card i block ranges b buffer) code e made left filled gave → code ≡ 0 → length s ≡ anchor_bytes
    plan-long g zero =
        ⊎_elim (λ (p : length s ≡ anchor_bytes). p)
        (λ (d : length s ≡ anchor_bytes → ⊥).
        let z : ◌≡◌ {A = ℕ} 0 refused_length = sym zero ∙ g.coded ∙ sym (plan-unmeasured s card i block ranges b buffer (λ l. d l.0)).coded in
        absurd (omega arith))
        (equal_or_not (length s) anchor_bytes)

    pub plan-stored : HostsPlan (host_plan s card i block ranges b buffer) code e made left filled gave → code ≡ 0
        → Stands e (planned (cmac_of (anchor_of s).key) (anchor_of s) card i block ranges).call.anchor
        × StandsPlan made (planned (cmac_of (anchor_of s).key) (anchor_of s) card i block ranges).plan
    plan-stored h zero =
        plan-cases
        (λ h. HostsPlan h code e made left filled gave → length s ≡ anchor_bytes → code ≡ 0 → Stands e o.call.anchor × StandsPlan made o.plan)
        plan-trip (λ g long zero. let z : ◌≡◌ {A = ℕ} 0 refused_length = sym zero ∙ g.coded in absurd (omega arith))
        h (plan-long h zero) zero

    pub plan-refused : HostsPlan (host_plan s card i block ranges b buffer) code e made left filled gave → (code ≡ 0 → ⊥)
        → (e ≡ s) × (made ≡ b) × (left ≡ card) × (filled ≡ ranges) × (gave ≡ buffer)
    plan-refused =
        plan-cases
        (λ h. HostsPlan h code e made left filled gave → (code ≡ 0 → ⊥) → (e ≡ s) × (made ≡ b) × (left ≡ card) × (filled ≡ ranges) × (gave ≡ buffer))
        plan-leaves (λ g d. (g.anchored, g.planned, g.left, g.filled, g.gave))

-- The put

-- the root nonce that is stored, or stands already
root_stands : (s : List ℕ) → length s ≡ anchor_bytes → (r : ℕ) → r < 2 ^ 64 → Stands (root_moved s r) (rooted (anchor_of s) r)
root_stands s long r h =
    ⊎_elim
    (λ (e : r ≡ (anchor_of s).root.0).
    rw (eq-eqb r (anchor_of s).root.0 e) (record { long = long; is = ap (rooted (anchor_of s)) (sym e) }))
    (λ (d : r ≡ (anchor_of s).root.0 → ⊥). rw (ne_eqb r (anchor_of s).root.0 d) (put-stands s long r h))
    (equal_or_not r (anchor_of s).root.0)

moved-stands : (s : List ℕ) → length s ≡ anchor_bytes → (r : ℕ) → r < 2 ^ 64 → (b : Bool) →
    let c = cond b (rooted (anchor_of s) r) (anchor_of s) in Stands (root_moved s c.root.0) c
moved-stands s long r h true = root_stands s long r h
moved-stands s long r h false =
    rw (eq-eqb (anchor_of s).root.0 (anchor_of s).root.0 refl) (record { long = long; is = refl })

module _ (s card b : List ℕ) (long : length s ≡ anchor_bytes) (p : Plan) (stands : StandsPlan b p) (u : ℕ) (tag : List ℕ) where
  abbrev PutStands : Put → Type 0
  PutStands o = Stands (hosted_put s b o).anchor o.anchor × StandsPlan (hosted_put s b o).plan o.plan

  settled-stands : (x : Answer) → put_answer (anchor_of s) p card u ≡ x → PutStands (put_settled x (anchor_of s) p card u tag)
  unfolding fill
  settled-stands Whole e =
      let a = anchor_of s in
      let k = put_in a p card u e in
      let below = awaited-below a.depth p u k.1 in
      let h = set-fits (place_of a.depth p u) 64 p.filled (unset a.depth p u k.1.unfilled)
      (omega (arith, k.0.shallow)) stands.filled-fits in (
        moved-stands s long p.root.0 stands.root-fits (full a.depth (fill a.depth p u)),
        filled-stand b stands.long (p.filled + 2 ^ place_of a.depth p u) p stands.is stands.root-fits h,
      )
  settled-stands (Wrong w) e = (record { long = long; is = refl }, stands)
  settled-stands (Refused r) e = (record { long = long; is = refl }, stands)

  put-settled : PutStands (put (anchor_of s) p card u tag)
  unfolding put
  put-settled = settled-stands (put_answer (anchor_of s) p card u) refl

  put-moves : ((hosted_put s b (put (anchor_of s) p card u tag)).anchor ≡ s)
      ⊎ ((hosted_put s b (put (anchor_of s) p card u tag)).anchor ≡ with_root s p.root.0)
  unfolding put
  put-moves = go (put_answer (anchor_of s) p card u)
    where
      moved : (c : Bool) → let t = (cond c (rooted (anchor_of s) p.root.0) (anchor_of s)).root.0 in
          (root_moved s t ≡ s) ⊎ (root_moved s t ≡ with_root s p.root.0)
      moved true =
          ⊎_elim (λ (e : p.root.0 ≡ (anchor_of s).root.0). inl (rw (eq-eqb p.root.0 (anchor_of s).root.0 e)))
          (λ (d : p.root.0 ≡ (anchor_of s).root.0 → ⊥). inr (rw (ne_eqb p.root.0 (anchor_of s).root.0 d)))
          (equal_or_not p.root.0 (anchor_of s).root.0)
      moved false = inl (rw (eq-eqb (anchor_of s).root.0 (anchor_of s).root.0 refl))

      go : (x : Answer) → let h = hosted_put s b (put_settled x (anchor_of s) p card u tag) in
          (h.anchor ≡ s) ⊎ (h.anchor ≡ with_root s p.root.0)
      go Whole = moved (full (anchor_of s).depth (fill (anchor_of s).depth p u))
      go (Wrong w) = inl refl
      go (Refused r) = inl refl

  module _ (t16 : length tag ≡ tag_bytes) (code : ℕ) (e made left : List ℕ) (g : HostsPut (host_put s b card u tag) code e made left) where
    pub put-told : HostsPut (hosted_put s b (put (anchor_of s) p card u tag)) code e made left
    put-told =
        subst (λ (h : HostPut). HostsPut h code e made left)
        (host-put s b card u tag (long, stands.long, t16)
        ∙ ap (λ (q : Plan). hosted_put s b (put (anchor_of s) q card u tag)) stands.is) g

    pub put-stored : Stands e (put (anchor_of s) p card u tag).anchor × StandsPlan made (put (anchor_of s) p card u tag).plan
    put-stored =
        let o = put (anchor_of s) p card u tag in (
          subst (λ (l : List ℕ). Stands l o.anchor) (sym put-told.anchored) put-settled.0,
          subst (λ (l : List ℕ). StandsPlan l o.plan) (sym put-told.planned) put-settled.1,
        )

    -- the anchor's bytes are as they were, or have the plan's root nonce
    pub put-bytes : (e ≡ s) ⊎ (e ≡ with_root s p.root.0)
    put-bytes =
        subst (λ (l : List ℕ). (l ≡ s) ⊎ (l ≡ with_root s p.root.0)) (sym put-told.anchored) put-moves

-- a put keeps the plan's root nonce
pub put-keeps-root : (a : Anchor) (p : Plan) (card : List ℕ) (u : ℕ) (tag : List ℕ) → (put a p card u tag).plan.root.0 ≡ p.root.0
unfolding put fill
put-keeps-root a p card u tag = go (put_answer a p card u)
  where
    go : (x : Answer) → (put_settled x a p card u tag).plan.root.0 ≡ p.root.0
    go Whole = refl
    go (Wrong w) = refl
    go (Refused r) = refl

module _ (s card b : List ℕ) (u : ℕ) (tag : List ℕ) (code : ℕ) (e made left : List ℕ) where
  abbrev placed : Put
  placed = put (anchor_of s) (plan_of b) card u tag

  put-leaves : HostsPut (hosted_put s b (put (anchor_of s) (plan_of b) card u tag)) code e made left → (code ≡ 0 → ⊥)
      → (e ≡ s) × (made ≡ b) × (left ≡ card)
  put-leaves g d =
      let no : placed.answer ≡ Whole → ⊥ = λ w. d (g.coded ∙ ap code_of w ∙ whole_code) in
      let f = not-whole placed.answer no in (
        g.anchored ∙ ap (λ (c : Bool). cond c (root_moved s placed.anchor.root.0) s) f,
        g.planned ∙ ap (λ (c : Bool). cond c (take 16 b ++ be8 placed.plan.filled) b) f,
        g.left ∙ (put-unchanged (anchor_of s) (plan_of b) card u tag
            (λ w. no (put-answer (anchor_of s) (plan_of b) card u tag ∙ w))).card-same,
      )

  pub put_refused : HostsPut (host_put s b card u tag) code e made left → (code ≡ 0 → ⊥) → (e ≡ s) × (made ≡ b) × (left ≡ card)
  unfolding host_put
  put_refused = go (lengths s b tag tag_bytes)
    where
      go : (c : Bool)
          → HostsPut (cond c (hosted_put s b (put (anchor_of s) (plan_of b) card u tag))
          (record { code = refused_length; anchor = s; plan = b; card = card })) code e made left
          → (code ≡ 0 → ⊥) → (e ≡ s) × (made ≡ b) × (left ≡ card)
      go true g d = put-leaves g d
      go false g d = (g.anchored, g.planned, g.left)

pub split-trip : (s card b : List ℕ) → SplitTrip s card b
split-trip s card b =
    record {
      plan-stored = λ i block ranges buffer e made left filled gave g.
          plan-stored s card b i block ranges buffer 0 e made left filled gave g refl;
      put-stored = λ long p stands u tag t16 code e made left g. put-stored s card b long p stands u tag t16 code e made left g;
      plan-told = λ long plan-long i block ranges buffer room code e made left filled gave g.
          let t = plan-told s card b i block ranges buffer code e made left filled gave long plan-long room g in
          (t.coded, t.left, t.filled, t.gave);
      put-told = λ long p stands u tag t16 code e made left g.
          let t = put-told s card b long p stands u tag t16 code e made left g in (t.coded, t.left);
      plan-refused = λ i block ranges buffer code e made left filled gave g d.
          plan-refused s card b i block ranges buffer code e made left filled gave g d;
      put_refused = λ u tag code e made left g d. put_refused s card b u tag code e made left g d;
    }
