-- What an answer says: which limits were passed, which tags are right, and what the call left.
use mathlib.Core.Path.{◌≡◌, refl, sym, ap, subst, ◌∙◌}
use mathlib.Core.Bool.{Bool, true, false, cond}
use mathlib.Core.List.Memᴰ
use mathlib.Core.List.{List, [], ◌∷◌, Memᴰ}
use mathlib.Core.Logic.{◌⊎◌, inl, inr, ⊎_elim}
use mathlib.Core.Option.{Option, none, some}
use Prim.Native.Nat.{ℕ, ◌+◌, ◌^◌, ◌<◌, ◌≤◌}
use native.Mathlib.Omega.{arith}
use lib.ListN.{length}
use Rattle.tree.specs.Layout.{IsNode, IsCard, card_length, tag}
use Rattle.tree.specs.Nodes.{path_node, pairs, pairs_but_leaf}
use Rattle.tree.specs.Labels.{message, labels}
use Rattle.tree.specs.Card.{right, first_wrong}
use Rattle.tree.specs.Limits.{depth_limit, card_limit}
use Rattle.tree.specs.Calls.{Call, read, write, check, wipe, checks, verdict, format_answer, answer_of, done, settled, outcome}
use Rattle.tree.specs.declared.Node.{Node}
use Rattle.tree.specs.declared.Anchor.{Anchor}
use Rattle.tree.specs.declared.Refusal.{Refusal}
use Rattle.tree.specs.Answer.{Answer}
use Rattle.tree.specs.Answer.{Whole, Wrong, Refused}
use Rattle.words.specs.Bytes.{same}
use Rattle.words.proofs.Same.{same-is, same_refl}
use Rattle.tree.proofs.LayoutLaws.{AllNodes}
use Rattle.tree.proofs.NodeLaws.{pair-checked, checked-pair, pair-node, path-among, path-is-node, node-among, among-node}
use Rattle.tree.proofs.WriteLaws.{Right, Clean, clean-blanked, clean-written}
use Rattle.tree.proofs.LimitLaws.{no-limits, passes, pass, is-equal, equal_is, depth-passes, depth-in, Passes, passed, pass_all}

-- Tags

module _ (F : List ℕ → List ℕ) (n t : ℕ) (card : List ℕ) where
  pub right_is : (u : ℕ) → right F n t card u ≡ true → Right F n t card u
  right_is u e = same-is (F (message (labels n t card) u)) (tag n card u) e

  pub is_right : (u : ℕ) → Right F n t card u → right F n t card u ≡ true
  is_right u e = ap (same (F (message (labels n t card) u))) (sym e) ∙ same_refl (F (message (labels n t card) u))

  pub none-wrong : (us : List ℕ) → first_wrong F n t card us ≡ none → (u : ℕ) → Memᴰ u us → Right F n t card u
  unfolding first_wrong
  none-wrong [] e u m = absurd (Memᴰ.not-nil m)
  none-wrong (w ∷ us) e u m = go (none-wrong us) (right F n t card w) refl e (Memᴰ.cases_cons m)
    where
      go : (first_wrong F n t card us ≡ none → (u : ℕ) → Memᴰ u us → Right F n t card u) → (b : Bool) → right F n t card w ≡ b
          → cond b (first_wrong F n t card us) (some w) ≡ none → (u ≡ w) ⊎ Memᴰ u us → Right F n t card u
      go rest true p e (inl q) = subst (λ (v : ℕ). Right F n t card v) (sym q) (right_is w p)
      go rest true p e (inr k) = rest e u k
      go rest false p e k = let z : ◌≡◌ {A = ℕ} 0 1 = cc in absurd (omega arith)

  pub wrong-none : (us : List ℕ) → ((u : ℕ) → Memᴰ u us → Right F n t card u) → first_wrong F n t card us ≡ none
  unfolding first_wrong
  wrong-none [] f = refl
  wrong-none (w ∷ us) f = rw (is_right w (f w (Memᴰ.head refl))) (wrong-none us (λ u m. f u (Memᴰ.tail m)))

  -- the node that is named is one of the list
  pub wrong-among : (us : List ℕ) (u : ℕ) → first_wrong F n t card us ≡ some u → Memᴰ u us
  unfolding first_wrong
  wrong-among [] u e = let z : ◌≡◌ {A = ℕ} 0 1 = cc in absurd (omega arith)
  wrong-among (w ∷ us) u e = go (wrong-among us u) (right F n t card w) e
    where
      go : (first_wrong F n t card us ≡ some u → Memᴰ u us) → (b : Bool) → cond b (first_wrong F n t card us) (some w) ≡ some u
          → Memᴰ u (w ∷ us)
      go rest true e = Memᴰ.tail (rest e)
      go rest false e = let p : u ≡ w = cc in Memᴰ.head p

-- What each call checks

pub read-checks : (n i : ℕ) (buffer : List ℕ) → i < 2 ^ n → (y : ℕ) → 1 ≤ y → y ≤ n → Memᴰ (path_node n i y) (checks n (read i buffer))
unfolding checks
read-checks n i buffer inside y h l = path-among n i inside y h l

pub write-checks : (n i : ℕ) (block ranges : List ℕ) → i < 2 ^ n → 1 ≤ n → (w : ℕ) → Memᴰ w (pairs n i) → (w ≡ 2 ^ n + i → ⊥)
    → Memᴰ w (checks n (write i block ranges))
unfolding checks
write-checks n i block ranges inside deep w m d =
    ⊎_elim (λ (e : w ≡ 2 ^ n + i). absurd (d e)) (λ (k : Memᴰ w (pairs_but_leaf n i)). k) (pair-checked n i inside w m deep)

pub check-checks : (n u : ℕ) → IsNode n u → Memᴰ u (checks n check)
unfolding checks
check-checks n u h = node-among n u h

pub checks-nodes : (a : Anchor) (card : List ℕ) (c : Call) → Passes a card c → AllNodes a.depth (checks a.depth c)
unfolding checks
checks-nodes a card (read i buffer) p w m = path-is-node a.depth i p.inside w m
checks-nodes a card (write i block ranges) p w m =
    pair-node a.depth i p.inside w (checked-pair a.depth i p.inside w m p.sound.deep)
checks-nodes a card check p w m = among-node a.depth w m
checks-nodes a card wipe p w m = absurd (Memᴰ.not-nil m)

-- Answers

pub verdict-whole : (r : Option Refusal) (w : Option ℕ) → verdict r w ≡ Whole → (r ≡ none) × (w ≡ none)
verdict-whole (some r) w e = let z : ◌≡◌ {A = ℕ} 0 1 = cc in absurd (omega arith)
verdict-whole none (some u) e = let z : ◌≡◌ {A = ℕ} 0 1 = cc in absurd (omega arith)
verdict-whole none none e = (refl, refl)

pub verdict-wrong : (r : Option Refusal) (w : Option ℕ) (u : Node) → verdict r w ≡ Wrong u → (r ≡ none) × (w ≡ some u.0)
verdict-wrong (some r) w u e = let z : ◌≡◌ {A = ℕ} 0 1 = cc in absurd (omega arith)
verdict-wrong none (some v) u e = (refl, cc)
verdict-wrong none none u e = let z : ◌≡◌ {A = ℕ} 0 1 = cc in absurd (omega arith)

module _ (F : List ℕ → List ℕ) (a : Anchor) (card : List ℕ) (c : Call) where
  -- an accepted call passed its limits, and every tag that it checked is right
  pub record Accepted : Type 0 where
    pub limits-passed : Passes a card c
    pub tags-right : (u : ℕ) → Memᴰ u (checks a.depth c) → Right F a.depth a.root.0 card u

  pub accepted : answer_of F a card c ≡ Whole → Accepted
  unfolding answer_of
  accepted e =
      let v = verdict-whole _ _ e in
      record { limits-passed = passed a card c v.0; tags-right = none-wrong F a.depth a.root.0 card (checks a.depth c) v.1 }

  pub accept : Accepted → answer_of F a card c ≡ Whole
  unfolding answer_of
  accept h =
      rw (pass_all a card c h.limits-passed)
      (ap (verdict none) (wrong-none F a.depth a.root.0 card (checks a.depth c) h.tags-right))

  -- where every tag that it checks is right, a call names no wrong one
  pub never-wrong : (Passes a card c → (u : ℕ) → Memᴰ u (checks a.depth c) → Right F a.depth a.root.0 card u) → (u : Node)
      → answer_of F a card c ≡ Wrong u → ⊥
  unfolding answer_of
  never-wrong f u e =
      let v = verdict-wrong _ _ u e in
      let w = wrong-none F a.depth a.root.0 card (checks a.depth c) (f (passed a card c v.0)) in
      let z : ◌≡◌ {A = Option ℕ} none (some u.0) = sym w ∙ v.1 in
      let k : ◌≡◌ {A = ℕ} 0 1 = cc in
      absurd (omega arith)

-- A wipe checks no tag: within its limits it is accepted, whatever the card.
pub wipe-accepts : (F : List ℕ → List ℕ) (a : Anchor) (card : List ℕ) → Passes a card wipe → answer_of F a card wipe ≡ Whole
unfolding checks
wipe-accepts F a card p =
    accept F a card wipe (record { limits-passed = p; tags-right = λ u m. absurd (Memᴰ.not-nil m) })

-- On a card where every tag is right a call is accepted within its limits, and names no wrong tag in any case;
module _ (F : List ℕ → List ℕ) (a : Anchor) (card : List ℕ) (clean : Clean F a.depth a.root.0 card) (c : Call) where
  pub clean-accepts : Passes a card c → answer_of F a card c ≡ Whole
  clean-accepts p = accept F a card c (record { limits-passed = p; tags-right = λ u m. clean.right u (checks-nodes a card c p u m) })

  pub clean-answers : (u : Node) → answer_of F a card c ≡ Wrong u → ⊥
  clean-answers = never-wrong F a card c (λ p u m. clean.right u (checks-nodes a card c p u m))

-- accepted, it leaves such a card, under the anchor that it leaves
module _ (F : List ℕ → List ℕ) (F16 : (m : List ℕ) → length (F m) ≡ 16) (a : Anchor) (card : List ℕ) where
  -- a wipe does so on any card
  pub clean-wiped : Passes a card wipe →
      let o = done F a card wipe in
      Clean F o.anchor.depth o.anchor.root.0 o.card
  clean-wiped p = clean-blanked F F16 a.depth p.sound.deep (a.reserved.0 + a.depth) card p.sound.full

  pub clean-done : (c : Call) → Passes a card c → Clean F a.depth a.root.0 card →
      let o = done F a card c in
      Clean F o.anchor.depth o.anchor.root.0 o.card
  clean-done (read i buffer) p clean = clean
  clean-done (write i block ranges) p clean =
      clean-written F F16 a.depth p.sound.deep a.root.0 a.reserved.0 card i block p.inside p.long clean
  clean-done check p clean = clean
  clean-done wipe p clean = clean-wiped p

-- Outcomes

module _ (F : List ℕ → List ℕ) (a : Anchor) (card : List ℕ) where
  pub settled-answer : (c : Call) (o : Answer) → (settled F o a card c).answer ≡ o
  settled-answer (read i buffer) Whole = refl
  settled-answer (write i block ranges) Whole = refl
  settled-answer check Whole = refl
  settled-answer wipe Whole = refl
  settled-answer c (Wrong u) = refl
  settled-answer c (Refused r) = refl

  pub outcome-answer : (c : Call) → (outcome F a card c).answer ≡ answer_of F a card c
  unfolding outcome
  outcome-answer c = settled-answer c (answer_of F a card c)

  pub outcome-done : (c : Call) → answer_of F a card c ≡ Whole → outcome F a card c ≡ done F a card c
  unfolding outcome
  outcome-done c e = ap (λ (o : Answer). settled F o a card c) e

  -- by the answer
  pub outcome-is : (c : Call) (o : Answer) → (outcome F a card c).answer ≡ o → outcome F a card c ≡ settled F o a card c
  unfolding outcome
  outcome-is c o e = ap (λ (x : Answer). settled F x a card c) (sym (settled-answer c (answer_of F a card c)) ∙ e)

  settled-key : (c : Call) (o : Answer) → ((settled F o a card c).anchor.key ≡ a.key) × ((settled F o a card c).anchor.depth ≡ a.depth)
  settled-key (read i buffer) Whole = (refl, refl)
  settled-key (write i block ranges) Whole = (refl, refl)
  settled-key check Whole = (refl, refl)
  settled-key wipe Whole = (refl, refl)
  settled-key c (Wrong u) = (refl, refl)
  settled-key c (Refused r) = (refl, refl)

  -- no call changes key or depth
  pub outcome-key : (c : Call) → ((outcome F a card c).anchor.key ≡ a.key) × ((outcome F a card c).anchor.depth ≡ a.depth)
  unfolding outcome
  outcome-key c = settled-key c (answer_of F a card c)

-- Format

pub format-accept : (n : ℕ) (card : List ℕ) → 1 ≤ n → n ≤ 16 → length card ≡ card_length n → format_answer n card ≡ Whole
unfolding format_answer
format-accept n card deep shallow full =
    ap (λ (r : Option Refusal). verdict r none)
    (pass (depth_limit n) (card_limit n (length card) ∷ []) (depth-passes n deep shallow)
    (pass (card_limit n (length card)) [] (equal_is (length card) (card_length n) full) no-limits))

pub format-in : (n : ℕ) (card : List ℕ) → format_answer n card ≡ Whole → IsCard n card
unfolding format_answer
format-in n card e =
    let p = passes _ _ (verdict-whole _ none e).0 in
    let d = depth-in n p.0 in
    record { deep = d.0; shallow = d.1; full = is-equal (length card) (card_length n) (passes _ _ p.1).0 }
