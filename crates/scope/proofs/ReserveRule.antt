-- The two nonces of the anchor: what the calls make of them, what is refused for them, and examples.
use mathlib.Core.Path.{◌≡◌, refl, sym, ap, ◌∙◌}
use mathlib.Core.List.Memᴰ
use mathlib.Core.List.{List, [], ◌∷◌, ◌++◌, Memᴰ}
use mathlib.Core.Logic.{◌⊎◌, inl, inr, ⊎_elim}
use mathlib.Core.Option.{Option, none}
use Prim.Native.Nat.{ℕ, ◌+◌, ◌*◌, ◌-◌, ◌^◌, ◌<◌, ◌≤◌}
use native.Mathlib.Omega.{arith}
use borrow.Author.Tests.{le-leb, lt-leb, le-ltb, leb-true}
use lib.ListN.{length}
use Rattle.tree.specs.Numbers.{be, be8}
use Rattle.tree.specs.Layout.{size, offset, label}
use Rattle.tree.specs.Nodes.{path_node}
use Rattle.tree.specs.Labels.{labels, raised, new_labels}
use Rattle.tree.specs.Card.{first_wrong, written}
use Rattle.tree.specs.Limits.{Limit, depth_limit, nonce_limit, block_limit, length_limit, range_limit, spent_limit, first_failing}
use Rattle.tree.specs.Answer.{Answer, refusal_number, number_of}
use Rattle.tree.specs.Calls.{Call, read, write, check, wipe, first_limits, own_limits, limits, checks, verdict, Outcome, answer_of, settled}
use Rattle.tree.specs.Calls.{outcome, format}
use Rattle.tree.specs.declared.Anchor.{Anchor}
use Rattle.tree.specs.declared.Refusal.{Refusal}
use Rattle.tree.specs.Answer.{Whole, Wrong, Refused}
use Rattle.tree.proofs.NodeLaws.{path-node}
use Rattle.tree.proofs.LabelLaws.{labels-below, new-path}
use Rattle.tree.proofs.LimitLaws.{depth-passes, skip, stop, skip_first, equal_is}
use Rattle.tree.proofs.WriteLaws.{written-labels}
use Rattle.tree.proofs.CallLaws.{accepted, outcome-answer, outcome-done}
use Rattle.plan.specs.Split.{Planned}
use Rattle.plan.proofs.PlanLaws.{plan-answer, planned-done}
use Rattle.scope.specs.Table.{refused}
use Rattle.scope.specs.WipeRule.{NoncesFit}
use Rattle.scope.specs.ReserveRule.{ZeroAfterFormat, ReserveRule, ReserveExamples}
use Rattle.scope.proofs.Failing.{Failing, answer-failing, among-first}
use Rattle.scope.proofs.WipeRule.{fit, unfit, blank-nonces}

pub zero_after_format : (F : List ℕ → List ℕ) → ZeroAfterFormat F
unfolding format
zero_after_format F key n card = refl

module _ (F : List ℕ → List ℕ) (F16 : (m : List ℕ) → length (F m) ≡ 16) (a : Anchor) (card : List ℕ) where
  plain : (c : Call) → (outcome F a card c).answer ≡ Whole → answer_of F a card c ≡ Whole
  plain c w = sym (outcome-answer F a card c) ∙ w

  kept : (c : Call) (x : Answer) → (x ≡ Whole → ⊥) → (settled F x a card c).anchor ≡ a
  kept c Whole d = absurd (d refl)
  kept c (Wrong u) d = refl
  kept c (Refused r) d = refl

  read-kept : (i : ℕ) (buffer : List ℕ) (x : Answer) → (settled F x a card (read i buffer)).anchor ≡ a
  read-kept i buffer Whole = refl
  read-kept i buffer (Wrong u) = refl
  read-kept i buffer (Refused r) = refl

  check-kept : (x : Answer) → (settled F x a card check).anchor ≡ a
  check-kept Whole = refl
  check-kept (Wrong u) = refl
  check-kept (Refused r) = refl

  refused-kept : (c : Call) → ((outcome F a card c).answer ≡ Whole → ⊥) → (outcome F a card c).anchor ≡ a
  unfolding outcome
  refused-kept c d = kept c (answer_of F a card c) (λ e. d (outcome-answer F a card c ∙ e))

  -- the path's nonces

  path-nonces : (i : ℕ) (block ranges : List ℕ) → (outcome F a card (write i block ranges)).answer ≡ Whole
      → (y : ℕ) → 1 ≤ y → y < a.depth →
      let o = outcome F a card (write i block ranges) in
      label a.depth o.card (path_node a.depth i y) ≡ be8 (o.anchor.reserved.0 - y)
  path-nonces i block ranges w y low high =
      let n = a.depth in
      let r = a.reserved.0 in
      let p = (accepted F a card (write i block ranges) (plain (write i block ranges) w)).limits-passed in
      let u = path_node n i y in
      let left = written F n a.root.0 r card i block in
      let node = path-node n i p.inside y low (omega arith) in
      rw (outcome-done F a card (write i block ranges) (plain (write i block ranges) w))
      (sym (labels-below n (r + n) left u node.low)
      ∙ written-labels F F16 n p.sound.deep a.root.0 r card i block p.sound.full p.inside p.long u (inr node)
      ∙ new-path n r i block p.inside (labels n a.root.0 card) y high)

  wipe-nonces : (outcome F a card wipe).answer ≡ Whole → (u : ℕ) → 2 ≤ u → u < 2 ^ a.depth →
      let o = outcome F a card wipe in
      label a.depth o.card u ≡ be8 o.anchor.reserved.0
  wipe-nonces w u low high =
      let p = (accepted F a card wipe (plain wipe w)).limits-passed in
      rw (outcome-done F a card wipe (plain wipe w))
      (blank-nonces F F16 a.depth (a.reserved.0 + a.depth) card p.sound.deep p.sound.full u low high)

  -- refusal 2

  two : (c : Call) → 1 ≤ a.depth → a.depth ≤ 16 → (NoncesFit a → ⊥) → number_of (outcome F a card c).answer ≡ 2
  unfolding answer_of limits
  two c deep shallow d =
      ap number_of
      (outcome-answer F a card c
      ∙ ap (λ (x : Option Refusal). verdict x (first_wrong F a.depth a.root.0 card (checks a.depth c)))
      (skip (depth_limit a.depth) _ (depth-passes a.depth deep shallow) ∙ stop (nonce_limit a.depth a.root.0 a.reserved.0) _ (unfit a d)))

  failing : (c : Call) (k : ℕ) → number_of (outcome F a card c).answer ≡ k → 1 ≤ k → (k ≡ 8 → ⊥)
      → Failing (first_limits a (length card) ++ own_limits a c) k
  unfolding answer_of limits
  failing c k e low other =
      answer-failing (first_limits a (length card) ++ own_limits a c) (first_wrong F a.depth a.root.0 card (checks a.depth c)) k
      (ap number_of (sym (outcome-answer F a card c)) ∙ e) low other

  -- the numbers of a call's own limits, and which of them is 7
  own : (c : Call) (l : Limit) (k : ℕ) → Memᴰ l (own_limits a c) → refusal_number l.refusal ≡ k
      → (4 ≤ k) × ((k ≡ 7) → l ≡ spent_limit a.depth a.reserved.0)
  own c l k m h = go c m
    where
      is : (x : Limit) → l ≡ x → k ≡ refusal_number x.refusal
      is x e = sym h ∙ ap (λ (y : Limit). refusal_number y.refusal) e

      other : (x : Limit) → l ≡ x → 4 ≤ refusal_number x.refusal → (refusal_number x.refusal ≡ 7 → ⊥)
          → (4 ≤ k) × ((k ≡ 7) → l ≡ spent_limit a.depth a.reserved.0)
      other x e low d = (omega (arith, is x e), λ s. absurd (d (sym (is x e) ∙ s)))

      seventh : l ≡ spent_limit a.depth a.reserved.0 → (4 ≤ k) × ((k ≡ 7) → l ≡ spent_limit a.depth a.reserved.0)
      seventh e = (omega (arith, is (spent_limit a.depth a.reserved.0) e), λ s. e)

      go : (c : Call) → Memᴰ l (own_limits a c) → (4 ≤ k) × ((k ≡ 7) → l ≡ spent_limit a.depth a.reserved.0)
      go (read i buffer) m =
          ⊎_elim (λ (e : l ≡ block_limit a.depth i). other _ e (omega arith) (λ z. omega arith))
          (λ (n : Memᴰ l (length_limit (length buffer) ∷ [])). other _ (Memᴰ.eq_of_singleton n) (omega arith) (λ z. omega arith))
          (Memᴰ.cases_cons m)
      go (write i block ranges) m =
          ⊎_elim (λ (e : l ≡ block_limit a.depth i). other _ e (omega arith) (λ z. omega arith))
          (λ (n : Memᴰ l (length_limit (length block) ∷ range_limit a.depth (length ranges) ∷ spent_limit a.depth a.reserved.0 ∷ [])).
          ⊎_elim (λ (e : l ≡ length_limit (length block)). other _ e (omega arith) (λ z. omega arith))
          (λ (o : Memᴰ l (range_limit a.depth (length ranges) ∷ spent_limit a.depth a.reserved.0 ∷ [])).
          ⊎_elim (λ (e : l ≡ range_limit a.depth (length ranges)). other _ e (omega arith) (λ z. omega arith))
          (λ (p : Memᴰ l (spent_limit a.depth a.reserved.0 ∷ [])). seventh (Memᴰ.eq_of_singleton p)) (Memᴰ.cases_cons o))
          (Memᴰ.cases_cons n))
          (Memᴰ.cases_cons m)
      go check m = absurd (Memᴰ.not-nil m)
      go wipe m = seventh (Memᴰ.eq_of_singleton m)

  two-only : (c : Call) → number_of (outcome F a card c).answer ≡ 2 → NoncesFit a → ⊥
  two-only c e f =
      let x = failing c 2 e (omega arith) (λ z. omega arith) in
      ⊎_elim
      (λ (m : Memᴰ x.limit (first_limits a (length card))). in-first x (among-first a (length card) 2 x.limit m x.number))
      (λ (m : Memᴰ x.limit (own_limits a c)). let k = (own c x.limit 2 m x.number).0 in omega arith)
      (Memᴰ.append_cases (first_limits a (length card)) x.among)
    where
      in-first : (x : Failing (first_limits a (length card) ++ own_limits a c) 2)
          → ((◌≡◌ {A = ℕ} 2 1) ⊎ ((x.limit ≡ nonce_limit a.depth a.root.0 a.reserved.0) × (◌≡◌ {A = ℕ} 2 2))) ⊎ (◌≡◌ {A = ℕ} 2 3) → ⊥
      in-first x (inl (inl z)) = omega arith
      in-first x (inl (inr q)) =
          let k = sym x.fails ∙ ap (λ (l : Limit). l.fails) q.0 ∙ fit a f in
          let z : ◌≡◌ {A = ℕ} 0 1 = cc in omega arith
      in-first x (inr z) = omega arith

  -- refusal 7

  seven : (i : ℕ) (block ranges : List ℕ) → first_failing (first_limits a (length card)) ≡ none → i < 2 ^ a.depth
      → length block ≡ 64 → 16 * a.depth ≤ length ranges → 2 ^ 64 ≤ a.reserved.0 + a.depth
      → number_of (outcome F a card (write i block ranges)).answer ≡ 7
  unfolding answer_of limits
  seven i block ranges e inside long room spent =
      ap number_of
      (outcome-answer F a card (write i block ranges)
      ∙ ap (λ (x : Option Refusal). verdict x (first_wrong F a.depth a.root.0 card (checks a.depth (write i block ranges))))
      (skip_first (first_limits a (length card)) _ e ∙ skip (block_limit a.depth i) _ (lt-leb (2 ^ a.depth) i inside)
      ∙ skip (length_limit (length block)) _ (equal_is (length block) 64 long)
      ∙ skip (range_limit a.depth (length ranges)) _ (le-ltb (length ranges) (16 * a.depth) room)
      ∙ stop (spent_limit a.depth a.reserved.0) [] (le-leb (2 ^ 64) (a.reserved.0 + a.depth) spent)))

  seven-only : (c : Call) → number_of (outcome F a card c).answer ≡ 7 → 2 ^ 64 ≤ a.reserved.0 + a.depth
  seven-only c e =
      let x = failing c 7 e (omega arith) (λ z. omega arith) in
      ⊎_elim
      (λ (m : Memᴰ x.limit (first_limits a (length card))). absurd (not-first (among-first a (length card) 7 x.limit m x.number)))
      (λ (m : Memᴰ x.limit (own_limits a c)).
      let s = (own c x.limit 7 m x.number).1 refl in
      leb-true (2 ^ 64) (a.reserved.0 + a.depth) (ap (λ (l : Limit). l.fails) (sym s) ∙ x.fails))
      (Memᴰ.append_cases (first_limits a (length card)) x.among)
    where
      not-first : {A : Type 0} → ((◌≡◌ {A = ℕ} 7 1) ⊎ (A × (◌≡◌ {A = ℕ} 7 2))) ⊎ (◌≡◌ {A = ℕ} 7 3) → ⊥
      not-first (inl (inl z)) = omega arith
      not-first (inl (inr q)) = let z = q.1 in omega arith
      not-first (inr z) = omega arith

  pub reserve-rule : ReserveRule F a card
  unfolding outcome
  reserve-rule =
      record {
        write-raises = λ i block ranges w.
            ap (λ (o : Outcome). o.anchor) (outcome-done F a card (write i block ranges) (plain (write i block ranges) w));
        wipe-raises = λ w. ap (λ (o : Outcome). o.anchor) (outcome-done F a card wipe (plain wipe w));
        read-keeps = λ i buffer. read-kept i buffer (answer_of F a card (read i buffer));
        check-keeps = check-kept (answer_of F a card check);
        refused-keeps = refused-kept;
        plan-raises = λ i block ranges w.
            ap (λ (o : Planned). o.call.anchor) (planned-done F a card i block ranges (sym (plan-answer F a card i block ranges) ∙ w));
        path-nonces = path-nonces;
        wipe-nonces = wipe-nonces;
        two = two;
        two-only = two-only;
        seven = seven;
        seven-only = seven-only;
      }

pub reserve-examples : ReserveExamples
unfolding labels raised new_labels path_node be size offset limits first_failing refused
reserve-examples =
    record {
      raised = refl;
      renewed = refl;
      written = λ card block. (refl, refl, refl, refl, refl);
      sees = λ card. refl;
      fit = (refl, refl);
      unfit = (refl, refl, refl);
      spent = (refl, refl);
    }
