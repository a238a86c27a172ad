-- The count, message by message and call by call.
use mathlib.Core.Path.{◌≡◌, refl, sym, ap, ap₂, subst, ◌∙◌}
use mathlib.Core.Bool.{Bool, true, false}
use mathlib.Core.List.Memᴰ
use mathlib.Core.List.{List, [], ◌∷◌, ◌++◌, Memᴰ}
use mathlib.Core.Logic.{⊎_elim}
use mathlib.Core.Option.{none, some}
use Prim.Native.Nat.{ℕ, zero, suc, ◌+◌, ◌-◌, ◌^◌, ◌≤◌}
use native.Mathlib.Omega.{arith}
use lib.ListN.{length}
use lib.Pow.{pow_mono}
use Rattle.cipher.specs.Cipher.{encrypt_of}
use Rattle.words.specs.Bytes.{xor_block}
use Rattle.cmac.specs.Cmac.{subkey1, subkey2, blocks, message_block, last_block, chain, cmac_by, cmac_of}
use Rattle.cmac.specs.Context.{subkeys_of}
use Rattle.cmac.specs.Traced.{chain_traced, subkeys_count, cmac_count}
use Rattle.cmac.proofs.TraceLaws.{subkeys-erased, cmac-erased, subkeys-trace, chain-trace, cmac-trace, subkeys-count, cmac-count}
use Rattle.cmac.proofs.TraceLaws.{count-17, count-73}
use Rattle.tree.specs.Labels.{labels}
use Rattle.tree.specs.Card.{right, first_wrong}
use Rattle.tree.specs.Limits.{first_failing}
use Rattle.tree.specs.Calls.{Call, read, write, check, wipe, checks, tagged, limits, Outcome, total, count_in, answer_of, checked_by, done}
use Rattle.tree.specs.Calls.{outcome}
use Rattle.tree.specs.declared.Anchor.{Anchor}
use Rattle.tree.specs.declared.Node.{Node}
use Rattle.tree.specs.Answer.{Answer}
use Rattle.tree.specs.Answer.{Whole, Wrong, Refused}
use Rattle.tree.proofs.ByteLaws.{length-be}
use Rattle.tree.proofs.LayoutLaws.{AllNodes}
use Rattle.tree.proofs.LimitLaws.{Passes, passed, passes-sound}
use Rattle.tree.proofs.LabelLaws.{labels-root, labels-sized}
use Rattle.tree.proofs.CallLaws.{right_is, is_right, none-wrong, wrong-none, checks-nodes, verdict-whole, verdict-wrong, outcome-answer}
use Rattle.tree.proofs.CallLaws.{outcome-done, outcome-is}
use Rattle.tree.proofs.CountLaws.{total-append, checked-all, split, split-checked}
use Rattle.tree.proofs.EnoughLaws.{enough}
use Rattle.tree.proofs.CostLaws.{checks_cost, tags_cost, total-cost, checks-cost, tags-cost}
use Rattle.scope.specs.CountRule.{inputs, MessageRule, count, calls_at, RightAt, First, shown, CountedRule, CountRule}

chain-inputs : (e : List ℕ → List ℕ) (m : List ℕ) (i : ℕ) → (chain_traced e m i).trace ≡ inputs e m i
unfolding chain_traced
chain-inputs e m zero = refl
chain-inputs e m (suc i) =
    chain-trace e m i ∙ ap (λ (l : List (List ℕ)). l ++ (xor_block (chain e m i) (message_block m i) ∷ [])) (chain-inputs e m i)

pub message-rule : (key : List ℕ) → MessageRule key
unfolding subkeys_of cmac_of cmac_by subkeys_count cmac_count
message-rule key =
    let e = encrypt_of key in
    record {
      subkeys-erased = subkeys-erased (encrypt_of key);
      subkeys-handed = subkeys-trace (encrypt_of key);
      subkeys-counted = refl;
      handed = λ m.
          let n = blocks (length m) - 1 in
          cmac-trace e (subkey1 e) (subkey2 e) m
          ∙ ap (λ (l : List (List ℕ)). l ++ (xor_block (last_block (subkey1 e) (subkey2 e) m) (chain e m n) ∷ [])) (chain-inputs e m n);
      counted = λ m. refl;
      subkeys = subkeys-count key;
      erased = cmac-erased (encrypt_of key) (subkey1 (encrypt_of key)) (subkey2 (encrypt_of key));
      blocks-each = cmac-count key;
      inner = count-17 key;
      leaf = count-73 key;
    }

-- a node up to u is one of the whole list
up-to-here : (before : List ℕ) (u : ℕ) (behind : List ℕ) (v : ℕ) → Memᴰ v (before ++ (u ∷ [])) → Memᴰ v (before ++ (u ∷ behind))
up-to-here before u behind v m =
    ⊎_elim (λ (k : Memᴰ v before). Memᴰ.append_left (u ∷ behind) k)
    (λ (k : Memᴰ v (u ∷ [])). Memᴰ.append_right before (Memᴰ.head (Memᴰ.eq_of_singleton k)))
    (Memᴰ.append_cases before m)

module _ (a : Anchor) (card : List ℕ) where
  abbrev F : List ℕ → List ℕ
  F = cmac_of a.key

  abbrev each : List ℕ → ℕ
  each = cmac_count a.key

  -- Which messages are counted

  done-counted : (c : Call) → (done F a card c).counted ≡ checked_by F a card c ++ tagged a card c
  done-counted (read i buffer) = refl
  done-counted (write i block ranges) = refl
  done-counted check = refl
  done-counted wipe = refl

  limited : (c : Call) → (outcome F a card c).answer ≡ Whole → (first_failing (limits a card c) ≡ none)
      × (first_wrong F a.depth a.root.0 card (checks a.depth c) ≡ none)
  unfolding answer_of
  limited c w = verdict-whole _ _ (sym (outcome-answer F a card c) ∙ w)

  whole : (c : Call) → (outcome F a card c).answer ≡ Whole
      → (outcome F a card c).counted ≡ shown a card (checks a.depth c) ++ tagged a card c
  whole c w =
      ap (λ (o : Outcome). o.counted) (outcome-done F a card c (sym (outcome-answer F a card c) ∙ w)) ∙ done-counted c
      ∙ ap (λ (l : List (List ℕ)). l ++ tagged a card c)
      (checked-all F a.depth a.root.0 card (checks a.depth c) (limited c w).1)

  found : (c : Call) (u : Node) → (outcome F a card c).answer ≡ Wrong u
      → (first_failing (limits a card c) ≡ none) × (first_wrong F a.depth a.root.0 card (checks a.depth c) ≡ some u.0)
  unfolding answer_of
  found c u w = verdict-wrong _ _ u (sym (outcome-answer F a card c) ∙ w)

  stopped : (c : Call) (u : Node) → (outcome F a card c).answer ≡ Wrong u → First a card (checks a.depth c) u.0
  stopped c u w =
      let s = split F a.depth a.root.0 card (checks a.depth c) u.0 (found c u w).1 in
      record {
        before = s.before;
        behind = s.behind;
        splits = s.splits;
        right = none-wrong F a.depth a.root.0 card s.before s.none_before;
        wrong =
            λ e.
            let z : true ≡ false = sym (is_right F a.depth a.root.0 card u.0 e) ∙ s.is-wrong in
            let k : ◌≡◌ {A = ℕ} 0 1 = cc in
            absurd (omega arith);
      }

  not_right : (u : ℕ) → (RightAt a card u → ⊥) → right F a.depth a.root.0 card u ≡ false
  not_right u d = go (right F a.depth a.root.0 card u) refl
    where
      go : (b : Bool) → right F a.depth a.root.0 card u ≡ b → b ≡ false
      go true e = absurd (d (right_is F a.depth a.root.0 card u e))
      go false e = refl

  up_to : (c : Call) (u : Node) → (outcome F a card c).answer ≡ Wrong u → (f : First a card (checks a.depth c) u.0)
      → (outcome F a card c).counted ≡ shown a card (f.before ++ (u.0 ∷ []))
  up_to c u w f =
      ap (λ (o : Outcome). o.counted) (outcome-is F a card c (Wrong u) w)
      ∙ split-checked F a.depth a.root.0 card (checks a.depth c) u.0
      (record {
        before = f.before;
        behind = f.behind;
        splits = f.splits;
        none_before = wrong-none F a.depth a.root.0 card f.before f.right;
        is-wrong = not_right u.0 f.wrong;
      })

  pub counted-rule : (c : Call) → CountedRule a card c
  counted-rule c =
      record {
        refused = λ r w. ap (λ (o : Outcome). o.counted) (outcome-is F a card c (Refused r) w);
        stopped = stopped c;
        up_to = up_to c;
        whole = whole c;
        enough = enough F a card c;
      }

  -- How many calls they take

  accepted : (c : Call) → (outcome F a card c).answer ≡ Whole
      → Passes a card c × (count a card c ≡ 1 + (checks_cost 2 5 a.depth c + tags_cost 2 5 a.depth c))
  accepted c w =
      let p = passed a card c (limited c w).0 in (
        p,
        ap₂ (count_in (subkeys_count a.key) each) w (whole c w)
            ∙ ap₂ ◌+◌ (subkeys-count a.key)
            (total-append each (shown a card (checks a.depth c)) (tagged a card c)
            ∙ ap₂ ◌+◌ (checks-cost each 2 5 (count-17 a.key) (count-73 a.key) a card c p)
            (tags-cost each 2 5 (count-17 a.key) (count-73 a.key) a card c p)),
      )

  some-blocks : (c : Call) → Passes a card c → 2 ≤ 2 ^ a.depth
  some-blocks c p = let q : 2 ^ 1 ≤ 2 ^ a.depth = pow_mono (passes-sound a card c p).deep in omega arith

  carries : (c : Call) (u : Node) → (outcome F a card c).answer ≡ Wrong u → (f : First a card (checks a.depth c) u.0)
      → count a card c ≡ 1 + total (calls_at a.depth) (f.before ++ (u.0 ∷ []))
  carries c u w f =
      let n = a.depth in
      let t = a.root.0 in
      let p = passed a card c (found c u w).0 in
      let nodes : AllNodes n (f.before ++ (u.0 ∷ [])) =
      λ v m. checks-nodes a card c p v
      (subst (λ (l : List ℕ). Memᴰ v l) (sym f.splits) (up-to-here f.before u.0 f.behind v m)) in
      ap₂ (count_in (subkeys_count a.key) each) w (up_to c u w f)
      ∙ ap₂ ◌+◌ (subkeys-count a.key)
      (total-cost each 2 5 (count-17 a.key) (count-73 a.key) n (labels n t card)
      (labels-sized n t card (passes-sound a card c p).full) (ap length (labels-root n t card) ∙ length-be 8 t)
      (f.before ++ (u.0 ∷ [])) nodes)

  pub count-rule : CountRule a card
  count-rule =
      record {
        reads = λ i buffer w.
            let r = accepted (read i buffer) w in
            r.1 ∙ omega (arith, r.0.sound.deep);
        writes = λ i block ranges w.
            let r = accepted (write i block ranges) w in
            r.1 ∙ omega (arith, r.0.sound.deep);
        checks-whole = λ w.
            let r = accepted check w in
            r.1 ∙ omega (arith, some-blocks check r.0);
        wipes = λ w.
            let r = accepted wipe w in
            r.1 ∙ omega (arith, some-blocks wipe r.0);
        refused = λ c r w.
            ap (λ (x : Answer). count_in (subkeys_count a.key) each x (outcome F a card c).counted) w;
        up_to = carries;
      }
