-- Document 02 on a split write. The messages of a plan take what the write's take, in another order.
use mathlib.Core.Path.{◌≡◌, refl, sym, ap, ap₂, ◌∙◌, subst}
use mathlib.Core.List.{List, [], ◌∷◌, map}
use mathlib.Core.Logic.{⊎_elim}
use Prim.Native.Nat.{ℕ, zero, suc, ◌+◌, ◌*◌, ◌-◌, ◌/◌, ◌%◌}
use native.Mathlib.Nat.{add_assoc}
use native.Mathlib.Omega.{arith}
use lib.ListN.{length}
use Rattle.words.proofs.Cases.{equal_or_not}
use Rattle.cmac.specs.Cmac.{cmac_of}
use Rattle.cmac.specs.Traced.{subkeys_count, cmac_count}
use Rattle.cmac.proofs.Laws.{length-cmac}
use Rattle.cmac.proofs.TraceLaws.{count-17, count-73}
use Rattle.tree.specs.Nodes.{up_to, path_node, sibling, pair, pairs}
use Rattle.tree.specs.Labels.{labels, written_labels}
use Rattle.tree.specs.Calls.{write, tagged, total, count_in, count_of, answer_of, outcome}
use Rattle.tree.specs.declared.Anchor.{Anchor}
use Rattle.tree.specs.Answer.{Answer}
use Rattle.tree.specs.Answer.{Whole}
use Rattle.tree.proofs.ByteLaws.{length-be}
use Rattle.tree.proofs.LabelLaws.{labels-sized, new-root, new-sized}
use Rattle.tree.proofs.LimitLaws.{Writes}
use Rattle.tree.proofs.CallLaws.{accepted, outcome-answer}
use Rattle.tree.proofs.CountLaws.{total-append}
use Rattle.tree.proofs.CostLaws.{cost_at, total-cost, pairs-cost, tags-cost}
use Rattle.plan.specs.Places.{rising_pair, plan_nodes}
use Rattle.plan.specs.Split.{Given, given, Planned}
use Rattle.plan.proofs.PlaceLaws.{plan-node}
use Rattle.plan.proofs.PlanLaws.{plan-answer, planned-refused, messages-are, planned-counted}
use Rattle.plan.proofs.OrderLaws.{orders}
use Rattle.plan.specs.Orders.{Rearranged}
use Rattle.plan.proofs.PlanRuleLaws.{nodes-are, plan-rule}
use Rattle.plan.proofs.PutRuleLaws.{put-rule}
use Rattle.scope.specs.CountRule.{count}
use Rattle.scope.specs.SplitRule.{split, plan_count, engines_count, SplitRule}
use Rattle.scope.proofs.CountRule.{count-rule}

-- The order does not matter

level-cost : (f : ℕ → ℕ) (u : ℕ) → total f ((2 * (u / 2)) ∷ (2 * (u / 2) + 1) ∷ []) ≡ total f (u ∷ sibling u ∷ [])
unfolding total sibling
level-cost f u =
    ⊎_elim
    (λ (e : 2 * (u / 2) ≡ u).
    let s : 2 * (u / 2) + 1 ≡ u + 1 - 2 * (u % 2) = omega arith in
    ap₂ (λ (x y : ℕ). f x + (f y + 0)) e s)
    (λ (d : 2 * (u / 2) ≡ u → ⊥).
    let e : 2 * (u / 2) + 1 ≡ u = omega arith in
    let s : 2 * (u / 2) ≡ u + 1 - 2 * (u % 2) = omega arith in
    ap₂ (λ (x y : ℕ). f x + (f y + 0)) s e ∙ omega arith)
    (equal_or_not (2 * (u / 2)) u)

rising-cost : (f : ℕ → ℕ) (n i k : ℕ) → total f (up_to k (rising_pair n i)) ≡ total f (up_to k (pair n i))
unfolding up_to
rising-cost f n i zero = refl
rising-cost f n i (suc k) =
    total-append f (up_to k (rising_pair n i)) (rising_pair n i (suc k))
    ∙ ap₂ ◌+◌ (rising-cost f n i k) (level-cost f (path_node n i (suc k)))
    ∙ sym (total-append f (up_to k (pair n i)) (pair n i (suc k)))

plan-cost : (f : ℕ → ℕ) (n i : ℕ) → total f (plan_nodes n i) ≡ total f (pairs n i)
unfolding plan_nodes pairs
plan-cost f n i = rising-cost f n i n

map-given : (f : ℕ → Given) (us : List ℕ) → map (λ (g : Given). g.message) (map f us) ≡ map (λ (u : ℕ). (f u).message) us
map-given f [] = refl
map-given f (u ∷ us) = ap (λ (l : List (List ℕ)). (f u).message ∷ l) (map-given f us)

module _ (a : Anchor) (card : List ℕ) (i : ℕ) (block ranges : List ℕ) where
  abbrev F : List ℕ → List ℕ
  F = cmac_of a.key

  abbrev each : List ℕ → ℕ
  each = cmac_count a.key

  abbrev once : ℕ
  once = subkeys_count a.key

  module _ (whole : (split a card i block ranges).call.answer ≡ Whole) where
    answer : answer_of F a card (write i block ranges) ≡ Whole
    answer = sym (plan-answer F a card i block ranges) ∙ whole

    written : (outcome F a card (write i block ranges)).answer ≡ Whole
    written = outcome-answer F a card (write i block ranges) ∙ answer

    ok : Writes a card i block ranges
    ok = (accepted F a card (write i block ranges) answer).limits-passed

    engines : engines_count a card i block ranges ≡ 4 * a.depth + 6
    engines =
        let n = a.depth in
        let t = a.root.0 in
        let r = a.reserved.0 in
        let L = written_labels n t r card i block in
        ap (total each) (ap (map (λ (g : Given). g.message)) (messages-are F a card i block ranges answer)
        ∙ map-given (given L) (plan_nodes n i))
        ∙ total-cost each 2 5 (count-17 a.key) (count-73 a.key) n L
        (new-sized n r i block ok.inside (labels n t card) ok.long (labels-sized n t card ok.sound.full))
        (ap length (new-root n r i block ok.inside (labels n t card) ok.sound.deep) ∙ length-be 8 (r + n))
        (plan_nodes n i) (plan-node n i ok.inside)
        ∙ plan-cost (cost_at 2 5 n) n i ∙ pairs-cost 2 5 n i ok.inside ok.sound.deep ∙ omega (arith, ok.sound.deep)

    -- what the write tags takes what the engines make
    tags : total each (tagged a card (write i block ranges)) ≡ 4 * a.depth + 6
    tags =
        tags-cost each 2 5 (count-17 a.key) (count-73 a.key) a card (write i block ranges) ok ∙ omega (arith, ok.sound.deep)

    parts : count a card (write i block ranges) ≡ plan_count a card i block ranges + total each (tagged a card (write i block ranges))
    parts =
        let o = (split a card i block ranges).call in
        ap₂ (count_in once each) written (planned-counted F a card i block ranges answer)
        ∙ ap (λ (k : ℕ). once + k) (total-append each o.counted (tagged a card (write i block ranges)))
        ∙ sym (add_assoc once (total each o.counted) (total each (tagged a card (write i block ranges))))
        ∙ ap (λ (k : ℕ). k + total each (tagged a card (write i block ranges)))
        (sym (ap (λ (x : Answer). count_in once each x o.counted) whole))

  refused : ((split a card i block ranges).call.answer ≡ Whole → ⊥) → plan_count a card i block ranges ≡ count a card (write i block ranges)
  refused d =
      ap (λ (o : Planned). count_of once each o.call)
      (planned-refused F a card i block ranges (λ w. d (plan-answer F a card i block ranges ∙ w)))

  pub split-rule : SplitRule a card i block ranges
  split-rule =
      record {
        plans = plan-rule F (length-cmac a.key) a card i block ranges;
        puts = λ p u x. put-rule a p card u x;
        put_order = λ p u. refl;
        orders = λ w us order.
            let nodes = nodes-are F (length-cmac a.key) a card i block ranges (answer w) in
            orders F (length-cmac a.key) a card i block ranges us (subst (λ (ns : List ℕ). Rearranged us ns) nodes order) (answer w);
        plan-count = λ w.
            let e = (count-rule a card).writes i block ranges (written w) in
            omega (arith, parts w, tags w);
        engines-count = engines;
        together = λ w. omega (arith, parts w, tags w, engines w);
        limited = λ r e. refused (λ w. let k = sym w ∙ e in let z : ◌≡◌ {A = ℕ} 0 1 = cc in omega arith);
        wrong = λ u e. refused (λ w. let k = sym w ∙ e in let z : ◌≡◌ {A = ℕ} 0 1 = cc in omega arith);
      }
