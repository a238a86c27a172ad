-- Document 02 on a write that is split into a plan and its puts, at CMAC and for every input.
use Rattle.std.specs.Prelude.{◌≡◌, List, [], ◌∷◌, map, ℕ, ◌+◌, ◌*◌}
use Rattle.cmac.specs.Cmac.{cmac_of}
use Rattle.cmac.specs.Traced.{subkeys_count, cmac_count}
use Rattle.tree.specs.Calls.{write, total, count_of}
use Rattle.tree.specs.declared.Anchor.{Anchor}
use Rattle.tree.specs.declared.Node.{Node}
use Rattle.tree.specs.declared.Refusal.{Refusal}
use Rattle.tree.specs.Answer.{Whole, Wrong, Refused}
use Rattle.plan.specs.Split.{Given, Planned, planned, put_limits}
use Rattle.plan.specs.Orders.{Rearranged, LikeWrite}
use Rattle.plan.specs.Rule.{nodes_of, PlanRule, PutRule}
use Rattle.plan.specs.declared.Plan.{Plan}
use Rattle.scope.specs.Rules.{numbers}
use Rattle.scope.specs.CountRule.{count}

module _ (a : Anchor) (card : List ℕ) (i : ℕ) (block ranges : List ℕ) where
  abbrev pub split : Planned
  split = planned (cmac_of a.key) a card i block ranges

  -- the count that goes with the plan, and what the engines make for its messages
  abbrev pub plan_count : ℕ
  plan_count = count_of (subkeys_count a.key) (cmac_count a.key) split.call

  abbrev pub engines_count : ℕ
  engines_count = total (cmac_count a.key) (map (λ (g : Given). g.message) split.messages)

  pub record SplitRule : Type 0 where
    pub plans : PlanRule (cmac_of a.key) a card i block ranges
    pub puts : (p : Plan) (u : ℕ) (x : List ℕ) → PutRule a p card u x
    -- the order of a put's refusals
    pub put_order : (p : Plan) (u : ℕ) → numbers (put_limits a p card u) ≡ 1 ∷ 2 ∷ 3 ∷ 9 ∷ []
    -- "for every order of return the final card is the one a plain write leaves", anchor and ranges too
    pub orders : split.call.answer ≡ Whole → (us : List ℕ) → Rearranged us (nodes_of split.messages)
        → LikeWrite (cmac_of a.key) a card i block ranges us
    -- T-02's count: an accepted plan carries 1 and its checks', the engines make the rest, and together these are the write's
    pub plan-count : split.call.answer ≡ Whole → plan_count ≡ 4 * a.depth + 2
    pub engines-count : split.call.answer ≡ Whole → engines_count ≡ 4 * a.depth + 6
    pub together : split.call.answer ≡ Whole → plan_count + engines_count ≡ count a card (write i block ranges)
    -- a refused plan carries what the refused write does
    pub limited : (r : Refusal) → split.call.answer ≡ Refused r → plan_count ≡ count a card (write i block ranges)
    pub wrong : (u : Node) → split.call.answer ≡ Wrong u → plan_count ≡ count a card (write i block ranges)
