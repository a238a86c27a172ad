-- What a plan and a put for C come to where the lengths are right and where not.
use mathlib.Core.Path.{◌≡◌, refl, sym, ap, ap₂, ◌∙◌}
use mathlib.Core.Bool.{Bool, true, false, cond, ◌&&◌}
use mathlib.Core.List.{List}
use Prim.Native.Nat.{ℕ}
use borrow.Author.Tests.{eq-eqb, eqb-true}
use lib.Dec.{eqb}
use lib.ListN.{length}
use Rattle.cmac.specs.Cmac.{cmac_of}
use Rattle.tree.specs.declared.Anchor.{Anchor}
use Rattle.tree.specs.Answer.{Answer, is_whole}
use Rattle.plan.specs.Split.{planned, Plans, message_room, put}
use Rattle.plan.specs.declared.Plan.{Plan}
use Rattle.host_bytes.specs.Host.{anchor_bytes, anchor_of, with_reserved, code_of, refused_length}
use Rattle.host_bytes.specs.Split.{plan_bytes, plan_of, bytes_of, tag_bytes, hosted_plan, host_plan, HostsPlan}
use Rattle.host_bytes.specs.Split.{hosted_put, host_put, HostsPut}

-- Lengths

-- three lengths that are tested together
module _ (s x y : List ℕ) (k : ℕ) where
  abbrev pub lengths : Bool
  lengths = eqb (length s) anchor_bytes && (eqb (length x) plan_bytes && eqb (length y) k)

  abbrev pub Lengths : Type 0
  Lengths = (length s ≡ anchor_bytes) × (length x ≡ plan_bytes) × (length y ≡ k)

  pub all_right : Lengths → lengths ≡ true
  all_right (e, f, g) = rw (eq-eqb (length s) anchor_bytes e, eq-eqb (length x) plan_bytes f, eq-eqb (length y) k g)

  pub one-wrong : (Lengths → ⊥) → lengths ≡ false
  one-wrong d = go (eqb (length s) anchor_bytes) (eqb (length x) plan_bytes) (eqb (length y) k) refl refl refl
    where
      go : (a b c : Bool) → eqb (length s) anchor_bytes ≡ a → eqb (length x) plan_bytes ≡ b → eqb (length y) k ≡ c → (a && (b && c)) ≡ false
      go true true true e f g =
          absurd (d (eqb-true (length s) anchor_bytes e, eqb-true (length x) plan_bytes f, eqb-true (length y) k g))
      go true true false e f g = refl
      go true false c e f g = refl
      go false b c e f g = refl

-- The plan

module _ (anchor card : List ℕ) (i : ℕ) (block ranges plan messages : List ℕ) where
  pub plan-unmeasured : (Lengths anchor plan messages message_room → ⊥)
      → HostsPlan (host_plan anchor card i block ranges plan messages) refused_length anchor plan card ranges messages
  unfolding host_plan
  plan-unmeasured d =
      rw (one-wrong anchor plan messages message_room d)
      (record { coded = refl; anchored = refl; planned = refl; left = refl; filled = refl; gave = refl })

  pub host-plan : Lengths anchor plan messages message_room →
      let a = anchor_of anchor in
      host_plan anchor card i block ranges plan messages ≡ hosted_plan anchor plan messages (planned (cmac_of a.key) a card i block ranges)
  unfolding host_plan
  host-plan l = rw (all_right anchor plan messages message_room l)

  -- a plan that is made of lengths that are right, and put into its bytes
  pub plan_measured : {a : Anchor} {p ms : List ℕ} {subkeys : ℕ} {each : List ℕ → ℕ} {answer : Answer} {count : ℕ} {raised : Anchor}
      {made : Plan} {left filled gave : List ℕ} {code : ℕ} {s kept bytes : List ℕ}
      → Plans subkeys each (planned (cmac_of a.key) a card i block ranges) ms answer count raised made left filled gave
      → code ≡ code_of answer → kept ≡ cond (is_whole answer) (with_reserved s raised.reserved.0) s
      → bytes ≡ cond (is_whole answer) (bytes_of made) p → a ≡ anchor_of anchor → s ≡ anchor → p ≡ plan
      → length anchor ≡ anchor_bytes → length plan ≡ plan_bytes → length messages ≡ message_room → ms ≡ messages
      → HostsPlan (host_plan anchor card i block ranges plan messages) code kept bytes left filled gave
  plan_measured {answer = answer} {raised = raised} {made = made} k c h b e q f l n r m =
      let g = k.reports.gives in
      rw (host-plan (l, n, r), sym e, sym m)
      (record {
        coded = c ∙ ap code_of g.answered;
        anchored =
            h ∙ ap (λ (s : List ℕ). cond (is_whole answer) (with_reserved s raised.reserved.0) s) q
            ∙ ap₂ (λ (x : Answer) (d : Anchor). cond (is_whole x) (with_reserved anchor d.reserved.0) anchor) g.answered g.anchored;
        planned =
            b ∙ ap (cond (is_whole answer) (bytes_of made)) f
            ∙ ap₂ (λ (x : Answer) (q : Plan). cond (is_whole x) (bytes_of q) plan) g.answered k.planned;
        left = g.left;
        filled = g.filled;
        gave = k.gave;
      })

-- The put

module _ (anchor plan card : List ℕ) (u : ℕ) (tag : List ℕ) where
  pub put-unmeasured : (Lengths anchor plan tag tag_bytes → ⊥)
      → HostsPut (host_put anchor plan card u tag) refused_length anchor plan card
  unfolding host_put
  put-unmeasured d = rw (one-wrong anchor plan tag tag_bytes d) (record { coded = refl; anchored = refl; planned = refl; left = refl })

  pub host-put : Lengths anchor plan tag tag_bytes
      → host_put anchor plan card u tag ≡ hosted_put anchor plan (put (anchor_of anchor) (plan_of plan) card u tag)
  unfolding host_put
  host-put l = rw (all_right anchor plan tag tag_bytes l)
