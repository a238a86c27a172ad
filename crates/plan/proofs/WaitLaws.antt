-- What a plan waits for, by its list of nodes and by numbers.
use mathlib.Core.Path.{◌≡◌, sym, ap, ◌∙◌}
use Prim.Native.Nat.{ℕ, ◌+◌, ◌*◌, ◌%◌}
use native.Mathlib.Omega.{arith}
use borrow.Author.Tests.{ne_eqb}
use Rattle.plan.specs.Places.{place_of, bit}
use Rattle.plan.specs.Rule.{Waits}
use Rattle.plan.specs.declared.Plan.{Plan}
use Rattle.plan.proofs.PlaceLaws.{Awaited, unset, plan-child, child-plan, place_is}

module _ (n : ℕ) (p : Plan) (u : ℕ) where
  -- the place of a node is its bit's number
  pub waits-place : (h : Waits n p u) → place_of n p u ≡ 2 * h.level + u % 2
  waits-place h = place_is n p.index.0 h.inside u h.level h.high h.child

  pub awaited-waits : Awaited n p u → Waits n p u
  awaited-waits k =
      let c = plan-child n p.index.0 k.inside u k.among in
      record {
        inside = k.inside;
        level = c.level;
        high = c.high;
        child = c.is;
        unset =
            ap (λ (j : ℕ). bit j p.filled) (sym (place_is n p.index.0 k.inside u c.level c.high c.is))
            ∙ unset n p u k.unfilled;
      }

  pub waits-awaited : Waits n p u → Awaited n p u
  waits-awaited h =
      record {
        inside = h.inside;
        among = child-plan n p.index.0 h.inside u (record { level = h.level; high = h.high; is = h.child });
        unfilled =
            let z : bit (place_of n p u) p.filled ≡ 0 = ap (λ (j : ℕ). bit j p.filled) (waits-place h) ∙ h.unset in
            ne_eqb (bit (place_of n p u) p.filled) 1 (λ e. omega arith);
      }
