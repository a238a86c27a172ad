-- What is known along a list, by the numbers that its calls answered.
use mathlib.Core.Path.{◌≡◌, refl, sym, ap, ap₂, subst, ◌∙◌}
use mathlib.Core.Bool.{Bool, true, not, cond, ◌&&◌}
use mathlib.Core.List.{List, [], ◌∷◌}
use Prim.Native.Nat.{ℕ, ◌+◌, ◌*◌, ◌<◌}
use native.Mathlib.Omega.{arith}
use borrow.Author.Tests.{eqb-true}
use lib.Dec.{eqb}
use Rattle.cmac.specs.Cmac.{cmac_of}
use Rattle.tree.specs.Answer.{refusal_number}
use Rattle.tree.specs.Calls.{renews}
use Rattle.tree.specs.declared.Node.{Node}
use Rattle.tree.specs.declared.Refusal.{Refusal}
use Rattle.tree.specs.declared.Refusal.TheVariants.{Depth, RootNonce, CardLength, BlockNumber, BlockLength, RangeLength, NoncesSpent}
use Rattle.tree.specs.declared.Refusal.TheVariants.{NotAwaited, Journal}
use Rattle.tree.specs.Answer.{Answer}
use Rattle.tree.specs.Answer.{Whole, Wrong, Refused}
use Rattle.plan.specs.Split.{planned}
use Rattle.plan.specs.Puts.{begun, EachPut, PutUntouched}
use Rattle.plan.proofs.ListLaws.{and_both}
use Rattle.replay.specs.Array.{Array, moved}
use Rattle.replay.specs.Run
use Rattle.replay.specs.Run.{State, result, next, after, renewals, losses}
use Rattle.replay.specs.Claim
use Rattle.replay.proofs.PlaceLaws.{first, later}
use Rattle.host_bytes.specs.Host.{code_of}
use Rattle.host_replay.specs.Called.{anchor_in, Called, call, split, attempt, put_steps, step_of, steps, back_of}
use Rattle.host_replay.specs.Plain.{called, all_put, stands, reserves, left_by, array_by, renewals_by, losses_by, Each, Untouched}
use Rattle.host_replay.proofs.Theorem.{Told, told_here, stands-here, split-stood, Follows}
use Rattle.host_replay.proofs.SplitSteps.{split-untouched}

-- Answers as one number

refusal-other : (r : Refusal) → (refusal_number r ≡ 8 → ⊥) × (refusal_number r < 256)
refusal-other Depth = (λ e. omega arith, omega arith)
refusal-other RootNonce = (λ e. omega arith, omega arith)
refusal-other CardLength = (λ e. omega arith, omega arith)
refusal-other BlockNumber = (λ e. omega arith, omega arith)
refusal-other BlockLength = (λ e. omega arith, omega arith)
refusal-other RangeLength = (λ e. omega arith, omega arith)
refusal-other NoncesSpent = (λ e. omega arith, omega arith)
refusal-other NotAwaited = (λ e. omega arith, omega arith)
refusal-other Journal = (λ e. omega arith, omega arith)

-- one that names no wrong tag is not 8 plus 256 times a node
pub not-wrong : (x : Answer) → ((u : Node) → x ≡ Wrong u → ⊥) → (u : ℕ) → code_of x ≡ 8 + 256 * u → ⊥
unfolding code_of
not-wrong Whole d u e = omega arith
not-wrong (Wrong v) d u e = d v refl
not-wrong (Refused r) d u e = (refusal-other r).0 (omega (arith, (refusal-other r).1))

-- What is known, by the answers

module _ (key : List ℕ) where
  abbrev F : List ℕ → List ℕ
  F = cmac_of key

  -- a step of C's that ran where what is before it left the list
  abbrev pub Ran : State → List Called → Called → Type 0
  Ran s before r = Follows key (after (cmac_of key) s (steps before)) r

  module _ (r : Called) (z : State) (f : Follows key z r) where
    told : Told (result (cmac_of key) z.store (step_of r)) (back_of r)
    told = told_here key r z f.held f.knows f.handed f.met

    pub stands-so : (Run.stands (cmac_of key) z.store (step_of r) ≡ stands r)
        × (Run.reserves (cmac_of key) z.store (step_of r) ≡ reserves r)
    stands-so = stands-here key r z f.held f.knows f.handed f.met

    next-left : (next (cmac_of key) z (step_of r)).store.left ≡ cond (stands r && renews (called r)) (back_of r).card z.store.left
    unfolding next
    next-left =
        ap₂ (λ (b : Bool) (c : List ℕ). cond (b && renews (called r)) c z.store.left) stands-so.0 (sym told.left)

    next-array : (next (cmac_of key) z (step_of r)).store.array ≡ moved z.store.array (Run.told (called r)) (stands r)
    unfolding next
    next-array = ap (moved z.store.array (Run.told (called r))) stands-so.0

    -- the anchor that it leaves is the list's
    pub next-anchor : anchor_in (back_of r).anchor ≡ (next (cmac_of key) z (step_of r)).store.anchor
    unfolding next
    next-anchor = told.anchored

  -- behind the first
  rest : (s : State) (r : Called) (rs : List Called) → Each (r ∷ rs) (Ran s) → Each rs (Ran (next (cmac_of key) s (step_of r)))
  unfolding after
  rest s r rs f p = f (later r p)

  here : (s : State) (r : Called) (rs : List Called) → Each (r ∷ rs) (Ran s) → Follows key s r
  unfolding after
  here s r rs f = f (first r rs)

  pub left_by_lem : (rs : List Called) (s : State) → Each rs (Ran s)
      → (after (cmac_of key) s (steps rs)).store.left ≡ left_by s.store.left rs
  unfolding after
  left_by_lem [] s f = refl
  left_by_lem (r ∷ rs) s f =
      left_by_lem rs (next F s (step_of r)) (rest s r rs f) ∙ ap (λ (l : List ℕ). left_by l rs) (next-left r s (here s r rs f))

  pub array-by : (rs : List Called) (s : State) → Each rs (Ran s)
      → (after (cmac_of key) s (steps rs)).store.array ≡ array_by s.store.array rs
  unfolding after
  array-by [] s f = refl
  array-by (r ∷ rs) s f =
      array-by rs (next F s (step_of r)) (rest s r rs f) ∙ ap (λ (a : Array). array_by a rs) (next-array r s (here s r rs f))

  pub renewals-by : (rs : List Called) (s : State) → Each rs (Ran s) → renewals (cmac_of key) s (steps rs) ≡ renewals_by rs
  unfolding renewals after
  renewals-by [] s f = refl
  renewals-by (r ∷ rs) s f =
      ap₂ (λ (b : Bool) (m : ℕ). cond (b && renews (called r)) 1 0 + m) (stands-so r s (here s r rs f)).0
      (renewals-by rs (next F s (step_of r)) (rest s r rs f))

  pub losses-by : (rs : List Called) (s : State) → Each rs (Ran s) → losses (cmac_of key) s (steps rs) ≡ losses_by rs
  unfolding losses after
  losses-by [] s f = refl
  losses-by (r ∷ rs) s f =
      let k = stands-so r s (here s r rs f) in
      ap₂ (λ (b : Bool) (m : ℕ). cond b 1 0 + m) (ap₂ (λ (b c : Bool). b && not c) k.1 k.0)
      (losses-by rs (next F s (step_of r)) (rest s r rs f))

  -- on the card as last left, and each put on the card as the step before left it
  pub untouched-here : (r : Called) (z : State) → Follows key z r → stands r ≡ true → Untouched z.store.left r
      → Claim.Untouched (cmac_of key) z.store (step_of r)
  untouched-here (call given card c back) z f w u = u
  untouched-here (split given p qs) z f w u =
      let a = z.store.anchor in
      let zero = eqb-true p.code 0 (and_both (eqb p.code 0) (all_put given p qs) w).0 in (
        u.0,
        subst (λ (l : List ℕ). EachPut PutUntouched (begun (planned (cmac_of l) a p.card p.index p.block p.ranges))
            (put_steps qs))
            f.knows.0 (split-untouched a given (split-stood key given p qs z f) p qs f.met zero u.1),
      )
  untouched-here (attempt given t) z f w u = u
