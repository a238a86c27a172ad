-- What the plan waits for is a node of the card.
use Rattle.std.proofs.Common.{◌≡◌, Bool, true, false, refl, sym, ap, subst, ◌∙◌, cond, List, [], ◌∷◌, ℕ, ◌+◌, ◌^◌, ◌<◌, length, arith}
use Rattle.std.proofs.Math.Option.{none}
use Rattle.std.proofs.lemmas.List.Edits.{sets}
use borrow.Author.Tests.{not-false}
use Rattle.tree.specs.Layout.{IsNode, size, offset}
use Rattle.tree.specs.Answer.{Whole}
use Rattle.tree.specs.Calls.{first_limits, rooted}
use Rattle.tree.specs.Limits.{first_failing}
use Rattle.tree.specs.declared.Anchor.{Anchor}
use Rattle.tree.proofs.LayoutLaws.{entry-on}
use Rattle.tree.proofs.LimitLaws.{Sound, first-passed, sound-card, passes, passed-both}
use Rattle.plan.specs.Places.{awaits, fill, full}
use Rattle.plan.specs.Split.{place_limit, put_limits, put, Puts}
use Rattle.plan.specs.declared.Plan.{Plan}
use Rattle.plan.proofs.PlaceLaws.{awaited, plan-node}
use Rattle.plan.proofs.PutLaws.{put-accept}
use Rattle.split.proofs.OutcomeLaws.{put_whole}
use Rattle.split.proofs.within.put_tag.Goals as goal

-- what the limits leave
record Passed (a : Anchor) (p : Plan) (card : List ℕ) (u : ℕ) : Type 0 where
  sound : Sound a card
  waits : awaits a.depth p u ≡ true
  node : IsNode a.depth u

passed : (a : Anchor) (p : Plan) (card : List ℕ) (u : ℕ) → first_failing (put_limits a p card u) ≡ none → Passed a p card u
passed a p card u e =
    let both = passed-both (first_limits a (length card)) (place_limit a.depth p u ∷ []) e in
    let w = not-false (awaits a.depth p u) (passes (place_limit a.depth p u) [] both.1).0 in
    let h = awaited a.depth p u w in
    record { sound = first-passed a card both.0; waits = w; node = plan-node a.depth p.index.0 h.inside u h.among }

-- the plan keeps its block and its root nonce
kept-index : (n : ℕ) (p : Plan) (u : ℕ) {q : Plan} → q ≡ fill n p u → q.index.0 ≡ p.index.0
unfolding fill
kept-index n p u e = ap (λ (q : Plan). q.index.0) e

kept-root : (n : ℕ) (p : Plan) (u : ℕ) {q : Plan} → q ≡ fill n p u → q.root.0 ≡ p.root.0
unfolding fill
kept-root n p u e = ap (λ (q : Plan). q.root.0) e

-- the put of a tag that is waited for
taken : (a : Anchor) (p : Plan) (card : List ℕ) (u : ℕ) (x : List ℕ) (f : Bool) {q : Plan} {m : ℕ} {left : List ℕ}
    → first_failing (put_limits a p card u) ≡ none → q ≡ fill a.depth p u → full a.depth q ≡ f → m ≡ offset a.depth u + size a.depth u
    → left ≡ sets card m x → Puts (put a p card u x) Whole (cond f (rooted a q.root.0) a) q left
taken a p card u x f e filled all m left =
    let h = passed a p card u e in
    put_whole a p card u x _ _ _ (put-accept a p card u h.sound (awaited a.depth p u h.waits)) filled
    (rw (sym all, kept-root a.depth p u filled) refl) (rw (sym m) left)

pub card_depth-depth-requires : goal.card_depth-depth-requires
card_depth-depth-requires c = (passed c.args.anchor c.args.plan c.args.card.now c.args.node.0 c.requires).sound.shallow

pub invariant_of-entry : goal.invariant_of-entry
invariant_of-entry c =
    record { on_card = rw c.card_depth-depth.ensures (passed c.args.anchor c.args.plan c.args.card.now c.args.node.0 c.requires).node }

pub put-requires : goal.put-requires
put-requires c =
    let a = c.args.anchor in
    let u = c.args.node.0 in
    let p = passed a c.args.plan c.args.card.now u c.requires in
    omega (arith, rw c.card_depth-depth.ensures at c.tag_offset.ensures, entry-on a.depth c.args.card.now u (sound-card p.sound) p.node)

pub fill-filled-requires : goal.fill-filled-requires
fill-filled-requires c = rw c.card_depth-depth.ensures (passed c.args.anchor c.args.plan c.args.card.now c.args.node.0 c.requires).waits

pub is_full-requires : goal.is_full-requires
is_full-requires c =
    let n = c.args.anchor.depth in
    let p = c.args.plan in
    let u = c.args.node.0 in
    let h = awaited n p u (passed c.args.anchor p c.args.card.now u c.requires).waits in
    rw c.card_depth-depth.ensures
    (subst (λ (k : ℕ). k < 2 ^ n) (sym (kept-index n p u (rw c.card_depth-depth.ensures at c.fill-filled.ensures))) h.inside)

pub returns-then-is_full : goal.returns-then-is_full
returns-then-is_full c =
    taken c.args.anchor c.args.plan c.args.card.now c.args.node.0 c.args.tag true c.requires
    (rw c.card_depth-depth.ensures at c.fill-filled.ensures) (rw c.card_depth-depth.ensures at (sym c.is_full.ensures ∙ c.if-is_full.true))
    (rw c.card_depth-depth.ensures at c.tag_offset.ensures) c.put.ensures

pub returns-else-is_full : goal.returns-else-is_full
returns-else-is_full c =
    taken c.args.anchor c.args.plan c.args.card.now c.args.node.0 c.args.tag false c.requires
    (rw c.card_depth-depth.ensures at c.fill-filled.ensures) (rw c.card_depth-depth.ensures at (sym c.is_full.ensures ∙ c.if-is_full.false))
    (rw c.card_depth-depth.ensures at c.tag_offset.ensures) c.put.ensures
