-- The puts of one plan, one after another, each with a card of its own.
use Rattle.std.specs.Prelude.{ℕ, ◌≡◌, cond}
use mathlib.Core.List.{List, [], ◌∷◌, Memᴰ}
use Rattle.tree.specs.Answer.{is_whole}
use Rattle.tree.specs.declared.Anchor.{Anchor}
use Rattle.tree.specs.Answer.{Whole}
use Rattle.plan.specs.Split.{Given, Planned, put}
use Rattle.plan.specs.declared.Plan.{Plan}

-- a put, and the card that it is given: any bytes, of any number
pub record PutStep : Type 0 where
  pub card : List ℕ
  pub node : ℕ
  pub tag : List ℕ

-- anchor and plan as last returned, and the card as the plan or the last accepted put left it
pub record Going : Type 0 where
  pub anchor : Anchor
  pub plan : Plan
  pub left : List ℕ

-- after the plan
abbrev pub begun : Planned → Going
begun o = record { anchor = o.call.anchor; plan = o.plan; left = o.call.card }

unfoldable pub after_put : Going → PutStep → Going
after_put g x =
    let o = put g.anchor g.plan x.card x.node x.tag in
    record { anchor = o.anchor; plan = o.plan; left = cond (is_whole o.answer) o.card g.left }

unfoldable pub after_all_puts : Going → List PutStep → Going
after_all_puts g [] = g
after_all_puts g (x ∷ xs) = after_all_puts (after_put g x) xs

-- it is accepted
abbrev pub Placed : Going → PutStep → Type 0
Placed g x = (put g.anchor g.plan x.card x.node x.tag).answer ≡ Whole

-- what is so of every put, with what is known before it
abbrev pub EachPut : (Going → PutStep → Type 0) → Going → List PutStep → Type 0
EachPut P g [] = Unit {0}
EachPut P g (x ∷ xs) = P g x × EachPut P (after_put g x) xs

-- accepted, it had the card as the step before left it
abbrev pub PutUntouched : Going → PutStep → Type 0
PutUntouched g x = Placed g x → x.card ≡ g.left

-- accepted, it had the tag by F of the message given for its node
abbrev pub PutRight : (List ℕ → List ℕ) → List Given → Going → PutStep → Type 0
PutRight F ms g x = Placed g x → (m : Given) → Memᴰ m ms → m.node ≡ x.node → x.tag ≡ F m.message
