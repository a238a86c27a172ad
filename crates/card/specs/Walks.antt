-- What a walk over nodes of a card finds, and an iterator that gives them.
use Rattle.std.specs.Prelude.{ℕ, ◌^◌, ◌≡◌, ◌<◌, List, length, Option, Result}
use Rattle.std.specs.Iterator.{AlwaysYields}
use Rattle.std.proofs.Math.Option.{none}
use mathlib.Core.List.{Memᴰ}
use Rattle.cmac.specs.Context.{tag_by, count_by}
use Rattle.cmac.specs.declared.Context.{Context}
use Rattle.cmac.specs.declared.counted.Counted.{Counted}
use Rattle.tree.specs.declared.Node.{Node}
use Rattle.tree.specs.declared.Error.{Error}
use Rattle.tree.specs.Layout.{IsNode}
use Rattle.tree.specs.Card.{first_wrong, checked}
use Rattle.tree.specs.Calls.{verdict, total}
use Rattle.tree.specs.Answer.{answer_in}
use Rattle.card.specs.declared.view.CardView.{CardView}

-- the first node of the list whose tag is wrong, or none, and how often the cipher is called until it is found
pub record Walks (context : Context) (card : CardView) (us : List ℕ) (found : Counted (Result Unit Error)) : Type 0 where
  pub value :
      answer_in found.value ≡ verdict none (first_wrong (tag_by context) card.depth.levels card.root.0 card.bytes.now us)
  pub count :
      found.count ≡ total (count_by context) (checked (tag_by context) card.depth.levels card.root.0 card.bytes.now us)

-- the steps of an iterator from s give these nodes of a card of depth n and then no more, and so few that their calls can be counted
pub record GivesNodes {S : Type 0} (steps : S → Option Node → S → Type 0) (n : ℕ) (s : S) (us : List ℕ) : Type 0 where
  pub yields : AlwaysYields steps (λ u. u.0) s us
  pub nodes : (u : ℕ) → Memᴰ u us → IsNode n u
  pub few : length us < 2 ^ 32
