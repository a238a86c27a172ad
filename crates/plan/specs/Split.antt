-- What a plan and a put do, on every input.
use Rattle.std.specs.Prelude.{ℕ, ◌+◌, ◌≡◌, not, cond, List, [], ◌∷◌, ◌++◌, map, length, drop}
use Rattle.std.proofs.Math.Option.{none}
use Rattle.std.proofs.lemmas.List.Edits.{sets}
use Rattle.tree.specs.Layout.{size, offset}
use Rattle.tree.specs.Nodes.{path}
use Rattle.tree.specs.Labels.{Labels, message, written_labels}
use Rattle.tree.specs.Card.{laid}
use Rattle.tree.specs.Ranges.{listed}
use Rattle.tree.specs.Limits.{Limit, first_failing}
use Rattle.tree.specs.Calls.{write, first_limits, verdict, Outcome, Reports, rooted, raise, answer_of, checked_by, settled}
use Rattle.tree.specs.declared.Anchor.{Anchor}
use Rattle.tree.specs.Answer.{Answer}
use Rattle.tree.specs.Answer.{Whole, Wrong, Refused}
use Rattle.tree.specs.declared.Refusal.TheVariants.{NotAwaited}
use Rattle.plan.specs.Places.{plan_nodes, awaits, fill, full}
use Rattle.plan.specs.declared.Plan.{Plan}

-- The plan

-- a message, known by the node that its tag is for (document 02: its place)
pub record Given : Type 0 where
  pub node : ℕ
  pub message : List ℕ

abbrev pub given : Labels → ℕ → Given
given L u = record { node = u; message = message L u }

-- what a plan answers and leaves, like a call; the plan itself; and the messages whose tags it waits for
pub record Planned : Type 0 where
  pub call : Outcome
  pub plan : Plan
  pub messages : List Given

-- what stands for the plan of a refused one: no card has its block, so that it waits for nothing
abbrev pub no_plan : Plan
no_plan = record { index = record { 0 = 65536 }; root = record { 0 = 0 }; filled = 0 }

module _ (F : List ℕ → List ℕ) where
  -- Accepted, it leaves the write's card without its tags: the path has the labels of the write, and the range buffer its ranges. The
  -- anchor has the write's nonces reserved and the old root nonce, and the messages counted are those checked: others make the tags.
  abbrev pub plan_done : Anchor → List ℕ → ℕ → List ℕ → List ℕ → Planned
  plan_done a card i block ranges =
      let n = a.depth in
      let L = written_labels n a.root.0 a.reserved.0 card i block in
      record {
        call = record {
          answer = Whole;
          anchor = raise a;
          card = laid n L (path n i) card;
          lent = listed n i ranges;
          counted = checked_by F a card (write i block ranges);
        };
        plan = record { index = record { 0 = i }; root = (raise a).reserved; filled = 0 };
        messages = map (given L) (plan_nodes n i);
      }

  -- refused, it is the refused write
  abbrev pub plan_refused : Answer → Anchor → List ℕ → ℕ → List ℕ → List ℕ → Planned
  plan_refused o a card i block ranges = record { call = settled F o a card (write i block ranges); plan = no_plan; messages = [] }

  abbrev pub plan_settled : Answer → Anchor → List ℕ → ℕ → List ℕ → List ℕ → Planned
  plan_settled Whole a card i block ranges = plan_done a card i block ranges
  plan_settled (Wrong u) a card i block ranges = plan_refused (Wrong u) a card i block ranges
  plan_settled (Refused r) a card i block ranges = plan_refused (Refused r) a card i block ranges

  -- limits and checks are the write's
  unfoldable pub planned : Anchor → List ℕ → ℕ → List ℕ → List ℕ → Planned
  planned a card i block ranges = plan_settled (answer_of F a card (write i block ranges)) a card i block ranges

-- the messages, end to end
unfoldable pub joined : List Given → List ℕ
joined [] = []
joined (m ∷ ms) = m.message ++ joined ms

-- how many bytes hold the messages of every depth: 34 n + 112 for n = 16
abbrev pub message_room : ℕ
message_room = 656

-- That a plan was reported and handed out so, its messages from the first byte of a buffer on. Its contract is this record.
pub record Plans (subkeys : ℕ) (each : List ℕ → ℕ) (o : Planned) (buffer : List ℕ) (answer : Answer) (count : ℕ) (anchor : Anchor)
    (plan : Plan) (card lent messages : List ℕ) : Type 0 where
  pub reports : Reports subkeys each o.call answer count anchor card lent
  pub planned : plan ≡ o.plan
  pub gave : messages ≡ joined o.messages ++ drop (length (joined o.messages)) buffer

-- The put

-- 9: the plan does not wait for u's tag
abbrev pub place_limit : ℕ → Plan → ℕ → Limit
place_limit n p u = record { fails = not (awaits n p u); refusal = NotAwaited }

-- 1, 2 and 3, and then 9
abbrev pub put_limits : Anchor → Plan → List ℕ → ℕ → List Limit
put_limits a p card u = first_limits a (length card) ++ (place_limit a.depth p u ∷ [])

-- a put checks no tag
unfoldable pub put_answer : Anchor → Plan → List ℕ → ℕ → Answer
put_answer a p card u = verdict (first_failing (put_limits a p card u)) none

pub record Put : Type 0 where
  pub answer : Answer
  pub anchor : Anchor
  pub plan : Plan
  pub card : List ℕ

-- the tag x stands at node u; the last put hands out the new anchor, every other the old one
abbrev pub put_done : Anchor → Plan → List ℕ → ℕ → List ℕ → Put
put_done a p card u x =
    let n = a.depth in
    let q = fill n p u in
    record {
      answer = Whole;
      anchor = cond (full n q) (rooted a p.root.0) a;
      plan = q;
      card = sets card (offset n u + size n u) x;
    }

abbrev pub put_settled : Answer → Anchor → Plan → List ℕ → ℕ → List ℕ → Put
put_settled Whole a p card u x = put_done a p card u x
put_settled (Wrong w) a p card u x = record { answer = Wrong w; anchor = a; plan = p; card = card }
put_settled (Refused r) a p card u x = record { answer = Refused r; anchor = a; plan = p; card = card }

unfoldable pub put : Anchor → Plan → List ℕ → ℕ → List ℕ → Put
put a p card u x = put_settled (put_answer a p card u) a p card u x

-- That a put answered and left everything so. Its contract is this record.
pub record Puts (o : Put) (answer : Answer) (anchor : Anchor) (plan : Plan) (card : List ℕ) : Type 0 where
  pub answered : answer ≡ o.answer
  pub anchored : anchor ≡ o.anchor
  pub planned : plan ≡ o.plan
  pub left : card ≡ o.card
