-- What document 02 says of a plan and of a put, sentence by sentence, of the definitions and for every input.
use Rattle.std.specs.Prelude.{ℕ, ◌+◌, ◌*◌, ◌/◌, ◌%◌, ◌^◌, ◌<◌, ◌≡◌, length}
use mathlib.Core.List.{List, [], ◌∷◌, ◌++◌, map, Memᴰ}
use Rattle.std.proofs.Math.Option.{none, some}
use Rattle.words.specs.Bytes.{part}
use Rattle.tree.specs.Layout.{IsNode, size, label, tag}
use Rattle.tree.specs.Nodes.{path_node, pairs}
use Rattle.tree.specs.Labels.{message, labels}
use Rattle.tree.specs.Limits.{first_failing}
use Rattle.tree.specs.Answer.{refusal_number}
use Rattle.tree.specs.Calls.{write, first_limits, tagged, rooted, raise, outcome}
use Rattle.tree.specs.declared.Anchor.{Anchor}
use Rattle.tree.specs.declared.Refusal.{Refusal}
use Rattle.tree.specs.declared.Refusal.TheVariants.{NotAwaited}
use Rattle.tree.specs.Answer.{Whole, Refused}
use Rattle.plan.specs.Split.{Given, Planned, planned, joined, Put, put}
use Rattle.plan.specs.declared.Plan.{Plan}

-- each number is below those behind it
abbrev pub Rising : List ℕ → Type 0
Rising [] = Unit {0}
Rising (u ∷ us) = ((w : ℕ) → Memᴰ w us → u < w) × Rising us

-- A plan waits for the tag of u, by numbers alone: it is for a block of the card, u is a child of u_level, and u's bit is not set. The 2n
-- nodes have a bit each, from the lowest on in rising number: a child of u_level has bit 2 level, and 2 level + 1 on the right.
pub record Waits (n : ℕ) (p : Plan) (u : ℕ) : Type 0 where
  pub inside : p.index.0 < 2 ^ n
  pub level : ℕ
  pub high : level < n
  pub child : u / 2 ≡ path_node n p.index.0 level
  pub unset : p.filled / 2 ^ (2 * level + u % 2) % 2 ≡ 0

-- the nodes of messages
abbrev pub nodes_of : List Given → List ℕ
nodes_of ms = map (λ (g : Given). g.node) ms

module _ (F : List ℕ → List ℕ) (a : Anchor) (card : List ℕ) (i : ℕ) (block ranges : List ℕ) where
  -- Of an accepted plan o.
  pub record Laid (o : Planned) : Type 0 where
    -- "a plan hands back the anchor with H raised" (T-05)
    pub raised : o.call.anchor ≡ raise a
    -- "fills in serials, block and ranges": every label and the ranges are the plain write's, and no tag is new
    pub labels_new : (u : ℕ) → IsNode a.depth u
        → label a.depth o.call.card u ≡ label a.depth (outcome F a card (write i block ranges)).card u
    pub tags-kept : (u : ℕ) → IsNode a.depth u → tag a.depth o.call.card u ≡ tag a.depth card u
    pub ranges-new : o.call.lent ≡ (outcome F a card (write i block ranges)).lent
    -- "and gives the 2n messages in rising node number, the node being the place"
    pub count : length o.messages ≡ 2 * a.depth
    pub rising : Rising (nodes_of o.messages)
    -- they are for the nodes that the write tags, and each is its node's on the card that the write leaves, with the new root nonce
    pub for-pairs : (u : ℕ) → Memᴰ u (nodes_of o.messages) → Memᴰ u (pairs a.depth i)
    pub pairs-for : (u : ℕ) → Memᴰ u (pairs a.depth i) → Memᴰ u (nodes_of o.messages)
    pub right : (g : Given) → Memᴰ g o.messages
        → g.message ≡ message (labels a.depth (a.reserved.0 + a.depth) (outcome F a card (write i block ranges)).card) g.node
    -- end to end, those of level y + 1 stand from byte 34 y on, that of the left child first
    pub left-stands : (y : ℕ) → y < a.depth →
        let u = 2 * path_node a.depth i y in
        part (joined o.messages) (34 * y) (size a.depth u + 9)
        ≡ message (labels a.depth (a.reserved.0 + a.depth) (outcome F a card (write i block ranges)).card) u
    pub right-stands : (y : ℕ) → y < a.depth →
        let u = 2 * path_node a.depth i y + 1 in
        part (joined o.messages) (34 * y + (size a.depth u + 9)) (size a.depth u + 9)
        ≡ message (labels a.depth (a.reserved.0 + a.depth) (outcome F a card (write i block ranges)).card) u
    pub all-bytes : length (joined o.messages) ≡ 34 * a.depth + 112
    -- the plan has the block's number and the new root nonce, and no tag; it waits for the tag of each of them, and for no other
    pub made : o.plan ≡ record { index = record { 0 = i }; root = record { 0 = a.reserved.0 + a.depth }; filled = 0 }
    pub waits : (u : ℕ) → Memᴰ u (nodes_of o.messages) → Waits a.depth o.plan u
    pub waits-only : (u : ℕ) → Waits a.depth o.plan u → Memᴰ u (nodes_of o.messages)
    -- it counts what it checks: with the messages that the engines tag, this is what the write counts
    pub counted : (outcome F a card (write i block ranges)).counted ≡ o.call.counted ++ tagged a card (write i block ranges)

  pub record PlanRule : Type 0 where
    -- "a plan does a write's checks": it answers what the write does
    pub answered : (planned F a card i block ranges).call.answer ≡ (outcome F a card (write i block ranges)).answer
    -- no tag but those of the messages counted is made: under a tag function that agrees on these the plan is the same
    pub enough : (G : List ℕ → List ℕ) → ((m : List ℕ) → Memᴰ m (planned F a card i block ranges).call.counted → F m ≡ G m)
        → planned F a card i block ranges ≡ planned G a card i block ranges
    -- refused, it is the refused write, gives no message and waits for nothing
    pub refused : ((planned F a card i block ranges).call.answer ≡ Whole → ⊥)
        → ((planned F a card i block ranges).call ≡ outcome F a card (write i block ranges))
        × ((planned F a card i block ranges).messages ≡ [])
        × ((b : Anchor) (other : List ℕ) (u : ℕ) (x : List ℕ) → (put b (planned F a card i block ranges).plan other u x).answer ≡ Whole → ⊥)
    pub accepted : (planned F a card i block ranges).call.answer ≡ Whole → Laid (planned F a card i block ranges)

module _ (a : Anchor) (p : Plan) (card : List ℕ) (u : ℕ) (x : List ℕ) where
  -- Of an accepted put o.
  pub record Taken (o : Put) : Type 0 where
    -- the plan waited for it
    pub waited : Waits a.depth p u
    -- "each put on the card in its own step": the tag stands at its node, and nothing else of the card is new
    pub tag-new : length x ≡ 16 → tag a.depth o.card u ≡ x
    pub tags-kept : length x ≡ 16 → (w : ℕ) → IsNode a.depth w → (w ≡ u → ⊥) → tag a.depth o.card w ≡ tag a.depth card w
    pub labels-kept : length x ≡ 16 → (w : ℕ) → IsNode a.depth w → label a.depth o.card w ≡ label a.depth card w
    -- its place alone is filled: the plan waits no more for this tag, and for the others as before
    pub once : Waits a.depth o.plan u → ⊥
    pub others-waited : (w : ℕ) → Waits a.depth p w → (w ≡ u → ⊥) → Waits a.depth o.plan w
    pub others-not : (w : ℕ) → Waits a.depth o.plan w → Waits a.depth p w
    -- the plan stays one for its block and root nonce, and of its bits u's alone is new
    pub same-plan : (o.plan.index ≡ p.index) × (o.plan.root ≡ p.root)
    pub noted : o.plan.filled ≡ p.filled + 2 ^ (2 * waited.level + u % 2)
    -- "and the last brings the new anchor": where the plan waits for no tag more; every other hands back the anchor as it was
    pub last : ((w : ℕ) → Waits a.depth o.plan w → ⊥) → o.anchor ≡ rooted a p.root.0
    pub not_last : (w : ℕ) → Waits a.depth o.plan w → o.anchor ≡ a

  pub record PutRule : Type 0 where
    -- 1, 2 and 3 are tested first, and then 9, "a mark for a place that isn't in the plan or is already filled"
    pub limited : (r : Refusal) → first_failing (first_limits a (length card)) ≡ some r → (put a p card u x).answer ≡ Refused r
    pub nine : first_failing (first_limits a (length card)) ≡ none → (Waits a.depth p u → ⊥) → (put a p card u x).answer ≡ Refused NotAwaited
    pub taken : first_failing (first_limits a (length card)) ≡ none → Waits a.depth p u → (put a p card u x).answer ≡ Whole
    -- whose number is 9
    pub nine-number : refusal_number NotAwaited ≡ 9
    -- "nothing changes"
    pub refused : ((put a p card u x).answer ≡ Whole → ⊥)
        → ((put a p card u x).anchor ≡ a) × ((put a p card u x).plan ≡ p) × ((put a p card u x).card ≡ card)
    -- the reserved nonce stays, whatever the plan says
    pub reserves-nothing : (put a p card u x).anchor.reserved ≡ a.reserved
    pub accepted : (put a p card u x).answer ≡ Whole → Taken (put a p card u x)
