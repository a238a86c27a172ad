-- The claim is not empty: short histories, computed from the definitions with a checksum for the tag.
use mathlib.Core.Path.{◌≡◌, refl}
use mathlib.Core.List.{List, [], ◌∷◌}
use Prim.Native.Nat.{ℕ, ◌+◌, ◌*◌, ◌%◌}
use lib.ListN.{replicate}
use lib.Seq.{sets}
use Rattle.words.specs.Bytes.{part, same}
use Rattle.tree.specs.Numbers.{be}
use Rattle.tree.specs.Layout.{size, offset, card_length, label, tag}
use Rattle.tree.specs.Nodes.{up_to, path_node, sibling, path, pairs, pairs_but_leaf, all_nodes}
use Rattle.tree.specs.Labels.{form, labels, blank_labels, raised, new_labels}
use Rattle.tree.specs.Card.{put_each, laid, stamped, blanked, written, first_wrong}
use Rattle.tree.specs.Ranges.{ranges_to, encode}
use Rattle.tree.specs.Limits.{first_failing}
use Rattle.tree.specs.Calls.{Call, read, write, check, wipe, limits, checks, format_answer, answer_of, outcome, format}
use Rattle.tree.specs.declared.Anchor.{Anchor}
use Rattle.tree.specs.Answer.{Answer}
use Rattle.tree.specs.declared.Refusal.TheVariants.{CardLength, NotAwaited}
use Rattle.tree.specs.Answer.{Whole, Wrong, Refused}
use Rattle.replay.specs.Array.{zeroed, block_at, moved}
use Rattle.plan.specs.Places.{plan_nodes, member, every, place_in, awaits, fill, full}
use Rattle.plan.specs.Split.{planned, put_answer, put}
use Rattle.plan.specs.Puts.{PutStep, Going, begun, after_put, after_all_puts}
use Rattle.plan.specs.Orders.{message_for, in_turn, returned}
use Rattle.replay.specs.Run.{call, split, State, start, next}

-- sixteen times a checksum
abbrev pub sum : List ℕ → ℕ
sum [] = 0
sum (x ∷ xs) = (x + 3 * sum xs + 1) % 256

abbrev pub checksum : List ℕ → List ℕ
checksum m = replicate 16 (sum m)

abbrev pub new_block : List ℕ
new_block = replicate 64 7

abbrev pub zero_block : List ℕ
zero_block = replicate 64 0

-- the card with the entry of node u as it was on an older one
abbrev older : ℕ → List ℕ → List ℕ → ℕ → List ℕ
older n old card u = sets card (offset n u) (part old (offset n u) (size n u + 16))

abbrev pub answer : Anchor → List ℕ → Call → Answer
answer a card c = (outcome checksum a card c).answer

pub record History : Type 0 where
  pub answers : List Answer
  pub given : List ℕ

-- The call c on the card as last left, and what follows it: a read of block i, which gives its bytes, and a check; the same two on the card
-- of before c; and the same two on a card on which two nodes, u and w, are as they were before c.
abbrev around : ℕ → State → Call → ℕ → ℕ → ℕ → History
around n s c i u w =
    let old = s.store.left in
    let t = next checksum s (call old c) in
    let new = t.store.left in
    let mixed = older n old (older n old new u) w in
    let reading = read i (replicate 64 0) in
    let a = t.store.anchor in
    record {
      answers =
          answer s.store.anchor old c
          ∷ answer a new reading ∷ answer a new check
          ∷ answer a old reading ∷ answer a old check
          ∷ answer a mixed reading ∷ answer a mixed check ∷ [];
      given = (outcome checksum a new reading).lent;
    }

abbrev pub formatted : ℕ → State
formatted n = start checksum (replicate 16 0) n (replicate (card_length n) 0)

abbrev pub writing : ℕ → ℕ → Call
writing n i = write i new_block (replicate (16 * n) 0)

-- A card of depth n is formatted, and block i is written on it;
abbrev pub history : ℕ → ℕ → ℕ → ℕ → History
history n i u w = around n (formatted n) (writing n i) i u w

-- or formatted, written and then wiped.
abbrev pub wiped_history : ℕ → ℕ → ℕ → ℕ → History
wiped_history n i u w =
    let s = formatted n in
    around n (next checksum s (call s.store.left (writing n i))) wipe i u w

-- the call and those on its card are accepted, and the others name these nodes
abbrev pub refused_at : List ℕ → ℕ → ℕ → ℕ → ℕ → History
refused_at block old_read old_check mixed_read mixed_check =
    record {
      answers =
          Whole ∷ Whole ∷ Whole
          ∷ Wrong (record { 0 = old_read }) ∷ Wrong (record { 0 = old_check })
          ∷ Wrong (record { 0 = mixed_read }) ∷ Wrong (record { 0 = mixed_check }) ∷ [];
      given = block;
    }

-- At depth 1 both leaves are old. At depths 2 and 3 the leaf and its parent are old, and right for each other.
pub computed : (history 1 0 2 3 ≡ refused_at new_block 2 2 2 2)
    × (history 2 2 3 6 ≡ refused_at new_block 3 2 3 3)
    × (history 3 5 6 13 ≡ refused_at new_block 3 2 6 6)
unfolding start next moved format format_answer zeroed limits first_failing checks outcome answer_of first_wrong blanked written stamped
    put_each labels blank_labels new_labels raised all_nodes up_to path_node sibling path pairs pairs_but_leaf be size offset label tag form
    same ranges_to encode
computed = (refl, refl, refl)

-- After a wipe the block is zero, and neither the card of before nor two nodes of it are accepted.
pub wipe-computed : (wiped_history 1 0 2 3 ≡ refused_at zero_block 2 2 2 2)
    × (wiped_history 2 2 3 6 ≡ refused_at zero_block 3 2 3 3)
    × (wiped_history 3 5 6 13 ≡ refused_at zero_block 3 2 6 6)
unfolding start next moved format format_answer zeroed limits first_failing checks outcome answer_of first_wrong blanked written stamped
    put_each labels blank_labels new_labels raised all_nodes up_to path_node sibling path pairs pairs_but_leaf be size offset label tag form
    same ranges_to encode
wipe-computed = (refl, refl, refl)

-- Around the untouched half, at depth 2: a write of block 0 on a card on which block 3 was altered, which it does not check.
abbrev altered : List ℕ
altered = sets (formatted 2).store.left (offset 2 7) (1 ∷ [])

abbrev spoiled : State
spoiled = next checksum (formatted 2) (call altered (writing 2 0))

-- It is accepted, and a check of the card that it left names node 7.
pub touched-computed : (answer (formatted 2).store.anchor altered (writing 2 0) ≡ Whole)
    × (answer spoiled.store.anchor spoiled.store.left check ≡ Wrong (record { 0 = 7 }))
unfolding start next moved format format_answer zeroed limits first_failing checks outcome answer_of first_wrong blanked written stamped
    put_each labels blank_labels new_labels raised all_nodes up_to path_node sibling path pairs pairs_but_leaf be size offset label tag form
    same ranges_to encode
touched-computed = (refl, refl)

-- A wipe that is refused leaves it so,
pub refused-computed : let s = next checksum spoiled (call (0 ∷ []) wipe) in
    (answer spoiled.store.anchor (0 ∷ []) wipe ≡ Refused CardLength)
    × (answer s.store.anchor s.store.left check ≡ Wrong (record { 0 = 7 }))
unfolding start next moved format format_answer zeroed limits first_failing checks outcome answer_of first_wrong blanked written stamped
    put_each labels blank_labels new_labels raised all_nodes up_to path_node sibling path pairs pairs_but_leaf be size offset label tag form
    same ranges_to encode
refused-computed = (refl, refl)

-- and one that is accepted mends it.
pub mended-computed : let s = next checksum spoiled (call spoiled.store.left wipe) in
    answer s.store.anchor s.store.left check ≡ Whole
unfolding start next moved format format_answer zeroed limits first_failing checks outcome answer_of first_wrong blanked written stamped
    put_each labels blank_labels new_labels raised all_nodes up_to path_node sibling path pairs pairs_but_leaf be size offset label tag form
    same ranges_to encode
mended-computed = refl

-- A split write, at depth 2: block 2 is planned, and the tags of nodes 6, 3, 2 and 7 come back in this order, the first of them twice.

abbrev order : List ℕ
order = 6 ∷ 3 ∷ 2 ∷ 7 ∷ []

abbrev tags_back : List PutStep
tags_back =
    let s = (formatted 2).store in
    returned checksum s.anchor s.left 2 new_block (replicate 32 0) order

-- the put of a tag again, on the card as the first put left it
abbrev twice : List PutStep → List PutStep
twice [] = []
twice (x ∷ xs) =
    let s = (formatted 2).store in
    let g = begun (planned checksum s.anchor s.left 2 new_block (replicate 32 0)) in
    x ∷ record { card = (after_put g x).left; node = x.node; tag = x.tag } ∷ xs

abbrev together : State
together = next checksum (formatted 2) (split (formatted 2).store.left 2 new_block (replicate 32 0) (twice tags_back))

-- what each of some puts answers, and the anchor's nonces and the filled places after it
pub record Seen : Type 0 where
  pub answer : Answer
  pub root : ℕ
  pub reserved : ℕ
  pub filled : ℕ

abbrev seen : Going → List PutStep → List Seen
seen g [] = []
seen g (x ∷ xs) =
    let h = after_put g x in
    record {
      answer = (put g.anchor g.plan x.card x.node x.tag).answer;
      root = h.anchor.root.0;
      reserved = h.anchor.reserved.0;
      filled = h.plan.filled;
    } ∷ seen h xs

-- It leaves what the plain write does, the second put of node 6 is refused with 9, and the last put alone brings the new root nonce, which
-- the plan reserved. Nodes 2, 3, 6 and 7 have the bits 1, 2, 4 and 8.
pub split-computed : let s = (formatted 2).store in
    let o = planned checksum s.anchor s.left 2 new_block (replicate 32 0) in
    let g = begun o in
    (together.store ≡ (next checksum (formatted 2) (call s.left (writing 2 2))).store)
    × (o.call.answer ≡ Whole)
    × (seen g (twice tags_back)
    ≡ record { answer = Whole; root = 0; reserved = 2; filled = 4 }
    ∷ record { answer = Refused NotAwaited; root = 0; reserved = 2; filled = 4 }
    ∷ record { answer = Whole; root = 0; reserved = 2; filled = 6 } ∷ record { answer = Whole; root = 0; reserved = 2; filled = 7 }
    ∷ record { answer = Whole; root = 2; reserved = 2; filled = 15 } ∷ [])
unfolding start next moved format format_answer zeroed limits first_failing checks outcome answer_of first_wrong blanked written stamped
    put_each labels blank_labels new_labels raised all_nodes up_to path_node sibling path pairs pairs_but_leaf be size offset label tag form
    same ranges_to encode planned put put_answer plan_nodes member every place_in awaits fill full laid after_put after_all_puts message_for
    in_turn
split-computed = (refl, refl, refl)

-- The same where somebody altered block 1 between the first put and the second: every put is accepted, and the array has moved once, but a
-- check of the card after the last put names node 5.
abbrev meddled : State
meddled =
    let s = (formatted 2).store in
    let o = planned checksum s.anchor s.left 2 new_block (replicate 32 0) in
    let made : ℕ → List ℕ = λ u. checksum (message_for u o.messages) in
    let g = begun o in
    let x : PutStep = record { card = g.left; node = 6; tag = made 6 } in
    let h = after_put g x in
    let y : PutStep = record { card = sets h.left (offset 2 5) (1 ∷ []); node = 3; tag = made 3 } in
    next checksum (formatted 2)
    (split s.left 2 new_block (replicate 32 0) (x ∷ y ∷ in_turn (after_put h y) made (2 ∷ 7 ∷ [])))

pub meddled-computed : (meddled.store.anchor.root.0 ≡ 2) × (block_at meddled.store.array 2 ≡ new_block)
    × (answer meddled.store.anchor meddled.store.left check ≡ Wrong (record { 0 = 5 }))
unfolding start next moved format format_answer zeroed limits first_failing checks outcome answer_of first_wrong blanked written stamped
    put_each labels blank_labels new_labels raised all_nodes up_to path_node sibling path pairs pairs_but_leaf be size offset label tag form
    same ranges_to encode planned put put_answer plan_nodes member every place_in awaits fill full laid after_put after_all_puts message_for
    in_turn
meddled-computed = (refl, refl, refl)
