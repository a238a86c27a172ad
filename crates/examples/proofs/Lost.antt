-- What is lost, computed in the same way: a plan left unfinished, an attempt cut at each of its places, and the recovery behind it. All at
-- depth 2, after a write of block 2, so that T = H = 2 before it; block 0 is written then, in bytes of its own.
use mathlib.Core.Path.{◌≡◌, refl}
use mathlib.Core.List.{List, [], ◌∷◌, ◌++◌}
use Prim.Native.Nat.{ℕ, ◌+◌}
use lib.ListN.{length, take, replicate}
use lib.Seq.{sets}
use Rattle.words.specs.Bytes.{same}
use Rattle.tree.specs.Numbers.{be, be8}
use Rattle.tree.specs.Layout.{size, offset, label, tag}
use Rattle.tree.specs.Nodes.{up_to, path_node, sibling, path, pairs, pairs_but_leaf, all_nodes}
use Rattle.tree.specs.Labels.{form, labels, blank_labels, raised, new_labels}
use Rattle.tree.specs.Card.{put_each, laid, stamped, blanked, written, first_wrong}
use Rattle.tree.specs.Ranges.{ranges_to, encode}
use Rattle.tree.specs.Limits.{first_failing}
use Rattle.tree.specs.Calls.{read, write, check, limits, checks, format_answer, answer_of, Outcome, outcome, format}
use Rattle.tree.specs.declared.Anchor.{Anchor}
use Rattle.tree.specs.Answer.{Answer}
use Rattle.tree.specs.Answer.{Whole, Wrong}
use Rattle.plan.specs.Places.{plan_nodes, member, every, place_in, awaits, fill, full}
use Rattle.plan.specs.Split.{planned, put_answer, put}
use Rattle.plan.specs.Puts.{after_put, after_all_puts}
use Rattle.plan.specs.Orders.{message_for, in_turn, returned}
use Rattle.journal.specs.Journal.{gathered, scattered, journal_message, block_from}
use Rattle.journal.specs.Journalled.{Journalled, journalled_answer, journalled}
use Rattle.journal.specs.Recovery.{recovery_answer, mended, recovered}
use Rattle.replay.specs.Array.{zeroed, block_at, moved}
use Rattle.replay.specs.Run.{Fate, unheard, lost, stood, Step, call, split, attempt, State, start, next}
use Rattle.examples.proofs.Histories.{checksum, new_block, zero_block, answer, formatted, writing}

abbrev other_block : List ℕ
other_block = replicate 64 9

abbrev room : List ℕ
room = replicate 32 0

-- block 2 is written
abbrev before : State
before = next checksum (formatted 2) (call (formatted 2).store.left (writing 2 2))

-- T and H, blocks 0 and 2 of the array, and the answers of a check and of reads of blocks 0 and 2 on the card as last left
pub record Stand : Type 0 where
  pub root : ℕ
  pub reserved : ℕ
  pub first : List ℕ
  pub second : List ℕ
  pub answers : List Answer

abbrev stand : State → Stand
stand s =
    let a = s.store.anchor in
    let asked : ℕ → Answer = λ i. answer a s.store.left (read i zero_block) in
    record {
      root = a.root.0;
      reserved = a.reserved.0;
      first = block_at s.store.array 0;
      second = block_at s.store.array 2;
      answers = answer a s.store.left check ∷ asked 0 ∷ asked 2 ∷ [];
    }

-- every one of them accepted
abbrev stands_at : ℕ → ℕ → List ℕ → Stand
stands_at t h first =
    record { root = t; reserved = h; first = first; second = new_block; answers = Whole ∷ Whole ∷ Whole ∷ [] }

-- block 0 is written on the card as last left
abbrev then : State → State
then s = next checksum s (call s.store.left (write 0 other_block room))

-- the nonce of node 2 on the card as last left
abbrev nonce_of : State → List ℕ
nonce_of s = label 2 s.store.left 2

-- A plan for block 0 of which two tags came back, those of nodes 2 and 3, and no more.
abbrev planning : Step
planning =
    let s = before.store in
    split s.left 0 other_block room (returned checksum s.anchor s.left 0 other_block room (2 ∷ 3 ∷ []))

-- the card that the finished plan would have left
abbrev lost_card : List ℕ
lost_card = (then before).store.left

-- It raises H and moves nothing, and the old card is read. The next write starts at H: nodes 1 and 2 get 6 and 5, where the plan had 4 and
-- 3. The card that the plan would have left is refused under the one anchor and the other.
pub unfinished-computed :
    let s = next checksum before planning in
    (stand s ≡ stands_at 2 4 zero_block) × (s.store.left ≡ before.store.left)
    × (stand (then s) ≡ stands_at 6 6 other_block)
    × (nonce_of (then before) ≡ be8 3) × (nonce_of (then s) ≡ be8 5)
    × (answer s.store.anchor lost_card check ≡ Wrong (record { 0 = 2 }))
    × (answer (then s).store.anchor lost_card check ≡ Wrong (record { 0 = 2 }))
unfolding start next moved format format_answer zeroed limits first_failing checks outcome answer_of first_wrong blanked written stamped
    put_each labels blank_labels new_labels raised all_nodes up_to path_node sibling path pairs pairs_but_leaf be size offset label tag form
    same ranges_to encode planned put put_answer plan_nodes member every place_in awaits fill full laid after_put after_all_puts message_for
    in_turn
unfinished-computed = (refl, refl, refl, refl, refl, refl, refl)

-- An attempt to write block 0, and how far it came.
abbrev trying : Fate → Step
trying f = attempt before.store.left 0 other_block room (replicate 192 0) f

abbrev behind : Fate → State
behind f = next checksum before (trying f)

-- Unheard it is nothing. Lost it raises H, and tags the messages of nodes 2 to 5 and its journal's: five more, and the card of before is
-- read. Stood it is the write, with these messages.
pub fates-computed :
    (stand (behind unheard) ≡ stands_at 2 2 zero_block) × (behind unheard ≡ before)
    × (stand (behind lost) ≡ stands_at 2 4 zero_block) × ((behind lost).store.left ≡ before.store.left)
    × (length (behind lost).tagged ≡ length before.tagged + 5)
    × ((behind stood).store ≡ (then before).store) × ((behind stood).tagged ≡ (behind lost).tagged)
unfolding start next moved format format_answer zeroed limits first_failing checks outcome answer_of first_wrong blanked written stamped
    put_each labels blank_labels new_labels raised all_nodes up_to path_node sibling path pairs pairs_but_leaf be size offset label tag form
    same ranges_to encode gathered journal_message journalled_answer journalled
fates-computed = (refl, refl, refl, refl, refl, refl, refl)

-- Behind a lost one the next write starts at H, and neither anchor has the lost one's card.
pub lost-computed :
    (stand (then (behind lost)) ≡ stands_at 6 6 other_block) × (nonce_of (then (behind lost)) ≡ be8 5)
    × (answer (behind lost).store.anchor lost_card check ≡ Wrong (record { 0 = 2 }))
    × (answer (then (behind lost)).store.anchor lost_card check ≡ Wrong (record { 0 = 2 }))
unfolding start next moved format format_answer zeroed limits first_failing checks outcome answer_of first_wrong blanked written stamped
    put_each labels blank_labels new_labels raised all_nodes up_to path_node sibling path pairs pairs_but_leaf be size offset label tag form
    same ranges_to encode gathered journal_message journalled_answer journalled
lost-computed = (refl, refl, refl, refl)

-- The card of an attempt that was cut in its first range: node 2 has its new nonce and junk for a tag. Recovery makes the new card of it
-- under the anchor with the new T, and under the raised one leaves it as it is.
abbrev tried : Journalled
tried = journalled checksum before.store.anchor before.store.left 0 other_block room (replicate 192 0)

abbrev torn : List ℕ
torn = sets before.store.left (offset 2 2) (take 8 (label 2 tried.call.card 2) ++ replicate 16 77)

abbrev recovering : Anchor → Outcome
recovering a = recovered checksum a torn tried.journal

pub recovery-computed :
    ((recovering tried.call.anchor).answer ≡ Whole) × ((recovering tried.call.anchor).card ≡ tried.call.card)
    × ((recovering tried.raised).answer ≡ Whole) × ((recovering tried.raised).card ≡ torn)
    × (answer tried.call.anchor torn check ≡ Wrong (record { 0 = 2 }))
unfolding start next moved format format_answer zeroed limits first_failing checks outcome answer_of first_wrong blanked written stamped
    put_each labels blank_labels new_labels raised all_nodes up_to path_node sibling path pairs pairs_but_leaf be size offset label tag form
    same ranges_to encode gathered scattered journal_message block_from journalled_answer journalled recovery_answer mended recovered
recovery-computed = (refl, refl, refl, refl, refl)
