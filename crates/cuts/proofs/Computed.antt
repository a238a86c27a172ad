-- A lawful list with a cut at each of the four steps and in a recovery, computed at depth 1 with a checksum for the tag.
use mathlib.Core.Path.{◌≡◌, refl}
use mathlib.Core.List.{List, [], ◌∷◌, ◌++◌}
use Prim.Native.Nat.{ℕ, ◌+◌, ◌*◌, ◌%◌}
use lib.ListN.{replicate}
use Rattle.words.specs.Bytes.{same}
use Rattle.tree.specs.Numbers.{be}
use Rattle.tree.specs.Layout.{size, offset, label, tag}
use Rattle.tree.specs.Nodes.{up_to, path_node, sibling, path, pairs, pairs_but_leaf, all_nodes}
use Rattle.tree.specs.Labels.{form, labels, blank_labels, raised, new_labels}
use Rattle.tree.specs.Card.{put_each, laid, stamped, blanked, written, first_wrong}
use Rattle.tree.specs.Ranges.{ranges_to, encode}
use Rattle.tree.specs.Limits.{first_failing}
use Rattle.tree.specs.Answer.{Answer, Whole, Wrong}
use Rattle.tree.specs.Calls.{write, check, wipe, raise, renew, limits, checks, format_answer, answer_of, outcome, format}
use Rattle.journal.specs.Journal.{gathered, scattered, journal_message, block_from}
use Rattle.journal.specs.Journalled.{journalled_answer, journalled}
use Rattle.journal.specs.Recovery.{recovery_answer, mended, recovered}
use Rattle.plan.specs.Places.{plan_nodes, member, every, place_in, awaits, fill, full}
use Rattle.plan.specs.Split.{planned, put_answer, put}
use Rattle.plan.specs.Puts.{after_put, after_all_puts}
use Rattle.plan.specs.Orders.{message_for, in_turn, returned}
use Rattle.replay.specs.Array.{Array, zeroed, moved}
use Rattle.replay.specs.Run.{start, next, after}
use Rattle.cuts.specs.Media.{Media}
use Rattle.cuts.specs.World.{whole, cut, Item, attempting, recovering, calling, splitting, World, media_after, next_world, world_after}
use Rattle.cuts.specs.World.{begins}
use Rattle.cuts.specs.NotEmpty.{new_journal, pending_ranges}

-- sixteen times a checksum
abbrev pub sum : List ℕ → ℕ
sum [] = 0
sum (x ∷ xs) = (x + 3 * sum xs + 1) % 256

abbrev pub checksum : List ℕ → List ℕ
checksum m = replicate 16 (sum m)

abbrev pub A : List ℕ
A = replicate 64 5

abbrev pub B : List ℕ
B = replicate 64 6

abbrev pub Z : List ℕ
Z = replicate 64 0

abbrev pub R : List ℕ
R = replicate 16 0

-- after a format, with zeros as the journal
abbrev pub w₀ : World
w₀ = begins checksum (replicate 16 0) 1 (replicate 160 0) (replicate 136 0)

abbrev pub at : List Item → Media
at xs = (world_after checksum w₀ xs).media

-- what a world shows: both nonces, what a check of the card answers, the card's blocks and the array's
pub record Seen : Type 0 where
  pub root : ℕ
  pub reserved : ℕ
  pub answer : Answer
  pub first : List ℕ
  pub second : List ℕ
  pub array : Array

abbrev pub seen : World → Seen
seen w =
    let m = w.media in
    record {
      root = m.anchor.root.0;
      reserved = m.anchor.reserved.0;
      answer = (outcome checksum m.anchor m.card check).answer;
      first = label 1 m.card 2;
      second = label 1 m.card 3;
      array = w.known.store.array;
    }

-- nothing is amiss: a check is accepted, and card and array have these blocks
abbrev pub fine : ℕ → ℕ → List ℕ → List ℕ → Seen
fine t h x y = record { root = t; reserved = h; answer = Whole; first = x; second = y; array = x ∷ y ∷ [] }

-- both nonces are 3 and the array has A, but the card has something else, which a check refuses
abbrev pub half : List ℕ → Seen
half x = record { root = 3; reserved = 3; answer = Wrong (record { 0 = 2 }); first = x; second = Z; array = A ∷ Z ∷ [] }

-- The power goes before H is raised, and a recovery follows.
abbrev pub l₁ : List Item
l₁ = attempting 0 A R (cut (at [])) ∷ []

abbrev pub l₂ : List Item
l₂ = l₁ ++ (recovering whole ∷ [])

-- It goes within the journal, which is junk then.
abbrev pub l₃ : List Item
l₃ =
    let m = at l₂ in
    l₂ ++ (attempting 0 A R (cut (record { anchor = raise m.anchor; journal = replicate 136 77; card = m.card })) ∷ [])

abbrev pub l₄ : List Item
l₄ = l₃ ++ (recovering whole ∷ [])

-- The journal is out, and the new T is not.
abbrev pub l₅ : List Item
l₅ =
    let m = at l₄ in
    l₄ ++ (attempting 1 B R (cut (record { anchor = raise m.anchor; journal = new_journal checksum m 1 B; card = m.card })) ∷ [])

abbrev pub l₆ : List Item
l₆ = l₅ ++ (recovering whole ∷ [])

-- The new T is out, and no byte in the ranges is.
abbrev pub l₇ : List Item
l₇ =
    let m = at l₆ in
    l₆ ++ (attempting 0 A R (cut (record { anchor = renew m.anchor; journal = new_journal checksum m 0 A; card = m.card })) ∷ [])

-- Then the recovery is cut, with junk in its ranges, and another one finishes.
abbrev pub l₈ : List Item
l₈ =
    let m = at l₇ in
    l₇ ++ (recovering (cut (record {
      anchor = m.anchor;
      journal = m.journal;
      card = scattered (pending_ranges checksum m) (replicate 96 77) m.card;
    })) ∷ [])

abbrev pub l₉ : List Item
l₉ = l₈ ++ (recovering whole ∷ [])

-- A write, a split write and a wipe, each with a recovery behind it: the journal is an old one.
abbrev pub l₁₀ : List Item
l₁₀ = (l₉ ++ (calling (write 1 B R) ∷ [])) ++ (recovering whole ∷ [])

abbrev pub l₁₁ : List Item
l₁₁ =
    let m = at l₁₀ in
    (l₁₀ ++ (splitting 0 B R (returned checksum m.anchor m.card 0 B R (3 ∷ 2 ∷ [])) ∷ [])) ++ (recovering whole ∷ [])

abbrev pub l₁₂ : List Item
l₁₂ = (l₁₁ ++ (calling wipe ∷ [])) ++ (recovering whole ∷ [])

-- A whole attempt, and a recovery again
abbrev pub l₁₃ : List Item
l₁₃ = (l₁₂ ++ (attempting 1 A R whole ∷ [])) ++ (recovering whole ∷ [])

-- T and array are the old ones,
pub lost-before : seen (world_after checksum w₀ l₂) ≡ fine 0 0 Z Z
unfolding begins start next after next_world world_after media_after moved format format_answer zeroed limits first_failing checks outcome
    answer_of first_wrong blanked written stamped put_each labels blank_labels new_labels raised all_nodes up_to path_node sibling path
    pairs pairs_but_leaf be size offset label tag form same ranges_to encode gathered scattered journal_message block_from journalled_answer
    journalled recovery_answer mended recovered planned put put_answer plan_nodes member every place_in awaits fill full laid after_put
    after_all_puts message_for in_turn
lost-before = refl

pub lost-within : seen (world_after checksum w₀ l₄) ≡ fine 0 1 Z Z
unfolding begins start next after next_world world_after media_after moved format format_answer zeroed limits first_failing checks outcome
    answer_of first_wrong blanked written stamped put_each labels blank_labels new_labels raised all_nodes up_to path_node sibling path
    pairs pairs_but_leaf be size offset label tag form same ranges_to encode gathered scattered journal_message block_from journalled_answer
    journalled recovery_answer mended recovered planned put put_answer plan_nodes member every place_in awaits fill full laid after_put
    after_all_puts message_for in_turn
lost-within = refl

pub lost-after : seen (world_after checksum w₀ l₆) ≡ fine 0 2 Z Z
unfolding begins start next after next_world world_after media_after moved format format_answer zeroed limits first_failing checks outcome
    answer_of first_wrong blanked written stamped put_each labels blank_labels new_labels raised all_nodes up_to path_node sibling path
    pairs pairs_but_leaf be size offset label tag form same ranges_to encode gathered scattered journal_message block_from journalled_answer
    journalled recovery_answer mended recovered planned put put_answer plan_nodes member every place_in awaits fill full laid after_put
    after_all_puts message_for in_turn
lost-after = refl

-- or the new ones, and the card is as the cut left it until a recovery finishes;
pub stood-cut : seen (world_after checksum w₀ l₇) ≡ half Z
unfolding begins start next after next_world world_after media_after moved format format_answer zeroed limits first_failing checks outcome
    answer_of first_wrong blanked written stamped put_each labels blank_labels new_labels raised all_nodes up_to path_node sibling path
    pairs pairs_but_leaf be size offset label tag form same ranges_to encode gathered scattered journal_message block_from journalled_answer
    journalled recovery_answer mended recovered planned put put_answer plan_nodes member every place_in awaits fill full laid after_put
    after_all_puts message_for in_turn
stood-cut = refl

pub recovery-cut : seen (world_after checksum w₀ l₈) ≡ half (replicate 64 77)
unfolding begins start next after next_world world_after media_after moved format format_answer zeroed limits first_failing checks outcome
    answer_of first_wrong blanked written stamped put_each labels blank_labels new_labels raised all_nodes up_to path_node sibling path
    pairs pairs_but_leaf be size offset label tag form same ranges_to encode gathered scattered journal_message block_from journalled_answer
    journalled recovery_answer mended recovered planned put put_answer plan_nodes member every place_in awaits fill full laid after_put
    after_all_puts message_for in_turn
recovery-cut = refl

pub recovered-then : seen (world_after checksum w₀ l₉) ≡ fine 3 3 A Z
unfolding begins start next after next_world world_after media_after moved format format_answer zeroed limits first_failing checks outcome
    answer_of first_wrong blanked written stamped put_each labels blank_labels new_labels raised all_nodes up_to path_node sibling path
    pairs pairs_but_leaf be size offset label tag form same ranges_to encode gathered scattered journal_message block_from journalled_answer
    journalled recovery_answer mended recovered planned put put_answer plan_nodes member every place_in awaits fill full laid after_put
    after_all_puts message_for in_turn
recovered-then = refl

-- and an old journal does no harm.
pub written-then : seen (world_after checksum w₀ l₁₀) ≡ fine 4 4 A B
unfolding begins start next after next_world world_after media_after moved format format_answer zeroed limits first_failing checks outcome
    answer_of first_wrong blanked written stamped put_each labels blank_labels new_labels raised all_nodes up_to path_node sibling path
    pairs pairs_but_leaf be size offset label tag form same ranges_to encode gathered scattered journal_message block_from journalled_answer
    journalled recovery_answer mended recovered planned put put_answer plan_nodes member every place_in awaits fill full laid after_put
    after_all_puts message_for in_turn
written-then = refl

pub split-then : seen (world_after checksum w₀ l₁₁) ≡ fine 5 5 B B
unfolding begins start next after next_world world_after media_after moved format format_answer zeroed limits first_failing checks outcome
    answer_of first_wrong blanked written stamped put_each labels blank_labels new_labels raised all_nodes up_to path_node sibling path
    pairs pairs_but_leaf be size offset label tag form same ranges_to encode gathered scattered journal_message block_from journalled_answer
    journalled recovery_answer mended recovered planned put put_answer plan_nodes member every place_in awaits fill full laid after_put
    after_all_puts message_for in_turn
split-then = refl

pub wiped-then : seen (world_after checksum w₀ l₁₂) ≡ fine 6 6 Z Z
unfolding begins start next after next_world world_after media_after moved format format_answer zeroed limits first_failing checks outcome
    answer_of first_wrong blanked written stamped put_each labels blank_labels new_labels raised all_nodes up_to path_node sibling path
    pairs pairs_but_leaf be size offset label tag form same ranges_to encode gathered scattered journal_message block_from journalled_answer
    journalled recovery_answer mended recovered planned put put_answer plan_nodes member every place_in awaits fill full laid after_put
    after_all_puts message_for in_turn
wiped-then = refl

pub attempted-then : seen (world_after checksum w₀ l₁₃) ≡ fine 7 7 Z A
unfolding begins start next after next_world world_after media_after moved format format_answer zeroed limits first_failing checks outcome
    answer_of first_wrong blanked written stamped put_each labels blank_labels new_labels raised all_nodes up_to path_node sibling path
    pairs pairs_but_leaf be size offset label tag form same ranges_to encode gathered scattered journal_message block_from journalled_answer
    journalled recovery_answer mended recovered planned put put_answer plan_nodes member every place_in awaits fill full laid after_put
    after_all_puts message_for in_turn
attempted-then = refl
