-- The computed list is one that the claim is about, its journals are our own, and so the claim holds of it outright.
use mathlib.Core.Path.{◌≡◌, refl, sym, ap, subst, ◌∙◌}
use mathlib.Core.Bool.{true, false}
use mathlib.Core.Logic.{◌⊎◌, inl, inr, ⊎_elim}
use mathlib.Core.List.Memᴰ
use native.Mathlib.Omega.{arith}
use mathlib.Core.List.{List, [], ◌∷◌, ◌++◌, Memᴰ}
use Prim.Native.Nat.{ℕ}
use lib.ListN.{length, replicate, length-replicate}
use Rattle.words.specs.Bytes.{same}
use Rattle.tree.specs.Numbers.{be}
use Rattle.tree.specs.Layout.{size, offset, label, tag}
use Rattle.tree.specs.Nodes.{up_to, path_node, sibling, path, pairs, pairs_but_leaf, all_nodes}
use Rattle.tree.specs.Labels.{form, labels, blank_labels, raised, new_labels}
use Rattle.tree.specs.Card.{put_each, laid, stamped, blanked, written, first_wrong}
use Rattle.tree.specs.Ranges.{ranges_to, encode}
use Rattle.tree.specs.Limits.{first_failing}
use Rattle.tree.specs.Calls.{write, wipe, raise, renew, limits, checks, format_answer, answer_of, outcome, format}
use Rattle.journal.specs.Journal.{message_of, tag_of, gathered, scattered, journal_message, block_from}
use Rattle.journal.specs.Journalled.{journalled_answer, journalled}
use Rattle.journal.specs.Recovery.{recovery_answer, mended, recovered}
use Rattle.plan.specs.Places.{plan_nodes, member, every, place_in, awaits, fill, full}
use Rattle.plan.specs.Split.{planned, put_answer, put}
use Rattle.plan.specs.Puts.{after_put, after_all_puts}
use Rattle.plan.specs.Orders.{message_for, in_turn, Rearranged, returned}
use Rattle.replay.specs.Array.{zeroed, moved}
use Rattle.replay.specs.Run.{unheard, stood, start, next, after}
use Rattle.cuts.specs.Media.{Media}
use Rattle.cuts.specs.World.{whole, cut, Item, attempting, recovering, calling, splitting, tried, media_after, next_world, world_after}
use Rattle.cuts.specs.World.{begins, Lawful}
use Rattle.cuts.specs.Claim.{Kept}
use Rattle.cuts.specs.NotEmpty.{new_journal, pending_ranges, WrongTag, OwnJournals, GoesOn}
use Rattle.cuts.proofs.CutLaws.{attempt-cuts}
use Rattle.cuts.proofs.RecoveryLaws.{recovery-cuts}
use Rattle.cuts.proofs.Going.{goes-on}
use Rattle.cuts.proofs.Forged.{no-forgery-any}
use Rattle.cuts.proofs.Computed.{sum, checksum, A, B, R, w₀, at, l₁, l₂, l₃, l₄, l₅, l₆, l₇, l₈, l₉, l₁₀, l₁₁, l₁₂, l₁₃}

sixteen : (m : List ℕ) → length (checksum m) ≡ 16
sixteen m = length-replicate 16 (sum m)

g : GoesOn checksum w₀
g = goes-on checksum sixteen w₀

long : (length {A = ℕ} (replicate 136 77) ≡ length (at l₂).journal) × (length (new_journal checksum (at l₄) 1 B) ≡ length (at l₄).journal)
    × ((at l₁₀).anchor.depth ≡ 1)
unfolding begins start next after next_world world_after media_after moved format format_answer zeroed limits first_failing checks outcome
    answer_of first_wrong blanked written stamped put_each labels blank_labels new_labels raised all_nodes up_to path_node sibling path
    pairs pairs_but_leaf be size offset label tag form same ranges_to encode gathered scattered journal_message block_from journalled_answer
    journalled recovery_answer mended recovered planned put put_answer plan_nodes member every place_in awaits fill full laid after_put
    after_all_puts message_for in_turn
long = (refl, refl, refl)

order : Rearranged (3 ∷ 2 ∷ []) (plan_nodes 1 0)
unfolding plan_nodes up_to path_node
order =
    record {
      apart = (λ h. ⊎_elim (λ (e : 3 ≡ 2). omega arith) (λ (k : Memᴰ 3 []). Memᴰ.not-nil k) (Memᴰ.cases_cons h), (λ h. Memᴰ.not-nil h, tt));
      among = λ u h.
          ⊎_elim (λ (e : u ≡ 3). Memᴰ.tail (Memᴰ.head e))
          (λ (k : Memᴰ u (2 ∷ [])). Memᴰ.head (Memᴰ.eq_of_singleton k)) (Memᴰ.cases_cons h);
      all = λ u h.
          ⊎_elim (λ (e : u ≡ 2). Memᴰ.tail (Memᴰ.head e))
          (λ (k : Memᴰ u (3 ∷ [])). Memᴰ.head (Memᴰ.eq_of_singleton k)) (Memᴰ.cases_cons h);
    }

lawful₂ : Lawful checksum w₀ l₂
lawful₂ =
    g.recovers l₁
    (g.attempts-cut [] 0 A R (at []) g.lawful-none g.settled-none
    (λ w. (attempt-cuts checksum sixteen (at []) 0 A R w).cuts unheard (at []) refl))

lawful₄ : Lawful checksum w₀ l₄
lawful₄ =
    g.recovers l₃
    (g.attempts-cut l₂ 0 A R (record { anchor = raise (at l₂).anchor; journal = replicate 136 77; card = (at l₂).card }) lawful₂
    (g.settled-recovered l₁) (λ w. (attempt-cuts checksum sixteen (at l₂) 0 A R w).any-journal (replicate 136 77) long.0))

lawful₆ : Lawful checksum w₀ l₆
lawful₆ =
    g.recovers l₅
    (g.attempts-cut l₄ 1 B R
    (record { anchor = raise (at l₄).anchor; journal = new_journal checksum (at l₄) 1 B; card = (at l₄).card }) lawful₄
    (g.settled-recovered l₃)
    (λ w. (attempt-cuts checksum sixteen (at l₄) 1 B R w).any-journal (new_journal checksum (at l₄) 1 B) long.1))

lawful₇ : Lawful checksum w₀ l₇
lawful₇ =
    let m = at l₆ in
    let v : Media = record { anchor = renew m.anchor; journal = new_journal checksum m 0 A; card = m.card } in
    g.attempts-cut l₆ 0 A R v lawful₆ (g.settled-recovered l₅)
    (λ w. (attempt-cuts checksum sixteen m 0 A R w).cuts stood v (refl, refl, record { long = refl; stands = λ j o. refl }))

lawful₉ : Lawful checksum w₀ l₉
lawful₉ =
    let m = at l₇ in
    g.recovers l₈
    (g.recovers-cut l₇
    (record { anchor = m.anchor; journal = m.journal; card = scattered (pending_ranges checksum m) (replicate 96 77) m.card }) lawful₇
    (λ w. (recovery-cuts checksum m w).any-ranges (replicate 96 77)))

lawful₁₀ : Lawful checksum w₀ l₁₀
lawful₁₀ = g.recovers _ (g.calls l₉ (write 1 B R) lawful₉ (g.settled-recovered l₈))

lawful₁₁ : Lawful checksum w₀ l₁₁
lawful₁₁ =
    g.recovers _
    (g.splits-in-turn l₁₀ 0 B R (3 ∷ 2 ∷ []) lawful₁₀ (g.settled-recovered (l₉ ++ (calling (write 1 B R) ∷ [])))
    (subst (λ (n : ℕ). Rearranged (3 ∷ 2 ∷ []) (plan_nodes n 0)) (sym long.2) order))

lawful₁₂ : Lawful checksum w₀ l₁₂
lawful₁₂ =
    g.recovers _
    (g.calls l₁₁ wipe lawful₁₁
    (g.settled-recovered (l₁₀ ++ (splitting 0 B R (returned checksum (at l₁₀).anchor (at l₁₀).card 0 B R (3 ∷ 2 ∷ [])) ∷ []))))

pub lawful-computed : Lawful checksum w₀ l₁₃
lawful-computed = g.recovers _ (g.attempts l₁₂ 1 A R lawful₁₂ (g.settled-recovered (l₁₁ ++ (calling wipe ∷ []))))

-- Its journals

-- what is asked of the journal that an item leaves
abbrev TornFor : List Item → Item → Type 0
TornFor xs (attempting i block ranges whole) = Unit {0}
TornFor xs (attempting i block ranges (cut v)) =
    WrongTag checksum w₀ 1 v.journal ⊎ ((v.journal ≡ (at xs).journal) ⊎ (v.journal ≡ (tried checksum (at xs) i block ranges).journal))
TornFor xs (recovering e) = Unit {0}
TornFor xs (calling c) = Unit {0}
TornFor xs (splitting i block ranges puts) = Unit {0}

own-step : (xs : List Item) (x : Item) → OwnJournals checksum w₀ 1 xs → TornFor xs x → OwnJournals checksum w₀ 1 (xs ++ (x ∷ []))
own-step xs x own h = g.own-more 1 xs x own (λ i block ranges v e. subst (TornFor xs) e h)

-- zeros and junk have a wrong tag
wrong : (journal : List ℕ) → same (checksum (message_of 1 journal)) (tag_of 1 journal) ≡ false
    → same (tag_of 1 journal) (tag_of 1 journal) ≡ true → WrongTag checksum w₀ 1 journal
wrong journal differ equal e =
    let z : false ≡ true = sym differ ∙ ap (λ (l : List ℕ). same l (tag_of 1 journal)) e ∙ equal in absurd cc

zeros : WrongTag checksum w₀ 1 w₀.media.journal
unfolding begins format same
zeros = wrong (replicate 136 0) refl refl

junk : WrongTag checksum w₀ 1 (replicate 136 77)
unfolding same
junk = wrong (replicate 136 77) refl refl

news : (new_journal checksum (at l₄) 1 B ≡ (tried checksum (at l₄) 1 B R).journal)
    × (new_journal checksum (at l₆) 0 A ≡ (tried checksum (at l₆) 0 A R).journal)
unfolding begins start next after next_world world_after media_after moved format format_answer zeroed limits first_failing checks outcome
    answer_of first_wrong blanked written stamped put_each labels blank_labels new_labels raised all_nodes up_to path_node sibling path
    pairs pairs_but_leaf be size offset label tag form same ranges_to encode gathered scattered journal_message block_from journalled_answer
    journalled recovery_answer mended recovered planned put put_answer plan_nodes member every place_in awaits fill full laid after_put
    after_all_puts message_for in_turn
news = (refl, refl)

own₂ : OwnJournals checksum w₀ 1 l₂
own₂ = own-step l₁ (recovering whole) (own-step [] (attempting 0 A R (cut (at []))) (g.own-none 1 zeros) (inr (inl refl))) tt

own₄ : OwnJournals checksum w₀ 1 l₄
own₄ =
    own-step l₃ (recovering whole)
    (own-step l₂
    (attempting 0 A R (cut (record { anchor = raise (at l₂).anchor; journal = replicate 136 77; card = (at l₂).card }))) own₂ (inl junk)) tt

own₆ : OwnJournals checksum w₀ 1 l₆
own₆ =
    own-step l₅ (recovering whole)
    (own-step l₄
    (attempting 1 B R
    (cut (record { anchor = raise (at l₄).anchor; journal = new_journal checksum (at l₄) 1 B; card = (at l₄).card })))
    own₄ (inr (inr news.0))) tt

own₇ : OwnJournals checksum w₀ 1 l₇
own₇ =
    own-step l₆
    (attempting 0 A R
    (cut (record { anchor = renew (at l₆).anchor; journal = new_journal checksum (at l₆) 0 A; card = (at l₆).card })))
    own₆ (inr (inr news.1))

own₉ : OwnJournals checksum w₀ 1 l₉
own₉ = own-step l₈ (recovering whole) (own-step l₇ _ own₇ tt) tt

own₁₀ : OwnJournals checksum w₀ 1 l₁₀
own₁₀ = own-step _ (recovering whole) (own-step l₉ (calling (write 1 B R)) own₉ tt) tt

own₁₁ : OwnJournals checksum w₀ 1 l₁₁
own₁₁ =
    own-step _ (recovering whole)
    (own-step l₁₀ (splitting 0 B R (returned checksum (at l₁₀).anchor (at l₁₀).card 0 B R (3 ∷ 2 ∷ []))) own₁₀ tt) tt

own₁₂ : OwnJournals checksum w₀ 1 l₁₂
own₁₂ = own-step _ (recovering whole) (own-step l₁₁ (calling wipe) own₁₁ tt) tt

pub own-computed : OwnJournals checksum w₀ 1 l₁₃
own-computed = own-step _ (recovering whole) (own-step l₁₂ (attempting 1 A R whole) own₁₂ tt) tt

pub kept-computed : Kept checksum w₀ l₁₃
kept-computed =
    (no-forgery-any checksum sixteen (replicate 16 0) 1 (omega arith) (omega arith) (replicate 160 0) refl (replicate 136 0) refl l₁₃
    lawful-computed).own-kept own-computed
