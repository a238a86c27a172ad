-- What a recovery makes of a journal and a card that a cut left: the card as last left, and a cut one can be done again; or the journal is
-- forged.
use mathlib.Core.Path.{◌≡◌, refl, sym, ap, ap₂, subst, ◌∙◌}
use mathlib.Core.Bool.{Bool, true, false, cond, ◌&&◌}
use mathlib.Core.List.{List, [], ◌++◌, Memᴰ}
use mathlib.Core.Logic.{◌⊎◌, inl, inr, ⊎_elim}
use mathlib.Core.Option.{Option, none, some}
use Prim.Native.Nat.{ℕ, ◌^◌, ◌<◌}
use native.Mathlib.Omega.{arith}
use lib.ListN.{length, take, take-append-drop}
use lib.Seq.{take-take, length-take-le}
use Rattle.tree.specs.Numbers.{be8}
use Rattle.tree.specs.Layout.{card_length}
use Rattle.tree.specs.Ranges.{Range, ranges_of}
use Rattle.tree.specs.Limits.{first_failing}
use Rattle.tree.specs.Calls.{check, first_limits, verdict}
use Rattle.tree.specs.declared.Anchor.{Anchor}
use Rattle.tree.specs.declared.Refusal.{Refusal}
use Rattle.tree.specs.Answer.{Whole}
use Rattle.tree.proofs.LimitLaws.{no-limits, skip_first, passed-both, pass, equal_is, Sound, pass_all}
use Rattle.journal.specs.Journal.{scattered, message_length, journal_length, journal_message, message_of, tag_of, list_of, new_bytes}
use Rattle.journal.specs.Journal.{block_of, journal_of, applies}
use Rattle.journal.specs.Journalled.{journal_limit}
use Rattle.journal.specs.Recovery.{is_none, ranges_for, list_limit, recovery_answer, pending, mended}
use Rattle.journal.proofs.BlockLaws.{block-own}
use Rattle.journal.proofs.BackLaws.{Beside, beside-none, beside-trans, ranges-back}
use Rattle.journal.proofs.JournalLaws.{applies-is, list-told, new-told, own-message, own-applies}
use Rattle.replay.specs.Run.{State}
use Rattle.replay.proofs.Agreement.{among-or-not}
use Rattle.cuts.proofs.Messages.{Told}

pub beside-refl : (rs : List Range) (c : List ℕ) → Beside rs c c
beside-refl rs c = record { long = refl; stands = λ j out. refl }

-- limits 1, 2 and 3
pass-first : (a : Anchor) (card : List ℕ) → Sound a card → first_failing (first_limits a (length card)) ≡ none
unfolding Rattle.tree.specs.Calls.limits
pass-first a card s = (passed-both (first_limits a (length card)) [] (pass_all a card check s)).0

module _ (F : List ℕ → List ℕ) (s : State) where
  abbrev a : Anchor
  a = s.store.anchor

  abbrev left : List ℕ
  left = s.store.left

  -- The journal is the one of the write that left the card, its message is tagged, and the card may have any bytes in its ranges.
  pub record Half (journal card : List ℕ) : Type 0 where
    pub block : ℕ
    pub inside : block < 2 ^ s.store.anchor.depth
    pub is : journal ≡ journal_of F s.store.anchor.depth s.store.anchor.root.0 block s.store.left
    pub tagged : Memᴰ (journal_message s.store.anchor.depth s.store.anchor.root.0 block s.store.left) s.tagged
    pub torn : Beside (ranges_of s.store.anchor.depth block) card s.store.left

  -- what a cut leaves for a recovery: the card as last left, whatever the journal; or a card half written, and its journal
  abbrev pub Pend : List ℕ → List ℕ → Type 0
  Pend journal card = (card ≡ s.store.left) ⊎ Half journal card

  pub record Fine (journal card : List ℕ) : Type 0 where
    pub answered : recovery_answer F s.store.anchor card journal ≡ Whole
    pub gives : mended F s.store.anchor.depth s.store.anchor.root.0 journal card ≡ s.store.left
    pub again : (d : List ℕ) → Beside (pending F s.store.anchor.depth s.store.anchor.root.0 journal) d card → Pend journal d

  pub record Fake (journal : List ℕ) : Type 0 where
    pub root : take 8 journal ≡ be8 s.store.anchor.root.0
    pub right : F (message_of s.store.anchor.depth journal) ≡ tag_of s.store.anchor.depth journal
    pub untagged : Memᴰ (message_of s.store.anchor.depth journal) s.tagged → ⊥

  module _ (sound : Sound s.store.anchor s.store.left) (journal card : List ℕ)
      (long : length journal ≡ journal_length s.store.anchor.depth) where
    abbrev n : ℕ
    n = s.store.anchor.depth

    abbrev t : ℕ
    t = s.store.anchor.root.0

    abbrev listed : Option ℕ
    listed = block_of n (list_of n journal)

    answer : length card ≡ card_length n → (b : Bool) → applies F n t journal ≡ b → (b && is_none listed) ≡ false
        → recovery_answer F s.store.anchor card journal ≡ Whole
    unfolding recovery_answer
    answer full b e f =
        let here : Sound a card = record {
          deep = sound.deep;
          shallow = sound.shallow;
          multiple = sound.multiple;
          reserved_multiple = sound.reserved_multiple;
          within = sound.within;
          full = full;
        } in
        ap (λ (r : Option Refusal). verdict r none)
        (skip_first (first_limits a (length card)) _ (pass-first a card here)
        ∙ pass (journal_limit n (length journal)) _ (equal_is (length journal) (journal_length n) long)
        (pass (list_limit F n t journal) [] (ap (λ (x : Bool). x && is_none listed) e ∙ f) no-limits))

    pend-full : Pend journal card → length card ≡ card_length n
    pend-full (inl e) = ap length e ∙ sound.full
    pend-full (inr h) = h.torn.long ∙ sound.full

    -- The journal has the message of the write that left the card.
    fine : (i : ℕ) → i < 2 ^ n → applies F n t journal ≡ true → message_of n journal ≡ journal_message n t i left
        → Memᴰ (journal_message n t i left) s.tagged → Beside (ranges_of n i) card left → Fine journal card
    unfolding mended scattered
    fine i inside e has tagged beside =
        let list = list-told n t i left inside sound.deep sound.full journal has in
        let found : listed ≡ some i = ap (block_of n) list ∙ block-own n i sound.deep sound.shallow inside in
        let writes : pending F n t journal ≡ ranges_of n i =
        ap₂ (λ (b : Bool) (o : Option ℕ). cond b (ranges_for n o) []) e found in
        record {
          answered = answer (beside.long ∙ sound.full) true e (ap is_none found);
          gives =
              ap₂ (λ (rs : List Range) (x : List ℕ). scattered rs x card) writes
              (new-told n t i left inside sound.deep sound.full journal has)
              ∙ ranges-back n i inside sound.deep card left sound.full beside;
          again = λ d b.
              inr (record {
                block = i;
                inside = inside;
                is = sym (take-append-drop (message_length n) journal)
                    ∙ ap₂ (λ (x y : List ℕ). x ++ y) has (sym (applies-is F n t journal e).tag ∙ ap F has);
                tagged = tagged;
                torn = beside-trans (ranges_of n i) d card left (subst (λ (rs : List Range). Beside rs d card) writes b) beside;
              });
        }

    pub consult : Told s → Pend journal card → Fake journal ⊎ Fine journal card
    unfolding mended scattered
    consult told pend = go (applies F n t journal) refl pend
      where
        applied : applies F n t journal ≡ true → Memᴰ (message_of n journal) s.tagged → Pend journal card → Fine journal card
        applied e m (inl q) =
            let k = applies-is F n t journal e in
            let o = told.last (message_of n journal) m (record {
              long = length-take-le (message_length n) journal (omega (arith, long));
              root = take-take 8 (message_length n) journal (omega arith) ∙ k.root;
            }) in
            fine o.block o.inside e o.is (subst (λ (x : List ℕ). Memᴰ x s.tagged) o.is m)
            (subst (λ (x : List ℕ). Beside (ranges_of n o.block) x left) (sym q) (beside-refl (ranges_of n o.block) left))
        applied e m (inr h) =
            fine h.block h.inside e (ap (message_of n) h.is ∙ own-message n t h.block left h.inside sound.deep sound.full F) h.tagged h.torn

        go : (b : Bool) → applies F n t journal ≡ b → Pend journal card → Fake journal ⊎ Fine journal card
        go true e q =
            ⊎_elim (λ (m : Memᴰ (message_of n journal) s.tagged). inr (applied e m q))
            (λ (d : Memᴰ (message_of n journal) s.tagged → ⊥).
            let k = applies-is F n t journal e in
            inl (record { root = k.root; right = k.tag; untagged = d }))
            (among-or-not (message_of n journal) s.tagged)
        go false e (inl q) =
            let nothing : pending F n t journal ≡ [] = ap (λ (b : Bool). cond b (ranges_for n listed) []) e in
            inr (record {
              answered = answer (ap length q ∙ sound.full) false e refl;
              gives = ap (λ (rs : List Range). scattered rs (new_bytes n journal) card) nothing ∙ q;
              again = λ d b. inl (beside-none d card (subst (λ (rs : List Range). Beside rs d card) nothing b) ∙ q);
            })
        go false e (inr h) =
            let k = ap (applies F n t) h.is ∙ own-applies n t h.block left h.inside sound.deep sound.full F in
            let z : true ≡ false = sym k ∙ e in
            absurd cc
