-- A blank card has nothing of the card that it was made of.
use mathlib.Core.Path.{◌≡◌, refl, sym, ap, ap₂, subst, ◌∙◌}
use mathlib.Core.List.{List, [], ◌∷◌, ◌++◌}
use mathlib.Core.Logic.{⊎_elim}
use mathlib.Core.Option.{none}
use Prim.Native.Nat.{ℕ, zero, suc, ◌+◌, ◌*◌, ◌-◌, ◌^◌, ◌<◌, ◌≤◌}
use native.Mathlib.Numerals.{add-one}
use native.Mathlib.Omega.{arith}
use lib.ListN.{length, take, length-append}
use lib.Pow.{pow_mono}
use lib.Seq.{take_at, take_all, length-take-le, sets, sets-eq}
use Rattle.words.proofs.Cases.{below_or_not}
use Rattle.tree.specs.Layout.{IsNode, size, offset, card_length}
use Rattle.tree.specs.Nodes.{up_to, all_nodes}
use Rattle.tree.specs.Labels.{Labels, message, blank_labels}
use Rattle.tree.specs.Card.{put_each, stamped, blanked, first_wrong, checked}
use Rattle.tree.specs.Limits.{depth_limit, card_limit, first_failing}
use Rattle.tree.specs.Calls.{wipe, first_limits, own_limits, limits, checks, tagged, verdict, renew, formatted, answer_of, outcome}
use Rattle.tree.specs.Calls.{format_answer, format_card, format}
use Rattle.tree.specs.Blind.{Blind, BlindFormat}
use Rattle.tree.specs.declared.Anchor.{Anchor}
use Rattle.tree.specs.Answer.{Answer}
use Rattle.tree.specs.Answer.{Whole}
use Rattle.tree.proofs.LayoutLaws.{inner, leaf, card-end, entry-fits}
use Rattle.tree.proofs.LabelLaws.{Sized, blank-sized}
use Rattle.tree.proofs.CardLaws.{length-stamped, stamped-more, entry_length}
use Rattle.tree.proofs.CallLaws.{accepted, outcome-answer, outcome-done, format-in}

-- up to its end, a store leaves what was before it, and what it stored
take-sets : (x c : List ℕ) (o : ℕ) → o + length x ≤ length c → take (o + length x) (sets c o x) ≡ take o c ++ x
take-sets x c o h =
    ap (take (o + length x)) (sets-eq x c o h)
    ∙ take_at (take o c ++ x) _ (o + length x)
    (length-append (take o c) x ∙ ap (λ (k : ℕ). k + length x) (length-take-le o c (omega arith)))

-- entries lie one behind another, from the card's first byte on
entry_next : (n u : ℕ) → 2 ≤ u → offset n (u + 1) ≡ offset n u + (size n u + 16)
entry_next n u h =
    ⊎_elim
    (λ (b : u < 2 ^ n).
    ⊎_elim (λ (a : u + 1 < 2 ^ n). omega (arith, inner n u b, inner n (u + 1) a))
    (λ (a : 2 ^ n ≤ u + 1). omega (arith, inner n u b, leaf n (u + 1) a))
    (below_or_not (u + 1) (2 ^ n)))
    (λ (b : 2 ^ n ≤ u). omega (arith, leaf n u b, leaf n (u + 1) (omega arith)))
    (below_or_not u (2 ^ n))

entry_first : (n : ℕ) → 1 ≤ n → offset n 2 ≡ 0
entry_first n h =
    let p : 2 ^ 1 ≤ 2 ^ n = pow_mono h in
    ⊎_elim (λ (b : 2 < 2 ^ n). omega (arith, inner n 2 b)) (λ (b : 2 ^ n ≤ 2). omega (arith, leaf n 2 b)) (below_or_not 2 (2 ^ n))

module _ (F : List ℕ → List ℕ) (F16 : (m : List ℕ) → length (F m) ≡ 16) (n : ℕ) (deep : 1 ≤ n) where
  module _ (L : Labels) (sized : Sized n L) where
    -- the card with the entries of nodes 2 to k + 1
    abbrev put : ℕ → List ℕ → List ℕ
    put k card = stamped F n L (up_to k (λ y. (y + 1) ∷ [])) card

    put-more : (card : List ℕ) → length card ≡ card_length n → (k : ℕ) → k < 2 * 2 ^ n - 2
        → take (offset n (k + 1 + 1 + 1)) (put (k + 1) card)
        ≡ take (offset n (k + 1 + 1)) (put k card) ++ (L (k + 1 + 1) ++ F (message L (k + 1 + 1)))
    unfolding stamped put_each
    put-more card full k h =
        let u = k + 1 + 1 in
        let x = L u ++ F (message L u) in
        let node : IsNode n u = record { low = omega arith; high = omega arith } in
        let long = entry_length F F16 n L sized u node in
        ap₂ take
        (entry_next n u (omega arith) ∙ ap (λ (l : ℕ). offset n u + l) (sym long)) (stamped-more F n L k (λ y. (y + 1) ∷ []) card)
        ∙ take-sets x (put k card) (offset n u)
        (omega (arith, long, entry-fits n u node, length-stamped F n L (up_to k (λ y. (y + 1) ∷ [])) card))

    -- up to the end of these, two cards are the same
    alike : (c d : List ℕ) → length c ≡ card_length n → length d ≡ card_length n → (k : ℕ) → k ≤ 2 * 2 ^ n - 2
        → take (offset n (k + 1 + 1)) (put k c) ≡ take (offset n (k + 1 + 1)) (put k d)
    alike c d cfull dfull zero h = rw (entry_first n deep) refl
    alike c d cfull dfull (suc k) h =
        subst (λ (j : ℕ). take (offset n (j + 1 + 1)) (put j c) ≡ take (offset n (j + 1 + 1)) (put j d)) (add-one k)
        (put-more c cfull k h
        ∙ ap (λ (l : List ℕ). l ++ (L (k + 1 + 1) ++ F (message L (k + 1 + 1)))) (alike c d cfull dfull k (omega arith))
        ∙ sym (put-more d dfull k h))

  -- a blank card is the same, whatever it was made of
  pub blanked-same : (t : ℕ) (c d : List ℕ) → length c ≡ card_length n → length d ≡ card_length n → blanked F n t c ≡ blanked F n t d
  unfolding blanked all_nodes
  blanked-same t c d cfull dfull =
      whole c cfull ∙ alike (blank_labels n t) (blank-sized n t) c d cfull dfull (2 * 2 ^ n - 2) (omega arith) ∙ sym (whole d dfull)
    where
      end : offset n (2 * 2 ^ n - 2 + 1 + 1) ≡ card_length n
      end =
          let p : 2 ^ 1 ≤ 2 ^ n = pow_mono deep in
          let e : 2 * 2 ^ n - 2 + 1 + 1 ≡ 2 * 2 ^ n = omega arith in
          ap (offset n) e ∙ card-end n deep

      whole : (card : List ℕ) → length card ≡ card_length n
          → put (blank_labels n t) (blank-sized n t) (2 * 2 ^ n - 2) card
          ≡ take (offset n (2 * 2 ^ n - 2 + 1 + 1)) (put (blank_labels n t) (blank-sized n t) (2 * 2 ^ n - 2) card)
      whole card full =
          sym (take_all (offset n (2 * 2 ^ n - 2 + 1 + 1)) _
          (omega (arith, end, length-stamped F n (blank_labels n t) (up_to (2 * 2 ^ n - 2) (λ y. (y + 1) ∷ [])) card)))

-- Wipe

module _ (F : List ℕ → List ℕ) (F16 : (m : List ℕ) → length (F m) ≡ 16) (a : Anchor) where
  limited : (card : List ℕ) → (outcome F a card wipe).answer ≡ verdict (first_failing (limits a card wipe)) none
  unfolding answer_of checks first_wrong
  limited card = outcome-answer F a card wipe

  answered : (c d : List ℕ) → length c ≡ length d → (outcome F a c wipe).answer ≡ (outcome F a d wipe).answer
  unfolding limits
  answered c d e =
      limited c ∙ ap (λ (l : ℕ). verdict (first_failing (first_limits a l ++ own_limits a wipe)) none) e ∙ sym (limited d)

  made : (c d : List ℕ) → length c ≡ length d → (outcome F a c wipe).answer ≡ Whole → outcome F a c wipe ≡ outcome F a d wipe
  unfolding checks checked
  made c d e w =
      let n = a.depth in
      let t = a.reserved.0 + a.depth in
      let p = sym (outcome-answer F a c wipe) ∙ w in
      let q = sym (outcome-answer F a d wipe) ∙ sym (answered c d e) ∙ w in
      let ok = (accepted F a c wipe p).limits-passed.sound in
      outcome-done F a c wipe p
      ∙ ap (λ (card : List ℕ). record { answer = Whole; anchor = renew a; card = card; lent = []; counted = tagged a card wipe })
      (blanked-same F F16 n ok.deep t c d ok.full (sym e ∙ ok.full))
      ∙ sym (outcome-done F a d wipe q)

  pub blind : Blind F a
  blind = record { limited = limited; answered = answered; made = made }

-- Format

module _ (F : List ℕ → List ℕ) (F16 : (m : List ℕ) → length (F m) ≡ 16) (key : List ℕ) (n : ℕ) where
  format-answered : (c d : List ℕ) → length c ≡ length d → (format F key n c).answer ≡ (format F key n d).answer
  unfolding format format_answer
  format-answered c d e = ap (λ (l : ℕ). verdict (first_failing (depth_limit n ∷ card_limit n l ∷ [])) none) e

  format-made : (c d : List ℕ) → length c ≡ length d → (format F key n c).answer ≡ Whole → format F key n c ≡ format F key n d
  unfolding format
  format-made c d e w =
      let ok = format-in n c w in
      let v : format_answer n d ≡ Whole = sym (format-answered c d e) ∙ w in
      let a = formatted key n in
      ap₂ (λ (x : Answer) (card : List ℕ). record { answer = x; anchor = a; card = card; lent = []; counted = [] })
      (format-answered c d e)
      (ap (λ (x : Answer). format_card F x n c) w ∙ blanked-same F F16 n ok.deep 0 c d ok.full (sym e ∙ ok.full)
      ∙ sym (ap (λ (x : Answer). format_card F x n d) v))

  pub blind-format : BlindFormat F key n
  blind-format = record { answered = format-answered; made = format-made }
