-- What a wipe and a format leave.
use mathlib.Core.Path.{◌≡◌, refl, sym, ap, subst, ◌∙◌}
use mathlib.Core.List.{List}
use mathlib.Core.Bool.{true, false, not}
use mathlib.Core.Logic.{◌⊎◌, inl, inr}
use mathlib.Core.Option.{none}
use Prim.Native.Nat.{ℕ, ◌+◌, ◌%◌, ◌^◌, ◌<◌, ◌≤◌}
use native.Mathlib.Omega.{arith}
use borrow.Author.Tests.{eq-eqb, ne_eqb, lt-ltb, le-leb}
use lib.Dec.{eqb}
use lib.ListN.{length}
use lib.Pow.{pow_mono}
use Rattle.cmac.specs.Cmac.{cmac_of}
use Rattle.cmac.proofs.Laws.{length-cmac}
use Rattle.tree.specs.Numbers.{be8}
use Rattle.tree.specs.Layout.{IsNode, card_length, label}
use Rattle.tree.specs.Card.{blanked}
use Rattle.tree.specs.Limits.{Limit, depth_limit, nonce_limit, first_failing}
use Rattle.tree.specs.Answer.{number_of}
use Rattle.tree.specs.Calls.{wipe, limits, checks, verdict, Outcome, answer_of, settled, outcome, format_card, format}
use Rattle.tree.specs.declared.Anchor.{Anchor}
use Rattle.tree.specs.Answer.{Answer}
use Rattle.tree.specs.Answer.{Whole, Wrong, Refused}
use Rattle.tree.proofs.LimitLaws.{depth-passes, equal_is, nonces-pass}
use Rattle.tree.proofs.BlankLaws.{blind}
use Rattle.tree.proofs.LabelLaws.{labels-below, blank-inner, blank-leaf}
use Rattle.tree.proofs.NodeLaws.{leaf-node}
use Rattle.tree.proofs.WriteLaws.{blanked-length, blanked-labels, blanked-right}
use Rattle.tree.proofs.CallLaws.{accepted, wipe-accepts, outcome-answer, outcome-done, format-in}
use Rattle.words.proofs.Cases.{equal_or_not, below_or_not}
use Rattle.scope.specs.WipeRule.{Empty, NoncesFit, WipeRule, FormatRule}

-- the nonces of an empty card
pub blank-nonces : (F : List ℕ → List ℕ) → ((m : List ℕ) → length (F m) ≡ 16) → (n t : ℕ) (card : List ℕ) → 1 ≤ n
    → length card ≡ card_length n → (u : ℕ) → 2 ≤ u → u < 2 ^ n → label n (blanked F n t card) u ≡ be8 t
blank-nonces F F16 n t card deep full u low high =
    let node : IsNode n u = record { low = low; high = omega arith } in
    sym (labels-below n t (blanked F n t card) u low) ∙ blanked-labels F F16 n deep t card full u (inr node) ∙ blank-inner n t u high

blanked-empty : (key : List ℕ) (n t : ℕ) (card : List ℕ) → 1 ≤ n → length card ≡ card_length n
    → Empty key n t (blanked (cmac_of key) n t card)
blanked-empty key n t card deep full =
    let F = cmac_of key in
    let F16 = length-cmac key in
    let c = blanked F n t card in
    let two : 2 ^ 1 ≤ 2 ^ n = pow_mono deep in
    record {
      long = blanked-length F F16 n deep t card full;
      blocks = λ i h.
          sym (labels-below n t c (2 ^ n + i) (omega arith))
          ∙ blanked-labels F F16 n deep t card full (2 ^ n + i) (inr (leaf-node n i deep h))
          ∙ blank-leaf n t (2 ^ n + i) (omega arith);
      nonces = blank-nonces F F16 n t card deep full;
      tags = λ u h. sym (blanked-right F F16 n deep t card full u h);
    }

no : (m n : ℕ) → (m ≡ n → ⊥) → not (eqb m n) ≡ true
no m n d = ap not (ne_eqb m n d)

pub too-deep : (n : ℕ) → (n ≡ 0) ⊎ (16 < n) → (depth_limit n).fails ≡ true
too-deep n (inl e) = rw (eq-eqb n 0 e) refl
too-deep n (inr h) = rw (ne_eqb n 0 (λ (z : n ≡ 0). omega arith), lt-ltb 16 n h) refl

-- limit 2, of an anchor
pub unfit : (a : Anchor) → (NoncesFit a → ⊥) → (nonce_limit a.depth a.root.0 a.reserved.0).fails ≡ true
unfit a d =
    by-root (equal_or_not (a.root.0 % a.depth) 0)
  where
    by-order : a.root.0 % a.depth ≡ 0 → a.reserved.0 % a.depth ≡ 0 → (a.reserved.0 < a.root.0) ⊎ (a.root.0 ≤ a.reserved.0)
        → (nonce_limit a.depth a.root.0 a.reserved.0).fails ≡ true
    by-order t h (inl l) =
        rw (equal_is (a.root.0 % a.depth) 0 t, equal_is (a.reserved.0 % a.depth) 0 h, lt-ltb a.reserved.0 a.root.0 l) refl
    by-order t h (inr g) = absurd (d (record { root = t; reserved = h; not_below = g }))

    by-reserved : a.root.0 % a.depth ≡ 0 → (a.reserved.0 % a.depth ≡ 0) ⊎ (a.reserved.0 % a.depth ≡ 0 → ⊥)
        → (nonce_limit a.depth a.root.0 a.reserved.0).fails ≡ true
    by-reserved t (inl h) = by-order t h (below_or_not a.reserved.0 a.root.0)
    by-reserved t (inr h) = rw (equal_is (a.root.0 % a.depth) 0 t, no (a.reserved.0 % a.depth) 0 h) refl

    by-root : (a.root.0 % a.depth ≡ 0) ⊎ (a.root.0 % a.depth ≡ 0 → ⊥) → (nonce_limit a.depth a.root.0 a.reserved.0).fails ≡ true
    by-root (inl t) = by-reserved t (equal_or_not (a.reserved.0 % a.depth) 0)
    by-root (inr t) = rw (no (a.root.0 % a.depth) 0 t) refl

pub fit : (a : Anchor) → NoncesFit a → (nonce_limit a.depth a.root.0 a.reserved.0).fails ≡ false
fit a f = nonces-pass a.depth a.root.0 a.reserved.0 f.root f.reserved f.not_below

module _ (a : Anchor) (card : List ℕ) where
  abbrev F : List ℕ → List ℕ
  F = cmac_of a.key

  whole : (outcome (cmac_of a.key) a card wipe).answer ≡ Whole → answer_of (cmac_of a.key) a card wipe ≡ Whole
  whole w = sym (outcome-answer F a card wipe) ∙ w

  -- limit by limit
  abbrev answers : List Limit → ℕ → Type 0
  answers ls k = number_of (verdict (first_failing ls) none) ≡ k

  counted : (ls : List Limit) (k : ℕ) → limits a card wipe ≡ ls → answers ls k
      → number_of (outcome (cmac_of a.key) a card wipe).answer ≡ k
  counted ls k e f =
      ap number_of ((blind F (length-cmac a.key) a).limited card)
      ∙ ap (λ (l : List Limit). number_of (verdict (first_failing l) none)) e ∙ f

  refused-keeps : (x : Answer) → ((settled (cmac_of a.key) x a card wipe).answer ≡ Whole → ⊥)
      → ((settled (cmac_of a.key) x a card wipe).anchor ≡ a) × ((settled (cmac_of a.key) x a card wipe).card ≡ card)
  refused-keeps Whole d = absurd (d refl)
  refused-keeps (Wrong u) d = (refl, refl)
  refused-keeps (Refused r) d = (refl, refl)

  pub wipe-rule : WipeRule a card
  unfolding limits checks first_failing outcome
  wipe-rule =
      record {
        order = refl;
        unchecked = refl;
        depth = λ h. counted _ 1 refl (rw (too-deep a.depth h) refl);
        nonce = λ d s f. counted _ 2 refl (rw (depth-passes a.depth d s, unfit a f) refl);
        length-of-card = λ d s f l.
            counted _ 3 refl (rw (depth-passes a.depth d s, fit a f, no (length card) (card_length a.depth) l) refl);
        spent = λ d s f l h.
            counted _ 7 refl
            (rw (
              depth-passes a.depth d s,
              fit a f,
              equal_is (length card) (card_length a.depth) l,
              le-leb (2 ^ 64) (a.reserved.0 + a.depth) h,
            )
            refl);
        kept = refused-keeps (answer_of F a card wipe);
        if-within = λ h.
            outcome-answer F a card wipe
            ∙ wipe-accepts F a card (record {
              sound = record {
                deep = h.deep;
                shallow = h.shallow;
                multiple = h.nonces.root;
                reserved_multiple = h.nonces.reserved;
                within = h.nonces.not_below;
                full = h.full;
              };
              unspent = h.unspent;
            });
        only_if = λ w. let p = (accepted F a card wipe (whole w)).limits-passed in record {
          deep = p.sound.deep;
          shallow = p.sound.shallow;
          nonces = record { root = p.sound.multiple; reserved = p.sound.reserved_multiple; not_below = p.sound.within };
          full = p.sound.full;
          unspent = p.unspent;
        };
        root = λ w. ap (λ (o : Outcome). o.anchor) (outcome-done F a card wipe (whole w));
        empty = λ w.
            let p = (accepted F a card wipe (whole w)).limits-passed in
            subst (λ (o : Outcome). Empty a.key a.depth (a.reserved.0 + a.depth) o.card)
            (sym (outcome-done F a card wipe (whole w)))
            (blanked-empty a.key a.depth (a.reserved.0 + a.depth) card p.sound.deep p.sound.full);
      }

pub format-rule : (key : List ℕ) (n : ℕ) (card : List ℕ) → FormatRule key n card
unfolding format
format-rule key n card =
    record {
      empty = λ w.
          let p = format-in n card w in
          subst (λ (x : Answer). Empty key n 0 (format_card (cmac_of key) x n card)) (sym w) (blanked-empty key n 0 card p.deep p.full);
    }
