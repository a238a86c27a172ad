-- How the code comes to an outcome limit by limit: refused by the first that fails, it makes no call of the cipher.
use mathlib.Core.Path.{◌≡◌, refl}
use mathlib.Core.List.{List, [], ◌∷◌}
use Prim.Native.Nat.{ℕ}
use lib.ListN.{length}
use Rattle.std.specs.Prelude.{Ok, Err}
use Rattle.cmac.specs.Cmac.{cmac_of}
use Rattle.cmac.specs.Traced.{subkeys_count, cmac_count}
use Rattle.tree.specs.Card.{blanked}
use Rattle.tree.specs.Limits.{depth_limit, card_limit}
use Rattle.tree.specs.Tests.{tested}
use Rattle.tree.specs.Calls.{Call, Gives, Reports, lent_to, limits, answer_of, formatted, outcome, format_answer, format}
use Rattle.tree.specs.declared.Anchor.{Anchor}
use Rattle.tree.specs.declared.Refusal.{Refusal}
use Rattle.tree.specs.Answer.{Whole, Refused}
use Rattle.tree.proofs.LimitLaws.{none-failing, this_fails}

-- the limits refuse: the call does, and leaves everything
pub reports-limited : (a : Anchor) (card : List ℕ) (c : Call) {r : Refusal} → tested (limits a card c) ≡ Err r
    → Reports (subkeys_count a.key) (cmac_count a.key) (outcome (cmac_of a.key) a card c) (Refused r) 0 a card (lent_to c)
unfolding outcome answer_of
reports-limited a card c e =
    rw (this_fails (limits a card c) e)
    (record { gives = record { answered = refl; anchored = refl; left = refl; filled = refl }; counted = refl })

-- Format

module _ (F : List ℕ → List ℕ) (key : List ℕ) (n : ℕ) (card : List ℕ) where
  abbrev made : Anchor
  made = formatted key n

  pub format-refuses : {r : Refusal} → tested (depth_limit n ∷ card_limit n (length card) ∷ []) ≡ Err r
      → Gives (format F key n card) (Refused r) made card []
  unfolding format format_answer
  format-refuses e =
      rw (this_fails (depth_limit n ∷ card_limit n (length card) ∷ []) e)
      (record { answered = refl; anchored = refl; left = refl; filled = refl })

  pub gives-format : {x : Unit} (card' : List ℕ) → tested (depth_limit n ∷ card_limit n (length card) ∷ []) ≡ Ok x
      → card' ≡ blanked F n 0 card → Gives (format F key n card) Whole made card' []
  unfolding format format_answer
  gives-format card' e f =
      rw (none-failing (depth_limit n ∷ card_limit n (length card) ∷ []) e)
      (record { answered = refl; anchored = refl; left = f; filled = refl })
