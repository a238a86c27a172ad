-- The claim over cuts and the laws beside it, for tags of 16 bytes and for CMAC under any key.
use mathlib.Core.Path.{◌≡◌, refl, sym, ap, ◌∙◌}
use mathlib.Core.List.{List}
use Prim.Native.Nat.{ℕ, ◌≤◌}
use lib.ListN.{length, replicate, length-replicate}
use Rattle.cmac.specs.Cmac.{cmac_of}
use Rattle.cmac.proofs.Laws.{length-cmac}
use Rattle.tree.specs.Layout.{card_length}
use Rattle.tree.specs.Answer.{Answer, Whole}
use Rattle.tree.specs.Calls.{formatted, format_card, format}
use Rattle.tree.proofs.CallLaws.{format-accept}
use Rattle.journal.specs.Journal.{journal_length}
use Rattle.cuts.specs.Media.{Media}
use Rattle.cuts.specs.World.{Item, World, tried, recovery, begins, Lawful}
use Rattle.cuts.specs.Claim.{Recovers, IsList}
use Rattle.cuts.specs.NotEmpty.{AttemptCuts, RecoveryCuts, Tags, NoForgery, Lists, GoesOn, ShowsOne, Begins}
use Rattle.cuts.proofs.CutLaws
use Rattle.cuts.proofs.RecoveryLaws
use Rattle.cuts.proofs.Begins.{inv-begins}
use Rattle.cuts.proofs.IsList.{is-list-any}
use Rattle.cuts.proofs.TagLaws
use Rattle.cuts.proofs.Forged.{recovers-any, no-forgery-any}
use Rattle.cuts.proofs.ListLaws
use Rattle.cuts.proofs.Going

pub begins-any : (F : List ℕ → List ℕ) (key : List ℕ) (n : ℕ) → 1 ≤ n → n ≤ 16 → (card : List ℕ) → length card ≡ card_length n
    → (journal : List ℕ) → Begins F key n card journal
unfolding begins format
begins-any F key n deep shallow card full journal =
    record {
      media = ap
          (λ (o : Answer).
          let m : Media = record { anchor = formatted key n; journal = journal; card = format_card F o n card } in
          m)
          (format-accept n card deep shallow full);
      known = refl;
    }

-- On any card
pub shows-one : (F : List ℕ → List ℕ) → ShowsOne F
shows-one F =
    record {
      one = λ a card x y p q i inside.
          let z : List ℕ = replicate 64 0 in
          sym (p i z inside (length-replicate {A = ℕ} 64 0)).1 ∙ (q i z inside (length-replicate {A = ℕ} 64 0)).1;
    }

-- Any key, any depth from 1 to 16, any card of the right length to format, any bytes as the first journal, and any lawful list
module _ (key : List ℕ) (n : ℕ) (deep : 1 ≤ n) (shallow : n ≤ 16) (card : List ℕ) (full : length card ≡ card_length n)
    (journal : List ℕ) (long : length journal ≡ journal_length n) where
  abbrev F : List ℕ → List ℕ
  F = cmac_of key

  abbrev w₀ : World
  w₀ = begins (cmac_of key) key n card journal

  pub begun : Begins (cmac_of key) key n card journal
  begun = begins-any F key n deep shallow card full journal

  pub goes-on : GoesOn (cmac_of key) (begins (cmac_of key) key n card journal)
  goes-on = Going.goes-on F (length-cmac key) w₀

  module _ (xs : List Item) (lawful : Lawful (cmac_of key) (begins (cmac_of key) key n card journal) xs) where
    pub recovers : Recovers (cmac_of key) (begins (cmac_of key) key n card journal) xs
    recovers = recovers-any F (length-cmac key) key n deep shallow card full journal long xs lawful

    pub is-list : IsList (cmac_of key) (begins (cmac_of key) key n card journal) key n xs
    is-list = is-list-any F (length-cmac key) key n deep shallow card full journal xs lawful

    pub tags : Tags (cmac_of key) (begins (cmac_of key) key n card journal) xs
    tags =
        TagLaws.tags F (length-cmac key) w₀ xs (inv-begins F (length-cmac key) key n deep shallow card full journal long).chip
        lawful.possible

    pub no-forgery : NoForgery (cmac_of key) (begins (cmac_of key) key n card journal) n xs
    no-forgery = no-forgery-any F (length-cmac key) key n deep shallow card full journal long xs lawful

    pub lists : Lists (cmac_of key) (begins (cmac_of key) key n card journal) xs
    lists = ListLaws.lists F w₀ xs

-- On any media
module _ (key : List ℕ) (m : Media) where
  pub attempt-cuts : (i : ℕ) (block ranges : List ℕ) → (tried (cmac_of key) m i block ranges).call.answer ≡ Whole
      → AttemptCuts (cmac_of key) m i block ranges
  attempt-cuts i block ranges w = CutLaws.attempt-cuts (cmac_of key) (length-cmac key) m i block ranges w

  pub recovery-cuts : (recovery (cmac_of key) m).answer ≡ Whole → RecoveryCuts (cmac_of key) m
  recovery-cuts w = RecoveryLaws.recovery-cuts (cmac_of key) m w
