-- What holds after a format, with any bytes as the journal.
use mathlib.Core.Path.{◌≡◌, refl, sym, subst}
use mathlib.Core.Bool.{false}
use mathlib.Core.List.{List, Memᴰ}
use mathlib.Core.Logic.{inl}
use Prim.Native.Nat.{ℕ, ◌≤◌}
use native.Mathlib.Omega.{arith}
use Rattle.std.proofs.Math.Nat.{zero-mod}
use lib.ListN.{length}
use Rattle.tree.specs.Layout.{card_length}
use Rattle.tree.specs.Calls.{format}
use Rattle.journal.specs.Journal.{journal_length}
use Rattle.replay.specs.Run.{State, start}
use Rattle.replay.proofs.Since.{Good, named_blank}
use Rattle.replay.proofs.Theorem.{blank, begun-is, good_start}
use Rattle.cuts.specs.World.{begins}
use Rattle.cuts.proofs.Messages.{short-not, blank-short, Told}
use Rattle.cuts.proofs.Known.{Core}
use Rattle.cuts.proofs.Attempts.{Inv}

module _ (F : List ℕ → List ℕ) (F16 : (m : List ℕ) → length (F m) ≡ 16) (key : List ℕ) (n : ℕ) (deep : 1 ≤ n) (shallow : n ≤ 16)
    (card : List ℕ) (full : length card ≡ card_length n) where
  abbrev z : State
  z = blank F F16 key n deep shallow card full

  is : start F key n card ≡ z
  is = begun-is F F16 key n deep shallow card full

  -- no message of a journal is tagged
  none : (t : ℕ) (m : List ℕ) → Memᴰ m z.tagged → Rattle.cuts.proofs.Messages.IsJournal n t m → ⊥
  none t m h = short-not n t m (blank-short n 0 deep m (named_blank F F16 n 0 card deep full m h)) deep

  core : Core F F16 (start F key n card)
  core =
      subst (Core F F16) (sym is)
      (record {
        deep = deep;
        shallow = shallow;
        good = subst (Good F F16) is (good_start F F16 key n deep shallow card full);
        nonces = record { within = omega arith; multiple = zero-mod n; reserved_multiple = zero-mod n };
        told = record {
          bound = omega arith;
          used = λ m h t b i. absurd (none t m h i);
          last = λ m h i. absurd (none 0 m h i);
        };
      })

  pub inv-begins : (journal : List ℕ) → length journal ≡ journal_length n → Inv F F16 false (begins F key n card journal)
  unfolding begins start format
  inv-begins journal long =
      record { chip = refl; core = core; long = long; pend = inl refl; rest = λ e. refl }
