-- What holds after every list of calls, forged or not, and that a wipe makes a safe store of it.
use mathlib.Core.Path.{◌≡◌, sym, ap, subst, ◌∙◌}
use mathlib.Core.List.{List, [], ◌∷◌, ◌++◌, map}
use Prim.Native.Nat.{ℕ, suc, ◌+◌, ◌^◌}
use native.Mathlib.Omega.{arith}
use lib.ListN.{length, length-set}
use Rattle.tree.specs.Nodes.{all_nodes}
use Rattle.tree.specs.Labels.{message, labels}
use Rattle.tree.specs.Card.{blanked}
use Rattle.tree.specs.Calls.{write, wipe, answer_of}
use Rattle.tree.specs.Answer.{Whole}
use Rattle.tree.proofs.CallLaws.{accepted}
use Rattle.replay.specs.Array.{zeroed}
use Rattle.replay.specs.Run.{Step, card_of, State, next, after}
use Rattle.replay.specs.Claim.{Complete, AllComplete}
use Rattle.replay.proofs.PlaceLaws.{first, later}
use Rattle.replay.proofs.Core.{AllBelow, raise, all-below}
use Rattle.replay.proofs.Events.{frame}
use Rattle.replay.proofs.Safe.{Backs, blank-backs, write-below}
use Rattle.replay.proofs.Moves.{Tags, Move, still, wrote-block, lost-block, wiped-card, move, wiped}

-- the tagged messages vouch for the array
abbrev pub Safe : State → Type 0
Safe s = Backs s.store.anchor.depth (suc s.store.anchor.reserved.0) s.tagged s.store.anchor.root.0 s.store.array

-- no tagged message has a nonce above the reserved one, and the array has a block for each leaf
pub record Steady (s : State) : Type 0 where
  pub below : AllBelow (frame s.store.anchor.depth) (suc s.store.anchor.reserved.0) s.tagged
  pub count : length s.store.array ≡ 2 ^ s.store.anchor.depth

pub safe-steady : (s : State) → Safe s → Steady s
safe-steady s p = record { below = all-below (frame s.store.anchor.depth) p.vouch; count = p.count }

module _ (F : List ℕ → List ℕ) (F16 : (m : List ℕ) → length (F m) ≡ 16) where
  -- An accepted wipe's nonce is above every one before it, so that the messages tagged before it no longer count.
  module _ (s : State) (card : List ℕ) (k : Steady s) (e : answer_of F s.store.anchor card wipe ≡ Whole) where
    pub emptied : (wiped F s card).store.array ≡ zeroed (2 ^ s.store.anchor.depth)
    emptied = ap zeroed k.count

    pub wipe-safe : Safe (wiped F s card)
    wipe-safe =
        let n = s.store.anchor.depth in
        let t = s.store.anchor.reserved.0 in
        let ok = (accepted F s.store.anchor card wipe e).limits-passed in
        let new = map (message (labels n (t + n) (blanked F n (t + n) card))) (all_nodes n) in
        subst (Backs n (suc (t + n)) (new ++ s.tagged) (t + n)) (sym emptied)
        (blank-backs F F16 n ok.sound.deep (t + n) ok.unspent card ok.sound.full s.tagged
        (λ m h. raise (frame n) {m = m} (omega (arith, ok.sound.deep)) (k.below m h)))

  pub steady-next : (s : State) (x : Step) → Complete F s.store x → Steady s → Steady (next F s x)
  steady-next s x complete k = go (move F F16 s x complete)
    where
      -- what a write tags
      below : (i : ℕ) (block ranges : List ℕ) (new : List (List ℕ)) → Tags F s x i block ranges new
          → AllBelow (frame s.store.anchor.depth) (suc (s.store.anchor.reserved.0 + s.store.anchor.depth)) (new ++ s.tagged)
      below i block ranges new w =
          let a = s.store.anchor in
          let ok = (accepted F a (card_of x) (write i block ranges) w.whole).limits-passed in
          write-below a.depth ok.sound.deep a.root.0 a.reserved.0 (card_of x) ok.sound.full i ok.inside block ok.long new w.named
          ok.unspent k.below

      go : Move F s x → Steady (next F s x)
      go (still e f g h) = subst Steady (sym e) k
      go (wrote-block i block ranges w) =
          subst Steady (sym w.is)
          (record { below = below i block ranges w.new w.tags; count = length-set s.store.array i block ∙ k.count })
      go (lost-block i block ranges w) = subst Steady (sym w.is) (record { below = below i block ranges w.new w.tags; count = k.count })
      go (wiped-card card i e q) = subst Steady (sym q) (safe-steady (wiped F s card) (wipe-safe s card k e))

  pub steady-after : (xs : List Step) (s : State) → AllComplete F s xs → Steady s → Steady (after F s xs)
  unfolding after
  steady-after [] s complete k = k
  steady-after (x ∷ xs) s complete k =
      steady-after xs (next F s x) (λ p. complete (later x p)) (steady-next s x (complete (first x xs)) k)
