-- The anchor's bytes, a plan's, the answer's number and the lengths by C's own numbers, so that a bent definition is seen.
use mathlib.Core.Path.{◌≡◌, refl}
use mathlib.Core.List.{List, [], ◌∷◌, ◌++◌}
use Prim.Native.Nat.{ℕ, ◌+◌, ◌*◌}
use lib.ListN.{length, replicate}
use Rattle.tree.specs.declared.Node.{Node}
use Rattle.tree.specs.declared.Refusal.TheVariants.{Depth, RootNonce, CardLength, BlockNumber, BlockLength, RangeLength, NoncesSpent}
use Rattle.tree.specs.declared.Refusal.TheVariants.{NotAwaited, Journal}
use Rattle.tree.specs.Answer.{Whole, Wrong, Refused}
use Rattle.tree.specs.Numbers.{be}
use Rattle.tree.specs.Calls.{Call, lent_to}
use Rattle.plan.specs.declared.Plan.{Plan}
use Rattle.host_bytes.specs.Host.{number, anchor_of, code_of, host_call, host_format, Hosts}
use Rattle.host_bytes.specs.Journal.{host_journalled, HostsJournalled, host_recovery}
use Rattle.host_bytes.specs.Split.{plan_of, bytes_of, host_plan, HostsPlan, host_put, HostsPut}
use Rattle.host_bytes.proofs.HostLaws.{measured-out}
use Rattle.host_bytes.proofs.SplitLaws.{plan-unmeasured, put-unmeasured}
use Rattle.host_bytes.proofs.JournalTripLaws.{journalled-unmeasured}

-- key, then n in 8 bytes, then T in 8, then H in 8, big-endian
pub anchor-bytes : anchor_of (replicate 16 7 ++ (0 ∷ 0 ∷ 0 ∷ 0 ∷ 0 ∷ 0 ∷ 0 ∷ 10 ∷ 1 ∷ 2 ∷ 3 ∷ 4 ∷ 5 ∷ 6 ∷ 7 ∷ 8 ∷ 0 ∷ 2 ∷ 0 ∷ 0 ∷ 0 ∷ 0 ∷ 0 ∷ 9 ∷ []))
    ≡ record {
      key = replicate 16 7;
      depth = 10;
      root = record { 0 = 0x0102030405060708 };
      reserved = record { 0 = 0x0002000000000009 };
    }
unfolding anchor_of number
anchor-bytes = refl

-- block 5, then the root nonce, then the filled places, in 8 bytes each, both ways
pub plan-bytes :
    let bytes : List ℕ = 0 ∷ 0 ∷ 0 ∷ 0 ∷ 0 ∷ 0 ∷ 0 ∷ 5 ∷ 1 ∷ 2 ∷ 3 ∷ 4 ∷ 5 ∷ 6 ∷ 7 ∷ 8 ∷ 0 ∷ 0 ∷ 0 ∷ 0 ∷ 0 ∷ 0 ∷ 2 ∷ 9 ∷ [] in
    let p : Plan = record { index = record { 0 = 5 }; root = record { 0 = 0x0102030405060708 }; filled = 521 } in
    (plan_of bytes ≡ p) × (bytes_of p ≡ bytes)
unfolding plan_of number be
plan-bytes = (refl, refl)

-- the refusal number plus 256 times the node, 0 when accepted
pub answer-number : (code_of Whole ≡ 0) × ((u : Node) → code_of (Wrong u) ≡ 8 + 256 * u.0)
unfolding code_of
answer-number = (refl, λ u. refl)

-- a limit names no node
pub limit-numbers :
    (code_of (Refused Depth) ≡ 1) × (code_of (Refused RootNonce) ≡ 2) × (code_of (Refused CardLength) ≡ 3)
    × (code_of (Refused BlockNumber) ≡ 4) × (code_of (Refused BlockLength) ≡ 5) × (code_of (Refused RangeLength) ≡ 6)
    × (code_of (Refused NoncesSpent) ≡ 7) × (code_of (Refused NotAwaited) ≡ 9) × (code_of (Refused Journal) ≡ 10)
unfolding code_of
limit-numbers = (refl, refl, refl, refl, refl, refl, refl, refl, refl)

-- "another length is refused 5, before the rest": of the anchor, and of the plan, its messages and a tag
pub anchor-length : (s card : List ℕ) → (length s ≡ 40 → ⊥)
    → Hosts (host_format s card) 5 s card [] × ((c : Call) → Hosts (host_call s card c) 5 s card (lent_to c))
unfolding host_format host_call
anchor-length s card d = (measured-out s card [] _ d, λ c. measured-out s card (lent_to c) _ d)

pub plan-lengths : (s card : List ℕ) (i : ℕ) (block ranges b messages : List ℕ)
    → ((length s ≡ 40) × (length b ≡ 24) × (length messages ≡ 656) → ⊥)
    → HostsPlan (host_plan s card i block ranges b messages) 5 s b card ranges messages
plan-lengths s card i block ranges b messages d = plan-unmeasured s card i block ranges b messages d

pub put-lengths : (s b card : List ℕ) (u : ℕ) (tag : List ℕ) → ((length s ≡ 40) × (length b ≡ 24) × (length tag ≡ 16) → ⊥)
    → HostsPut (host_put s b card u tag) 5 s b card
put-lengths s b card u tag d = put-unmeasured s b card u tag d

-- the same of the anchor that is stored first, which is as long as the anchor, and of a recovery's anchor
pub journal-lengths : (s r card : List ℕ) (i : ℕ) (block ranges journal : List ℕ) → ((length s ≡ 40) × (length r ≡ 40) → ⊥)
    → HostsJournalled (host_journalled s r card i block ranges journal) 5 s r card ranges journal
journal-lengths s r card i block ranges journal d = journalled-unmeasured s r card i block ranges journal d

pub recovery-length : (s card journal : List ℕ) → (length s ≡ 40 → ⊥) → Hosts (host_recovery s card journal) 5 s card []
unfolding host_recovery
recovery-length s card journal d = measured-out s card [] _ d
