-- What the functions for C take by name: the node that a call or a plan names has at most 17 bits, and another length is refused.
use mathlib.Core.Path.{◌≡◌, sym, ◌∙◌}
use mathlib.Core.List.{List}
use mathlib.Core.Logic.{◌≢◌}
use Prim.Native.Nat.{ℕ, ◌<◌}
use Rattle.tree.specs.Answer.{node_of}
use Rattle.tree.specs.Calls.{Call, write, outcome}
use Rattle.tree.specs.declared.Anchor.{Anchor}
use Rattle.tree.proofs.CallLaws.{outcome-answer}
use Rattle.tree.proofs.AnswerLaws.{node-small}
use lib.ListN.{length}
use Rattle.plan.specs.Split.{planned, message_room}
use Rattle.plan.proofs.PlanLaws.{plan-answer}
use Rattle.host_bytes.specs.Host.{anchor_bytes, refused_length}
use Rattle.host_bytes.specs.Journal.{host_journalled, HostsJournalled}
use Rattle.host_bytes.specs.Split.{plan_bytes, host_plan, HostsPlan, host_put, HostsPut}
use Rattle.host_bytes.proofs.SplitLaws.{plan-unmeasured, put-unmeasured}
use Rattle.host_bytes.proofs.JournalledLaws.{journalled-node}
use Rattle.host_bytes.proofs.JournalTripLaws.{journalled-unmeasured}
use Rattle.journal.specs.Journalled as Calls

pub call : (F : List ℕ → List ℕ) (a : Anchor) (card : List ℕ) (c : Call) → node_of (outcome F a card c).answer < 131072
call = node-small

pub plan : (F : List ℕ → List ℕ) (a : Anchor) (card : List ℕ) (i : ℕ) (block ranges : List ℕ)
    → node_of (planned F a card i block ranges).call.answer < 131072
plan F a card i block ranges =
    rw (plan-answer F a card i block ranges ∙ sym (outcome-answer F a card (write i block ranges)))
    (node-small F a card (write i block ranges))

-- a plan's bytes of another length, where the anchor's are lent as an array
pub plan_bytes_length : (s card : List ℕ) (i : ℕ) (block ranges p ms : List ℕ) → length p ≢ plan_bytes → {lent : List ℕ} → lent ≡ s
    → HostsPlan (host_plan s card i block ranges p ms) refused_length lent p card ranges ms
plan_bytes_length s card i block ranges p ms d e = rw e (plan-unmeasured s card i block ranges p ms (λ l. d l.1))

-- messages of another length, where both are
pub messages : (s card : List ℕ) (i : ℕ) (block ranges p ms : List ℕ) → length ms ≢ message_room → {kept lent : List ℕ} → kept ≡ s
    → lent ≡ p → HostsPlan (host_plan s card i block ranges p ms) refused_length kept lent card ranges ms
messages s card i block ranges p ms d f e = rw (f, e) (plan-unmeasured s card i block ranges p ms (λ l. d l.2))

-- a put's plan of another length, where the anchor's bytes are lent as an array
pub put : (s p card : List ℕ) (u : ℕ) (tag : List ℕ) → length p ≢ plan_bytes → {lent : List ℕ} → lent ≡ s
    → HostsPut (host_put s p card u tag) refused_length lent p card
put s p card u tag d e = rw e (put-unmeasured s p card u tag (λ l. d l.1))

pub journalled : (F : List ℕ → List ℕ) (a : Anchor) (card : List ℕ) (i : ℕ) (block ranges journal : List ℕ)
    → node_of (Calls.journalled F a card i block ranges journal).call.answer < 131072
journalled = journalled-node

-- `raised` of another length, where the anchor's bytes are lent as an array
pub raised_length : (s r card : List ℕ) (i : ℕ) (block ranges journal : List ℕ) → length r ≢ anchor_bytes → {lent : List ℕ} → lent ≡ s
    → HostsJournalled (host_journalled s r card i block ranges journal) refused_length lent r card ranges journal
raised_length s r card i block ranges journal d e = rw e (journalled-unmeasured s r card i block ranges journal (λ l. d l.1))
