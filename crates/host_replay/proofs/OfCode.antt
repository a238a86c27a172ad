-- What the contracts of the functions for C say of a call that returned: x is what it was given, r what it answered, e what it left.
use mathlib.Core.Path.{◌≡◌, refl}
use mathlib.Core.List.{[], ◌∷◌}
use lib.ListN.{length}
use seplogic.Ra.Ura.{Ura}
use base.Logic.{SProp}
use prog.Memory.{Memory}
use prog.Routine.{Routine}
use types.Logic.{Logic}
use contract.Monad.{Fun, fact}
use Rattle.tree.specs.Calls.{read, write, check, wipe}
use Rattle.plan.specs.Split.{message_room}
use Rattle.host_bytes.specs.Split.{plan_bytes, tag_bytes}
use Rattle.pat.proofs.pat_format.Reads as format-code
use Rattle.pat.proofs.pat_read.Reads as read-code
use Rattle.pat.proofs.pat_write.Reads as write-code
use Rattle.pat.proofs.pat_check.Reads as check-code
use Rattle.pat.proofs.pat_wipe.Reads as wipe-code
use Rattle.pat.proofs.pat_plan.Reads as plan-code
use Rattle.pat.proofs.pat_put_tag.Reads as put-code
use Rattle.pat.proofs.pat_write_journalled.Reads as attempt-code
use Rattle.pat.specs.contracts.pat_write_in_place as in_place
use Rattle.replay.specs.Run.{Fate}
use Rattle.host_bytes.specs.Host.{anchor_bytes}
use Rattle.host_replay.specs.Called.{bytes, struct, call, PlanMeets, PutsMeet, AttemptMeets, Meets, Formatted}

pub format-ran : (κs : _) (x : _) (r : _) (e : _) → format-code.Learnt κs x r e
    → Formatted x.0.now x.1.0.now r e.0.now e.1.0.now
format-ran κs x r e learnt = learnt

pub read-ran : (κs : _) (x : _) (r : _) (e : _) → read-code.Learnt κs x r e
    → Meets (call (bytes x.0.now) x.1.0.now (read x.1.1.0 x.1.1.1.0.now)
    (record { code = r; anchor = bytes x.0.now; card = x.1.0.now; lent = e.1.1.1.0.now }))
read-ran κs x r e learnt = learnt

pub write-ran : (κs : _) (x : _) (r : _) (e : _) → write-code.Learnt κs x r e
    → Meets (call (bytes x.0.now) x.1.0.now (write x.1.1.0 x.1.1.1.0.now x.1.1.1.1.0.now)
    (record { code = r; anchor = bytes e.0.now; card = e.1.0.now; lent = e.1.1.1.1.0.now }))
write-ran κs x r e learnt = learnt

pub check-ran : (κs : _) (x : _) (r : _) (e : _) → check-code.Learnt κs x r e
    → Meets (call (bytes x.0.now) x.1.0.now check
    (record { code = r; anchor = bytes x.0.now; card = x.1.0.now; lent = [] }))
check-ran κs x r e learnt = learnt

pub wipe-ran : (κs : _) (x : _) (r : _) (e : _) → wipe-code.Learnt κs x r e
    → Meets (call (bytes x.0.now) x.1.0.now wipe
    (record { code = r; anchor = bytes e.0.now; card = e.1.0.now; lent = [] }))
wipe-ran κs x r e learnt = learnt

-- with buffers of the right lengths
pub plan-ran : (κs : _) (x : _) (r : _) (e : _) → plan-code.Learnt κs x r e
    → length x.1.1.1.1.1.0.now ≡ plan_bytes → length x.1.1.1.1.1.1.0.now ≡ message_room
    → PlanMeets x.0.now (record {
      card = x.1.0.now;
      index = x.1.1.0;
      block = x.1.1.1.0.now;
      ranges = x.1.1.1.1.0.now;
      room = x.1.1.1.1.1.0.now;
      buffer = x.1.1.1.1.1.1.0.now;
      code = r;
      anchor = e.0.now;
      left = e.1.0.now;
      lent = e.1.1.1.1.0.now;
      plan = e.1.1.1.1.1.0.now;
      messages = e.1.1.1.1.1.1.0.now;
    })
plan-ran κs x r e learnt plan-room message-room = record { plan-room = plan-room; message-room = message-room; says = learnt }

-- with a tag of the right length
pub put-ran : (κs : _) (x : _) (r : _) (e : _) → put-code.Learnt κs x r e → length x.1.1.1.1.0.now ≡ tag_bytes
    → PutsMeet x.0.now x.1.0.now (record {
      step = record { card = x.1.1.0.now; node = x.1.1.1.0; tag = x.1.1.1.1.0.now };
      code = r;
      anchor = e.0.now;
      plan = e.1.0.now;
      card = e.1.1.0.now;
    } ∷ [])
put-ran κs x r e learnt long = (long, learnt, tt)

-- with a buffer of the right length for the raised anchor, however far it came
pub attempt-ran : (κs : _) (x : _) (r : _) (e : _) → attempt-code.Learnt κs x r e → length x.1.0.now ≡ anchor_bytes → (fate : Fate)
    → AttemptMeets x.0.now (record {
      card = x.1.1.0.now;
      index = x.1.1.1.0;
      block = x.1.1.1.1.0.now;
      ranges = x.1.1.1.1.1.0.now;
      room = x.1.0.now;
      journal = x.1.1.1.1.1.1.0.now;
      code = r;
      anchor = e.0.now;
      raised = e.1.0.now;
      left = e.1.1.0.now;
      lent = e.1.1.1.1.1.0.now;
      filled = e.1.1.1.1.1.1.0.now;
      fate = fate;
    })
attempt-ran κs x r e learnt long fate = record { raised-room = long; says = learnt }

-- The write in place has the anchor as a struct: here is its `ensures`, as the check reads it.
module _ {M : Type 1} {𝓤 : Ura M} (𝓛 : Logic 𝓤) (mem : Memory → SProp 𝓤) (run : Routine → Fun 𝓤) where
  pub in-place-ran : (κs : _) (x : _) (g : _) (r : _) (e : _)
      → (in_place.clauses 𝓛 mem run κs x).ensures g r e
      ≡ fact 𝓤 (Meets
      (call (struct x.0.now) x.1.0.now (write x.1.1.0 x.1.1.1.0.now x.1.1.1.1.0.now)
      (record { code = r; anchor = struct e.0.now; card = e.1.0.now; lent = e.1.1.1.1.0.now })))
  in-place-ran κs x g r e = refl
