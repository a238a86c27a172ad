-- The plan's bytes: those of a plan stand for it, and so they do with other filled places.
use mathlib.Core.Path.{◌≡◌, sym, ap, ◌∙◌}
use mathlib.Core.List.{List, ◌++◌, append_assoc}
use Prim.Native.Nat.{ℕ, ◌^◌, ◌<◌}
use native.Mathlib.Omega.{arith}
use lib.ListN.{length, take, length-append}
use lib.Seq.{take-append-le, drop_at, take_all}
use Rattle.words.specs.Bytes.{part}
use Rattle.tree.specs.Numbers.{be8}
use Rattle.tree.proofs.ByteLaws.{length-be}
use Rattle.plan.specs.declared.Plan.{Plan}
use Rattle.host_bytes.specs.Host.{number}
use Rattle.host_bytes.specs.Split.{plan_bytes, plan_of, bytes_of}
use Rattle.host_bytes.specs.RoundTrip.{StandsPlan}
use Rattle.host_bytes.proofs.HostLaws.{number-be}
use Rattle.host_bytes.proofs.StoredLaws.{stored-long, stored-before, stored_last}

plan-same : {i j r t f g : ℕ} → i ≡ j → r ≡ t → f ≡ g
    → ◌≡◌ {A = Plan} (record { index = record { 0 = i }; root = record { 0 = r }; filled = f })
    (record { index = record { 0 = j }; root = record { 0 = t }; filled = g })
plan-same p q r = cc

-- a whole plan
module _ (p : Plan) where
  abbrev b1 : List ℕ
  b1 = be8 p.index.0

  abbrev b2 : List ℕ
  b2 = be8 p.root.0

  abbrev b3 : List ℕ
  b3 = be8 p.filled

  all-long : length (bytes_of p) ≡ plan_bytes
  all-long =
      length-append b1 (b2 ++ b3)
      ∙ omega (arith, length-append b2 b3, length-be 8 p.index.0, length-be 8 p.root.0, length-be 8 p.filled)

  first_part : part (bytes_of p) 0 8 ≡ be8 p.index.0
  first_part =
      take-append-le 8 b1 (b2 ++ b3) (omega (arith, length-be 8 p.index.0)) ∙ take_all 8 b1 (omega (arith, length-be 8 p.index.0))

  second-part : part (bytes_of p) 8 8 ≡ be8 p.root.0
  second-part =
      ap (take 8) (drop_at b1 (b2 ++ b3) 8 (length-be 8 p.index.0))
      ∙ take-append-le 8 b2 b3 (omega (arith, length-be 8 p.root.0)) ∙ take_all 8 b2 (omega (arith, length-be 8 p.root.0))

  third-part : part (bytes_of p) 16 8 ≡ be8 p.filled
  third-part =
      ap (λ (l : List ℕ). part l 16 8) (sym (append_assoc b1 b2 b3))
      ∙ ap (take 8)
      (drop_at (b1 ++ b2) b3 16 (length-append b1 b2 ∙ omega (arith, length-be 8 p.index.0, length-be 8 p.root.0)))
      ∙ take_all 8 b3 (omega (arith, length-be 8 p.filled))

  pub bytes-stand : p.index.0 < 2 ^ 64 → p.root.0 < 2 ^ 64 → p.filled < 2 ^ 64 → StandsPlan (bytes_of p) p
  unfolding plan_of
  bytes-stand i r f =
      record {
        long = all-long;
        is = plan-same (ap number first_part ∙ number-be 8 p.index.0 (omega arith))
            (ap number second-part ∙ number-be 8 p.root.0 (omega arith))
            (ap number third-part ∙ number-be 8 p.filled (omega arith));
        root-fits = r;
        filled-fits = f;
      }

-- the filled places anew
module _ (b : List ℕ) (long : length b ≡ plan_bytes) (f : ℕ) where
  pub filled-stand : (p : Plan) → plan_of b ≡ p → p.root.0 < 2 ^ 64 → f < 2 ^ 64
      → StandsPlan (take 16 b ++ be8 f) (record { index = p.index; root = p.root; filled = f })
  unfolding plan_of
  filled-stand p e r h =
      record {
        long = stored-long b 16 long f;
        is = plan-same (ap number (stored-before b 16 long f 0 8 (omega arith)) ∙ ap (λ (q : Plan). q.index.0) e)
            (ap number (stored-before b 16 long f 8 8 (omega arith)) ∙ ap (λ (q : Plan). q.root.0) e)
            (ap number (stored_last b 16 long f) ∙ number-be 8 f (omega arith));
        root-fits = r;
        filled-fits = h;
      }
