-- The tree as a frame of the core, and format, wipe and write as events on labels.
use mathlib.Core.Path.{◌≡◌, sym, ap, ◌∙◌}
use mathlib.Core.List.{List}
use mathlib.Core.Logic.{◌⊎◌, inl, inr, ⊎_elim}
use Prim.Native.Nat.{ℕ, suc, ◌+◌, ◌-◌, ◌/◌, ◌%◌, ◌^◌, ◌<◌}
use native.Mathlib.Omega.{arith}
use lib.ListN.{length}
use Rattle.tree.specs.Numbers.{be8}
use Rattle.tree.specs.Layout.{IsNode, size}
use Rattle.tree.specs.Nodes.{path_node}
use Rattle.tree.specs.Labels.{Labels, form, blank_labels, new_labels}
use Rattle.tree.proofs.ByteLaws.{be-inj}
use Rattle.tree.proofs.NodeLaws.{Off, Child, child-or-off, off-child}
use Rattle.tree.proofs.LabelLaws.{form-parts, Sized, blank-inner, blank-sized, blank-same, new-path, new-off, new-sized}
use Rattle.replay.proofs.Core.{Frame, Nonced, AllNonced, Keeps, Event}

abbrev pub frame : ℕ → Frame
frame n = record { Node = IsNode n; size = size n; form = form; parts = form-parts }

-- Format or wipe, at the nonce t: every parent has it.

pub blank-nonced : (n t v : ℕ) → IsNode n v → Nonced (frame n) t (suc t) (blank_labels n t) v
blank-nonced n t v h = record { nonce = t; is = blank-inner n t (v / 2) (omega (arith, h.high)); low = omega arith; high = omega arith }

pub blank-event : (n t : ℕ) (I : Labels) → t < 2 ^ 64 → Event (frame n) t (suc t) I (blank_labels n t)
blank-event n t I small =
    record {
      grows = omega arith;
      top = omega arith;
      each = λ v h. inr (blank-nonced n t v h);
      sized = blank-sized n t;
      coherent = λ v w hv hw fv fw size parent side. blank-same n t v w size;
    }

-- Write: the parents on the path have the nonces after r.

module _ (n r i : ℕ) (b : List ℕ) (inside : i < 2 ^ n) where
  child-parent : (L : Labels) (v : ℕ) (c : Child n i inside v) → new_labels n r i b L (v / 2) ≡ be8 (r + n - c.level)
  child-parent L v c = ap (new_labels n r i b L) c.is ∙ new-path n r i b inside L c.level c.high

  -- whatever the labels were
  pub child-nonced : (L : Labels) (v : ℕ) (c : Child n i inside v) → Nonced (frame n) (suc r) (suc (r + n)) (new_labels n r i b L) v
  child-nonced L v c =
      record {
        nonce = r + n - c.level;
        is = child-parent L v c;
        low = omega (arith, c.high);
        high = omega arith;
      }

  module _ (I : Labels) (unspent : r + n < 2 ^ 64) (long : length b ≡ 64) (sized : Sized n I) (nonced : AllNonced (frame n) (suc r) I) where
    abbrev J : Labels
    J = new_labels n r i b I

    each : (v : ℕ) → IsNode n v → Keeps (frame n) (suc r) I J v ⊎ Nonced (frame n) (suc r) (suc (r + n)) J v
    each v h =
        ⊎_elim (λ (c : Child n i inside v). inr (child-nonced I v c))
        (λ (f : Off n i inside n (v / 2)).
        inl (record {
          own = new-off n r i b inside I v (off-child n i inside v h f);
          parent = new-off n r i b inside I (v / 2) f;
          was = nonced v h;
        }))
        (child-or-off n i inside v h)

    -- a parent with a fresh nonce is on the path
    fresh-child : (v : ℕ) → IsNode n v → Nonced (frame n) (suc r) (suc (r + n)) J v → Child n i inside v
    fresh-child v h f =
        ⊎_elim (λ (c : Child n i inside v). c)
        (λ (o : Off n i inside n (v / 2)).
        let s = nonced v h in
        let e =
        be-inj 8 f.nonce s.nonce (omega (arith, f.high)) (omega (arith, s.high))
        (sym f.is ∙ new-off n r i b inside I (v / 2) o ∙ s.is) in
        absurd (omega (arith, f.low, s.high)))
        (child-or-off n i inside v h)

    -- and no two of them have the same
    coherent : (v w : ℕ) → IsNode n v → IsNode n w → Nonced (frame n) (suc r) (suc (r + n)) J v → Nonced (frame n) (suc r) (suc (r + n)) J w
        → J (v / 2) ≡ J (w / 2) → v % 2 ≡ w % 2 → J v ≡ J w
    coherent v w hv hw fv fw parent side =
        let c = fresh-child v hv fv in
        let d = fresh-child w hw fw in
        let e =
        be-inj 8 (r + n - c.level) (r + n - d.level) (omega arith) (omega arith)
        (sym (child-parent I v c) ∙ parent ∙ child-parent I w d) in
        let y : c.level ≡ d.level = omega (arith, c.high, d.high) in
        let half : v / 2 ≡ w / 2 = c.is ∙ ap (path_node n i) y ∙ sym d.is in
        let same : v ≡ w = omega arith in
        ap J same

    pub write-event : Event (frame n) (suc r) (suc (r + n)) I (new_labels n r i b I)
    write-event =
        record {
          grows = omega arith;
          top = omega arith;
          each = each;
          sized = new-sized n r i b inside I long sized;
          coherent = λ v w hv hw fv fw size parent side. coherent v w hv hw fv fw parent side;
        }
