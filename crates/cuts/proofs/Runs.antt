-- Every list of items, whatever its cuts, runs from any media: what the contracts say of it can be met.
use mathlib.Core.Path.{◌≡◌, refl, ap, ap₂}
use mathlib.Core.List.{List, [], ◌∷◌, ◌++◌}
use Prim.Native.Nat.{ℕ}
use lib.ListN.{length, drop, replicate}
use Rattle.cmac.specs.Cmac.{cmac_of}
use Rattle.cmac.specs.Traced.{subkeys_count, cmac_count}
use Rattle.tree.specs.Calls.{Gives, count_of, outcome}
use Rattle.journal.specs.Journalled.{journalled}
use Rattle.journal.specs.Recovery.{recovered}
use Rattle.plan.specs.Split.{planned, joined, message_room}
use Rattle.plan.specs.Puts.{PutStep}
use Rattle.replay.specs.Ran.{PlanRan}
use Rattle.replay.proofs.Runs.{puts-run}
use Rattle.cuts.specs.Media.{Media}
use Rattle.cuts.specs.World
use Rattle.cuts.specs.World.{Item}
use Rattle.cuts.specs.Ran.{Wrote, RanItem, attempting, recovering, calling, splitting, item_of, media_ran, Meets, Runs}

record ItemRuns (m : Media) (x : Item) : Type 0 where
  one : RanItem
  met : Meets m one
  is : item_of one ≡ x

kept-anchor : (m : Media) →
    let o = recovered (cmac_of m.anchor.key) m.anchor m.card m.journal in
    Gives o o.answer m.anchor o.card []
unfolding recovered
kept-anchor m = record { answered = refl; anchored = refl; left = refl; filled = refl }

item-runs : (m : Media) (x : Item) → ItemRuns m x
item-runs m (World.attempting i block ranges e) =
    let a = m.anchor in
    let o = journalled (cmac_of a.key) a m.card i block ranges m.journal in
    let k = count_of (subkeys_count a.key) (cmac_count a.key) o.call in
    let w : Wrote = record {
      back = record { answer = o.call.answer; count = k; anchor = o.call.anchor; card = o.call.card; lent = o.call.lent };
      raised = o.raised;
      journal = o.journal;
    } in
    record {
      one = attempting i block ranges w e;
      met = record {
        reports = record { gives = record { answered = refl; anchored = refl; left = refl; filled = refl }; counted = refl };
        raises = refl;
        journals = refl;
      };
      is = refl;
    }
item-runs m (World.recovering e) =
    let o = recovered (cmac_of m.anchor.key) m.anchor m.card m.journal in
    record {
      one = recovering o.answer o.card e;
      met = kept-anchor m;
      is = refl;
    }
item-runs m (World.calling c) =
    let a = m.anchor in
    let o = outcome (cmac_of a.key) a m.card c in
    let k = count_of (subkeys_count a.key) (cmac_count a.key) o in
    record {
      one = calling c (record { answer = o.answer; count = k; anchor = o.anchor; card = o.card; lent = o.lent });
      met = record { gives = record { answered = refl; anchored = refl; left = refl; filled = refl }; counted = refl };
      is = refl;
    }
item-runs m (World.splitting i block ranges xs) =
    let a = m.anchor in
    let o = planned (cmac_of a.key) a m.card i block ranges in
    let k = count_of (subkeys_count a.key) (cmac_count a.key) o.call in
    let ms = joined o.messages in
    let buffer : List ℕ = replicate message_room 0 in
    let p : PlanRan = record {
      card = m.card;
      index = i;
      block = block;
      ranges = ranges;
      buffer = buffer;
      back = record { answer = o.call.answer; count = k; anchor = o.call.anchor; card = o.call.card; lent = o.call.lent };
      plan = o.plan;
      messages = ms ++ drop (length ms) buffer;
    } in
    let rest = puts-run xs o.call.anchor o.plan in
    record {
      one = splitting p rest.puts;
      met = (
        refl,
        (
          record {
            reports = record { gives = record { answered = refl; anchored = refl; left = refl; filled = refl }; counted = refl };
            planned = refl;
            gave = refl;
          },
          rest.ran,
        ),
      );
      is = ap (λ (l : List PutStep). World.splitting i block ranges l) rest.are;
    }

pub runs : (m : Media) (xs : List Item) → Runs m xs
runs m [] = record { ran = []; met = tt; are = refl }
runs m (x ∷ xs) =
    let r = item-runs m x in
    let rest = runs (media_ran m r.one) xs in
    record { ran = r.one ∷ rest.ran; met = (r.met, rest.met); are = ap₂ (λ (y : Item) (l : List Item). y ∷ l) r.is rest.are }
