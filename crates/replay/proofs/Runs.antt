-- Every list of calls and split writes, on any cards, runs from every anchor: what the contracts say of it can be met.
use mathlib.Core.Path.{◌≡◌, refl, ap, ap₂}
use mathlib.Core.List.{List, [], ◌∷◌, ◌++◌, map}
use Prim.Native.Nat.{ℕ}
use lib.ListN.{length, drop, replicate}
use Rattle.cmac.specs.Cmac.{cmac_of}
use Rattle.cmac.specs.Traced.{subkeys_count, cmac_count}
use Rattle.tree.specs.Calls.{count_of, outcome}
use Rattle.tree.specs.declared.Anchor.{Anchor}
use Rattle.plan.specs.Split.{planned, joined, message_room, put}
use Rattle.plan.specs.Puts.{PutStep}
use Rattle.plan.specs.declared.Plan.{Plan}
use Rattle.replay.specs.Run
use Rattle.replay.specs.Run.{Step}
use Rattle.journal.specs.Journalled.{journalled}
use Rattle.replay.specs.Ran.{PlanRan, PutRan, AttemptRan, Ran, call, split, attempt, step_of, back_of, PutsMeet, Meets, Runs}

-- puts from any anchor and plan
pub record PutsRun (a : Anchor) (p : Plan) (xs : List PutStep) : Type 0 where
  pub puts : List PutRan
  pub ran : PutsMeet a p puts
  pub are : map (λ (q : PutRan). q.step) puts ≡ xs

pub puts-run : (xs : List PutStep) (a : Anchor) (p : Plan) → PutsRun a p xs
puts-run [] a p = record { puts = []; ran = tt; are = refl }
puts-run (x ∷ xs) a p =
    let o = put a p x.card x.node x.tag in
    let q : PutRan = record { step = x; answer = o.answer; anchor = o.anchor; plan = o.plan; card = o.card } in
    let rest = puts-run xs o.anchor o.plan in
    record {
      puts = q ∷ rest.puts;
      ran = (record { answered = refl; anchored = refl; planned = refl; left = refl }, rest.ran);
      are = ap (λ (l : List PutStep). x ∷ l) rest.are;
    }

record StepRuns (a : Anchor) (x : Step) : Type 0 where
  one : Ran
  met : Meets a one
  is : step_of one ≡ x

step-runs : (a : Anchor) (x : Step) → StepRuns a x
step-runs a (Run.call card c) =
    let o = outcome (cmac_of a.key) a card c in
    let k = count_of (subkeys_count a.key) (cmac_count a.key) o in
    record {
      one = call card c (record { answer = o.answer; count = k; anchor = o.anchor; card = o.card; lent = o.lent });
      met = record { gives = record { answered = refl; anchored = refl; left = refl; filled = refl }; counted = refl };
      is = refl;
    }
step-runs a (Run.split card i block ranges xs) =
    let o = planned (cmac_of a.key) a card i block ranges in
    let k = count_of (subkeys_count a.key) (cmac_count a.key) o.call in
    let ms = joined o.messages in
    let buffer : List ℕ = replicate message_room 0 in
    let p : PlanRan = record {
      card = card;
      index = i;
      block = block;
      ranges = ranges;
      buffer = buffer;
      back = record { answer = o.call.answer; count = k; anchor = o.call.anchor; card = o.call.card; lent = o.call.lent };
      plan = o.plan;
      messages = ms ++ drop (length ms) buffer;
    } in
    let rest = puts-run xs o.call.anchor o.plan in
    record {
      one = split p rest.puts;
      met = (
        record {
          reports = record { gives = record { answered = refl; anchored = refl; left = refl; filled = refl }; counted = refl };
          planned = refl;
          gave = refl;
        },
        rest.ran,
      );
      is = ap (λ (l : List PutStep). Run.split card i block ranges l) rest.are;
    }
step-runs a (Run.attempt card i block ranges journal fate) =
    let o = journalled (cmac_of a.key) a card i block ranges journal in
    let k = count_of (subkeys_count a.key) (cmac_count a.key) o.call in
    let t : AttemptRan = record {
      card = card;
      index = i;
      block = block;
      ranges = ranges;
      journal = journal;
      back = record { answer = o.call.answer; count = k; anchor = o.call.anchor; card = o.call.card; lent = o.call.lent };
      raised = o.raised;
      filled = o.journal;
      fate = fate;
    } in
    record {
      one = attempt t;
      met = record {
        reports = record { gives = record { answered = refl; anchored = refl; left = refl; filled = refl }; counted = refl };
        raises = refl;
        journals = refl;
      };
      is = refl;
    }

pub runs : (a : Anchor) (xs : List Step) → Runs a xs
runs a [] = record { calls = []; ran = tt; are = refl }
runs a (x ∷ xs) =
    let r = step-runs a x in
    let rest = runs (back_of a r.one).anchor xs in
    record { calls = r.one ∷ rest.calls; ran = (r.met, rest.ran); are = ap₂ (λ (y : Step) (l : List Step). y ∷ l) r.is rest.are }
