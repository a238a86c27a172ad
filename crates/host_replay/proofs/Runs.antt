-- Every list of calls, split writes and attempts, with the anchor in whatever form, runs from the bytes of any anchor.
use mathlib.Core.Path.{◌≡◌, refl, sym, ap, ap₂, subst, ◌∙◌}
use mathlib.Core.List.{List, [], ◌∷◌}
use Prim.Native.Nat.{ℕ}
use native.Mathlib.Omega.{arith}
use lib.ListN.{length, replicate, length-replicate}
use Rattle.cmac.specs.Cmac.{cmac_of}
use Rattle.cmac.proofs.Laws.{length-cmac}
use Rattle.tree.specs.Calls.{Call, Outcome, outcome}
use Rattle.plan.specs.Split.{no_plan, message_room}
use Rattle.plan.specs.Puts.{PutStep}
use Rattle.plan.proofs.PutLaws.{put-answer, no-plan-takes}
use Rattle.host_bytes.specs.Host.{anchor_bytes, anchor_of, code_of, Host, host_call}
use Rattle.host_bytes.specs.Split.{bytes_of, host_plan, HostsPlan, host_put}
use Rattle.host_bytes.specs.RoundTrip.{Stands, StandsPlan}
use Rattle.host_bytes.proofs.AnchorLaws.{code-whole, call-stands}
use Rattle.host_bytes.proofs.PlanBytesLaws.{bytes-stand}
use Rattle.host_bytes.proofs.SplitTripLaws.{plan-refused, put-told, put_refused}
use Rattle.host_bytes.specs.Journal.{host_journalled}
use Rattle.replay.specs.Run.{Fate}
use Rattle.host_replay.specs.Called.{Held, bytes, struct, PlanCalled, PutCalled, AttemptCalled, Called, call, split, attempt, put_steps}
use Rattle.host_replay.specs.Called.{last_anchor, last_card, chip_anchor, back_of}
use Rattle.host_replay.specs.Called.{PutsMeet, NonePut, Meets, Handed}
use Rattle.host_replay.specs.Called.{by_bytes, in_place, Turn, turn_of, TagsFit, Fits, AllFit, Runs}
use Rattle.host_replay.specs.Plain.{tag_for, InTurn, RunsInTurn}
use Rattle.host_replay.proofs.SplitSteps.{split-stands}
use Rattle.host_replay.proofs.Attempts.{attempt-stands}

-- s are the bytes of the anchor h, or would be
abbrev Carries : List ℕ → Held → Type 0
Carries s (bytes t) = (t ≡ s) × (length s ≡ anchor_bytes)
Carries s (struct a) = Stands s a

to-bytes : (s : List ℕ) (h : Held) → Carries s h → Handed h (bytes s)
to-bytes s (bytes t) k = sym k.0
to-bytes s (struct a) k = k

to-struct : (s : List ℕ) (h : Held) → Carries s h → Handed h (struct (anchor_of s))
to-struct s (bytes t) k = ap anchor_of (sym k.0)
to-struct s (struct a) k = k.is

carried-long : (s : List ℕ) (h : Held) → Carries s h → length s ≡ anchor_bytes
carried-long s (bytes t) k = k.1
carried-long s (struct a) k = k.long

-- What a call does with the anchor's bytes s
module _ (s : List ℕ) (long : length s ≡ anchor_bytes) (card : List ℕ) (c : Call) where
  abbrev host : Host
  host = host_call s card c

  abbrev left : Outcome
  left = outcome (cmac_of (anchor_of s).key) (anchor_of s) card c

  host-stands : Stands (host_call s card c).anchor (outcome (cmac_of (anchor_of s).key) (anchor_of s) card c).anchor
  host-stands =
      call-stands s long card c host.code host.anchor host.card host.lent
      (record { coded = refl; anchored = refl; left = refl; filled = refl })

  abbrev called-bytes : Called
  called-bytes =
      call (bytes s) card c (record { code = host.code; anchor = bytes host.anchor; card = host.card; lent = host.lent })

  abbrev called-struct : Called
  called-struct =
      call (struct (anchor_of s)) card c
      (record { code = code_of left.answer; anchor = struct left.anchor; card = left.card; lent = left.lent })

-- What puts do with the anchor's bytes s and the plan's bytes b
record PutsRun (s b : List ℕ) (xs : List PutStep) : Type 0 where
  puts : List PutCalled
  ran : PutsMeet s b puts
  are : put_steps puts ≡ xs

puts-run : (xs : List PutStep) → TagsFit xs → (s b : List ℕ) → PutsRun s b xs
puts-run [] fit s b = record { puts = []; ran = tt; are = refl }
puts-run (x ∷ xs) fit s b =
    let h = host_put s b x.card x.node x.tag in
    let q : PutCalled = record { step = x; code = h.code; anchor = h.anchor; plan = h.plan; card = h.card } in
    let rest = puts-run xs fit.1 h.anchor h.plan in
    record {
      puts = q ∷ rest.puts;
      ran = (fit.0, record { coded = refl; anchored = refl; planned = refl; left = refl }, rest.ran);
      are = ap (λ (l : List PutStep). x ∷ l) rest.are;
    }

-- in turn
module _ (s : List ℕ) (p : PlanCalled) where
  record TurnsRun (e b left us : List ℕ) : Type 0 where
    puts : List PutCalled
    ran : PutsMeet e b puts
    turn : InTurn s p left us puts

  turns-from : (us e b k : List ℕ) → TurnsRun e b k us
  turns-from [] e b k = record { puts = []; ran = tt; turn = tt }
  turns-from (u ∷ us) e b k =
      let h = host_put e b k u (tag_for s p u) in
      let q : PutCalled = record {
        step = record { card = k; node = u; tag = tag_for s p u };
        code = h.code;
        anchor = h.anchor;
        plan = h.plan;
        card = h.card;
      } in
      let rest = turns-from us h.anchor h.plan (last_card k (q ∷ [])) in
      record {
        puts = q ∷ rest.puts;
        ran = (
          length-cmac (anchor_of s).key _,
          record { coded = refl; anchored = refl; planned = refl; left = refl },
          rest.ran,
        );
        turn = (refl, refl, refl, rest.turn);
      }

pub turns-run : (s : List ℕ) (p : PlanCalled) (us : List ℕ) → RunsInTurn s p us
turns-run s p us =
    let r = turns-from s p us p.anchor p.plan p.left in record { puts = r.puts; ran = r.ran; turn = r.turn }

-- with the bytes of no plan each is refused
none-put : (qs : List PutCalled) (s b : List ℕ) → length s ≡ anchor_bytes → StandsPlan b no_plan → PutsMeet s b qs → NonePut qs
none-put [] s b long stands m = tt
none-put (q ∷ qs) s b long stands m =
    let x = q.step in
    let t = put-told s x.card b long no_plan stands x.node x.tag m.0 q.code q.anchor q.plan q.card m.1 in
    let no : q.code ≡ 0 → ⊥ = λ zero.
    no-plan-takes (anchor_of s) x.card x.node
    (sym (put-answer (anchor_of s) no_plan x.card x.node x.tag) ∙ code-whole _ (sym t.coded ∙ zero)) in
    let k = put_refused s x.card b x.node x.tag q.code q.anchor q.plan q.card m.1 no in (
      no,
      none-put qs q.anchor q.plan (ap length k.0 ∙ long)
          (subst (λ (l : List ℕ). StandsPlan l no_plan) (sym k.1) stands) m.2,
    )

-- What a plan does, whose buffer has the bytes of no plan
module _ (s : List ℕ) (long : length s ≡ anchor_bytes) (card : List ℕ) (i : ℕ) (block ranges : List ℕ) (puts : List PutStep)
    (fit : TagsFit puts) where
  room-stands : StandsPlan (bytes_of no_plan) no_plan
  room-stands = bytes-stand no_plan (omega arith) (omega arith) (omega arith)

  abbrev plan-called : PlanCalled
  plan-called =
      let h = host_plan s card i block ranges (bytes_of no_plan) (replicate message_room 0) in
      record {
        card = card;
        index = i;
        block = block;
        ranges = ranges;
        room = bytes_of no_plan;
        buffer = replicate message_room 0;
        code = h.code;
        anchor = h.anchor;
        left = h.card;
        lent = h.ranges;
        plan = h.plan;
        messages = h.messages;
      }

  abbrev put-calls : PutsRun plan-called.anchor plan-called.plan puts
  put-calls = puts-run puts fit plan-called.anchor plan-called.plan

  split-meets : Meets (split s plan-called put-calls.puts)
  split-meets =
      let p = plan-called in
      let says : HostsPlan (host_plan s card i block ranges p.room p.buffer) p.code p.anchor p.plan p.left p.lent p.messages =
      record { coded = refl; anchored = refl; planned = refl; left = refl; filled = refl; gave = refl } in (
        record { plan-room = room-stands.long; message-room = length-replicate {A = ℕ} message_room 0; says = says },
        put-calls.ran,
        λ d.
            let k = plan-refused s card p.room i block ranges p.buffer p.code p.anchor p.plan p.left p.lent p.messages says d in
            none-put put-calls.puts p.anchor p.plan (ap length k.0 ∙ long)
            (subst (λ (l : List ℕ). StandsPlan l no_plan) (sym k.1) room-stands) put-calls.ran,
      )

  split-long : length (last_anchor plan-called.anchor put-calls.puts) ≡ anchor_bytes
  split-long = (split-stands (anchor_of s) s (record { long = long; is = refl }) plan-called put-calls.puts split-meets).long

-- What an attempt does, whose buffer for the raised anchor has zeros
module _ (s : List ℕ) (long : length s ≡ anchor_bytes) (card : List ℕ) (i : ℕ) (block ranges journal : List ℕ) (fate : Fate) where
  abbrev attempt-called : AttemptCalled
  attempt-called =
      let h = host_journalled s (replicate anchor_bytes 0) card i block ranges journal in
      record {
        card = card;
        index = i;
        block = block;
        ranges = ranges;
        room = replicate anchor_bytes 0;
        journal = journal;
        code = h.code;
        anchor = h.anchor;
        raised = h.raised;
        left = h.card;
        lent = h.ranges;
        filled = h.journal;
        fate = fate;
      }

  attempt-meets : Meets (attempt s attempt-called)
  attempt-meets =
      record {
        raised-room = length-replicate {A = ℕ} anchor_bytes 0;
        says = record { coded = refl; anchored = refl; raises = refl; left = refl; filled = refl; journals = refl };
      }

  attempt-long : length (chip_anchor s attempt-called) ≡ anchor_bytes
  attempt-long = (attempt-stands (anchor_of s) s (record { long = long; is = refl }) attempt-called attempt-meets).long

runs-from : (ts : List Turn) → AllFit ts → (s : List ℕ) (h : Held) → Carries s h → Runs h ts
runs-from [] fit s h k = record { calls = []; ran = tt; are = refl }
runs-from (t ∷ ts) fit s h k = go t fit.0 (runs-from ts fit.1)
  where
    long : length s ≡ anchor_bytes
    long = carried-long s h k

    go : (t : Turn) → Fits t → ((e : List ℕ) (g : Held) → Carries e g → Runs g ts) → Runs h (t ∷ ts)
    go (Turn.call by_bytes card c) f rest =
        let r = called-bytes s long card c in
        let q = rest (host_call s card c).anchor (back_of r).anchor (refl, (host-stands s long card c).long) in
        record {
          calls = r ∷ q.calls;
          ran = (to-bytes s h k, record { coded = refl; anchored = refl; left = refl; filled = refl }, q.ran);
          are = ap (λ (l : List Turn). turn_of r ∷ l) q.are;
        }
    go (Turn.call in_place card c) f rest =
        let r = called-struct s long card c in
        let q = rest (host_call s card c).anchor (back_of r).anchor (host-stands s long card c) in
        record {
          calls = r ∷ q.calls;
          ran = (to-struct s h k, record { coded = refl; anchored = refl; left = refl; filled = refl }, q.ran);
          are = ap (λ (l : List Turn). turn_of r ∷ l) q.are;
        }
    go (Turn.split card i block ranges puts) f rest =
        let qs = put-calls s long card i block ranges puts f in
        let r : Called = split s (plan-called s long card i block ranges puts f) qs.puts in
        let q = rest (last_anchor (plan-called s long card i block ranges puts f).anchor qs.puts) (back_of r).anchor
        (refl, split-long s long card i block ranges puts f) in
        record {
          calls = r ∷ q.calls;
          ran = (to-bytes s h k, split-meets s long card i block ranges puts f, q.ran);
          are = ap₂ (λ (xs : List PutStep) (l : List Turn). Turn.split card i block ranges xs ∷ l) qs.are q.are;
        }
    go (Turn.attempt card i block ranges journal fate) f rest =
        let r : Called = attempt s (attempt-called s long card i block ranges journal fate) in
        let q = rest (chip_anchor s (attempt-called s long card i block ranges journal fate)) (back_of r).anchor
        (refl, attempt-long s long card i block ranges journal fate) in
        record {
          calls = r ∷ q.calls;
          ran = (to-bytes s h k, attempt-meets s long card i block ranges journal fate, q.ran);
          are = ap (λ (l : List Turn). Turn.attempt card i block ranges journal fate ∷ l) q.are;
        }

pub runs : (anchor : List ℕ) → length anchor ≡ anchor_bytes → (ts : List Turn) → AllFit ts → Runs (bytes anchor) ts
runs anchor long ts fit = runs-from ts fit anchor (bytes anchor) (refl, long)
