-- What document 02 says of a plan.
use mathlib.Core.Path.{◌≡◌, refl, sym, ap, ap₂, subst, ◌∙◌}
use mathlib.Core.List.{List, [], ◌∷◌, map, Memᴰ}
use mathlib.Core.Logic.{inr}
use mathlib.Core.Option.{Option, none, some}
use Prim.Native.Nat.{ℕ, suc, ◌+◌, ◌*◌, ◌/◌, ◌^◌, ◌<◌}
use native.Mathlib.Omega.{arith}
use lib.ListN.{length}
use Rattle.words.specs.Bytes.{part}
use Rattle.tree.specs.Layout.{IsNode, size, label}
use Rattle.tree.specs.Nodes.{path_node}
use Rattle.tree.specs.Labels.{Labels, message, labels}
use Rattle.tree.specs.Card.{written, first_wrong}
use Rattle.tree.specs.Limits.{first_failing}
use Rattle.tree.specs.Calls.{Call, write, limits, checks, verdict, Outcome, raise, answer_of, checked_by, outcome}
use Rattle.tree.specs.declared.Anchor.{Anchor}
use Rattle.tree.specs.Answer.{Whole, Wrong}
use Rattle.tree.specs.declared.Refusal.{Refusal}
use Rattle.tree.proofs.LimitLaws.{Writes}
use Rattle.tree.proofs.ByteLaws.{length-be}
use Rattle.tree.proofs.NodeLaws.{path_parent, child-node}
use Rattle.tree.proofs.LabelLaws.{Sized, labels-below, labels-sized, new-root, new-sized}
use Rattle.tree.proofs.WriteLaws.{written-labels, written-message}
use Rattle.tree.proofs.EnoughLaws.{found-same}
use Rattle.tree.proofs.CallLaws.{accepted, outcome-answer, outcome-done}
use Rattle.plan.specs.Places.{plan_nodes}
use Rattle.plan.specs.Split.{Given, given, Planned, no_plan, plan_done, plan_settled, planned, joined}
use Rattle.plan.specs.Split.{put}
use Rattle.plan.specs.Rule.{nodes_of, Laid, PlanRule}
use Rattle.plan.specs.declared.Plan.{Plan}
use Rattle.plan.proofs.PlaceLaws.{none_filled, plan-pairs, pairs-plan}
use Rattle.plan.proofs.PlaceLaws.{plan-node, plan-count}
use Rattle.plan.proofs.WaitLaws.{awaited-waits, waits-awaited}
use Rattle.plan.proofs.MessageLaws.{twin-size, messages-length, lower-stands, upper-stands}
use Rattle.plan.proofs.PlanLaws.{plan-answer, planned-done, planned-refused, messages-are, nodes-given, labels_of, given-for}
use Rattle.plan.proofs.PlanLaws.{given-rising}
use Rattle.plan.proofs.PlanLaws.{planned-labels, planned-tags, planned-lent, planned-counted}
use Rattle.plan.proofs.PutLaws.{put-answer}
use Rattle.plan.proofs.PutLaws.{no-plan-takes}

module _ (F : List ℕ → List ℕ) (F16 : (m : List ℕ) → length (F m) ≡ 16) (a : Anchor) (card : List ℕ) (i : ℕ) (block ranges : List ℕ) where
  module _ (whole : answer_of F a card (write i block ranges) ≡ Whole) where
    abbrev n : ℕ
    n = a.depth

    abbrev o : Planned
    o = planned F a card i block ranges

    ok : Writes a card i block ranges
    ok = (accepted F a card (write i block ranges) whole).limits-passed

    left_is : (outcome F a card (write i block ranges)).card ≡ written F a.depth a.root.0 a.reserved.0 card i block
    left_is = ap (λ (q : Outcome). q.card) (outcome-done F a card (write i block ranges) whole)

    pub nodes-are : nodes_of (planned F a card i block ranges).messages ≡ plan_nodes a.depth i
    nodes-are = ap nodes_of (messages-are F a card i block ranges whole) ∙ nodes-given (labels_of a card i block) (plan_nodes a.depth i)

    among : (u : ℕ) → Memᴰ u (nodes_of o.messages) → Memᴰ u (plan_nodes n i)
    among u m = subst (λ (us : List ℕ). Memᴰ u us) nodes-are m

    among-back : (u : ℕ) → Memᴰ u (plan_nodes n i) → Memᴰ u (nodes_of o.messages)
    among-back u m = subst (λ (us : List ℕ). Memᴰ u us) (sym nodes-are) m

    -- the message of a node on the card that the write leaves
    on-card : (w : ℕ) → IsNode n w
        → message (labels_of a card i block) w ≡ message (labels n (a.reserved.0 + n) (outcome F a card (write i block ranges)).card) w
    on-card w h =
        sym (written-message F F16 n ok.sound.deep a.root.0 a.reserved.0 card i block ok.sound.full ok.inside ok.long w h)
        ∙ ap (λ (c : List ℕ). message (labels n (a.reserved.0 + n) c) w) (sym left_is)

    abbrev L : Labels
    L = labels_of a card i block

    sized : Sized a.depth (labels_of a card i block)
    sized =
        new-sized a.depth a.reserved.0 i block ok.inside (labels a.depth a.root.0 card) ok.long
        (labels-sized a.depth a.root.0 card ok.sound.full)

    root-long : length (labels_of a card i block 1) ≡ 8
    root-long =
        ap length (new-root a.depth a.reserved.0 i block ok.inside (labels a.depth a.root.0 card) ok.sound.deep)
        ∙ length-be 8 (a.reserved.0 + a.depth)

    -- the children of a node of the path
    half_is : (y : ℕ) → y < n → path_node n i (suc y) / 2 ≡ path_node n i y
    half_is y h = path_parent n i ok.inside y h

    child : (y : ℕ) → y < n → (w : ℕ) → w / 2 ≡ path_node n i y → IsNode n w
    child y h w e = child-node n i ok.inside w (record { level = y; high = h; is = e })

    size-here : (y : ℕ) → y < n → (w : ℕ) → w / 2 ≡ path_node n i y → size n w ≡ size n (path_node n i (suc y))
    size-here y h w e = twin-size n (path_node n i (suc y)) w ok.sound.deep (e ∙ sym (half_is y h))

    -- what its plan is
    made : o.plan ≡ record { index = record { 0 = i }; root = record { 0 = a.reserved.0 + n }; filled = 0 }
    made = ap (λ (q : Planned). q.plan) (planned-done F a card i block ranges whole)

    index_is : o.plan.index.0 ≡ i
    index_is = ap (λ (q : Plan). q.index.0) made

    laid_so : Laid F a card i block ranges (planned F a card i block ranges)
    laid_so =
        record {
          raised = ap (λ (q : Planned). q.call.anchor) (planned-done F a card i block ranges whole);
          labels_new = λ u h.
              sym (labels-below n (a.reserved.0 + n) o.call.card u h.low)
              ∙ planned-labels F a card i block ranges whole u (inr h)
              ∙ sym (written-labels F F16 n ok.sound.deep a.root.0 a.reserved.0 card i block ok.sound.full ok.inside
              ok.long u (inr h))
              ∙ labels-below n (a.reserved.0 + n) (written F n a.root.0 a.reserved.0 card i block) u h.low
              ∙ ap (λ (c : List ℕ). label n c u) (sym left_is);
          tags-kept = planned-tags F a card i block ranges whole;
          ranges-new = planned-lent F a card i block ranges whole;
          count = sym (length-map o.messages) ∙ ap length nodes-are ∙ plan-count n i;
          rising = given-rising F a card i block ranges whole;
          for-pairs = λ u m. plan-pairs n i ok.inside u (among u m);
          pairs-for = λ u m. among-back u (pairs-plan n i ok.inside u m);
          right = λ g m.
              let k = given-for F a card i block ranges whole g m in
              k.is ∙ on-card g.node (plan-node n i ok.inside g.node k.for);
          left-stands = λ y h.
              let u = 2 * path_node n i y in
              ap₂ (λ (l : List ℕ) (k : ℕ). part l (34 * y) (k + 9)) joined_is (size-here y h u (omega arith))
              ∙ lower-stands n i ok.inside ok.sound.deep L sized root-long y h
              ∙ ap (λ (w : ℕ). message L (2 * w)) (half_is y h) ∙ on-card u (child y h u (omega arith));
          right-stands = λ y h.
              let u = 2 * path_node n i y + 1 in
              ap₂ (λ (l : List ℕ) (k : ℕ). part l (34 * y + (k + 9)) (k + 9)) joined_is (size-here y h u (omega arith))
              ∙ upper-stands n i ok.inside ok.sound.deep L sized root-long y h
              ∙ ap (λ (w : ℕ). message L (2 * w + 1)) (half_is y h) ∙ on-card u (child y h u (omega arith));
          all-bytes = ap length joined_is ∙ messages-length n i ok.inside ok.sound.deep L sized root-long;
          made = made;
          waits = λ u m.
              awaited-waits n o.plan u (record {
                inside = subst (λ (j : ℕ). j < 2 ^ n) (sym index_is) ok.inside;
                among = subst (λ (j : ℕ). Memᴰ u (plan_nodes n j)) (sym index_is) (among u m);
                unfilled = none_filled n o.plan (ap (λ (q : Plan). q.filled) made) u;
              });
          waits-only = λ u h.
              among-back u (subst (λ (j : ℕ). Memᴰ u (plan_nodes n j)) index_is (waits-awaited n o.plan u h).among);
          counted = planned-counted F a card i block ranges whole;
        }
      where
        joined_is : joined o.messages ≡ joined (map (given L) (plan_nodes n i))
        joined_is = ap joined (messages-are F a card i block ranges whole)

        length-map : (gs : List Given) → length (nodes_of gs) ≡ length gs
        length-map [] = refl
        length-map (g ∷ gs) = let e = length-map gs in omega arith

  -- What it tags

  abbrev c : Call
  c = write i block ranges

  -- the plan by its first wrong tag, where the limits are passed
  abbrev plan_by : (List ℕ → List ℕ) → Option ℕ → Planned
  plan_by G w = plan_settled G (verdict none w) a card i block ranges

  counts-checked : (w : Option ℕ) → (plan_by F w).call.counted ≡ checked_by F a card c
  counts-checked none = refl
  counts-checked (some u) = refl

  enough-plan : (G : List ℕ → List ℕ) → ((m : List ℕ) → Memᴰ m (planned F a card i block ranges).call.counted → F m ≡ G m)
      → planned F a card i block ranges ≡ planned G a card i block ranges
  unfolding planned answer_of
  enough-plan G agree = go (first_failing (limits a card c)) refl
    where
      us : List ℕ
      us = checks a.depth c

      by-tag : (w : Option ℕ) → checked_by F a card c ≡ checked_by G a card c → plan_by F w ≡ plan_by G w
      by-tag none e =
          ap (λ (l : List (List ℕ)). let o : Planned = record {
            call = record {
              answer = Whole;
              anchor = raise a;
              card = (plan_done F a card i block ranges).call.card;
              lent = (plan_done F a card i block ranges).call.lent;
              counted = l;
            };
            plan = (plan_done F a card i block ranges).plan;
            messages = (plan_done F a card i block ranges).messages;
          } in o) e
      by-tag (some u) e =
          ap (λ (l : List (List ℕ)). let o : Planned = record {
            call = record { answer = Wrong (record { 0 = u }); anchor = a; card = card; lent = ranges; counted = l };
            plan = no_plan;
            messages = [];
          } in o) e

      go : (r : Option Refusal) → first_failing (limits a card c) ≡ r
          → plan_settled F (verdict (first_failing (limits a card c)) (first_wrong F a.depth a.root.0 card us)) a card i block ranges
          ≡ plan_settled G (verdict (first_failing (limits a card c)) (first_wrong G a.depth a.root.0 card us)) a card i block ranges
      go (some r) e = rw e
      go none e =
          let q = found-same F G a.depth a.root.0 card us
          (λ m h.
          agree m
          (subst (λ (l : List (List ℕ)). Memᴰ m l)
          (sym (rw e (counts-checked (first_wrong F a.depth a.root.0 card us)))) h)) in
          rw e (ap (plan_by F) q.0 ∙ by-tag (first_wrong G a.depth a.root.0 card us) q.1)

  pub plan-rule : PlanRule F a card i block ranges
  plan-rule =
      record {
        answered = plan-answer F a card i block ranges ∙ sym (outcome-answer F a card (write i block ranges));
        enough = enough-plan;
        refused = λ d.
            let e = planned-refused F a card i block ranges (λ w. d (plan-answer F a card i block ranges ∙ w)) in (
              ap (λ (q : Planned). q.call) e,
              ap (λ (q : Planned). q.messages) e,
              λ b other u x w.
                  no-plan-takes b other u
                  (sym (put-answer b _ other u x)
                  ∙ subst (λ (p : Plan). (put b p other u x).answer ≡ Whole) (ap (λ (q : Planned). q.plan) e) w),
            );
        accepted = λ w. laid_so (sym (plan-answer F a card i block ranges) ∙ w);
      }
