-- How the code comes to what a plan and a put give: by the first limit that fails, by the first wrong tag, and by what it did.
use mathlib.Core.Path.{◌≡◌, refl, ap, ap₂, ◌∙◌}
use mathlib.Core.Bool.{cond}
use mathlib.Core.List.{List, [], ◌∷◌, ◌++◌, map, Memᴰ}
use mathlib.Core.Option.{Option, none, some}
use Prim.Native.Nat.{ℕ, ◌+◌, ◌*◌, ◌^◌, ◌<◌}
use Rattle.std.specs.Prelude.{Err}
use lib.ListN.{length, drop}
use lib.Seq.{sets}
use Rattle.cmac.specs.Cmac.{cmac_of}
use Rattle.cmac.specs.Traced.{subkeys_count, cmac_count}
use Rattle.tree.specs.Layout.{IsCard, size, offset}
use Rattle.tree.specs.Nodes.{path}
use Rattle.tree.specs.Labels.{Labels, labels, written_labels}
use Rattle.tree.specs.Card.{laid, first_wrong}
use Rattle.tree.specs.Ranges.{listed}
use Rattle.tree.specs.Limits.{first_failing}
use Rattle.tree.specs.Calls.{Call, write, limits, checks, verdict, total, rooted, raise, answer_of, checked_by}
use Rattle.tree.specs.declared.Anchor.{Anchor}
use Rattle.tree.specs.declared.Refusal.{Refusal}
use Rattle.tree.specs.declared.Error.{Error}
use Rattle.tree.specs.declared.Error.TheVariants.{WrongTag, Limit}
use Rattle.tree.specs.Answer.{Answer, Whole, Wrong, Refused, refused_as}
use Rattle.tree.specs.Tests.{tested}
use Rattle.tree.proofs.ByteLaws.{length-be}
use Rattle.tree.proofs.LimitLaws.{this_fails}
use Rattle.tree.proofs.LabelLaws.{labels-sized, new-root, new-sized}
use Rattle.plan.specs.Places.{plan_nodes, fill, full}
use Rattle.plan.specs.Split.{Given, given, plan_settled, planned, no_plan, joined, Plans, put_limits, put_answer, put, Puts}
use Rattle.plan.specs.declared.Plan.{Plan}
use Rattle.plan.proofs.PlaceLaws.{plan-node}
use Rattle.plan.proofs.MessageLaws.{messages-length}
use Rattle.plan.proofs.PlanLaws.{plan-message}

-- The plan

module _ (a : Anchor) (card : List ℕ) (i : ℕ) (block ranges buffer : List ℕ) where
  abbrev F : List ℕ → List ℕ
  F = cmac_of a.key

  abbrev once : ℕ
  once = subkeys_count a.key

  abbrev each : List ℕ → ℕ
  each = cmac_count a.key

  abbrev c : Call
  c = write i block ranges

  abbrev Told : Answer → ℕ → Anchor → Plan → List ℕ → List ℕ → List ℕ → Type 0
  Told x k b p left lent messages = Plans once each (planned F a card i block ranges) buffer x k b p left lent messages

  -- a limit refuses it
  pub plan-limited : (r : Refusal) → tested (limits a card c) ≡ Err r → Told (Refused r) 0 a no_plan card ranges buffer
  unfolding planned answer_of joined
  plan-limited r e =
      rw (this_fails (limits a card c) e) (record {
        reports = record { gives = record { answered = refl; anchored = refl; left = refl; filled = refl }; counted = refl };
        planned = refl;
        gave = refl;
      })

  settles : (x : Answer) → first_failing (limits a card c) ≡ none
      → x ≡ verdict none (first_wrong F a.depth a.root.0 card (checks a.depth c))
      → planned F a card i block ranges ≡ plan_settled F x a card i block ranges
  unfolding planned answer_of
  settles x e f = rw (e, f)

  -- among the checked nodes no limit fails
  never : (r : Refusal) (w : Option ℕ) → Refused r ≡ verdict none w → ⊥
  never r none e = cc
  never r (some u) e = cc

  -- a wrong tag does
  pub plan-wrong : (x : Error) (k : ℕ) → first_failing (limits a card c) ≡ none
      → refused_as x ≡ verdict none (first_wrong F a.depth a.root.0 card (checks a.depth c))
      → k ≡ once + total each (checked_by F a card c) → Told (refused_as x) k a no_plan card ranges buffer
  unfolding joined
  plan-wrong (WrongTag u) k e v q =
      rw (settles (Wrong u) e v) (record {
        reports = record { gives = record { answered = refl; anchored = refl; left = refl; filled = refl }; counted = q };
        planned = refl;
        gave = refl;
      })
  plan-wrong (Limit r) k e v q = absurd (never r (first_wrong F a.depth a.root.0 card (checks a.depth c)) v)

  -- it is whole
  pub plan-whole : (k : ℕ) (b : Anchor) (p : Plan) (card' lent messages : List ℕ) →
      let n = a.depth in
      let L = written_labels n a.root.0 a.reserved.0 card i block in
      first_failing (limits a card c) ≡ none
      → Whole ≡ verdict none (first_wrong F n a.root.0 card (checks n c))
      → k ≡ once + total each (checked_by F a card c)
      → b ≡ raise a
      → p ≡ record { index = record { 0 = i }; root = record { 0 = a.reserved.0 + n }; filled = 0 }
      → card' ≡ laid n L (path n i) card
      → lent ≡ listed n i ranges
      → messages ≡ joined (map (given L) (plan_nodes n i)) ++ drop (length (joined (map (given L) (plan_nodes n i)))) buffer
      → Told Whole k b p card' lent messages
  plan-whole k b p card' lent messages e v q y z f g m =
      rw (settles Whole e v) (record {
        reports = record { gives = record { answered = refl; anchored = y; left = f; filled = g }; counted = q };
        planned = z;
        gave = m;
      })

-- The messages of a write

module _ (n t r i : ℕ) (card block : List ℕ) (d : IsCard n card) (inside : i < 2 ^ n) (long : length block ≡ 64) where
  abbrev L : Labels
  L = written_labels n t r card i block

  -- how many bytes they have
  pub messages-bytes : length (joined (map (given L) (plan_nodes n i))) ≡ 34 * n + 112
  messages-bytes =
      messages-length n i inside d.deep L
      (new-sized n r i block inside (labels n t card) long (labels-sized n t card d.full))
      (ap length (new-root n r i block inside (labels n t card) d.deep) ∙ length-be 8 (r + n))

  -- they are those of the card that the plan leaves, under its root nonce
  pub messages-read : map (given (labels n (r + n) (laid n L (path n i) card))) (plan_nodes n i) ≡ map (given L) (plan_nodes n i)
  messages-read =
      map_same (plan_nodes n i)
      (λ u m.
      ap (λ (x : List ℕ). let g : Given = record { node = u; message = x } in g)
      (plan-message n t r i card block d.deep d.full inside long u (plan-node n i inside u m)))
    where
      map_same : (us : List ℕ) → ((u : ℕ) → Memᴰ u us → given (labels n (r + n) (laid n L (path n i) card)) u ≡ given L u)
          → map (given (labels n (r + n) (laid n L (path n i) card))) us ≡ map (given L) us
      map_same [] f = refl
      map_same (u ∷ us) f =
          ap₂ (λ (g : Given) (gs : List Given). g ∷ gs) (f u (Memᴰ.head refl)) (map_same us (λ w m. f w (Memᴰ.tail m)))

-- The put

module _ (a : Anchor) (p : Plan) (card : List ℕ) (u : ℕ) (x : List ℕ) where
  -- a limit refuses it
  pub put-limited : (r : Refusal) → tested (put_limits a p card u) ≡ Err r → Puts (put a p card u x) (Refused r) a p card
  unfolding put put_answer
  put-limited r e =
      rw (this_fails (put_limits a p card u) e) (record { answered = refl; anchored = refl; planned = refl; left = refl })

  -- it is whole
  pub put_whole : (b : Anchor) (q : Plan) (card' : List ℕ) → put_answer a p card u ≡ Whole
      → q ≡ fill a.depth p u → b ≡ cond (full a.depth q) (rooted a p.root.0) a
      → card' ≡ sets card (offset a.depth u + size a.depth u) x → Puts (put a p card u x) Whole b q card'
  unfolding put
  put_whole b q card' e f g h =
      rw e (record {
        answered = refl;
        anchored = g ∙ ap (λ (y : Plan). cond (full a.depth y) (rooted a p.root.0) a) f;
        planned = f;
        left = h;
      })
