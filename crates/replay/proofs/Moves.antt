-- What a step makes of what is known: an accepted write, plain or split, or an accepted wipe alone moves it.
use mathlib.Core.Path.{◌≡◌, refl, sym, ap, ap₂, subst, ◌∙◌}
use mathlib.Core.Bool.{Bool, true, false, cond, ◌&&◌}
use mathlib.Core.Logic.{◌⊎◌, inl, inr, ⊎_elim}
use mathlib.Core.Option.{Option, none, some}
use mathlib.Core.List.Memᴰ
use mathlib.Core.List.{List, [], ◌∷◌, ◌++◌, map, Memᴰ}
use Prim.Native.Nat.{ℕ, ◌+◌, ◌^◌, ◌<◌}
use native.Mathlib.Omega.{arith}
use lib.ListN.{length, set, replicate, length-set, length-replicate}
use Rattle.tree.specs.Nodes.{all_nodes}
use Rattle.tree.specs.Labels.{message, labels}
use Rattle.tree.specs.Card.{blanked, written, first_wrong}
use Rattle.tree.specs.Limits.{first_failing}
use Rattle.tree.specs.Answer.{is_whole}
use Rattle.tree.specs.Calls
use Rattle.tree.specs.Calls.{Call, read, write, check, wipe, renews, limits, checks, verdict, tags, tagged, raise, renew, Outcome, answer_of, done, settled, outcome}
use Rattle.tree.specs.declared.Anchor.{Anchor}
use Rattle.tree.specs.declared.Node.{Node}
use Rattle.tree.specs.declared.Refusal.{Refusal}
use Rattle.tree.specs.Answer.{Answer}
use Rattle.tree.specs.Answer.{Whole, Wrong, Refused}
use Rattle.tree.proofs.LimitLaws.{Passes, Writes, passed}
use Rattle.tree.proofs.CallLaws.{accepted, outcome-answer, outcome-done}
use Rattle.tree.proofs.WriteLaws.{written-length}
use Rattle.plan.specs.Places.{full}
use Rattle.plan.proofs.ListLaws.{truth}
use Rattle.plan.specs.Split.{Given, Planned, no_plan, planned}
use Rattle.plan.specs.Puts.{PutStep, begun, after_all_puts, EachPut, PutUntouched}
use Rattle.plan.proofs.PlanLaws.{plan-answer, planned-done, planned-refused, given-tagged, tagged-given}
use Rattle.plan.proofs.OrderLaws.{filled-anchor, unfilled-anchor, filled-card}
use Rattle.journal.specs.Journal.{journal_message, message_of}
use Rattle.journal.specs.Journalled.{Journalled, journalled_limits, journalled_answer, journalled_done, journalled_refused, journalled}
use Rattle.journal.proofs.FillLaws.{message-size}
use Rattle.journal.proofs.JournalLaws.{own-message}
use Rattle.journal.proofs.JournalledLaws.{journalled-answer, journalled-done, journalled-refused, journalled-passed, write-whole, write-wrong}
use Rattle.journal.proofs.JournalledLaws.{journalled-accept}
use Rattle.replay.specs.Array
use Rattle.replay.specs.Array.{Told, Array, zeroed, moved}
use Rattle.replay.specs.Run.{Fate, unheard, lost, stood, Step, call, split, attempt, card_of, call_of, limits_of, Store, State, messages, moves}
use Rattle.replay.specs.Run.{finished, split_outcome, fills, anchor_after, attempt_outcome, heard, has_stood, result, stands, reserves}
use Rattle.replay.specs.Run.{new_tags, next}
use Rattle.replay.specs.Claim.{Complete, Untouched}
use Rattle.replay.specs.Tagged.{WriteTags, CallTags, JournalTags, StepTags}
use Rattle.replay.proofs.NewTags.{tagged-named, named-tagged, tags_in, done-tags, new-tags}

-- What a step answers: what the call does, or the write that is split or attempted

pub split-answer : (o : Planned) (puts : List PutStep) → (split_outcome o puts).answer ≡ o.call.answer
split-answer o puts = go (is_whole o.call.answer)
  where
    go : (b : Bool) → (cond b (finished o puts) o.call).answer ≡ o.call.answer
    go true = refl
    go false = refl

module _ (F : List ℕ → List ℕ) (s : Store) where
  -- what it accepts its call accepts
  pub step-whole : (x : Step) → (result F s x).answer ≡ Whole → answer_of F s.anchor (card_of x) (call_of x) ≡ Whole
  step-whole (call card c) w = sym (outcome-answer F s.anchor card c) ∙ w
  step-whole (split card i block ranges puts) w =
      sym (split-answer (planned F s.anchor card i block ranges) puts ∙ plan-answer F s.anchor card i block ranges) ∙ w
  step-whole (attempt card i block ranges journal fate) w =
      write-whole F s.anchor card i block ranges journal (sym (journalled-answer F s.anchor card i block ranges journal) ∙ w)

  -- and what it refuses for a tag its call does
  pub step-wrong : (x : Step) (u : Node) → (result F s x).answer ≡ Wrong u → answer_of F s.anchor (card_of x) (call_of x) ≡ Wrong u
  step-wrong (call card c) u w = sym (outcome-answer F s.anchor card c) ∙ w
  step-wrong (split card i block ranges puts) u w =
      sym (split-answer (planned F s.anchor card i block ranges) puts ∙ plan-answer F s.anchor card i block ranges) ∙ w
  step-wrong (attempt card i block ranges journal fate) u w =
      write-wrong F s.anchor card i block ranges journal u (sym (journalled-answer F s.anchor card i block ranges journal) ∙ w)

  -- within its own limits it accepts what its call accepts
  pub step-passes : (x : Step) → first_failing (limits_of s.anchor x) ≡ none → Passes s.anchor (card_of x) (call_of x)
  step-passes (call card c) e = passed s.anchor card c e
  step-passes (split card i block ranges puts) e = passed s.anchor card (write i block ranges) e
  step-passes (attempt card i block ranges journal fate) e =
      passed s.anchor card (write i block ranges) (journalled-passed F s.anchor card i block ranges journal e).0

  pub step-accept : (x : Step) → first_failing (limits_of s.anchor x) ≡ none → answer_of F s.anchor (card_of x) (call_of x) ≡ Whole
      → (result F s x).answer ≡ Whole
  step-accept (call card c) e w = outcome-answer F s.anchor card c ∙ w
  step-accept (split card i block ranges puts) e w =
      split-answer (planned F s.anchor card i block ranges) puts ∙ plan-answer F s.anchor card i block ranges ∙ w
  step-accept (attempt card i block ranges journal fate) e w =
      journalled-answer F s.anchor card i block ranges journal
      ∙ journalled-accept F s.anchor card i block ranges journal w (journalled-passed F s.anchor card i block ranges journal e).1

  -- and it is refused for the first of them that fails
  call-limited : (card : List ℕ) (c : Call) (r : Refusal) → first_failing (limits s.anchor card c) ≡ some r
      → answer_of F s.anchor card c ≡ Refused r
  unfolding answer_of
  call-limited card c r e = ap (λ (l : Option Refusal). verdict l (first_wrong F s.anchor.depth s.anchor.root.0 card (checks s.anchor.depth c))) e

  attempt-limited : (card : List ℕ) (i : ℕ) (block ranges journal : List ℕ) (r : Refusal)
      → first_failing (journalled_limits s.anchor (length card) i (length block) (length ranges) (length journal)) ≡ some r
      → journalled_answer F s.anchor card i block ranges journal ≡ Refused r
  unfolding journalled_answer
  attempt-limited card i block ranges journal r e =
      ap (λ (l : Option Refusal). verdict l
      (first_wrong F s.anchor.depth s.anchor.root.0 card (checks s.anchor.depth (write i block ranges)))) e

  pub step-limited : (x : Step) (r : Refusal) → first_failing (limits_of s.anchor x) ≡ some r → (result F s x).answer ≡ Refused r
  step-limited (call card c) r e = outcome-answer F s.anchor card c ∙ call-limited card c r e
  step-limited (split card i block ranges puts) r e =
      split-answer (planned F s.anchor card i block ranges) puts ∙ plan-answer F s.anchor card i block ranges
      ∙ call-limited card (write i block ranges) r e
  step-limited (attempt card i block ranges journal fate) r e =
      journalled-answer F s.anchor card i block ranges journal ∙ attempt-limited card i block ranges journal r e

  -- What stands is accepted

  pub both_true : (a b : Bool) → (a && b) ≡ true → (a ≡ true) × (b ≡ true)
  both_true true b e = (refl, e)
  both_true false b e = let z : ◌≡◌ {A = ℕ} 0 1 = cc in absurd (omega arith)

  pub is-whole : (o : Answer) → is_whole o ≡ true → o ≡ Whole
  is-whole Whole e = refl
  is-whole (Wrong u) e = let z : ◌≡◌ {A = ℕ} 0 1 = cc in absurd (omega arith)
  is-whole (Refused r) e = let z : ◌≡◌ {A = ℕ} 0 1 = cc in absurd (omega arith)

  pub not-whole : (o : Answer) → (o ≡ Whole → ⊥) → is_whole o ≡ false
  not-whole Whole d = absurd (d refl)
  not-whole (Wrong u) d = refl
  not-whole (Refused r) d = refl

  pub stands-whole : (x : Step) → stands F s x ≡ true → (result F s x).answer ≡ Whole
  stands-whole (call card c) e = is-whole _ e
  stands-whole (split card i block ranges puts) e =
      let o = planned F s.anchor card i block ranges in
      split-answer o puts ∙ is-whole o.call.answer (both_true (is_whole o.call.answer) (fills o puts) e).0
  stands-whole (attempt card i block ranges journal fate) e =
      let o = journalled F s.anchor card i block ranges journal in
      is-whole o.call.answer (both_true (is_whole o.call.answer) (has_stood fate) e).0

  -- of a call, what is accepted stands
  pub call-stands : (card : List ℕ) (c : Call) → (outcome F s.anchor card c).answer ≡ Whole → stands F s (call card c) ≡ true
  call-stands card c w = ap is_whole w

-- What it leaves

-- a state by its parts
same-state : (s : State) (t : Store) (new : List (List ℕ)) → t ≡ s.store → new ≡ []
    → ◌≡◌ {A = State} (record { store = t; tagged = new ++ s.tagged }) s
same-state s t new e f =
    ap₂ (λ (u : Store) (l : List (List ℕ)). let z : State = record { store = u; tagged = l ++ s.tagged } in z) e f

state-same : {t u : Store} {l m : List (List ℕ)} → t ≡ u → l ≡ m → (old : List (List ℕ))
    → ◌≡◌ {A = State} (record { store = t; tagged = l ++ old }) (record { store = u; tagged = m ++ old })
state-same e f old = cc

-- what does not stand moves the anchor alone
module _ (s : Store) where
  moves-nothing : (c : Call) (o : Outcome)
      → moves s c false o ≡ record { anchor = o.anchor; array = s.array; left = s.left }
  unfolding moved
  moves-nothing (read i buffer) o = refl
  moves-nothing (write i block ranges) o = refl
  moves-nothing check o = refl
  moves-nothing wipe o = refl

module _ (F : List ℕ → List ℕ) (s : State) where
  abbrev a : Anchor
  a = s.store.anchor

  settled-anchor : (card : List ℕ) (c : Call) (o : Answer) → (o ≡ Whole → ⊥) → (settled F o s.store.anchor card c).anchor ≡ s.store.anchor
  settled-anchor card c Whole d = absurd (d refl)
  settled-anchor card c (Wrong u) d = refl
  settled-anchor card c (Refused r) d = refl

  -- a refused call moves nothing,
  refused-anchor : (card : List ℕ) (c : Call) → (answer_of F s.store.anchor card c ≡ Whole → ⊥)
      → (outcome F s.store.anchor card c).anchor ≡ s.store.anchor
  unfolding outcome
  refused-anchor card c d = settled-anchor card c (answer_of F a card c) d

  still-store : (c : Call) (o : Outcome) (b : Bool) → b ≡ false → o.anchor ≡ s.store.anchor → moves s.store c b o ≡ s.store
  still-store c o b e f =
      ap (λ (k : Bool). moves s.store c k o) e ∙ moves-nothing s.store c o
      ∙ ap (λ (b : Anchor). let z : Store = record { anchor = b; array = s.store.array; left = s.store.left } in z) f

  call-refused : (card : List ℕ) (c : Call) → ((outcome F s.store.anchor card c).answer ≡ Whole → ⊥) → next F s (call card c) ≡ s
  unfolding next
  call-refused card c d =
      let o = outcome F a card c in
      let f = not-whole F s.store o.answer d in
      same-state s _ _
      (still-store c o (is_whole o.answer) f (refused-anchor card c (λ w. d (outcome-answer F a card c ∙ w))))
      (ap (λ (b : Bool). cond b (messages o.anchor o.card (tags o.anchor.depth c)) []) f)

  -- nor does a refused plan,
  split-refused : (card : List ℕ) (i : ℕ) (block ranges : List ℕ) (puts : List PutStep)
      → (answer_of F s.store.anchor card (write i block ranges) ≡ Whole → ⊥) → next F s (split card i block ranges puts) ≡ s
  unfolding next
  split-refused card i block ranges puts d =
      let c = write i block ranges in
      let refused : Planned = record { call = outcome F a card c; plan = no_plan; messages = [] } in
      let e : planned F a card i block ranges ≡ refused = planned-refused F a card i block ranges d in
      let f : is_whole (outcome F a card c).answer ≡ false =
      not-whole F s.store (outcome F a card c).answer (λ w. d (sym (outcome-answer F a card c) ∙ w)) in
      same-state s _ (new_tags F s.store (split card i block ranges puts))
      (ap (λ (o : Planned). moves s.store c (is_whole o.call.answer && fills o puts) (split_outcome o puts)) e
      ∙ ap (λ (b : Bool). moves s.store c (b && fills refused puts) (cond b (finished refused puts) (outcome F a card c))) f
      ∙ still-store c (outcome F a card c) false refl (refused-anchor card c d))
      (rw e)

  -- nor a refused attempt, or one that was not heard
  attempt-still : (card : List ℕ) (i : ℕ) (block ranges journal : List ℕ) (fate : Fate) →
      let o = journalled F s.store.anchor card i block ranges journal in
      (is_whole o.call.answer && heard fate) ≡ false → (is_whole o.call.answer && has_stood fate) ≡ false
      → anchor_after s.store.anchor o fate ≡ s.store.anchor → next F s (attempt card i block ranges journal fate) ≡ s
  unfolding next
  attempt-still card i block ranges journal fate h e f =
      let o = journalled F a card i block ranges journal in
      same-state s _ _ (still-store (write i block ranges) (attempt_outcome a o fate) _ e f)
      (ap (λ (b : Bool). cond b (messages o.call.anchor o.call.card (tags o.call.anchor.depth (write i block ranges))
      ++ (journal_message o.call.anchor.depth o.call.anchor.root.0 i o.call.card ∷ [])) []) h)

  and-not : (b : Bool) → (b && false) ≡ false
  and-not true = refl
  and-not false = refl

  pub attempt-unheard : (card : List ℕ) (i : ℕ) (block ranges journal : List ℕ)
      → next F s (attempt card i block ranges journal unheard) ≡ s
  attempt-unheard card i block ranges journal =
      let o = journalled F a card i block ranges journal in
      attempt-still card i block ranges journal unheard (and-not (is_whole o.call.answer)) (and-not (is_whole o.call.answer)) refl

  pub attempt-refused : (card : List ℕ) (i : ℕ) (block ranges journal : List ℕ) (fate : Fate)
      → ((journalled F s.store.anchor card i block ranges journal).call.answer ≡ Whole → ⊥)
      → next F s (attempt card i block ranges journal fate) ≡ s
  attempt-refused card i block ranges journal fate d =
      let o = journalled F a card i block ranges journal in
      let x = journalled_answer F a card i block ranges journal in
      let k : x ≡ Whole → ⊥ = λ w. d (journalled-answer F a card i block ranges journal ∙ w) in
      let e = journalled-refused F a card i block ranges journal k in
      let f = not-whole F s.store o.call.answer d in
      attempt-still card i block ranges journal fate (ap (λ (b : Bool). b && heard fate) f) (ap (λ (b : Bool). b && has_stood fate) f)
      (ap (λ (p : Journalled). anchor_after a p fate) e ∙ after_refused x k fate)
    where
      after_refused : (x : Answer) → (x ≡ Whole → ⊥) → (fate : Fate)
          → anchor_after s.store.anchor (journalled_refused F x s.store.anchor card i block ranges journal) fate ≡ s.store.anchor
      after_refused x k unheard = refl
      after_refused x k lost = refl
      after_refused x k stood = settled-anchor card (write i block ranges) x k

  -- whatever is refused
  pub step-refused : (x : Step) → ((result F s.store x).answer ≡ Whole → ⊥) → next F s x ≡ s
  step-refused (call card c) d = call-refused card c d
  step-refused (split card i block ranges puts) d =
      split-refused card i block ranges puts
      (λ w. d (split-answer (planned F a card i block ranges) puts ∙ plan-answer F a card i block ranges ∙ w))
  step-refused (attempt card i block ranges journal fate) d = attempt-refused card i block ranges journal fate d

  -- an accepted call moves what is known by what it does:
  pub accepted-moves : (card : List ℕ) (c : Call) → answer_of F s.store.anchor card c ≡ Whole
      → next F s (call card c) ≡ record {
        store = moves s.store c true (done F s.store.anchor card c);
        tagged = new_tags F s.store (call card c) ++ s.tagged;
      }
  unfolding next
  accepted-moves card c e =
      let d = outcome-done F a card c e in
      state-same
      (ap (λ (o : Outcome). moves s.store c (is_whole o.answer) o) d
      ∙ ap (λ (b : Bool). moves s.store c b (done F a card c)) (sym (ap (λ (o : Outcome). is_whole o.answer) d)
      ∙ ap is_whole (outcome-answer F a card c ∙ e)))
      refl s.tagged

-- each message that a plan gave is tagged, whatever its puts were
pub split-tagged : (F : List ℕ → List ℕ) (s : State) (card : List ℕ) (i : ℕ) (block ranges : List ℕ) (puts : List PutStep) (m : Given)
    → Memᴰ m (planned F s.store.anchor card i block ranges).messages → Memᴰ m.message (next F s (split card i block ranges puts)).tagged
unfolding next
split-tagged F s card i block ranges puts m h = Memᴰ.append_left s.tagged (Memᴰ.map (λ (g : Given). g.message) h)

-- a write makes one block anew, leaves a card and tags messages,
abbrev pub wrote : State → ℕ → List ℕ → List ℕ → List (List ℕ) → State
wrote s i block left new =
    record {
      store = record { anchor = renew s.store.anchor; array = set s.store.array i block; left = left };
      tagged = new ++ s.tagged;
    }

-- a lost one reserves its nonces and tags messages,
abbrev pub lost_write : State → List (List ℕ) → State
lost_write s new =
    record {
      store = record { anchor = raise s.store.anchor; array = s.store.array; left = s.store.left };
      tagged = new ++ s.tagged;
    }

-- and a wipe makes all of them anew
abbrev pub wiped : (List ℕ → List ℕ) → State → List ℕ → State
wiped F s card =
    let n = s.store.anchor.depth in
    let t = s.store.anchor.reserved.0 + n in
    let left = blanked F n t card in
    record {
      store = record { anchor = renew s.store.anchor; array = zeroed (length s.store.array); left = left };
      tagged = map (message (labels n t left)) (all_nodes n) ++ s.tagged;
    }

-- What a write tags, lost or not: new messages of the children of its path, and of an attempt one that is longer than any node's.
pub record Tags (F : List ℕ → List ℕ) (s : State) (x : Step) (i : ℕ) (block ranges : List ℕ) (new : List (List ℕ)) : Type 0 where
  pub is-write : call_of x ≡ write i block ranges
  pub accepted : (result F s.store x).answer ≡ Whole
  pub whole : answer_of F s.store.anchor (card_of x) (write i block ranges) ≡ Whole
  pub named : (m : List ℕ) → Memᴰ m new
      → WriteTags s.store.anchor.depth s.store.anchor.root.0 s.store.anchor.reserved.0 (card_of x) i block m ⊎ (73 < length m)
  pub tells : (m : List ℕ) → Memᴰ m new → StepTags F s.store.anchor x m
  pub names : (m : List ℕ) → StepTags F s.store.anchor x m → Memᴰ m new
  pub reserved : reserves F s.store x ≡ true

-- the new messages of the children of its path are among them
pub write-tells : (F : List ℕ → List ℕ) (s : State) (x : Step) (i : ℕ) (block ranges : List ℕ) {new : List (List ℕ)}
    → Tags F s x i block ranges new → reserves F s.store x ≡ true → (m : List ℕ)
    → WriteTags s.store.anchor.depth s.store.anchor.root.0 s.store.anchor.reserved.0 (card_of x) i block m → StepTags F s.store.anchor x m
write-tells F s (call card c) i block ranges k r m h = subst (λ (d : Call). CallTags s.store.anchor card d m) (sym k.is-write) h
write-tells F s (split card j b l puts) i block ranges k r m h =
    subst (λ (d : Call). CallTags s.store.anchor card d m) (sym k.is-write) h
write-tells F s (attempt card j b l journal unheard) i block ranges k r m h = absurd (unheard-none r)
  where
    unheard-none : (is_whole (journalled F s.store.anchor card j b l journal).call.answer && false) ≡ true → ⊥
    unheard-none e = go (is_whole (journalled F s.store.anchor card j b l journal).call.answer) e
      where
        go : (c : Bool) → (c && false) ≡ true → ⊥
        go true e = let z : ◌≡◌ {A = ℕ} 0 1 = cc in omega arith
        go false e = let z : ◌≡◌ {A = ℕ} 0 1 = cc in omega arith
write-tells F s (attempt card j b l journal lost) i block ranges k r m h =
    inl (subst (λ (d : Call). CallTags s.store.anchor card d m) (sym k.is-write) h)
write-tells F s (attempt card j b l journal stood) i block ranges k r m h =
    inl (subst (λ (d : Call). CallTags s.store.anchor card d m) (sym k.is-write) h)

-- It is a write that stands, plain or split or attempted: the card that it left, which is the write's where it was untouched, and the
-- messages that it tags.
pub record Wrote (F : List ℕ → List ℕ) (s : State) (x : Step) (i : ℕ) (block ranges : List ℕ) : Type 0 where
  pub left : List ℕ
  pub new : List (List ℕ)
  pub tags : Tags F s x i block ranges new
  pub standing : stands F s.store x ≡ true
  pub is : next F s x ≡ wrote s i block left new
  pub untouched : Untouched F s.store x
      → left ≡ written F s.store.anchor.depth s.store.anchor.root.0 s.store.anchor.reserved.0 (card_of x) i block

-- It is a write that was lost.
pub record Lost (F : List ℕ → List ℕ) (s : State) (x : Step) (i : ℕ) (block ranges : List ℕ) : Type 0 where
  pub new : List (List ℕ)
  pub tags : Tags F s x i block ranges new
  pub fallen : stands F s.store x ≡ false
  pub is : next F s x ≡ lost_write s new

-- A step leaves what is known as it was, or is a write that stands, one that is lost, or an accepted wipe.
pub data Move (F : List ℕ → List ℕ) (s : State) (x : Step) : Type 0 where
  still : next F s x ≡ s → (stands F s.store x && renews (call_of x)) ≡ false → reserves F s.store x ≡ false
      → ((m : List ℕ) → (result F s.store x).answer ≡ Whole → StepTags F s.store.anchor x m → ⊥) → Move F s x
  wrote-block : (i : ℕ) (block ranges : List ℕ) → Wrote F s x i block ranges → Move F s x
  lost-block : (i : ℕ) (block ranges : List ℕ) → Lost F s x i block ranges → Move F s x
  wiped-card : (card : List ℕ) → x ≡ call card wipe → answer_of F s.store.anchor card wipe ≡ Whole → next F s x ≡ wiped F s card → Move F s x

module _ (F : List ℕ → List ℕ) (F16 : (m : List ℕ) → length (F m) ≡ 16) (s : State) where
  abbrev b : Anchor
  b = s.store.anchor

  module _ (card : List ℕ) (i : ℕ) (block ranges : List ℕ) (e : answer_of F s.store.anchor card (write i block ranges) ≡ Whole) where
    ok : Writes s.store.anchor card i block ranges
    ok = (accepted F s.store.anchor card (write i block ranges) e).limits-passed

    inside : i < 2 ^ s.store.anchor.depth
    inside = ok.inside

    done-is : outcome F s.store.anchor card (write i block ranges) ≡ done F s.store.anchor card (write i block ranges)
    done-is = outcome-done F b card (write i block ranges) e

    whole : (outcome F s.store.anchor card (write i block ranges)).answer ≡ Whole
    whole = outcome-answer F b card (write i block ranges) ∙ e

    -- the write

    abbrev left_card : List ℕ
    left_card = written F b.depth b.root.0 b.reserved.0 card i block

    call-tags : Tags F s (call card (write i block ranges)) i block ranges (tagged b card (write i block ranges))
    call-tags =
        record {
          is-write = refl;
          accepted = whole;
          whole = e;
          named = λ m h. inl (tagged-named b card i block ranges inside m h);
          tells = tagged-named b card i block ranges inside;
          names = named-tagged b card i block ranges inside;
          reserved = ap (λ (x : Answer). is_whole x && true) whole;
        }

    pub call-wrote : Wrote F s (call card (write i block ranges)) i block ranges
    unfolding moved
    call-wrote =
        record {
          left = left_card;
          new = tagged b card (write i block ranges);
          tags = call-tags;
          standing = ap is_whole whole;
          is = accepted-moves F s card (write i block ranges) e
              ∙ ap (wrote s i block left_card) (new-tags F F16 s.store card (write i block ranges) e);
          untouched = λ u. refl;
        }

    -- on any card it leaves the write's
    pub call-left : call-wrote.left ≡ written F s.store.anchor.depth s.store.anchor.root.0 s.store.anchor.reserved.0 card i block
    unfolding call-wrote
    call-left = refl

    -- the plan with its puts

    module _ (puts : List PutStep) where
      abbrev o : Planned
      o = planned F b card i block ranges

      abbrev x : Step
      x = split card i block ranges puts

      plan-whole : (planned F s.store.anchor card i block ranges).call.answer ≡ Whole
      plan-whole = plan-answer F b card i block ranges ∙ e

      depth-is : (planned F s.store.anchor card i block ranges).call.anchor.depth ≡ s.store.anchor.depth
      depth-is = ap (λ (q : Planned). q.call.anchor.depth) (planned-done F b card i block ranges e)

      split-tags : Tags F s x i block ranges (map (λ (m : Given). m.message) o.messages)
      split-tags =
          let tells = λ (m : List ℕ) (h : Memᴰ m (map (λ (m : Given). m.message) o.messages)).
          tagged-named b card i block ranges inside m (given-tagged F b card i block ranges e m h) in
          record {
            is-write = refl;
            accepted = split-answer o puts ∙ plan-whole;
            whole = e;
            named = λ m h. inl (tells m h);
            tells = tells;
            names = λ m h. tagged-given F b card i block ranges e m (named-tagged b card i block ranges inside m h);
            reserved = ap is_whole plan-whole;
          }

      -- where its puts filled it, or did not
      split-next : (f : Bool) → fills o puts ≡ f →
          let g = after_all_puts (begun o) puts in
          next F s x ≡ record {
            store = moves s.store (write i block ranges) f (finished o puts);
            tagged = map (λ (m : Given). m.message) o.messages ++ s.tagged;
          }
      unfolding next
      split-next f h =
          let w = ap is_whole plan-whole in
          state-same
          (ap (λ (c : Bool). moves s.store (write i block ranges) (c && fills o puts) (cond c (finished o puts) o.call)) w
          ∙ ap (λ (c : Bool). moves s.store (write i block ranges) c (finished o puts)) h)
          refl s.tagged

      pub split-left : Complete F s.store (split card i block ranges puts)
          → fills (planned F s.store.anchor card i block ranges) puts ≡ true
          → EachPut PutUntouched (begun (planned F s.store.anchor card i block ranges)) puts
          → (after_all_puts (begun (planned F s.store.anchor card i block ranges)) puts).left
          ≡ written F s.store.anchor.depth s.store.anchor.root.0 s.store.anchor.reserved.0 card i block
      split-left complete f untouched =
          filled-card F F16 b card i block ranges e puts (subst (λ (n : ℕ). full n (after_all_puts (begun o) puts).plan ≡ true) depth-is f)
          (complete plan-whole f) untouched

      pub split-wrote : Complete F s.store x → fills o puts ≡ true → Wrote F s x i block ranges
      unfolding moved
      split-wrote complete f =
          let g = after_all_puts (begun o) puts in
          let full_so = subst (λ (n : ℕ). full n g.plan ≡ true) depth-is f in
          record {
            left = g.left;
            new = map (λ (m : Given). m.message) o.messages;
            tags = split-tags;
            standing = ap (λ (c : Bool). c && fills o puts) (ap is_whole plan-whole) ∙ f;
            is = split-next true f
                ∙ ap (λ (h : Anchor). let z : State = record {
                  store = record { anchor = h; array = set s.store.array i block; left = g.left };
                  tagged = map (λ (m : Given). m.message) o.messages ++ s.tagged;
                } in z) (filled-anchor F F16 b card i block ranges e puts full_so);
            untouched = λ u. split-left complete f u.1;
          }

      pub split-leaves : (complete : Complete F s.store (split card i block ranges puts))
          (f : fills (planned F s.store.anchor card i block ranges) puts ≡ true)
          → (split-wrote complete f).left ≡ (after_all_puts (begun (planned F s.store.anchor card i block ranges)) puts).left
      unfolding split-wrote
      split-leaves complete f = refl

      pub split-lost : fills o puts ≡ false → Lost F s x i block ranges
      unfolding moved
      split-lost f =
          let g = after_all_puts (begun o) puts in
          let none_so = subst (λ (n : ℕ). full n g.plan ≡ false) depth-is f in
          record {
            new = map (λ (m : Given). m.message) o.messages;
            tags = split-tags;
            fallen = ap (λ (c : Bool). c && fills o puts) (ap is_whole plan-whole) ∙ f;
            is = split-next false f
                ∙ ap (λ (h : Anchor). let z : State = record {
                  store = record { anchor = h; array = s.store.array; left = s.store.left };
                  tagged = map (λ (m : Given). m.message) o.messages ++ s.tagged;
                } in z) (unfilled-anchor F F16 b card i block ranges e puts none_so);
          }

    -- the attempt

    module _ (journal : List ℕ) (w : journalled_answer F s.store.anchor card i block ranges journal ≡ Whole) where
      abbrev j : Journalled
      j = journalled F b card i block ranges journal

      abbrev c : Call
      c = write i block ranges

      abbrev entry : List ℕ
      entry = journal_message b.depth (b.reserved.0 + b.depth) i left_card

      journal-done : journalled F s.store.anchor card i block ranges journal ≡ journalled_done F s.store.anchor card i block ranges
      journal-done = journalled-done F b card i block ranges journal w

      answer-whole : (journalled F s.store.anchor card i block ranges journal).call.answer ≡ Whole
      answer-whole = journalled-answer F b card i block ranges journal ∙ w

      entry-long : 73 < length (journal_message s.store.anchor.depth (s.store.anchor.reserved.0 + s.store.anchor.depth) i
          (written F s.store.anchor.depth s.store.anchor.root.0 s.store.anchor.reserved.0 card i block))
      entry-long =
          omega (
            arith,
            message-size b.depth (b.reserved.0 + b.depth) i left_card inside ok.sound.deep
                (written-length F F16 b.depth ok.sound.deep b.root.0 b.reserved.0 card i block ok.sound.full inside ok.long),
            ok.sound.deep,
          )

      -- the messages that it tags
      abbrev made : List (List ℕ)
      made = tagged b card c ++ (entry ∷ [])

      of-made : (P : List ℕ → Type 0) → ((m : List ℕ) → Memᴰ m (tagged b card c) → P m) → P entry → (m : List ℕ) → Memᴰ m made → P m
      of-made P f g m h =
          ⊎_elim (λ (k : Memᴰ m (tagged b card c)). f m k)
          (λ (k : Memᴰ m (entry ∷ [])). subst P (sym (Memᴰ.eq_of_singleton k)) g) (Memᴰ.append_cases (tagged b card c) h)

      among-made : (m : List ℕ) → CallTags b card c m ⊎ JournalTags F b card i block m → Memᴰ m made
      among-made m (inl k) = Memᴰ.append_left (entry ∷ []) (named-tagged b card i block ranges inside m k)
      among-made m (inr k) = Memᴰ.append_right (tagged b card c) (Memᴰ.head k)

      made-tells : (m : List ℕ) → Memᴰ m made → CallTags b card c m ⊎ JournalTags F b card i block m
      made-tells =
          of-made (λ m. CallTags b card c m ⊎ JournalTags F b card i block m)
          (λ m h. inl (tagged-named b card i block ranges inside m h)) (inr refl)

      made-named : (m : List ℕ) → Memᴰ m made
          → WriteTags s.store.anchor.depth s.store.anchor.root.0 s.store.anchor.reserved.0 card i block m ⊎ (73 < length m)
      made-named =
          of-made (λ m. WriteTags b.depth b.root.0 b.reserved.0 card i block m ⊎ (73 < length m))
          (λ m h. inl (tagged-named b card i block ranges inside m h)) (inr entry-long)

      new-made : (fate : Fate) → heard fate ≡ true → new_tags F s.store (attempt card i block ranges journal fate) ≡ made
      new-made fate h =
          ap (λ (q : Journalled). cond (is_whole q.call.answer && heard fate)
          (messages q.call.anchor q.call.card (Calls.tags q.call.anchor.depth c)
          ++ (journal_message q.call.anchor.depth q.call.anchor.root.0 i q.call.card ∷ [])) []) journal-done
          ∙ ap (λ (k : Bool). cond k
          (messages (renew b) left_card (Calls.tags b.depth c) ++ (entry ∷ [])) []) h
          ∙ ap (λ (l : List (List ℕ)). l ++ (entry ∷ [])) (done-tags F F16 b card c ok)

      -- the message is the one of the journal that it fills
      pub attempt-tags : (fate : Fate) → heard fate ≡ true
          → new_tags F s.store (attempt card i block ranges journal fate)
          ≡ tagged s.store.anchor card (write i block ranges)
          ++ (message_of s.store.anchor.depth (journalled F s.store.anchor card i block ranges journal).journal ∷ [])
      attempt-tags fate h =
          new-made fate h
          ∙ ap (λ (m : List ℕ). tagged b card c ++ (m ∷ []))
          (sym (ap (λ (q : Journalled). message_of b.depth q.journal) journal-done
          ∙ own-message b.depth (b.reserved.0 + b.depth) i left_card inside ok.sound.deep
          (written-length F F16 b.depth ok.sound.deep b.root.0 b.reserved.0 card i block ok.sound.full inside ok.long) F))

      attempt-next : (fate : Fate) → heard fate ≡ true
          → next F s (attempt card i block ranges journal fate) ≡ record {
            store = moves s.store c (has_stood fate) (attempt_outcome b (journalled_done F b card i block ranges) fate);
            tagged = made ++ s.tagged;
          }
      unfolding next
      attempt-next fate h =
          state-same
          (ap (λ (q : Journalled). moves s.store c (is_whole q.call.answer && has_stood fate) (attempt_outcome b q fate)) journal-done)
          (new-made fate h) s.tagged

      pub attempt-wrote : Wrote F s (attempt card i block ranges journal stood) i block ranges
      unfolding moved
      attempt-wrote =
          record {
            left = left_card;
            new = made;
            tags = record {
              is-write = refl;
              accepted = answer-whole;
              whole = e;
              named = made-named;
              tells = made-tells;
              names = among-made;
              reserved = ap (λ (x : Answer). is_whole x && true) answer-whole;
            };
            standing = ap (λ (x : Answer). is_whole x && true) answer-whole;
            is = attempt-next stood refl;
            untouched = λ u. refl;
          }

      pub attempt-left : attempt-wrote.left
          ≡ written F s.store.anchor.depth s.store.anchor.root.0 s.store.anchor.reserved.0 card i block
      unfolding attempt-wrote
      attempt-left = refl

      pub attempt-lost : Lost F s (attempt card i block ranges journal lost) i block ranges
      unfolding moved
      attempt-lost =
          record {
            new = made;
            tags = record {
              is-write = refl;
              accepted = answer-whole;
              whole = e;
              named = made-named;
              tells = made-tells;
              names = among-made;
              reserved = ap (λ (x : Answer). is_whole x && true) answer-whole;
            };
            fallen = ap (λ (x : Answer). is_whole x && false) answer-whole;
            is = attempt-next lost refl;
          }

  pub wipe-moves : (card : List ℕ) → answer_of F s.store.anchor card wipe ≡ Whole → next F s (call card wipe) ≡ wiped F s card
  unfolding moved
  wipe-moves card e =
      accepted-moves F s card wipe e
      ∙ state-same refl (ap (tags_in F F16 wipe) (outcome-done F s.store.anchor card wipe e)) s.tagged

  -- an accepted read or check
  looks : (card : List ℕ) (c : Call) → renews c ≡ false → answer_of F s.store.anchor card c ≡ Whole
      → moves s.store c true (done F s.store.anchor card c) ≡ s.store → tagged s.store.anchor card c ≡ []
      → ((m : List ℕ) → CallTags s.store.anchor card c m → ⊥) → Move F s (call card c)
  looks card c r e f g h =
      let o = (outcome F b card c).answer in
      let no : (is_whole o && renews c) ≡ false = ap (λ (k : Bool). is_whole o && k) r ∙ and-not F s (is_whole o) in
      still
      (accepted-moves F s card c e ∙ state-same f (new-tags F F16 s.store card c e ∙ g) s.tagged) no no (λ m w k. h m k)

  call-moves : (card : List ℕ) (c : Call) → answer_of F s.store.anchor card c ≡ Whole → Move F s (call card c)
  unfolding moved
  call-moves card (read i buffer) e = looks card (read i buffer) refl e refl refl (λ m k. k)
  call-moves card (write i block ranges) e = wrote-block i block ranges (call-wrote card i block ranges e)
  call-moves card check e = looks card check refl e refl refl (λ m k. k)
  call-moves card wipe e = wiped-card card refl e (wipe-moves card e)

  attempt-moves : (card : List ℕ) (i : ℕ) (block ranges journal : List ℕ) (fate : Fate)
      → journalled_answer F s.store.anchor card i block ranges journal ≡ Whole → Move F s (attempt card i block ranges journal fate)
  attempt-moves card i block ranges journal unheard w =
      let x = (journalled F b card i block ranges journal).call.answer in
      still (attempt-unheard F s card i block ranges journal) (ap (λ (k : Bool). k && true) (and-not F s (is_whole x)))
      (and-not F s (is_whole x)) (λ m a k. k)
  attempt-moves card i block ranges journal lost w =
      lost-block i block ranges (attempt-lost card i block ranges (write-whole F b card i block ranges journal w) journal w)
  attempt-moves card i block ranges journal stood w =
      wrote-block i block ranges (attempt-wrote card i block ranges (write-whole F b card i block ranges journal w) journal w)

  pub whole-or-not : (o : Answer) → (o ≡ Whole) ⊎ (o ≡ Whole → ⊥)
  whole-or-not Whole = inl refl
  whole-or-not (Wrong u) = inr (λ p. let z : ◌≡◌ {A = ℕ} 0 1 = cc in omega arith)
  whole-or-not (Refused r) = inr (λ p. let z : ◌≡◌ {A = ℕ} 0 1 = cc in omega arith)

  accepted-move : (x : Step) → Complete F s.store x → (result F s.store x).answer ≡ Whole → Move F s x
  accepted-move (call card c) k w = call-moves card c (step-whole F s.store (call card c) w)
  accepted-move (split card i block ranges puts) k w =
      let e = step-whole F s.store (split card i block ranges puts) w in
      ⊎_elim (λ (f : fills (planned F b card i block ranges) puts ≡ true). wrote-block i block ranges (split-wrote card i block ranges e puts k f))
      (λ (f : fills (planned F b card i block ranges) puts ≡ false). lost-block i block ranges (split-lost card i block ranges e puts f))
      (truth (fills (planned F b card i block ranges) puts))
  accepted-move (attempt card i block ranges journal fate) k w =
      attempt-moves card i block ranges journal fate (sym (journalled-answer F b card i block ranges journal) ∙ w)

  -- a refused step
  pub stands-not : (x : Step) → ((result F s.store x).answer ≡ Whole → ⊥) → stands F s.store x ≡ false
  stands-not x d =
      ⊎_elim (λ (e : stands F s.store x ≡ true). absurd (d (stands-whole F s.store x e))) (λ (e : stands F s.store x ≡ false). e)
      (truth (stands F s.store x))

  reserves-whole : (x : Step) → reserves F s.store x ≡ true → (result F s.store x).answer ≡ Whole
  reserves-whole (call card c) e = is-whole F s.store _ (both_true F s.store _ (renews c) e).0
  reserves-whole (split card i block ranges puts) e =
      split-answer (planned F b card i block ranges) puts ∙ is-whole F s.store _ e
  reserves-whole (attempt card i block ranges journal fate) e = is-whole F s.store _ (both_true F s.store _ (heard fate) e).0

  reserves-not : (x : Step) → ((result F s.store x).answer ≡ Whole → ⊥) → reserves F s.store x ≡ false
  reserves-not x d =
      ⊎_elim (λ (e : reserves F s.store x ≡ true). absurd (d (reserves-whole x e))) (λ (e : reserves F s.store x ≡ false). e)
      (truth (reserves F s.store x))

  pub move : (x : Step) → Complete F s.store x → Move F s x
  move x k =
      ⊎_elim (λ (w : (result F s.store x).answer ≡ Whole). accepted-move x k w)
      (λ (d : (result F s.store x).answer ≡ Whole → ⊥).
      still (step-refused F s x d) (ap (λ (c : Bool). c && renews (call_of x)) (stands-not x d)) (reserves-not x d) (λ m w t. d w))
      (whole-or-not (result F s.store x).answer)

-- the array keeps its length
pub moved_length : (a : Array) (c : Told) (counts : Bool) → length (moved a c counts) ≡ length a
unfolding moved zeroed
moved_length a (Array.read i) counts = refl
moved_length a (Array.write i b) true = length-set a i b
moved_length a (Array.write i b) false = refl
moved_length a Array.check counts = refl
moved_length a Array.wipe true = length-replicate (length a) (replicate 64 0)
moved_length a Array.wipe false = refl
