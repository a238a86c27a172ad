-- What is tagged, and that a card which nobody touched shows nothing else.
use mathlib.Core.Path.{◌≡◌, refl, sym, ap, subst, ◌∙◌}
use mathlib.Core.Bool.{true, ◌&&◌}
use mathlib.Core.List.Memᴰ
use mathlib.Core.List.{List, [], ◌∷◌, ◌++◌, map, Memᴰ}
use mathlib.Core.Logic.{◌⊎◌, inl, inr, ⊎_elim}
use Prim.Native.Nat.{ℕ, ◌+◌}
use native.Mathlib.Omega.{arith}
use lib.ListN.{length}
use Rattle.tree.specs.Nodes.{all_nodes}
use Rattle.tree.specs.Labels.{message, labels}
use Rattle.tree.specs.Card.{blanked}
use Rattle.tree.specs.Answer.{is_whole}
use Rattle.tree.specs.Calls.{Call, write, wipe, is_write, checks, answer_of}
use Rattle.tree.specs.declared.Anchor.{Anchor}
use Rattle.tree.specs.Answer.{Answer}
use Rattle.tree.specs.Answer.{Whole}
use Rattle.tree.proofs.CallLaws.{accepted, outcome-answer}
use Rattle.plan.specs.Places.{plan_nodes, full}
use Rattle.plan.specs.Split.{Planned, planned}
use Rattle.plan.specs.Puts.{PutStep, Going, begun, after_put, after_all_puts, EachPut, PutUntouched, PutRight}
use Rattle.plan.specs.Orders.{Rearranged, returned, ends}
use Rattle.plan.specs.Rule.{Waits}
use Rattle.plan.proofs.ListLaws.{contrary}
use Rattle.plan.proofs.PlaceLaws.{awaited-not-full}
use Rattle.plan.proofs.WaitLaws.{waits-awaited}
use Rattle.plan.proofs.PlanLaws.{plan-answer, planned-done}
use Rattle.plan.proofs.OrderLaws.{turns-fill, turns-right, waits-none}
use Rattle.plan.proofs.TurnLaws.{turns-untouched-by}
use Rattle.replay.specs.Places.{Place}
use Rattle.replay.specs.Run.{Step, call, split, call_of, State, fills, new_tags, result, stands, next, after}
use Rattle.replay.specs.Claim
use Rattle.replay.specs.Claim.{GivenLeft, ChecksTagged, Complete, Untouched, AgreesHere, WroteUntouched, AcceptedWipe, known}
use Rattle.replay.specs.Claim.{AllComplete, Agreement, Forgery, Faithful}
use Rattle.replay.specs.Tagged.{StepTags, Honest, ByCall, GoesOn}
use Rattle.replay.proofs.PlaceLaws.{first, later, earlier, no_place, at_more, holds_more, holds-ended}
use Rattle.replay.proofs.Along.{after-append}
use Rattle.replay.proofs.Moves.{split-answer, stands-whole, Tags, Move, still, wrote-block, lost-block, wiped-card, move}
use Rattle.replay.proofs.Agreement.{agrees-tagged, agreement}
use Rattle.replay.proofs.Since.{blank-named, named_blank, checks-tagged, given-left, Good, good-place}

-- What was tagged stays tagged
module _ (F : List ℕ → List ℕ) where
  kept_next : (s : State) (x : Step) (m : List ℕ) → Memᴰ m s.tagged → Memᴰ m (next F s x).tagged
  unfolding next
  kept_next s x m h = Memᴰ.append_right (new_tags F s.store x) h

  pub kept : (xs : List Step) (s : State) (m : List ℕ) → Memᴰ m s.tagged → Memᴰ m (after F s xs).tagged
  unfolding after
  kept [] s m h = h
  kept (x ∷ xs) s m h = kept xs (next F s x) m (kept_next s x m h)

  -- from a place on
  kept-place : (s : State) {xs : List Step} (p : Place xs) (m : List ℕ) → Memᴰ m (next F (known F s p) p.item).tagged
      → Memᴰ m (after F s xs).tagged
  unfolding after
  kept-place s p m h =
      subst (λ (q : State). Memᴰ m q.tagged) (sym (ap (after F s) p.is ∙ after-append F p.before (p.item ∷ p.behind) s))
      (kept p.behind (next F (known F s p) p.item) m h)

-- a wipe is no write, and checks no node
pub write-not-wipe : (c : Call) → is_write c ≡ true → c ≡ wipe → ⊥
write-not-wipe c w e = let k = sym (ap is_write e) ∙ w in let z : ◌≡◌ {A = ℕ} 0 1 = cc in omega arith

checks-not-wipe : (n : ℕ) (c : Call) (u : ℕ) → Memᴰ u (checks n c) → c ≡ wipe → ⊥
unfolding checks
checks-not-wipe n c u m e = Memᴰ.not-nil (subst (λ (d : Call). Memᴰ u (checks n d)) e m)

module _ (F : List ℕ → List ℕ) (F16 : (m : List ℕ) → length (F m) ≡ 16) where
  -- What the steps tag

  named-next : (s : State) (x : Step) → Complete F s.store x → Claim.Accepted F s.store x → (m : List ℕ)
      → StepTags F s.store.anchor x m → Memᴰ m (next F s x).tagged
  named-next s x complete w m k = go (move F F16 s x complete)
    where
      a : Anchor
      a = s.store.anchor

      go : Move F s x → Memᴰ m (next F s x).tagged
      go (still e f g none) = absurd (none m w k)
      go (wrote-block i block ranges v) =
          subst (λ (z : State). Memᴰ m z.tagged) (sym v.is) (Memᴰ.append_left s.tagged (v.tags.names m k))
      go (lost-block i block ranges v) =
          subst (λ (z : State). Memᴰ m z.tagged) (sym v.is) (Memᴰ.append_left s.tagged (v.tags.names m k))
      go (wiped-card card i e q) =
          let ok = (accepted F a card wipe e).limits-passed in
          subst (λ (z : State). Memᴰ m z.tagged) (sym q)
          (Memᴰ.append_left s.tagged (blank-named F F16 a.depth (a.reserved.0 + a.depth) card ok.sound.deep ok.sound.full m
          (subst (λ (y : Step). StepTags F a y m) i k)))

  -- what an accepted step tags is tagged from there on
  pub call_kept : (s : State) {xs : List Step} → AllComplete F s xs → (m : List ℕ) → ByCall F s xs m → Memᴰ m (after F s xs).tagged
  call_kept s complete m b =
      let p = b.place in
      kept-place F s p m (named-next (known F s p) p.item (complete p) b.accepted m b.tags)

  -- Nothing else is tagged

  by_next : (s : State) (x : Step) (xs : List Step) → Complete F s.store x → (m : List ℕ) → Memᴰ m (next F s x).tagged
      → Memᴰ m s.tagged ⊎ ByCall F s (x ∷ xs) m
  unfolding after
  by_next s x xs complete m h = go (move F F16 s x complete)
    where
      a : Anchor
      a = s.store.anchor

      -- the step tags it
      tags-it : Claim.Accepted F s.store x → StepTags F s.store.anchor x m → Memᴰ m s.tagged ⊎ ByCall F s (x ∷ xs) m
      tags-it w k = inr (record { place = first x xs; accepted = w; tags = k })

      -- a write, lost or not
      written : {i : ℕ} {block ranges : List ℕ} {new : List (List ℕ)} → Tags F s x i block ranges new → Memᴰ m (new ++ s.tagged)
          → Memᴰ m s.tagged ⊎ ByCall F s (x ∷ xs) m
      written {new = new} w k =
          ⊎_elim (λ (l : Memᴰ m new). tags-it w.accepted (w.tells m l)) (λ (l : Memᴰ m s.tagged). inl l) (Memᴰ.append_cases new k)

      go : Move F s x → Memᴰ m s.tagged ⊎ ByCall F s (x ∷ xs) m
      go (still e f g none) = inl (subst (λ (q : State). Memᴰ m q.tagged) e h)
      go (wrote-block i block ranges w) = written w.tags (subst (λ (z : State). Memᴰ m z.tagged) w.is h)
      go (lost-block i block ranges w) = written w.tags (subst (λ (z : State). Memᴰ m z.tagged) w.is h)
      go (wiped-card card i e q) =
          let ok = (accepted F a card wipe e).limits-passed in
          let n = a.depth in
          let t = a.reserved.0 + n in
          let new = map (message (labels n t (blanked F n t card))) (all_nodes n) in
          ⊎_elim
          (λ (k : Memᴰ m new).
          tags-it (ap (λ (y : Step). (result F s.store y).answer) i ∙ outcome-answer F a card wipe ∙ e)
          (subst (λ (y : Step). StepTags F a y m) (sym i) (named_blank F F16 n t card ok.sound.deep ok.sound.full m k)))
          (λ (k : Memᴰ m s.tagged). inl k)
          (Memᴰ.append_cases new (subst (λ (z : State). Memᴰ m z.tagged) q h))

  by-later : (s : State) (x : Step) (xs : List Step) (m : List ℕ) → ByCall F (next F s x) xs m → ByCall F s (x ∷ xs) m
  unfolding after
  by-later s x xs m b = record { place = later x b.place; accepted = b.accepted; tags = b.tags }

  pub by-calls : (xs : List Step) (s : State) → AllComplete F s xs → (m : List ℕ) → Memᴰ m (after F s xs).tagged
      → Memᴰ m s.tagged ⊎ ByCall F s xs m
  unfolding after
  by-calls [] s complete m h = inl h
  by-calls (x ∷ xs) s complete m h =
      ⊎_elim (λ (k : Memᴰ m (next F s x).tagged). by_next s x xs (complete (first x xs)) m k)
      (λ (b : ByCall F (next F s x) xs m). inr (by-later s x xs m b))
      (by-calls xs (next F s x) (λ p. complete (later x p)) m h)

  -- The list

  module _ (s : State) (g : Good F F16 s) {xs : List Step} (complete : AllComplete F s xs) (p : Place xs)
      (faithful : Faithful F s p.before) (given : GivenLeft (known F s p).store p.item) where
    good-here : Good F F16 (known F s p)
    good-here = good-place F F16 s g p (λ q. complete (earlier p q)) faithful

    pub checked-here : Claim.Accepted F (known F s p).store p.item → ChecksTagged (known F s p) p.item
    checked-here = checks-tagged F F16 (known F s p) good-here.tagged p.item given

    pub agrees-here : AgreesHere F (known F s p) p.item
    agrees-here =
        agrees-tagged F F16 (known F s p) good-here.safe p.item (λ v. checked-here (stands-whole F (known F s p).store p.item v))

  -- no step forged
  pub none-forged : (xs : List Step) (s : State) → AllComplete F s xs → Good F F16 s → Honest F s xs → Forgery F s xs → ⊥
  none-forged xs s complete g honest f =
      let p = f.place in
      let k = f.forged in
      let untouched = honest p k.standing (checks-not-wipe _ (call_of p.item) k.node k.checked) in
      k.untagged
      (checked-here s g complete p (λ q u w e. honest (earlier p q) w (write-not-wipe (call_of q.item) e))
      (given-left F F16 (known F s p) p.item untouched) k.accepted k.node k.checked)

  pub honest-agrees : (xs : List Step) (s : State) → AllComplete F s xs → Good F F16 s → Honest F s xs → Agreement F s xs
  honest-agrees xs s complete g honest =
      ⊎_elim (λ (a : Agreement F s xs). a) (λ (f : Forgery F s xs). absurd (none-forged xs s complete g honest f))
      (agreement F F16 xs s complete g.safe)

-- Lists on untouched cards
module _ (F : List ℕ → List ℕ) (s : State) where
  abbrev pub Wipes : List Step → Step → Type 0
  Wipes before x = AcceptedWipe F (after F s before).store x

  abbrev pub Writes : List Step → Step → Type 0
  Writes before x = WroteUntouched F (after F s before) x

  -- what is asked of a step of an honest list, and of a list with split writes
  abbrev pub Fair : List Step → Step → Type 0
  Fair before x = Claim.Stands F (after F s before).store x → (call_of x ≡ wipe → ⊥) → Untouched F (after F s before).store x

  abbrev pub Done : List Step → Step → Type 0
  Done before x = Complete F (after F s before).store x

-- what holds at each place of puts holds of each put
at_each : (P : Going → PutStep → Type 0) (xs : List PutStep) (g : Going)
    → ((p : Place xs) → P (after_all_puts g p.before) p.item) → EachPut P g xs
unfolding after_all_puts
at_each P [] g h = tt
at_each P (x ∷ xs) g h = (h (first x xs), at_each P xs (after_put g x) (λ p. h (later x p)))

-- an accepted plan hands back the depth of its anchor
planned-depth : (F : List ℕ → List ℕ) (a : Anchor) (card : List ℕ) (i : ℕ) (block ranges : List ℕ)
    → answer_of F a card (write i block ranges) ≡ Whole → (planned F a card i block ranges).call.anchor.depth ≡ a.depth
planned-depth F a card i block ranges e = ap (λ (q : Planned). q.call.anchor.depth) (planned-done F a card i block ranges e)

module _ (F : List ℕ → List ℕ) (F16 : (m : List ℕ) → length (F m) ≡ 16) where
  -- a plan with the tags of its messages put in any order
  in-turn : (s : State) (i : ℕ) (block ranges us : List ℕ) →
      let a = s.store.anchor in
      let left = s.store.left in
      let x = split left i block ranges (returned F a left i block ranges us) in
      Rearranged us (plan_nodes a.depth i)
      → Complete F s.store x × Untouched F s.store x × ((result F s.store x).answer ≡ Whole → stands F s.store x ≡ true)
  in-turn s i block ranges us order =
      let a = s.store.anchor in
      let left = s.store.left in
      let puts = returned F a left i block ranges us in (
        λ w f.
            let e = sym (plan-answer F a left i block ranges) ∙ w in
            turns-right F F16 a left i block ranges e us order,
        (refl, turns-untouched-by _ us _),
        λ w.
            let v = sym (split-answer (planned F a left i block ranges) puts) ∙ w in
            let e = sym (plan-answer F a left i block ranges) ∙ v in
            ap (λ (o : Answer). is_whole o && fills (planned F a left i block ranges) puts) v
            ∙ ap (λ (n : ℕ). full n (ends F a left i block ranges us).plan) (planned-depth F a left i block ranges e)
            ∙ turns-fill F F16 a left i block ranges e us order,
      )

  -- a split write of which this holds by place
  completed : (s : State) (card : List ℕ) (i : ℕ) (block ranges : List ℕ) (puts : List PutStep) →
      let o = planned F s.store.anchor card i block ranges in
      (o.call.answer ≡ Whole → (p : Place puts) → PutRight F o.messages (after_all_puts (begun o) p.before) p.item)
      → Complete F s.store (split card i block ranges puts)
  completed s card i block ranges puts h w f =
      let o = planned F s.store.anchor card i block ranges in at_each (PutRight F o.messages) puts (begun o) (h w)

  -- whether the plan waits for no tag more
  module _ (s : State) (card : List ℕ) (i : ℕ) (block ranges : List ℕ) (puts : List PutStep)
      (w : (planned F s.store.anchor card i block ranges).call.answer ≡ Whole) where
    abbrev o : Planned
    o = planned F s.store.anchor card i block ranges

    e : answer_of F s.store.anchor card (write i block ranges) ≡ Whole
    e = sym (plan-answer F s.store.anchor card i block ranges) ∙ w

    filled_so : ((u : ℕ) → Waits s.store.anchor.depth (after_all_puts (begun o) puts).plan u → ⊥) → fills o puts ≡ true
    filled_so free =
        ap (λ (n : ℕ). full n (after_all_puts (begun o) puts).plan) (planned-depth F s.store.anchor card i block ranges e)
        ∙ waits-none F F16 s.store.anchor card i block ranges e puts free

    waits-still : (u : ℕ) → Waits s.store.anchor.depth (after_all_puts (begun o) puts).plan u → fills o puts ≡ true → ⊥
    waits-still u k f =
        let q = (after_all_puts (begun o) puts).plan in
        contrary (ap (λ (n : ℕ). full n q) (sym (planned-depth F s.store.anchor card i block ranges e)) ∙ f)
        (awaited-not-full s.store.anchor.depth q u (waits-awaited s.store.anchor.depth q u k))

  pub goes_on : (s : State) → GoesOn F s
  goes_on s =
      record {
        honest-none = λ p. absurd (no_place p);
        honest-more = λ xs x f h. at_more (Fair F s) xs x f (λ a d. h a);
        untouched-call = λ xs c. refl;
        given-left = λ xs x e. e;
        honest-wiped = λ xs card f. at_more (Fair F s) xs (call card wipe) f (λ a d. absurd (d refl));
        faithful-none = λ p. absurd (no_place p);
        faithful-more = holds_more (Wipes F s) (Writes F s);
        faithful-wiped = λ xs card e.
            holds-ended (Wipes F s) (Writes F s) xs (call card wipe) (record { accepted = e; is-wipe = refl })
            (λ a w. absurd (write-not-wipe wipe w refl));
        complete-none = λ p. absurd (no_place p);
        complete-more = λ xs x f h. at_more (Done F s) xs x f h;
        complete-call = λ xs card c. tt;
        complete-split = λ xs card i block ranges puts h. completed (after F s xs) card i block ranges puts h;
        complete-lost = λ xs card i block ranges puts u h w f.
            absurd (waits-still (after F s xs) card i block ranges puts w u (h w) f);
        stands-split = λ xs card i block ranges puts w free.
            ap (λ (x : Answer). is_whole x && fills (planned F (after F s xs).store.anchor card i block ranges) puts) w
            ∙ filled_so (after F s xs) card i block ranges puts w free;
        stands-attempt = λ xs card i block ranges journal w. ap (λ (x : Answer). is_whole x && true) w;
        complete-attempt = λ xs card i block ranges journal fate. tt;
        untouched-attempt = λ xs i block ranges journal fate. refl;
        untouched-split = λ xs i block ranges puts untouched. (refl, at_each PutUntouched puts _ untouched);
        in-turn = λ xs i block ranges us order. in-turn (after F s xs) i block ranges us order;
      }
