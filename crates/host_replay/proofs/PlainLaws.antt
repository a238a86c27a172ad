-- Demand 3 of the functions for C in their own terms.
use mathlib.Core.Path.{◌≡◌, refl, sym, ap, ap₂, subst, ◌∙◌}
use mathlib.Core.Bool.{Bool, true}
use mathlib.Core.List.{List, [], ◌∷◌, ◌++◌, map, map-append}
use mathlib.Core.Logic.{inl, inr, ⊎_elim}
use Prim.Native.Nat.{ℕ, ◌+◌, ◌*◌, ◌^◌}
use borrow.Author.Tests.{eq-eqb}
use lib.ListN.{length, replicate, length-replicate}
use Rattle.std.proofs.Math.Option.{none}
use Rattle.cmac.specs.Cmac.{cmac_of}
use Rattle.cmac.proofs.Laws.{length-cmac}
use Rattle.tree.specs.Limits.{first_failing}
use Rattle.tree.specs.Calls.{Call, write, wipe, is_write, format}
use Rattle.tree.specs.declared.Anchor.{Anchor}
use Rattle.replay.specs.Array
use Rattle.replay.specs.Array.{Told, Array, zeroed, moved}
use Rattle.replay.specs.Places.{Place}
use Rattle.replay.specs.Run
use Rattle.replay.specs.Run.{Step, call_of, limits_of, Store, State, start, result, after}
use Rattle.replay.specs.Claim
use Rattle.replay.specs.Claim.{Agrees, Accepted, AcceptedWipe, known, AllComplete, Agreement, Forgery, Faithful}
use Rattle.replay.proofs.PlaceLaws.{earlier, mapped, Image, image}
use Rattle.replay.proofs.Moves.{moved_length}
use Rattle.replay.proofs.Anchors.{after-key}
use Rattle.replay.proofs.Unforged.{write-not-wipe}
use Rattle.host_bytes.specs.Host.{anchor_of, code_of}
use Rattle.host_bytes.proofs.AnchorLaws.{code-whole, whole_code}
use Rattle.host_replay.specs.Called.{bytes, anchor_in, Called, call, split, attempt, given_to, step_of, steps, back_of, History, Formatted}
use Rattle.host_replay.specs.Called.{begin, Demand3Of}
use Rattle.host_replay.specs.Plain.{called, shown, stands, left_by, array_by, Shows, Each, Agreed, Untouched}
use Rattle.host_replay.specs.Plain.{AllUntouched, Unwiped, WritesUntouched, AllFilled, PlainDemand}
use Rattle.host_replay.proofs.Theorem.{given_is, filled-complete, followed, complete-before, demand3-of-calls}
use Rattle.host_replay.proofs.ByAnswers.{not-wrong, Ran, stands-so, left_by_lem, array-by, untouched-here}
use Rattle.host_replay.proofs.NonceLaws.{front-ran, nonces-at, kept-at}

-- two definitions of one meaning
agrees-shows : (n : ℕ) (array : Array) (card given : List ℕ) (c : Told) → Agrees n array card given c → Shows n array card given c
agrees-shows n array card given (Array.read i) a = a
agrees-shows n array card given (Array.write i block) a = tt
agrees-shows n array card given Array.check a = a
agrees-shows n array card given Array.wipe a = tt

module _ (anchor card made left : List ℕ) (formatted : Formatted anchor card 0 made left) (rs : List Called)
    (ran : History (bytes made) rs)
    (complete : AllComplete (cmac_of (anchor_of anchor).key) (begin anchor card) (steps rs)) where
  abbrev k : List ℕ
  k = (anchor_of anchor).key

  abbrev n : ℕ
  n = (anchor_of anchor).depth

  abbrev s₀ : State
  s₀ = begin anchor card

  -- what is known before a call
  abbrev store : Place rs → Store
  store p = (after (cmac_of (anchor_of anchor).key) (begin anchor card) (steps p.before)).store

  demand : Demand3Of anchor card made left rs
  demand = demand3-of-calls anchor card made left formatted rs ran complete

  ran-before : (p : Place rs) → Each p.before (Ran (anchor_of anchor).key (begin anchor card))
  ran-before p q = followed anchor card made left formatted rs ran complete (earlier p q)

  left_is : (p : Place rs) → (store p).left ≡ left_by left p.before
  left_is p = left_by_lem k p.before s₀ (ran-before p) ∙ ap (λ (l : List ℕ). left_by l p.before) (sym demand.formatted)

  zeroed-is : (begin anchor card).store.array ≡ zeroed (2 ^ (anchor_of anchor).depth)
  unfolding start
  zeroed-is = refl

  array-is : (p : Place rs) → (store p).array ≡ array_by (zeroed (2 ^ (anchor_of anchor).depth)) p.before
  array-is p = array-by k p.before s₀ (ran-before p) ∙ ap (λ (a : Array). array_by a p.before) zeroed-is

  depth_is : (p : Place rs) → (store p).anchor.depth ≡ (anchor_of anchor).depth
  unfolding start format
  depth_is p =
      (after-key (cmac_of k) (length-cmac k) (steps p.before) s₀
      (complete-before anchor card made left formatted rs ran complete p)).1

  agreed : Agreement (cmac_of (anchor_of anchor).key) (begin anchor card) (steps rs) → Agreed (anchor_of anchor).depth rs
  agreed a p zero =
      let r = p.item in
      let t = demand.told p in
      let z = store p in
      let o = result (cmac_of k) z (step_of r) in
      let shows =
      agrees-shows z.anchor.depth z.array (shown r) o.lent (Run.told (called r))
      (a (mapped step_of p) (code-whole o.answer (sym t.coded ∙ zero))) in
      subst (λ (l : List ℕ). Shows n (array_by (zeroed (2 ^ n)) p.before) (shown r) l (Run.told (called r))) (sym t.filled)
      (subst (λ (b : Array). Shows n b (shown r) o.lent (Run.told (called r))) (array-is p)
      (subst (λ (m : ℕ). Shows m z.array (shown r) o.lent (Run.told (called r))) (depth_is p) shows))

  stands_is : (p : Place rs) → Run.stands (cmac_of (anchor_of anchor).key) (store p) (step_of p.item) ≡ stands p.item
  stands_is p =
      (stands-so k p.item (after (cmac_of k) s₀ (steps p.before)) (followed anchor card made left formatted rs ran complete p)).0

  -- what is untouched is so in the list
  untouched-at : (p : Place rs) → stands p.item ≡ true → Untouched (left_by left p.before) p.item
      → Claim.Untouched (cmac_of (anchor_of anchor).key) (store p) (step_of p.item)
  untouched-at p w u =
      untouched-here k p.item (after (cmac_of k) s₀ (steps p.before)) (followed anchor card made left formatted rs ran complete p) w
      (subst (λ (l : List ℕ). Untouched l p.item) (sym (left_is p)) u)

  -- a place of the list that stands is a call that does
  untouched : (q : Place (steps rs))
      → Claim.Stands (cmac_of (anchor_of anchor).key) (known (cmac_of (anchor_of anchor).key) (begin anchor card) q).store q.item
      → ((i : Image step_of rs q) → stands i.place.item ≡ true → Untouched (left_by left i.place.before) i.place.item)
      → Claim.Untouched (cmac_of (anchor_of anchor).key) (known (cmac_of (anchor_of anchor).key) (begin anchor card) q).store q.item
  untouched q w f =
      let i = image step_of rs q in
      let p = i.place in
      let same = ap₂ (λ (l : List Step) (y : Step). Run.stands (cmac_of k) (after (cmac_of k) s₀ l).store y) i.before-is i.item-is in
      let stood = sym (stands_is p) ∙ same ∙ w in
      subst (λ (l : List Step). Claim.Untouched (cmac_of k) (after (cmac_of k) s₀ l).store q.item) i.before-is
      (subst (λ (y : Step). Claim.Untouched (cmac_of k) (store p) y) i.item-is (untouched-at p stood (f i stood)))

  -- and a wipe that answered 0 is an accepted one
  wipes : (p : Place rs) → (back_of p.item).code ≡ 0 → called p.item ≡ wipe
      → AcceptedWipe (cmac_of (anchor_of anchor).key) (store p) (step_of p.item)
  wipes p zero w = record { accepted = code-whole _ (sym (demand.told p).coded ∙ zero); is-wipe = w }

  -- behind the place that a place of the list stands for there is no more than behind that
  unwiped : (q : Place (steps rs)) (i : Image step_of rs q)
      → Claim.Unwiped (cmac_of (anchor_of anchor).key) (begin anchor card) q → Unwiped i.place
  unwiped q i free r b zero w =
      let f = step_of in
      free (mapped f r)
      (record {
        between = map f b.between;
        is = ap (map f) b.is ∙ map-append f i.place.before (i.place.item ∷ b.between)
            ∙ ap₂ (λ (l : List Step) (y : Step). l ++ (y ∷ map f b.between)) i.before-is i.item-is;
      })
      (wipes r zero w)

  honest : AllUntouched left rs → Agreed (anchor_of anchor).depth rs
  honest f =
      agreed (demand.unforged.agreed (λ q w d.
      untouched q w (λ i stood. f i.place stood (λ e. d (sym (ap call_of i.item-is) ∙ e)))))

-- The array has its length always, and is empty after a wipe that answered 0.

array-length : (rs : List Called) (a : Array) → length (array_by a rs) ≡ length a
array-length [] a = refl
array-length (r ∷ rs) a =
    let c = Run.told (called r) in
    array-length rs (moved a c (stands r)) ∙ moved_length a c (stands r)

pub array-more : (rs : List Called) (r : Called) (a : Array)
    → array_by a (rs ++ (r ∷ [])) ≡ moved (array_by a rs) (Run.told (called r)) (stands r)
array-more [] r a = refl
array-more (q ∷ rs) r a = array-more rs r (moved a (Run.told (called q)) (stands q))

-- no other step is a wipe
wipe-stands : (r : Called) → (back_of r).code ≡ 0 → called r ≡ wipe → stands r ≡ true
wipe-stands (call given card c back) zero w = eq-eqb back.code 0 zero
wipe-stands (split given p qs) zero w = absurd (write-not-wipe (write p.index p.block p.ranges) refl w)
wipe-stands (attempt given t) zero w = absurd (write-not-wipe (write t.index t.block t.ranges) refl w)

emptied : (count : ℕ) (rs : List Called) (r : Called) → (back_of r).code ≡ 0 → called r ≡ wipe
    → array_by (zeroed count) (rs ++ (r ∷ [])) ≡ zeroed count
unfolding zeroed moved
emptied count rs r zero w =
    array-more rs r (zeroed count)
    ∙ ap₂ (λ (c : Call) (b : Bool). moved (array_by (zeroed count) rs) (Run.told c) b) w (wipe-stands r zero w)
    ∙ ap zeroed (array-length rs (zeroed count) ∙ length-replicate count (replicate 64 0))

module _ (anchor card made left : List ℕ) (formatted : Formatted anchor card 0 made left) (rs : List Called)
    (ran : History (bytes made) rs)
    (filled : AllFilled rs) where
  complete : AllComplete (cmac_of (anchor_of anchor).key) (begin anchor card) (steps rs)
  complete = filled-complete anchor card made left formatted rs ran filled

  d : Demand3Of anchor card made left rs
  d = demand3-of-calls anchor card made left formatted rs ran complete

  -- the writes before a call are untouched in the list too, and so is the call's card
  faithful : (p : Place rs) → WritesUntouched left p.before → Faithful (cmac_of (anchor_of anchor).key) (begin anchor card) (steps p.before)
  faithful p f q free a w =
      let early = front-ran (bytes made) p.before (p.item ∷ p.behind) (subst (History (bytes made)) p.is ran) in
      let before = complete-before anchor card made left formatted rs ran complete p in
      untouched anchor card made left formatted p.before early before q a
      (λ i stood.
      f i.place (unwiped anchor card made left formatted p.before early before q i free) stood
      (ap (λ (y : Step). is_write (call_of y)) i.item-is ∙ w))

  as_left : (p : Place rs) → shown p.item ≡ left_by left p.before
      → shown p.item ≡ (after (cmac_of (anchor_of anchor).key) (begin anchor card) (steps p.before)).store.left
  as_left p same = same ∙ sym (left_is anchor card made left formatted rs ran complete p)

  quiet : Each rs (λ before r. WritesUntouched left before → shown r ≡ left_by left before → (u : ℕ) → (back_of r).code ≡ 8 + 256 * u → ⊥)
  quiet p f same u code = not-wrong _ (d.demand.quiet (mapped step_of p) (faithful p f) (as_left p same)) u (sym (d.told p).coded ∙ code)

  accepted : Each rs (λ before r.
      WritesUntouched left before → shown r ≡ left_by left before
      → first_failing (limits_of (anchor_in (given_to r)) (step_of r)) ≡ none → (back_of r).code ≡ 0)
  accepted p f same passed =
      let k = (anchor_of anchor).key in
      let z = after (cmac_of k) (begin anchor card) (steps p.before) in
      let g = followed anchor card made left formatted rs ran complete p in
      (d.told p).coded
      ∙ ap code_of
      (d.unforged.accepts (mapped step_of p) (faithful p f) (as_left p same)
      (subst (λ (a : Anchor). first_failing (limits_of a (step_of p.item)) ≡ none)
      (given_is k p.item z g.held g.knows g.handed g.met) passed))
      ∙ whole_code

  pub plain-demand : PlainDemand anchor card left rs
  plain-demand =
      record {
        safe = ⊎_elim
            (λ (a : Agreement (cmac_of (anchor_of anchor).key) (begin anchor card) (steps rs)). inl
            (agreed anchor card made left formatted rs ran complete a))
            (λ (f : Forgery (cmac_of (anchor_of anchor).key) (begin anchor card) (steps rs)). inr f)
            d.demand.safe;
        honest = honest anchor card made left formatted rs ran complete;
        quiet = quiet;
        accepted = accepted;
        nonces = nonces-at anchor card made left formatted rs ran complete;
        root-kept = kept-at anchor card made left formatted rs ran complete;
        emptied = λ p zero w. emptied (2 ^ (anchor_of anchor).depth) p.before p.item zero w;
      }
