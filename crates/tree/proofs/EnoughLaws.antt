-- Two tag functions that agree on what a call counts give it one outcome.
use mathlib.Core.Path.{◌≡◌, refl, sym, ap, ap₂, subst, ◌∙◌}
use mathlib.Core.Bool.{Bool, true, false, cond}
use mathlib.Core.List.Memᴰ
use mathlib.Core.List.{List, [], ◌∷◌, ◌++◌, Memᴰ}
use mathlib.Core.Option.{Option, none, some}
use Prim.Native.Nat.{ℕ, ◌+◌, ◌^◌}
use lib.Seq.{sets}
use Rattle.words.specs.Bytes.{same}
use Rattle.tree.specs.Layout.{offset, label, tag}
use Rattle.tree.specs.Nodes.{pairs, all_nodes}
use Rattle.tree.specs.Labels.{Labels, message, labels, blank_labels, written_labels}
use Rattle.tree.specs.Card.{put_each, right, first_wrong, checked, stamp, stamped, blanked, written}
use Rattle.tree.specs.Ranges.{listed}
use Rattle.tree.specs.Limits.{first_failing}
use Rattle.tree.specs.Calls.{Call, read, write, check, wipe, lent_to, limits, checks, tagged, verdict, renew, answer_of, checked_by}
use Rattle.tree.specs.Calls.{made_by, done, settled, outcome}
use Rattle.tree.specs.Enough.{Enough}
use Rattle.tree.specs.declared.Anchor.{Anchor}
use Rattle.tree.specs.declared.Refusal.{Refusal}
use Rattle.tree.specs.Answer.{Whole, Wrong}

module _ (F G : List ℕ → List ℕ) where
  -- they agree on a list of messages
  abbrev pub Agree : List (List ℕ) → Type 0
  Agree ms = (m : List ℕ) → Memᴰ m ms → F m ≡ G m

  -- along a list of nodes they find the same
  pub found-same : (n t : ℕ) (card us : List ℕ) → Agree (checked F n t card us)
      → (first_wrong F n t card us ≡ first_wrong G n t card us) × (checked F n t card us ≡ checked G n t card us)
  unfolding first_wrong checked
  found-same n t card [] h = (refl, refl)
  found-same n t card (u ∷ us) h =
      go (right F n t card u) refl (λ k. found-same n t card us k)
    where
      m : List ℕ
      m = message (labels n t card) u

      same-right : right F n t card u ≡ right G n t card u
      same-right = ap (λ (x : List ℕ). same x (tag n card u)) (h m (Memᴰ.head refl))

      go : (b : Bool) → right F n t card u ≡ b
          → (Agree (checked F n t card us)
          → (first_wrong F n t card us ≡ first_wrong G n t card us) × (checked F n t card us ≡ checked G n t card us))
          → (cond (right F n t card u) (first_wrong F n t card us) (some u)
          ≡ cond (right G n t card u) (first_wrong G n t card us) (some u))
          × (m ∷ cond (right F n t card u) (checked F n t card us) [] ≡ m ∷ cond (right G n t card u) (checked G n t card us) [])
      go true e rest =
          let r = rest (λ k i. h k (Memᴰ.tail (subst (λ (z : Bool). Memᴰ k (cond z (checked F n t card us) [])) (sym e) i))) in
          let g : right G n t card u ≡ true = sym same-right ∙ e in
          rw (e, g) (r.0, ap (λ (l : List (List ℕ)). m ∷ l) r.1)
      go false e rest =
          let g : right G n t card u ≡ false = sym same-right ∙ e in
          rw (e, g) (refl, refl)

  -- and put the same
  stamped-same : (n : ℕ) (L : Labels) (us card : List ℕ) → ((u : ℕ) → Memᴰ u us → F (message L u) ≡ G (message L u))
      → stamped F n L us card ≡ stamped G n L us card
  unfolding stamped put_each
  stamped-same n L [] card h = refl
  stamped-same n L (u ∷ us) card h =
      stamped-same n L us (stamp F n L card u) (λ v i. h v (Memᴰ.tail i))
      ∙ ap (λ (x : List ℕ). stamped G n L us (sets card (offset n u) (L u ++ x))) (h u (Memᴰ.head refl))

  module _ (a : Anchor) (card : List ℕ) where
    checked-same : (c : Call) → Agree (checked_by F a card c) → checked_by F a card c ≡ checked_by G a card c
    checked-same c h = (found-same a.depth a.root.0 card (checks a.depth c) h).1

    done-same : (c : Call) → Agree (made_by F a card c) → done F a card c ≡ done G a card c
    unfolding written blanked
    done-same (read i buffer) h =
        ap
        (λ (l : List (List ℕ)).
        record { answer = Whole; anchor = a; card = card; lent = label a.depth card (2 ^ a.depth + i); counted = l ++ [] })
        (checked-same (read i buffer) (λ m k. h m (Memᴰ.append_left [] k)))
    done-same (write i block ranges) h =
        let n = a.depth in
        let L = written_labels n a.root.0 a.reserved.0 card i block in
        let c = write i block ranges in
        ap₂
        (λ (d : List ℕ) (l : List (List ℕ)).
        record {
          answer = Whole;
          anchor = renew a;
          card = d;
          lent = listed n i ranges;
          counted = l ++ tagged a card c;
        })
        (stamped-same n L (pairs n i) card
        (λ u k. h _ (Memᴰ.append_right (checked_by F a card c) (Memᴰ.map (message L) k))))
        (checked-same c (λ m k. h m (Memᴰ.append_left (tagged a card c) k)))
    done-same check h =
        ap (λ (l : List (List ℕ)). record { answer = Whole; anchor = a; card = card; lent = []; counted = l ++ [] })
        (checked-same check (λ m k. h m (Memᴰ.append_left [] k)))
    done-same wipe h =
        let n = a.depth in
        let t = a.reserved.0 + n in
        ap₂
        (λ (d : List ℕ) (l : List (List ℕ)).
        record { answer = Whole; anchor = renew a; card = d; lent = []; counted = l ++ tagged a card wipe })
        (stamped-same n (blank_labels n t) (all_nodes n) card
        (λ u k. h _ (Memᴰ.append_right (checked_by F a card wipe) (Memᴰ.map (message (blank_labels n t)) k))))
        (checked-same wipe (λ m k. h m (Memᴰ.append_left (tagged a card wipe) k)))

    -- what was found decides, and is found by both
    settled_same : (c : Call) (w : Option ℕ) → Agree (settled F (verdict none w) a card c).counted
        → Agree (checked_by F a card c) × (settled F (verdict none w) a card c ≡ settled G (verdict none w) a card c)
    settled_same c none h =
        let k = whole-counted c in
        let d : Agree (made_by F a card c) = λ m i. h m (subst (λ (l : List (List ℕ)). Memᴰ m l) (sym k) i) in
        (λ m i. d m (Memᴰ.append_left (tagged a card c) i), done-same c d)
      where
        whole-counted : (c : Call) → (done F a card c).counted ≡ made_by F a card c
        whole-counted (read i buffer) = refl
        whole-counted (write i block ranges) = refl
        whole-counted check = refl
        whole-counted wipe = refl
    settled_same c (some u) h = (
      h,
      ap (λ (l : List (List ℕ)). record { answer = Wrong (record { 0 = u }); anchor = a; card = card; lent = lent_to c; counted = l })
          (checked-same c h),
    )

    outcome-same : (c : Call) (r : Option Refusal) (w : Option ℕ) → first_failing (limits a card c) ≡ r
        → first_wrong F a.depth a.root.0 card (checks a.depth c) ≡ w → Agree (settled F (verdict r w) a card c).counted
        → settled F (verdict r w) a card c
        ≡ settled G (verdict (first_failing (limits a card c)) (first_wrong G a.depth a.root.0 card (checks a.depth c))) a card c
    outcome-same c (some r) w e f h = rw e
    outcome-same c none w e f h =
        let s = settled_same c w h in
        let g : first_wrong G a.depth a.root.0 card (checks a.depth c) ≡ w =
        sym (found-same a.depth a.root.0 card (checks a.depth c) s.0).0 ∙ f in
        rw (e, g) s.1

pub enough : (F : List ℕ → List ℕ) (a : Anchor) (card : List ℕ) (c : Call) → Enough F a card c
unfolding outcome answer_of
enough F a card c G h = outcome-same F G a card c _ _ refl refl h
