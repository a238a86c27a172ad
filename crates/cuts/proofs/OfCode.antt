-- The claim over cuts of the code: what the contracts say of the items as they ran makes their media those of the list.
use mathlib.Core.Path.{◌≡◌, refl, sym, ap, subst, ◌∙◌}
use mathlib.Core.Bool.{cond}
use mathlib.Core.List.{List, [], ◌∷◌, map}
use Prim.Native.Nat.{ℕ}
use lib.ListN.{length}
use Rattle.std.specs.Result.{result_unwrap_or}
use Rattle.cmac.specs.Cmac.{cmac_of}
use Rattle.cmac.specs.Traced.{subkeys_count, cmac_count}
use Rattle.cmac.proofs.Laws.{length-cmac}
use Rattle.recovery.proofs.write.Reads as write-code
use Rattle.recovery.proofs.recover.Reads as recover-code
use Rattle.tree.specs.Layout.{IsCard}
use Rattle.tree.specs.Ranges.{ranges_of}
use Rattle.tree.specs.Answer.{Answer, Whole, is_whole, answer_in, limited_in}
use Rattle.tree.specs.Calls.{Gives, format}
use Rattle.tree.specs.declared.Anchor.{Anchor}
use Rattle.tree.proofs.CallLaws.{format-in}
use Rattle.journal.specs.Journal.{journal_length}
use Rattle.journal.specs.Journalled.{journalled, Journals}
use Rattle.journal.specs.Recovery.{recovered}
use Rattle.replay.specs.Places.{Place}
use Rattle.replay.specs.Run.{Step, State, result, start, after}
use Rattle.replay.specs.Ran
use Rattle.replay.specs.Ran.{Back, PlanRan, PutRan, Tells, Formatted}
use Rattle.replay.proofs.PlaceLaws.{first, later, no_place, at_places, mapped}
use Rattle.replay.proofs.Anchors.{after-key}
use Rattle.replay.proofs.OfCode.{step-tells}
use Rattle.cuts.specs.Media.{Media, Part, anchor_out, journal_out, ranges_out, all_out, four_steps, one_step}
use Rattle.cuts.specs.World.{Ending, whole, Item, World, ended, left_by, tried, recovery, media_after, next_world}
use Rattle.cuts.specs.World.{world_after, steps, begins, Possible, Lawful}
use Rattle.cuts.specs.Claim.{Restores}
use Rattle.cuts.specs.Ran.{Wrote, RanItem, attempting, recovering, calling, splitting, item_of, items, steps_back, step_back}
use Rattle.cuts.specs.Ran.{media_ran, media_by, Meets}
use Rattle.cuts.specs.Ran.{History, CutsOf}
use Rattle.cuts.proofs.Chip.{known-is, chip-next, chip-after, all-complete, AllPossible}
use Rattle.cuts.proofs.Theorem.{recovers, is-list}

-- What the contracts say of a journalled write and of a recovery that returned: x is what it was given, r what it answered, e what it left.

pub attempt-ran : (κs : _) (x : _) (r : _) (e : _) → write-code.Learnt κs x r e
    → Journals (subkeys_count x.0.key) (cmac_count x.0.key)
    (journalled (cmac_of x.0.key) x.0 x.1.0.now x.1.1.0.0 x.1.1.1.0.now x.1.1.1.1.0.now x.1.1.1.1.1.0.now)
    (answer_in r.value) r.count
    (result_unwrap_or r.value (record { raised = x.0; anchor = x.0 })).raised
    (result_unwrap_or r.value (record { raised = x.0; anchor = x.0 })).anchor e.1.0.now e.1.1.1.1.0.now e.1.1.1.1.1.0.now
attempt-ran κs x r e learnt = learnt

pub recovery-ran : (κs : _) (x : _) (r : _) (e : _) → recover-code.Learnt κs x r e
    → Gives (recovered (cmac_of x.0.key) x.0 x.1.0.now x.1.1.0.now) (limited_in r) x.0 e.1.0.now []
recovery-ran κs x r e learnt = learnt

module _ (key : List ℕ) where
  abbrev F : List ℕ → List ℕ
  F = cmac_of key

  -- One item

  steps-same : {r s a b : Anchor} {j k l m : List ℕ} → r ≡ s → j ≡ k → a ≡ b → l ≡ m → (i : ℕ)
      → ◌≡◌ {A = List Part}
      (anchor_out r ∷ journal_out j ∷ anchor_out a ∷ ranges_out (ranges_of a.depth i) l ∷ [])
      (anchor_out s ∷ journal_out k ∷ anchor_out b ∷ ranges_out (ranges_of b.depth i) m ∷ [])
  steps-same p q r s i = cc

  media-same : {a b : Anchor} {l m : List ℕ} (journal : List ℕ) → a ≡ b → l ≡ m
      → ◌≡◌ {A = Media} (record { anchor = a; journal = journal; card = l }) (record { anchor = b; journal = journal; card = m })
  media-same journal p q = cc

  -- a state with the anchor on the chip
  abbrev holds : Anchor → State
  holds a = record { store = record { anchor = a; array = []; left = [] }; tagged = [] }

  -- what the contracts say, under the format's key
  wrote-on : (m : Media) → m.anchor.key ≡ key → (i : ℕ) (block ranges : List ℕ) (w : Wrote) (ending : Ending)
      → Meets m (attempting i block ranges w ending)
      → Journals (subkeys_count key) (cmac_count key) (tried F m i block ranges)
      w.back.answer w.back.count w.raised w.back.anchor w.back.card w.back.lent w.journal
  wrote-on m e i block ranges w ending h =
      subst
      (λ (q : List ℕ). Journals (subkeys_count q) (cmac_count q) (journalled (cmac_of q) m.anchor m.card i block ranges m.journal)
      w.back.answer w.back.count w.raised w.back.anchor w.back.card w.back.lent w.journal) e h

  recovered-on : (m : Media) → m.anchor.key ≡ key → (answer : Answer) (left : List ℕ) (ending : Ending)
      → Meets m (recovering answer left ending)
      → Gives (recovery F m) answer m.anchor left []
  recovered-on m e answer left ending h =
      subst (λ (q : List ℕ). Gives (recovered (cmac_of q) m.anchor m.card m.journal) answer m.anchor left []) e h

  -- what it gave back makes the media of the definitions
  same-next : (m : Media) → m.anchor.key ≡ key → (r : RanItem) → Meets m r → media_after F m (item_of r) ≡ media_ran m r
  unfolding media_after
  same-next m e (attempting i block ranges w ending) h =
      let k = wrote-on m e i block ranges w ending h in
      let g = k.reports.gives in
      ap (λ (o : Answer). cond (is_whole o) (ended ending (all_out (four_steps (tried F m i block ranges) i) m)) m) (sym g.answered)
      ∙ ap (λ (ps : List Part). cond (is_whole w.back.answer) (ended ending (all_out ps m)) m)
      (sym (steps-same k.raises k.journals g.anchored g.left i))
  same-next m e (recovering answer left ending) h =
      let g = recovered-on m e answer left ending h in
      ap (λ (o : Answer). cond (is_whole o) (ended ending (left_by m (recovery F m))) m) (sym g.answered)
      ∙ ap (λ (v : Media). cond (is_whole answer) (ended ending v) m) (sym (media-same m.journal g.anchored g.left))
  same-next m e (calling c back) h =
      let g = (step-tells key (holds m.anchor) e (Ran.call m.card c back) h).gives in
      sym (media-same m.journal g.anchored g.left)
  same-next m e (splitting p qs) h =
      let g = (step-tells key (holds m.anchor) e (Ran.split p qs) h.1).gives in
      ap (λ (card : List ℕ). left_by m (result F (holds m.anchor).store
      (Rattle.replay.specs.Run.split card p.index p.block p.ranges (map (λ (q : PutRan). q.step) qs)))) (sym h.0)
      ∙ sym (media-same m.journal g.anchored g.left)

  -- and goes out in the steps of the definitions
  told-steps : (m : Media) → m.anchor.key ≡ key → (i : ℕ) (block ranges : List ℕ) (w : Wrote) (ending : Ending)
      → Meets m (attempting i block ranges w ending) → steps_back w i ≡ four_steps (tried F m i block ranges) i
  told-steps m e i block ranges w ending h =
      let k = wrote-on m e i block ranges w ending h in
      let g = k.reports.gives in
      steps-same k.raises k.journals g.anchored g.left i

  told-step : (m : Media) → m.anchor.key ≡ key → (answer : Answer) (left : List ℕ) (ending : Ending)
      → Meets m (recovering answer left ending) → step_back F m left ≡ one_step F m
  told-step m e answer left ending h = ap (step_back F m) (recovered-on m e answer left ending h).left

  -- The list

  abbrev AllGood : World → List Item → Type 0
  AllGood w xs = AllPossible F (length-cmac key) w xs

  -- the chip keeps the key
  key-after : (xs : List Item) (w : World) → w.media.anchor ≡ w.known.store.anchor → AllGood w xs
      → (world_after F w xs).media.anchor.key ≡ w.media.anchor.key
  key-after xs w chip k =
      ap (λ (a : Anchor). a.key) (chip-after F (length-cmac key) xs w chip k)
      ∙ ap (λ (s : State). s.store.anchor.key) (known-is F xs w)
      ∙ (after-key F (length-cmac key) (steps F w xs) w.known (all-complete F (length-cmac key) xs w chip k)).0
      ∙ sym (ap (λ (a : Anchor). a.key) chip)

  key-next : (w : World) (x : Item) → w.media.anchor ≡ w.known.store.anchor → AllGood w (x ∷ [])
      → (next_world F w x).media.anchor.key ≡ w.media.anchor.key
  unfolding world_after
  key-next w x chip k = key-after (x ∷ []) w chip k

  -- the media behind an item are those of the world
  media-next : (w : World) (r : RanItem) → w.media.anchor.key ≡ key → Meets w.media r
      → (next_world F w (item_of r)).media ≡ media_ran w.media r
  unfolding next_world
  media-next w r e h = same-next w.media e r h

  -- what holds at each place: the media are the world's, and the item met its contract on them
  abbrev Met : World → List RanItem → RanItem → Type 0
  Met w before r =
      let v = (world_after F w (items before)).media in
      (media_by w.media before ≡ v) × (v.anchor.key ≡ key) × Meets v r

  follows : (rs : List RanItem) (w : World) → w.media.anchor ≡ w.known.store.anchor → w.media.anchor.key ≡ key
      → AllGood w (items rs) → History w.media rs → (p : Place rs) → Met w p.before p.item
  unfolding world_after
  follows [] w chip e k h = λ p. absurd (no_place p)
  follows (r ∷ rs) w chip e k h =
      let x = item_of r in
      let now = k (first x (items rs)) in
      let n = media-next w r e h.0 in
      let one : AllGood w (x ∷ []) = at_places (λ before y. Possible F (world_after F w before).media y) x [] now (λ p. absurd (no_place p)) in
      at_places (Met w) r rs (refl, e, h.0)
      (λ p.
      let q = follows rs (next_world F w x) (chip-next F (length-cmac key) w x chip now) (key-next w x chip one ∙ e) (λ q. k (later x q))
      (subst (λ (m : Media). History m rs) (sym n) h.1) p in
      (ap (λ (m : Media). media_by m p.before) (sym n) ∙ q.0, q.1, q.2))

  -- and at the end
  ends : (rs : List RanItem) (w : World) → w.media.anchor ≡ w.known.store.anchor → w.media.anchor.key ≡ key
      → AllGood w (items rs) → History w.media rs → media_by w.media rs ≡ (world_after F w (items rs)).media
  unfolding world_after
  ends [] w chip e k h = refl
  ends (r ∷ rs) w chip e k h =
      let x = item_of r in
      let now = k (first x (items rs)) in
      let n = media-next w r e h.0 in
      let one : AllGood w (x ∷ []) = at_places (λ before y. Possible F (world_after F w before).media y) x [] now (λ p. absurd (no_place p)) in
      ap (λ (m : Media). media_by m rs) (sym n)
      ∙ ends rs (next_world F w x) (chip-next F (length-cmac key) w x chip now) (key-next w x chip one ∙ e) (λ q. k (later x q))
      (subst (λ (m : Media). History m rs) (sym n) h.1)

  -- a finished recovery, where the claim's first half holds
  recovered-left : (w : World) (answer : Answer) (left : List ℕ) → w.media.anchor.key ≡ key → Meets w.media (recovering answer left whole)
      → Restores F w → (answer ≡ Whole) × (left ≡ w.known.store.left)
  recovered-left w answer left e h r =
      let g = recovered-on w.media e answer left whole h in
      let a = g.answered ∙ r.accepted in (
        a,
        sym (ap (λ (o : Answer). (media_ran w.media (recovering o left whole)).card) a)
            ∙ sym (ap (λ (m : Media). m.card) (same-next w.media e (recovering answer left whole) h))
            ∙ ap (λ (m : Media). m.card) r.leaves,
      )

  module _ (n : ℕ) (card journal : List ℕ) (a : Anchor) (left : List ℕ) (made : Formatted key n card Whole a left)
      (long : length journal ≡ journal_length n) (rs : List RanItem)
      (ran : History (record { anchor = a; journal = journal; card = left }) rs)
      (lawful : Lawful (cmac_of key) (begins (cmac_of key) key n card journal) (items rs)) where
    ok : IsCard n card
    unfolding format
    ok = format-in n card (sym made.answered)

    abbrev w₀ : World
    w₀ = begins F key n card journal

    abbrev m₀ : Media
    m₀ = record { anchor = a; journal = journal; card = left }

    begun-so : m₀ ≡ w₀.media
    unfolding begins
    begun-so = media-same journal made.anchored made.left

    chip : w₀.media.anchor ≡ w₀.known.store.anchor
    unfolding begins start format
    chip = refl

    keyed : w₀.media.anchor.key ≡ key
    unfolding begins format
    keyed = refl

    met : (p : Place rs) → Met w₀ p.before p.item
    met = follows rs w₀ chip keyed lawful.possible (subst (λ (m : Media). History m rs) begun-so ran)

    media-at : (p : Place rs) → media_by m₀ p.before ≡ (world_after F w₀ (items p.before)).media
    media-at p = ap (λ (m : Media). media_by m p.before) begun-so ∙ (met p).0

    pub cuts-of-code : CutsOf key n card journal (record { anchor = a; journal = journal; card = left }) rs
    cuts-of-code =
        record {
          recovers = recovers key n ok.deep ok.shallow card ok.full journal long (items rs) lawful;
          list = is-list key n ok.deep ok.shallow card ok.full journal long (items rs) lawful;
          steps = λ p i block ranges w e is.
              let v = (world_after F w₀ (items p.before)).media in
              subst (λ (u : Media). steps_back w i ≡ four_steps (tried F u i block ranges) i) (sym (media-at p))
              (told-steps v (met p).1 i block ranges w e (subst (Meets v) is (met p).2));
          recovery-step = λ p answer left e is.
              let v = (world_after F w₀ (items p.before)).media in
              subst (λ (u : Media). step_back F u left ≡ one_step F u) (sym (media-at p))
              (told-step v (met p).1 answer left e (subst (Meets v) is (met p).2));
          media = media-at;
          ends = ap (λ (m : Media). media_by m rs) begun-so
              ∙ ends rs w₀ chip keyed lawful.possible (subst (λ (m : Media). History m rs) begun-so ran);
          restored = λ kept p answer left e.
              let w = world_after F w₀ (items p.before) in
              recovered-left w answer left (met p).1 (subst (Meets w.media) e (met p).2)
              (kept.restored (mapped item_of p) (ap item_of e));
        }
