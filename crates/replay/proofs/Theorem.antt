-- Demand 3, and what is tagged, for tags by CMAC under any key.
use mathlib.Core.Path.{◌≡◌, refl, ap, subst, sym, ◌∙◌}
use mathlib.Core.List.Memᴰ
use mathlib.Core.List.{List, [], ◌∷◌, map, append-nil, Memᴰ}
use mathlib.Core.Logic.{inl, inr, ⊎_elim}
use Prim.Native.Nat.{ℕ, ◌+◌, ◌%◌, ◌^◌, ◌<◌, ◌≤◌}
use Rattle.std.proofs.Math.Nat.{zero-mod}
use native.Mathlib.Omega.{arith}
use lib.ListN.{length}
use Rattle.cmac.specs.Cmac.{cmac_of}
use Rattle.cmac.proofs.Laws.{length-cmac}
use Rattle.tree.specs.Layout.{card_length}
use Rattle.tree.specs.Nodes.{all_nodes}
use Rattle.tree.specs.Labels.{message, labels}
use Rattle.tree.specs.Card.{blanked}
use Rattle.tree.specs.Calls.{Call, wipe, tagged, formatted, format_card, format}
use Rattle.tree.specs.Answer.{Answer, Whole}
use mathlib.Core.Bool.{true, false}
use Rattle.tree.proofs.LimitLaws.{nonces-pass}
use Rattle.tree.proofs.WriteLaws.{clean-blanked}
use Rattle.tree.proofs.CallLaws.{wipe-accepts, outcome-answer, format-accept}
use Rattle.plan.specs.Puts.{PutStep}
use Rattle.replay.specs.Array.{zeroed}
use Rattle.replay.specs.Places.{Place}
use Rattle.plan.specs.Split.{planned}
use Rattle.replay.specs.Run.{Step, call, split, call_of, State, fills, start, new_tags, next, after}
use Rattle.replay.specs.Claim.{Complete, Accepted, AcceptedWipe, known, AllComplete, Demand3}
use Rattle.replay.specs.OneWrite.{OneWrite, LostPlan, OneAttempt}
use Rattle.replay.specs.Tagged.{ByCall, Unforged, Afresh}
use Rattle.replay.proofs.Safe.{Backs, blank-backs}
use Rattle.replay.proofs.PlaceLaws.{earlier, farther}
use Rattle.replay.proofs.Along.{after-append}
use Rattle.replay.proofs.NewTags.{new-tags}
use Rattle.replay.specs.Nonces.{NonceRule}
use Rattle.replay.proofs.Anchors.{after-key, after-reserved, Sound, after-sound, after-root}
use Rattle.replay.proofs.Moves.{step-limited}
use Rattle.replay.proofs.OneWrite.{one-write, lost-plan, one-attempt}
use Rattle.replay.proofs.Steady.{safe-steady, steady-after}
use Rattle.replay.proofs.Agreement.{agreement}
use Rattle.replay.proofs.Since.{blank-tagged, blank-named, named_blank, Good, good-made, made-empty}
use Rattle.replay.proofs.Untouched.{quiet, accepts}
use Rattle.replay.proofs.Unforged.{kept, call_kept, by-calls, checked-here, agrees-here, none-forged, honest-agrees}

-- what is good stays so
demanded : (F : List ℕ → List ℕ) (F16 : (m : List ℕ) → length (F m) ≡ 16) (s : State) → Good F F16 s → (xs : List Step) → AllComplete F s xs
    → Demand3 F s xs
demanded F F16 s g xs complete = record { safe = agreement F F16 xs s complete g.safe; quiet = quiet F F16 s g xs complete }

-- what is complete is so behind a place
complete-behind : (F : List ℕ → List ℕ) (s : State) {xs : List Step} → AllComplete F s xs → (p : Place xs)
    → AllComplete F (next F (known F s p) p.item) p.behind
unfolding after
complete-behind F s complete p q =
    subst (λ (z : State). Complete F z.store q.item) (after-append F p.before (p.item ∷ q.before) s) (complete (farther p q))

-- For any tags of 16 bytes
module _ (F : List ℕ → List ℕ) (F16 : (m : List ℕ) → length (F m) ≡ 16) (key : List ℕ) (n : ℕ) (deep : 1 ≤ n) (shallow : n ≤ 16)
    (card : List ℕ) (full : length card ≡ card_length n) where
  abbrev begun : State
  begun = start F key n card

  -- the format is accepted, and leaves a blank card
  abbrev pub blank : State
  blank =
      let left = blanked F n 0 card in
      record {
        store = record { anchor = formatted key n; array = zeroed (2 ^ n); left = left };
        tagged = map (message (labels n 0 left)) (all_nodes n);
      }

  pub begun-is : start F key n card ≡ blank
  unfolding start format
  begun-is =
      ap
      (λ (o : Answer).
      let left = format_card F o n card in
      let b : State = record {
        store = record { anchor = formatted key n; array = zeroed (2 ^ n); left = left };
        tagged = map (message (labels n 0 left)) (all_nodes n);
      } in
      b)
      (format-accept n card deep shallow full)

  pub good_start : Good F F16 (start F key n card)
  good_start =
      subst (Good F F16) (sym begun-is)
      (record {
        clean = clean-blanked F F16 n deep 0 card full;
        tagged = blank-tagged F F16 n 0 card;
        safe = subst (λ (M : List (List ℕ)). Backs n 1 M 0 (zeroed (2 ^ n))) (append-nil blank.tagged)
            (blank-backs F F16 n deep 0 (omega arith) card full [] (λ m h. absurd (Memᴰ.not-nil h)));
      })

  pub demand3-any : (xs : List Step) → AllComplete F (start F key n card) xs → Demand3 F (start F key n card) xs
  demand3-any xs complete = demanded F F16 begun good_start xs complete

  module _ {xs : List Step} (complete : AllComplete F (start F key n card) xs) where
    -- key and depth are as the format had them
    pub key-any : ((after F (start F key n card) xs).store.anchor.key ≡ key) × ((after F (start F key n card) xs).store.anchor.depth ≡ n)
    unfolding start format
    key-any = after-key F F16 xs (start F key n card) complete

    -- the nonces
    sound-any : Sound (after F (start F key n card) xs).store.anchor
    unfolding start format
    sound-any =
        after-sound F F16 xs (start F key n card) complete
        (record { within = omega arith; multiple = zero-mod n; reserved_multiple = zero-mod n })

    pub nonces-any : NonceRule F (start F key n card) n xs
    unfolding start format
    nonces-any =
        let a = (after F begun xs).store.anchor in
        let d = key-any.1 in
        let multiple = ap (λ (m : ℕ). a.root.0 % m) (sym d) ∙ sound-any.multiple in
        let reserved_multiple = ap (λ (m : ℕ). a.reserved.0 % m) (sym d) ∙ sound-any.reserved_multiple in
        record {
          reserved = after-reserved F F16 xs (start F key n card) complete ∙ omega arith;
          within = sound-any.within;
          multiple = multiple;
          reserved_multiple = reserved_multiple;
          passed = nonces-pass n a.root.0 a.reserved.0 multiple reserved_multiple sound-any.within;
          root = λ f. after-root F F16 xs (start F key n card) complete f refl ∙ omega arith;
        }

    -- a wipe of any card is accepted while nonces last
    wipes-any : (other : List ℕ) → length other ≡ card_length n → (after F (start F key n card) xs).store.anchor.reserved.0 + n < 2 ^ 64
        → Accepted F (after F (start F key n card) xs).store (call other wipe)
    wipes-any other long unspent =
        let a = (after F begun xs).store.anchor in
        let d = key-any.1 in
        outcome-answer F a other wipe
        ∙ wipe-accepts F a other (record {
          sound = record {
            deep = omega (arith, d);
            shallow = omega (arith, d);
            multiple = sound-any.multiple;
            reserved_multiple = sound-any.reserved_multiple;
            within = sound-any.within;
            full = long ∙ ap card_length (sym d);
          };
          unspent = omega (arith, d);
        })

    -- What is tagged

    counted-any : (p : Place xs) (other : List ℕ) (c : Call) → p.item ≡ call other c
        → Accepted F (known F (start F key n card) p).store p.item
        → new_tags F (known F (start F key n card) p).store p.item ≡ tagged (known F (start F key n card) p).store.anchor other c
    counted-any p other c e w =
        let s = (known F begun p).store in
        ap (new_tags F s) e
        ∙ new-tags F F16 s other c (sym (outcome-answer F s.anchor other c) ∙ subst (λ (x : Step). Accepted F s x) e w)

    pub unforged-any : Unforged F (start F key n card) n xs
    unforged-any =
        record {
          format-tagged = λ m k. kept F xs begun m
              (subst (λ (s : State). Memᴰ m s.tagged) (sym begun-is) (blank-named F F16 n 0 card deep full m k));
          call-tagged = λ m b. call_kept F F16 begun complete m b;
          nothing-else = λ m h.
              ⊎_elim
              (λ (k : Memᴰ m begun.tagged).
              inl (named_blank F F16 n 0 card deep full m (subst (λ (s : State). Memᴰ m s.tagged) begun-is k)))
              (λ (b : ByCall F begun xs m). inr b)
              (by-calls F F16 xs begun complete m h);
          checked = λ p f u. checked-here F F16 begun good_start complete p f u;
          agrees = λ p f u. agrees-here F F16 begun good_start complete p f u;
          accepts = λ p f u l. accepts F F16 begun good_start complete p f u l;
          limited = λ s x. step-limited F s.store x;
          unforged = none-forged F F16 xs begun complete good_start;
          counted = counted-any;
          agreed = honest-agrees F F16 xs begun complete good_start;
          checks-unforged = λ s x tagged f. f.untagged (tagged f.node f.checked);
          wipes = wipes-any;
        }

  -- Behind a wipe

  pub afresh-any : {xs : List Step} → AllComplete F (start F key n card) xs → (p : Place xs)
      → Accepted F (known F (start F key n card) p).store p.item → call_of p.item ≡ wipe → Afresh F (start F key n card) n p
  afresh-any complete p e i =
      let w : AcceptedWipe F (known F (start F key n card) p).store p.item = record { accepted = e; is-wipe = i } in
      let z = known F begun p in
      let before = complete-before complete p in
      let k = steady-after F F16 p.before begun before (safe-steady begun good_start.safe) in
      record {
        emptied = made-empty F F16 z p.item k w ∙ ap (λ (d : ℕ). zeroed (2 ^ d)) (key-any before).1;
        demand = demanded F F16 (next F z p.item) (good-made F F16 z p.item k w) p.behind (complete-behind F begun complete p);
      }
    where
      complete-before : {xs : List Step} → AllComplete F begun xs → (p : Place xs) → AllComplete F begun p.before
      complete-before complete p q = complete (earlier p q)

-- For CMAC, any key, any depth from 1 to 16, any card of the right length to format, and any list of calls and split writes in which these
-- are complete
module _ (key : List ℕ) (n : ℕ) (deep : 1 ≤ n) (shallow : n ≤ 16) (card : List ℕ) (full : length card ≡ card_length n) (xs : List Step)
    (complete : AllComplete (cmac_of key) (start (cmac_of key) key n card) xs) where
  pub demand3 : Demand3 (cmac_of key) (start (cmac_of key) key n card) xs
  demand3 = demand3-any (cmac_of key) (length-cmac key) key n deep shallow card full xs complete

  pub unforged : Unforged (cmac_of key) (start (cmac_of key) key n card) n xs
  unforged = unforged-any (cmac_of key) (length-cmac key) key n deep shallow card full complete

  pub afresh : (p : Place xs) → Accepted (cmac_of key) (known (cmac_of key) (start (cmac_of key) key n card) p).store p.item
      → call_of p.item ≡ wipe → Afresh (cmac_of key) (start (cmac_of key) key n card) n p
  afresh = afresh-any (cmac_of key) (length-cmac key) key n deep shallow card full complete

  pub nonces : NonceRule (cmac_of key) (start (cmac_of key) key n card) n xs
  nonces = nonces-any (cmac_of key) (length-cmac key) key n deep shallow card full complete

  pub key-kept : ((after (cmac_of key) (start (cmac_of key) key n card) xs).store.anchor.key ≡ key)
      × ((after (cmac_of key) (start (cmac_of key) key n card) xs).store.anchor.depth ≡ n)
  key-kept = key-any (cmac_of key) (length-cmac key) key n deep shallow card full complete

  -- A split write of the list whose puts fill its plan is one write, any other is lost, and so on of an attempt, by its fate.
  module _ (p : Place xs) (other : List ℕ) (i : ℕ) (block ranges : List ℕ) where
    abbrev s : State
    s = known (cmac_of key) (start (cmac_of key) key n card) p

    pub one-write-there : (puts : List PutStep) → p.item ≡ split other i block ranges puts →
        let o = planned (cmac_of key) (known (cmac_of key) (start (cmac_of key) key n card) p).store.anchor other i block ranges in
        (o.call.answer ≡ Whole → fills o puts ≡ true)
        → OneWrite (cmac_of key) (known (cmac_of key) (start (cmac_of key) key n card) p) other i block ranges puts
    one-write-there puts e f =
        one-write (cmac_of key) (length-cmac key) s other i block ranges puts f
        (subst (λ (x : Step). Complete (cmac_of key) s.store x) e (complete p))

    pub lost-plan-there : (puts : List PutStep) →
        let o = planned (cmac_of key) (known (cmac_of key) (start (cmac_of key) key n card) p).store.anchor other i block ranges in
        o.call.answer ≡ Whole → fills o puts ≡ false
        → LostPlan (cmac_of key) (known (cmac_of key) (start (cmac_of key) key n card) p) other i block ranges puts
    lost-plan-there puts = lost-plan (cmac_of key) (length-cmac key) s other i block ranges puts

    pub one-attempt-there : (journal : List ℕ)
        → OneAttempt (cmac_of key) (known (cmac_of key) (start (cmac_of key) key n card) p) other i block ranges journal
    one-attempt-there journal = one-attempt (cmac_of key) (length-cmac key) s other i block ranges journal
