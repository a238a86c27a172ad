-- How the code comes to an outcome once the limits are passed: by the first wrong tag, and by what it counted until then and after.
use mathlib.Core.Path.{◌≡◌, refl, sym, ap, ap₂, ◌∙◌}
use mathlib.Core.Bool.{cond}
use mathlib.Core.List.{List, [], ◌++◌, map}
use mathlib.Core.Option.{Option, none, some}
use Prim.Native.Nat.{ℕ, ◌+◌, ◌^◌, ◌≤◌}
use native.Mathlib.Nat.{add-zero, add_assoc}
use native.Mathlib.Omega.{arith}
use Rattle.std.specs.Prelude.{Result, Ok, Err}
use Rattle.std.specs.Result.{is_ok}
use Rattle.cmac.specs.Cmac.{cmac_of}
use Rattle.cmac.specs.Context.{ContextOf, tag_by, count_by}
use Rattle.cmac.specs.Traced.{subkeys_count, cmac_count}
use Rattle.cmac.specs.declared.Context.{Context}
use Rattle.cmac.proofs.Laws.{tags-of-context}
use Rattle.cmac.proofs.TraceLaws.{count-17, count-73, counts-of-context}
use Rattle.tree.specs.Layout.{label}
use Rattle.tree.specs.Nodes.{all_nodes}
use Rattle.tree.specs.Labels.{message, blank_labels}
use Rattle.tree.specs.Card.{blanked, written, first_wrong, checked}
use Rattle.tree.specs.Ranges.{listed}
use Rattle.tree.specs.Limits.{first_failing}
use Rattle.tree.specs.Calls.{Call, read, write, check, wipe, lent_to, limits, checks, tagged, verdict, total, Reports, renew, answer_of}
use Rattle.tree.specs.Calls.{checked_by, settled, outcome}
use Rattle.tree.specs.declared.Anchor.{Anchor}
use Rattle.tree.specs.declared.Refusal.{Refusal}
use Rattle.tree.specs.declared.Error.{Error}
use Rattle.tree.specs.declared.Error.TheVariants.{WrongTag, Limit}
use Rattle.tree.specs.Answer.{Answer}
use Rattle.tree.specs.Answer.{Whole, Wrong, Refused, answer_in, refused_as}
use Rattle.tree.proofs.LayoutLaws.{few-leaves}
use Rattle.tree.proofs.LimitLaws.{Passes, passes-sound}
use Rattle.tree.proofs.CountLaws.{total-append, checked-most}
use Rattle.tree.proofs.CostLaws.{checks_cost, tags_cost, blank-cost, checks-cost, tags-cost}

-- Few calls of the cipher: the count has room

cost-few : (c : Call) (n : ℕ) → n ≤ 16 → 2 ^ n ≤ 65536
    → checks_cost 2 5 n c + tags_cost 2 5 n c ≤ 1000000
cost-few (read i buffer) n h l = omega arith
cost-few (write i block ranges) n h l = omega arith
cost-few check n h l = omega arith
cost-few wipe n h l = omega arith

pub few-calls : (key : List ℕ) (a : Anchor) (card : List ℕ) (c : Call) → Passes a card c
    → total (cmac_count key) (checked_by (cmac_of key) a card c) + total (cmac_count key) (tagged a card c) ≤ 1000000
few-calls key a card c p =
    let s = passes-sound a card c p in
    let most = checked-most (cmac_of key) a.depth a.root.0 card (cmac_count key) (checks a.depth c) in
    let checks-few = checks-cost (cmac_count key) 2 5 (count-17 key) (count-73 key) a card c p in
    let tags-few = tags-cost (cmac_count key) 2 5 (count-17 key) (count-73 key) a card c p in
    omega (arith, most, checks-few, tags-few, cost-few c a.depth s.shallow (few-leaves a.depth s.shallow))

pub few-blank : (key : List ℕ) (n t : ℕ) → 1 ≤ n → n ≤ 16
    → total (cmac_count key) (map (message (blank_labels n t)) (all_nodes n)) ≤ 1000000
few-blank key n t h l =
    omega (arith, blank-cost (cmac_count key) 2 5 (count-17 key) (count-73 key) n t h, few-leaves n l)

-- What was found and counted under a context is so under its key.
module _ (key : List ℕ) (x : Context) (made : ContextOf key x) (n t : ℕ) (card us : List ℕ) where
  pub found_of : {r : Answer} → r ≡ verdict none (first_wrong (tag_by x) n t card us)
      → r ≡ verdict none (first_wrong (cmac_of key) n t card us)
  found_of e = e ∙ ap (λ (F : List ℕ → List ℕ). verdict none (first_wrong F n t card us)) (tags-of-context key x made)

  pub count_of_lem : {k : ℕ} → k ≡ total (count_by x) (checked (tag_by x) n t card us)
      → x.count + k ≡ subkeys_count key + total (cmac_count key) (checked (cmac_of key) n t card us)
  count_of_lem e =
      ap₂ ◌+◌ made.counted
      (e ∙ ap₂ (λ (each : List ℕ → ℕ) (F : List ℕ → List ℕ). total each (checked F n t card us)) (counts-of-context key x made)
      (tags-of-context key x made))

module _ (a : Anchor) (card : List ℕ) where
  abbrev F : List ℕ → List ℕ
  F = cmac_of a.key

  abbrev once : ℕ
  once = subkeys_count a.key

  abbrev each : List ℕ → ℕ
  each = cmac_count a.key

  abbrev Told : Call → Answer → ℕ → Anchor → List ℕ → List ℕ → Type 0
  Told c x k b left lent = Reports once each (outcome F a card c) x k b left lent

  -- no message besides
  nothing-more : (ms : List (List ℕ)) → once + total each (ms ++ []) ≡ once + total each ms
  unfolding total
  nothing-more ms = ap (λ (k : ℕ). once + k) (total-append each ms [] ∙ add-zero (total each ms))

  settles : (c : Call) (x : Answer) → first_failing (limits a card c) ≡ none
      → x ≡ verdict none (first_wrong F a.depth a.root.0 card (checks a.depth c)) → outcome F a card c ≡ settled F x a card c
  unfolding outcome answer_of
  settles c x e f = rw (e, f)

  -- where no limit fails, the answer is no refusal
  never : (r : Refusal) (w : Option ℕ) → Refused r ≡ verdict none w → ⊥
  never r none e = cc
  never r (some u) e = cc

  -- a wrong tag: everything is as it was
  pub reports-wrong : (c : Call) (x : Error) (k : ℕ) → first_failing (limits a card c) ≡ none
      → refused_as x ≡ verdict none (first_wrong F a.depth a.root.0 card (checks a.depth c))
      → k ≡ once + total each (checked_by F a card c) → Told c (refused_as x) k a card (lent_to c)
  reports-wrong c (WrongTag u) k e v q =
      rw (settles c (Wrong u) e v)
      (record { gives = record { answered = refl; anchored = refl; left = refl; filled = refl }; counted = q })
  reports-wrong c (Limit r) k e v q = absurd (never r (first_wrong F a.depth a.root.0 card (checks a.depth c)) v)

  -- a check leaves everything, whatever it answers
  pub reports-check : (x : Result Unit Error) (k : ℕ) → first_failing (limits a card check) ≡ none
      → answer_in x ≡ verdict none (first_wrong F a.depth a.root.0 card (checks a.depth check))
      → k ≡ once + total each (checked_by F a card check) → Told check (answer_in x) k a card []
  reports-check (Ok x) k e v q =
      rw (settles check Whole e v) (record {
        gives = record { answered = refl; anchored = refl; left = refl; filled = refl };
        counted = q ∙ sym (nothing-more (checked_by F a card check));
      })
  reports-check (Err x) k e v q = reports-wrong check x k e v q

  -- a read that is whole gives the block, and a write the card, the anchor and the ranges
  pub reports-read : (i : ℕ) (buffer : List ℕ) (x : Result Unit Error) (k : ℕ) (lent : List ℕ)
      → first_failing (limits a card (read i buffer)) ≡ none
      → answer_in x ≡ verdict none (first_wrong F a.depth a.root.0 card (checks a.depth (read i buffer)))
      → k ≡ once + total each (checked_by F a card (read i buffer))
      → lent ≡ cond (is_ok x) (label a.depth card (2 ^ a.depth + i)) buffer → Told (read i buffer) (answer_in x) k a card lent
  reports-read i buffer (Ok x) k lent e v q f =
      rw (settles (read i buffer) Whole e v) (record {
        gives = record { answered = refl; anchored = refl; left = refl; filled = f };
        counted = q ∙ sym (nothing-more (checked_by F a card (read i buffer)));
      })
  reports-read i buffer (Err x) k lent e v q f = rw f (reports-wrong (read i buffer) x k e v q)

  pub reports-write : (i : ℕ) (block ranges : List ℕ) (k : ℕ) (b : Anchor) (card' lent : List ℕ) →
      let c = write i block ranges in
      first_failing (limits a card c) ≡ none
      → Whole ≡ verdict none (first_wrong F a.depth a.root.0 card (checks a.depth c))
      → k ≡ once + total each (checked_by F a card c) + total each (tagged a card c)
      → b ≡ renew a
      → card' ≡ written F a.depth a.root.0 a.reserved.0 card i block
      → lent ≡ listed a.depth i ranges
      → Told c Whole k b card' lent
  reports-write i block ranges k b card' lent e v q h f g =
      let c = write i block ranges in
      rw (settles c Whole e v) (record {
        gives = record { answered = refl; anchored = h; left = f; filled = g };
        counted =
            q ∙ add_assoc once (total each (checked_by F a card c)) (total each (tagged a card c))
            ∙ ap (λ (l : ℕ). once + l) (sym (total-append each (checked_by F a card c) (tagged a card c)));
      })

  -- a wipe within its limits is whole, and gives the card and the anchor
  pub reports-wipe : (k : ℕ) (b : Anchor) (card' : List ℕ) → first_failing (limits a card wipe) ≡ none
      → k ≡ once + total each (tagged a card wipe) → b ≡ renew a
      → card' ≡ blanked F a.depth (a.reserved.0 + a.depth) card → Told wipe Whole k b card' []
  unfolding checks first_wrong checked
  reports-wipe k b card' e q h f =
      rw (settles wipe Whole e refl) (record { gives = record { answered = refl; anchored = h; left = f; filled = refl }; counted = q })
