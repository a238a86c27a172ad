-- The anchor's bytes: what a call for C stores is what the next one loads, and a refused call leaves every byte.
use mathlib.Core.Path.{◌≡◌, refl, sym, ap, subst, ◌∙◌}
use mathlib.Core.Bool.{Bool, true, false, cond, ◌&&◌}
use mathlib.Core.List.{List, []}
use mathlib.Core.Logic.{◌⊎◌, inl, inr, ⊎_elim}
use Prim.Native.Nat.{ℕ, ◌+◌, ◌^◌, ◌<◌, ◌≤◌}
use native.Mathlib.Omega.{arith}
use lib.ListN.{length}
use lib.Seq.{sets, length-sets}
use Rattle.words.specs.Bytes.{part}
use Rattle.tree.proofs.ByteLaws.{length-be, part-sets-apart}
use Rattle.plan.proofs.StoreLaws.{part-sets}
use Rattle.words.proofs.Cases.{equal_or_not}
use Rattle.cmac.specs.Cmac.{cmac_of}
use Rattle.tree.specs.Numbers.{be8}
use Rattle.tree.specs.Answer.{refusal_number, is_whole}
use Rattle.tree.specs.Calls.{Call, read, write, check, wipe, lent_to, renews, rooted, renew, formatted, Outcome, answer_of, settled, outcome}
use Rattle.tree.specs.Calls.{format_answer, format_card, format}
use Rattle.tree.specs.declared.Anchor.{Anchor}
use Rattle.tree.specs.declared.Refusal.{Refusal}
use Rattle.tree.specs.declared.Refusal.TheVariants.{Depth, RootNonce, CardLength, BlockNumber, BlockLength, RangeLength, NoncesSpent}
use Rattle.tree.specs.declared.Refusal.TheVariants.{NotAwaited, Journal}
use Rattle.tree.specs.Answer.{Answer}
use Rattle.tree.specs.Answer.{Whole, Wrong, Refused}
use Rattle.tree.proofs.CallLaws.{accepted, settled-answer}
use Rattle.host_bytes.specs.Host.{anchor_bytes, refused_length, number, anchor_of, with_root, with_reserved, with_nonces, code_of, Host}
use Rattle.host_bytes.specs.Host.{hosted, measured, host_call, host_format, Hosts, Codes}
use Rattle.host_bytes.specs.RoundTrip.{Stands, RoundTrip}
use Rattle.host_bytes.proofs.HostLaws.{number-be, measured-in, measured-out, host-call, host-format}

-- The root nonce stored

anchor-same : {k l : List ℕ} {n m u r g h : ℕ} → k ≡ l → n ≡ m → u ≡ r → g ≡ h
    → ◌≡◌ {A = Anchor} (record { key = k; depth = n; root = record { 0 = u }; reserved = record { 0 = g } })
    (record { key = l; depth = m; root = record { 0 = r }; reserved = record { 0 = h } })
anchor-same p q r s = cc

module _ (s : List ℕ) (long : length s ≡ anchor_bytes) where
  -- a number stored at k, and what stands apart from it
  stored-number : (k t : ℕ) → k + 8 ≤ 40 → t < 2 ^ 64 → number (part (sets s k (be8 t)) k 8) ≡ t
  stored-number k t h l =
      ap number
      (ap (part (sets s k (be8 t)) k) (sym (length-be 8 t)) ∙ part-sets (be8 t) s k (omega (arith, length-be 8 t)))
      ∙ number-be 8 t (omega arith)

  stored-apart : (k t o m : ℕ) → (o + m ≤ k) ⊎ (k + 8 ≤ o) → part (sets s k (be8 t)) o m ≡ part s o m
  stored-apart k t o m h =
      part-sets-apart (be8 t) s k o m
      (⊎_elim (λ (l : o + m ≤ k). inl l) (λ (l : k + 8 ≤ o). inr (omega (arith, length-be 8 t))) h)

  pub put-stands : (t : ℕ) → t < 2 ^ 64 → Stands (with_root s t) (rooted (anchor_of s) t)
  unfolding anchor_of
  put-stands t h =
      record {
        long = length-sets s 24 (be8 t) ∙ long;
        is = anchor-same (stored-apart 24 t 0 16 (inl (omega arith)))
            (ap number (stored-apart 24 t 16 8 (inl (omega arith)))) (stored-number 24 t (omega arith) h)
            (ap number (stored-apart 24 t 32 8 (inr (omega arith))));
      }

  pub reserve-stands : (h : ℕ) → h < 2 ^ 64
      → Stands (with_reserved s h)
      (record { key = (anchor_of s).key; depth = (anchor_of s).depth; root = (anchor_of s).root; reserved = record { 0 = h } })
  unfolding anchor_of
  reserve-stands h l =
      record {
        long = length-sets s 32 (be8 h) ∙ long;
        is = anchor-same (stored-apart 32 h 0 16 (inl (omega arith)))
            (ap number (stored-apart 32 h 16 8 (inl (omega arith))))
            (ap number (stored-apart 32 h 24 8 (inl (omega arith)))) (stored-number 32 h (omega arith) l);
      }

-- both of them
pub nonces-stand : (s : List ℕ) → length s ≡ anchor_bytes → (t h : ℕ) → t < 2 ^ 64 → h < 2 ^ 64 →
    let a : Anchor = record {
      key = (anchor_of s).key;
      depth = (anchor_of s).depth;
      root = record { 0 = t };
      reserved = record { 0 = h };
    } in
    Stands (with_nonces s a) a
nonces-stand s long t h small l =
    let k = reserve-stands s long h l in
    let p = put-stands (with_reserved s h) k.long t small in
    record { long = p.long; is = p.is ∙ ap (λ (a : Anchor). rooted a t) k.is }

-- Codes

refusal-number : (r : Refusal) → refusal_number r ≡ 0 → ⊥
refusal-number Depth e = omega arith
refusal-number RootNonce e = omega arith
refusal-number CardLength e = omega arith
refusal-number BlockNumber e = omega arith
refusal-number BlockLength e = omega arith
refusal-number RangeLength e = omega arith
refusal-number NoncesSpent e = omega arith
refusal-number NotAwaited e = omega arith
refusal-number Journal e = omega arith

-- 0 says accepted
pub code-whole : (x : Answer) → code_of x ≡ 0 → x ≡ Whole
unfolding code_of
code-whole Whole e = refl
code-whole (Wrong u) e = absurd (omega arith)
code-whole (Refused r) e = absurd (refusal-number r (omega arith))

pub whole_code : code_of Whole ≡ 0
unfolding code_of
whole_code = refl

pub not-whole : (x : Answer) → (x ≡ Whole → ⊥) → is_whole x ≡ false
not-whole Whole d = absurd (d refl)
not-whole (Wrong u) d = refl
not-whole (Refused r) d = refl

-- and to an anchor of another length no call says it
measured-zero : (anchor card lent : List ℕ) (h : Host) (e left filled : List ℕ) → Hosts (measured anchor card lent h) 0 e left filled
    → length anchor ≡ anchor_bytes
measured-zero anchor card lent h e left filled g =
    ⊎_elim (λ (p : length anchor ≡ anchor_bytes). p)
    (λ (d : length anchor ≡ anchor_bytes → ⊥).
    let z : ◌≡◌ {A = ℕ} 0 refused_length = g.coded ∙ sym (measured-out anchor card lent h d).coded in
    absurd (omega arith))
    (equal_or_not (length anchor) anchor_bytes)

-- Calls that leave everything as it was

-- o leaves card and lent buffer as they are given, unless it is accepted
pub record Leaves (card lent : List ℕ) (o : Outcome) : Type 0 where
  pub card-kept : (o.answer ≡ Whole → ⊥) → o.card ≡ card
  pub lent-kept : (o.answer ≡ Whole → ⊥) → o.lent ≡ lent

pub outcome-leaves : (F : List ℕ → List ℕ) (a : Anchor) (card : List ℕ) (c : Call) → Leaves card (lent_to c) (outcome F a card c)
unfolding outcome
outcome-leaves F a card c = go (answer_of F a card c)
  where
    go : (x : Answer) → Leaves card (lent_to c) (settled F x a card c)
    go Whole =
        let whole = settled-answer F a card c Whole in
        record { card-kept = λ d. absurd (d whole); lent-kept = λ d. absurd (d whole) }
    go (Wrong u) = record { card-kept = λ d. refl; lent-kept = λ d. refl }
    go (Refused r) = record { card-kept = λ d. refl; lent-kept = λ d. refl }

format-leaves : (F : List ℕ → List ℕ) (key : List ℕ) (n : ℕ) (card : List ℕ) → Leaves card [] (format F key n card)
unfolding format
format-leaves F key n card = record { card-kept = go (format_answer n card); lent-kept = λ d. refl }
  where
    go : (x : Answer) → (x ≡ Whole → ⊥) → format_card F x n card ≡ card
    go Whole d = absurd (d refl)
    go (Wrong u) d = refl
    go (Refused r) d = refl

hosted-refused : (moves : Bool) (s : List ℕ) (o : Outcome) → (code_of o.answer ≡ 0 → ⊥) → (hosted moves s o).anchor ≡ s
hosted-refused moves s o d = go o.answer moves d
  where
    go : (x : Answer) (m : Bool) → (code_of x ≡ 0 → ⊥) → cond (m && is_whole x) (with_nonces s o.anchor) s ≡ s
    go Whole m d = absurd (d whole_code)
    go (Wrong u) true d = refl
    go (Wrong u) false d = refl
    go (Refused r) true d = refl
    go (Refused r) false d = refl

pub measured-refused : (s card lent : List ℕ) (moves : Bool) (o : Outcome) → Leaves card lent o → (code : ℕ) (e left filled : List ℕ)
    → Hosts (measured s card lent (hosted moves s o)) code e left filled → (code ≡ 0 → ⊥) → (e ≡ s) × (left ≡ card) × (filled ≡ lent)
measured-refused s card lent moves o leaves code e left filled g d =
    ⊎_elim
    (λ (p : length s ≡ anchor_bytes).
    let k = subst (λ (h : Host). Hosts h code e left filled) (measured-in s card lent (hosted moves s o) p) g in
    let refused : o.answer ≡ Whole → ⊥ = λ w. d (k.coded ∙ ap code_of w ∙ whole_code) in (
      k.anchored ∙ hosted-refused moves s o (λ z. d (k.coded ∙ z)),
      k.left ∙ leaves.card-kept refused,
      k.filled ∙ leaves.lent-kept refused,
    ))
    (λ (n : length s ≡ anchor_bytes → ⊥).
    let k = measured-out s card lent (hosted moves s o) n in
    (g.anchored ∙ sym k.anchored, g.left ∙ sym k.left, g.filled ∙ sym k.filled))
    (equal_or_not (length s) anchor_bytes)

call-refused : (s card : List ℕ) (c : Call) (code : ℕ) (e left lent : List ℕ) → Hosts (host_call s card c) code e left lent → (code ≡ 0 → ⊥)
    → (e ≡ s) × (left ≡ card) × (lent ≡ lent_to c)
unfolding host_call
call-refused s card c code e left lent g d =
    let F = cmac_of (anchor_of s).key in
    measured-refused s card (lent_to c) (renews c) (outcome F (anchor_of s) card c)
    (outcome-leaves F (anchor_of s) card c) code e left lent g d

format-refused : (s card : List ℕ) (code : ℕ) (e left : List ℕ) → Hosts (host_format s card) code e left [] → (code ≡ 0 → ⊥)
    → (e ≡ s) × (left ≡ card)
unfolding host_format
format-refused s card code e left g d =
    let key = (anchor_of s).key in
    let n = (anchor_of s).depth in
    let k = measured-refused s card [] true (format (cmac_of key) key n card) (format-leaves (cmac_of key) key n card) code e left [] g d in
    (k.0, k.1)

-- A call after format

module _ (F : List ℕ → List ℕ) (s : List ℕ) (long : length s ≡ anchor_bytes) (card : List ℕ) where
  kept : Stands s (anchor_of s)
  kept = record { long = long; is = refl }

  renewed : (anchor_of s).reserved.0 + (anchor_of s).depth < 2 ^ 64
      → Stands (with_nonces s (renew (anchor_of s))) (renew (anchor_of s))
  renewed h =
      let r = (anchor_of s).reserved.0 + (anchor_of s).depth in
      nonces-stand s long r r h h

  settled-stands : (c : Call) (x : Answer) → answer_of F (anchor_of s) card c ≡ x
      → Stands (hosted (renews c) s (settled F x (anchor_of s) card c)).anchor (settled F x (anchor_of s) card c).anchor
  settled-stands (read i buffer) Whole e = kept
  settled-stands (read i buffer) (Wrong u) e = kept
  settled-stands (read i buffer) (Refused r) e = kept
  settled-stands check Whole e = kept
  settled-stands check (Wrong u) e = kept
  settled-stands check (Refused r) e = kept
  settled-stands wipe (Wrong u) e = kept
  settled-stands wipe (Refused r) e = kept
  settled-stands wipe Whole e = renewed (accepted F (anchor_of s) card wipe e).limits-passed.unspent
  settled-stands (write i block ranges) (Wrong u) e = kept
  settled-stands (write i block ranges) (Refused r) e = kept
  settled-stands (write i block ranges) Whole e = renewed (accepted F (anchor_of s) card (write i block ranges) e).limits-passed.unspent

  hosted-stands : (c : Call) → Stands (hosted (renews c) s (outcome F (anchor_of s) card c)).anchor (outcome F (anchor_of s) card c).anchor
  unfolding outcome
  hosted-stands c = settled-stands c (answer_of F (anchor_of s) card c) refl

module _ (s : List ℕ) (long : length s ≡ anchor_bytes) (card : List ℕ) (c : Call) (code : ℕ) (e left lent : List ℕ)
    (g : Hosts (host_call s card c) code e left lent) where
  abbrev o : Outcome
  o = outcome (cmac_of (anchor_of s).key) (anchor_of s) card c

  told : Hosts (hosted (renews c) s (outcome (cmac_of (anchor_of s).key) (anchor_of s) card c)) code e left lent
  told = subst (λ (h : Host). Hosts h code e left lent) (host-call s card long c) g

  -- the round trip, and the outcome
  pub call-stands : Stands e (outcome (cmac_of (anchor_of s).key) (anchor_of s) card c).anchor
  call-stands = subst (λ (z : List ℕ). Stands z o.anchor) (sym told.anchored) (hosted-stands (cmac_of (anchor_of s).key) s long card c)

  pub call-codes : Codes (outcome (cmac_of (anchor_of s).key) (anchor_of s) card c) code (anchor_of e) left lent
  call-codes = record { coded = told.coded; anchored = call-stands.is; left = told.left; filled = told.filled }

-- Format

module _ (s card e left : List ℕ) (g : Hosts (host_format s card) 0 e left []) where
  format-long : length s ≡ anchor_bytes
  unfolding host_format
  format-long = measured-zero s card [] _ e left [] g

  abbrev made : Outcome
  made = format (cmac_of (anchor_of s).key) (anchor_of s).key (anchor_of s).depth card

  format-told : Hosts (hosted true s (format (cmac_of (anchor_of s).key) (anchor_of s).key (anchor_of s).depth card)) 0 e left []
  format-told = subst (λ (h : Host). Hosts h 0 e left []) (host-format s card format-long) g

  pub format-whole : (format (cmac_of (anchor_of s).key) (anchor_of s).key (anchor_of s).depth card).answer ≡ Whole
  format-whole = code-whole made.answer (sym format-told.coded)

  pub format-left : left ≡ (format (cmac_of (anchor_of s).key) (anchor_of s).key (anchor_of s).depth card).card
  format-left = format-told.left

  pub format-stands : Stands e (format (cmac_of (anchor_of s).key) (anchor_of s).key (anchor_of s).depth card).anchor
  unfolding format
  format-stands =
      let a = formatted (anchor_of s).key (anchor_of s).depth in
      subst (λ (z : List ℕ). Stands z a)
      (sym (format-told.anchored ∙ ap (λ (x : Answer). cond (is_whole x) (with_nonces s a) s) format-whole))
      (nonces-stand s format-long 0 0 (omega arith) (omega arith))

pub round_trip : (s card : List ℕ) → RoundTrip s card
round_trip s card =
    record {
      format-stored = λ e left g. format-stands s card e left g;
      call-stored = λ long c code e left lent g. call-stands s long card c code e left lent g;
      format-told = λ long code e left g.
          let t = subst (λ (h : Host). Hosts h code e left []) (host-format s card long) g in (t.coded, t.left);
      call-told = λ long c code e left lent g. call-codes s long card c code e left lent g;
      format-refused = λ code e left g d. format-refused s card code e left g d;
      call-refused = λ c code e left lent g d. call-refused s card c code e left lent g d;
    }
