-- A journalled write for C is an attempt of the list.
use mathlib.Core.Path.{◌≡◌, refl, sym, ap, ap₂, subst, ◌∙◌}
use mathlib.Core.Bool.{Bool, true, false, cond}
use mathlib.Core.List.{List, []}
use Prim.Native.Nat.{ℕ, ◌+◌}
use borrow.Author.Tests.{eqb-true, eqb-false}
use lib.Dec.{eqb}
use lib.ListN.{length}
use Rattle.words.specs.Bytes.{at}
use Rattle.cmac.specs.Cmac.{cmac_of}
use Rattle.tree.specs.Ranges.{ranges_of}
use Rattle.tree.specs.Answer.{Answer, Whole, Wrong, Refused, is_whole}
use Rattle.tree.specs.Calls.{write, outcome}
use Rattle.tree.specs.declared.Anchor.{Anchor}
use Rattle.tree.proofs.CallLaws.{outcome-done}
use Rattle.journal.specs.Journal.{journal_of}
use Rattle.journal.specs.Journalled.{Journalled, journalled_answer, journalled_refused, journalled}
use Rattle.journal.specs.Recovery.{recovered}
use Rattle.journal.proofs.JournalledLaws.{journalled-answer, journalled-done, journalled-refused, write-whole}
use Rattle.scope.specs.Ordered.{OutOf}
use Rattle.scope.proofs.RecoveryRule.{finish-rule}
use Rattle.replay.specs.Run.{Fate, unheard, lost, stood, anchor_after, attempt_outcome}
use Rattle.host_bytes.specs.Host.{anchor_bytes, anchor_of, with_reserved, code_of, Host, hosted, Hosts, Codes}
use Rattle.host_bytes.specs.Journal.{hosted_journalled, HostsJournalled, host_recovery}
use Rattle.host_bytes.specs.RoundTrip.{Stands}
use Rattle.host_bytes.proofs.AnchorLaws.{code-whole, whole_code}
use Rattle.host_bytes.proofs.HostLaws.{host-call}
use Rattle.host_bytes.proofs.JournalTripLaws.{write-told, write-stored, recovery-told, recovery-stored}
use Rattle.host_replay.specs.Called.{AttemptCalled, reached, chip_anchor, AttemptMeets}
use Rattle.host_replay.specs.Plain.{AttemptLikeWrite}

-- the journalled write that pat_write_journalled makes with the anchor a
abbrev pub journalled_on : Anchor → AttemptCalled → Journalled
journalled_on a t = journalled (cmac_of a.key) a t.card t.index t.block t.ranges t.journal

-- recovery with bytes that stand for an anchor, whose key is told
recovers : (key : List ℕ) (bytes : List ℕ) (b : Anchor) → Stands bytes b → b.key ≡ key
    → (card given journal : List ℕ) → given ≡ journal → (code : ℕ) (e left : List ℕ)
    → Hosts (host_recovery bytes card given) code e left [] → Codes (recovered (cmac_of key) b card journal) code (anchor_of e) left []
recovers key bytes b stands same card given journal is code e left g =
    subst (λ (l : List ℕ). Codes (recovered (cmac_of key) b card l) code (anchor_of e) left []) is
    (subst (λ (k : List ℕ). Codes (recovered (cmac_of k) b card given) code (anchor_of e) left []) same
    (subst (λ (c : Anchor). Codes (recovered (cmac_of c.key) c card given) code (anchor_of e) left []) stands.is
    (recovery-told bytes card given code e left g stands.long)))

-- given the anchor a
module _ (a : Anchor) (s : List ℕ) (stands : Stands s a) (t : AttemptCalled) (m : AttemptMeets s t) where
  abbrev F : List ℕ → List ℕ
  F = cmac_of a.key

  abbrev o : Journalled
  o = journalled_on a t

  abbrev answer : Answer
  answer = journalled_answer F a t.card t.index t.block t.ranges t.journal

  pub attempt-told : HostsJournalled (hosted_journalled s t.room (journalled_on a t)) t.code t.anchor t.raised t.left t.lent t.filled
  attempt-told =
      subst
      (λ (c : Anchor). HostsJournalled (hosted_journalled s t.room (journalled_on c t)) t.code t.anchor t.raised t.left t.lent t.filled)
      stands.is
      (write-told s t.room t.card t.index t.block t.ranges t.journal t.code t.anchor t.raised t.left t.lent t.filled
      (stands.long, m.raised-room) m.says)

  stored : Stands t.anchor (journalled_on a t).call.anchor × (t.code ≡ 0 → Stands t.raised (journalled_on a t).raised)
  stored =
      subst (λ (c : Anchor). Stands t.anchor (journalled_on c t).call.anchor × (t.code ≡ 0 → Stands t.raised (journalled_on c t).raised))
      stands.is
      (write-stored s t.room t.card t.index t.block t.ranges t.journal t.code t.anchor t.raised t.left t.lent t.filled
      (stands.long, m.raised-room) m.says)

  -- by how far it came, where it is accepted
  reached-stands : t.code ≡ 0 → (fate : Fate) → Stands (reached s t fate) (anchor_after a (journalled_on a t) fate)
  reached-stands zero unheard = stands
  reached-stands zero lost = stored.1 zero
  reached-stands zero stood = stored.0

  -- and refused it leaves the anchor
  refused-after : (x : Answer) → (x ≡ Whole → ⊥) → (fate : Fate)
      → anchor_after a (journalled_refused (cmac_of a.key) x a t.card t.index t.block t.ranges t.journal) fate ≡ a
  refused-after x d unheard = refl
  refused-after x d lost = refl
  refused-after Whole d stood = absurd (d refl)
  refused-after (Wrong u) d stood = refl
  refused-after (Refused r) d stood = refl

  refused-stands : (t.code ≡ 0 → ⊥) → Stands s (anchor_after a (journalled_on a t) t.fate)
  refused-stands d =
      let no : answer ≡ Whole → ⊥ = λ w.
      d (attempt-told.coded ∙ ap code_of (journalled-answer F a t.card t.index t.block t.ranges t.journal ∙ w) ∙ whole_code) in
      subst (Stands s)
      (sym (ap (λ (j : Journalled). anchor_after a j t.fate) (journalled-refused F a t.card t.index t.block t.ranges t.journal no)
      ∙ refused-after answer no t.fate))
      stands

  pub attempt-stands : Stands (chip_anchor s t) (anchor_after a (journalled_on a t) t.fate)
  attempt-stands = go (eqb t.code 0) refl
    where
      go : (b : Bool) → eqb t.code 0 ≡ b → Stands (cond b (reached s t t.fate) s) (anchor_after a (journalled_on a t) t.fate)
      go true e = reached-stands (eqb-true t.code 0 e) t.fate
      go false e = refused-stands (eqb-false t.code 0 e)

  -- what was answered and left is what the list has
  pub attempt-codes : Codes (attempt_outcome a (journalled_on a t) t.fate) t.code (anchor_of (chip_anchor s t)) t.left t.lent
  attempt-codes =
      record {
        coded = attempt-told.coded;
        anchored = attempt-stands.is;
        left = attempt-told.left;
        filled = attempt-told.filled;
      }

  -- Accepted

  module _ (zero : t.code ≡ 0) where
    whole : journalled_answer (cmac_of a.key) a t.card t.index t.block t.ranges t.journal ≡ Whole
    whole =
        sym (journalled-answer F a t.card t.index t.block t.ranges t.journal)
        ∙ code-whole o.call.answer (sym attempt-told.coded ∙ zero)

    -- it filled its journal,
    pub attempt-journals : t.filled ≡ journal_of (cmac_of a.key) a.depth (anchor_of t.anchor).root.0 t.index t.left
    attempt-journals =
        let d = journalled-done F a t.card t.index t.block t.ranges t.journal whole in
        attempt-told.journals ∙ ap (λ (j : Journalled). j.journal) d
        ∙ ap₂ (λ (b : Anchor) (l : List ℕ). journal_of F a.depth b.root.0 t.index l)
        (sym (stored.0.is ∙ ap (λ (j : Journalled). j.call.anchor) d)) (sym (attempt-told.left ∙ ap (λ (j : Journalled). j.call.card) d))

    -- and did what the write does
    write-same : (journalled_on a t).call ≡ outcome (cmac_of a.key) a t.card (write t.index t.block t.ranges)
    write-same =
        let w = write-whole F a t.card t.index t.block t.ranges t.journal whole in
        ap (λ (j : Journalled). j.call) (journalled-done F a t.card t.index t.block t.ranges t.journal whole)
        ∙ sym (outcome-done F a t.card (write t.index t.block t.ranges) w)

    raises-so : t.raised ≡ with_reserved s (a.reserved.0 + a.depth)
    raises-so =
        attempt-told.raises
        ∙ ap (λ (j : Journalled). cond (is_whole j.call.answer) (with_reserved s j.raised.reserved.0) t.room)
        (journalled-done F a t.card t.index t.block t.ranges t.journal whole)

    -- the anchor that is first stored stands for the raised one,
    raised-stands : Stands t.raised (journalled_on a t).raised
    raised-stands = stored.1 zero

    -- and both have the key that was given
    final-key : (journalled_on a t).call.anchor.key ≡ a.key
    final-key = ap (λ (j : Journalled). j.call.anchor.key) (journalled-done F a t.card t.index t.block t.ranges t.journal whole)

    raised-key : (journalled_on a t).raised.key ≡ a.key
    raised-key = ap (λ (j : Journalled). j.raised.key) (journalled-done F a t.card t.index t.block t.ranges t.journal whole)

    write-answer : (journalled_on a t).call.answer ≡ Whole
    write-answer = journalled-answer F a t.card t.index t.block t.ranges t.journal ∙ whole

    -- recovery with the final anchor ends the write,
    pub ends : (torn : List ℕ) → length torn ≡ length t.card
        → ((j : ℕ) → OutOf (ranges_of a.depth t.index) j → at torn j ≡ at t.card j)
        → (code : ℕ) (e left : List ℕ) → Hosts (host_recovery t.anchor torn t.filled) code e left []
        → (code ≡ 0) × (e ≡ t.anchor) × (left ≡ t.left)
    ends torn l out code e left g =
        let k = recovers a.key t.anchor (journalled_on a t).call.anchor stored.0 final-key torn t.filled (journalled_on a t).journal
        attempt-told.journals code e left g in
        let f = (finish-rule a t.card t.index t.block t.ranges t.journal).finished write-answer torn l out in (
          k.coded ∙ ap code_of f.0 ∙ whole_code,
          recovery-stored t.anchor torn t.filled code e left g,
          k.left ∙ f.1 ∙ sym attempt-told.left,
        )

    -- and with the raised one it leaves the card
    pub waits : (other : List ℕ) → length other ≡ length t.card → (code : ℕ) (e left : List ℕ)
        → Hosts (host_recovery t.raised other t.filled) code e left [] → (code ≡ 0) × (e ≡ t.raised) × (left ≡ other)
    waits other l code e left g =
        let k = recovers a.key t.raised (journalled_on a t).raised raised-stands raised-key other t.filled (journalled_on a t).journal
        attempt-told.journals code e left g in
        let f = (finish-rule a t.card t.index t.block t.ranges t.journal).begun write-answer other l in (
          k.coded ∙ ap code_of f.0 ∙ whole_code,
          recovery-stored t.raised other t.filled code e left g,
          k.left ∙ f.1,
        )

-- byte for byte
pub attempt-like-write : (s : List ℕ) → length s ≡ anchor_bytes → (t : AttemptCalled) → AttemptMeets s t → t.code ≡ 0 → AttemptLikeWrite s t
attempt-like-write s long t m zero =
    let a = anchor_of s in
    let stands : Stands s (anchor_of s) = record { long = long; is = refl } in
    let told = attempt-told a s stands t m in
    record {
      wrote = subst (λ (h : Host). Hosts h t.code t.anchor t.left t.lent)
          (ap (hosted true s) (write-same a s stands t m zero) ∙ sym (host-call s t.card long (write t.index t.block t.ranges)))
          (record { coded = told.coded; anchored = told.anchored; left = told.left; filled = told.filled });
      raises = raises-so a s stands t m zero;
      finished = ends a s stands t m zero;
      begun = waits a s stands t m zero;
    }
