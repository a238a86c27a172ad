-- The journalled write and the recovery for C: what they come to where the lengths are right and where not, and from one call to the next.
use mathlib.Core.Path.{◌≡◌, refl, sym, ap, ap₂, subst, ◌∙◌}
use mathlib.Core.Bool.{Bool, true, false, cond, ◌&&◌}
use mathlib.Core.List.{List, []}
use Prim.Native.Nat.{ℕ, ◌+◌}
use native.Mathlib.Omega.{arith}
use borrow.Author.Tests.{eq-eqb, eqb-true}
use lib.Dec.{eqb}
use lib.ListN.{length}
use Rattle.cmac.specs.Cmac.{cmac_of}
use Rattle.tree.specs.Answer.{Answer, Whole, Wrong, Refused, is_whole}
use Rattle.tree.specs.Calls.{Outcome}
use Rattle.tree.specs.declared.Anchor.{Anchor}
use Rattle.journal.specs.Journalled.{Journalled, journalled_answer, journalled_settled, journalled, Journals}
use Rattle.journal.specs.Recovery.{recovered}
use Rattle.host_bytes.specs.Host.{anchor_bytes, anchor_of, with_reserved, with_nonces, code_of, refused_length, Host, hosted, Hosts, Codes}
use Rattle.host_bytes.specs.Journal.{HostJournalled, hosted_journalled, host_journalled, HostsJournalled, host_recovery}
use Rattle.host_bytes.specs.RoundTrip.{Stands, JournalTrip}
use Rattle.host_bytes.proofs.HostLaws.{measured-in}
use Rattle.host_bytes.proofs.AnchorLaws.{reserve-stands, nonces-stand, code-whole, whole_code, not-whole, measured-refused}
use Rattle.host_bytes.proofs.JournalledLaws.{journalled-is, had-nonces, journalled-stays, recovered-leaves}

-- two lengths that are tested together
module _ (s r : List ℕ) where
  abbrev pub both_lengths : Bool
  both_lengths = eqb (length s) anchor_bytes && eqb (length r) anchor_bytes

  abbrev pub BothLong : Type 0
  BothLong = (length s ≡ anchor_bytes) × (length r ≡ anchor_bytes)

  both-right : BothLong → both_lengths ≡ true
  both-right (e, f) = rw (eq-eqb (length s) anchor_bytes e, eq-eqb (length r) anchor_bytes f)

  either-wrong : (BothLong → ⊥) → both_lengths ≡ false
  either-wrong d = go (eqb (length s) anchor_bytes) (eqb (length r) anchor_bytes) refl refl
    where
      go : (a b : Bool) → eqb (length s) anchor_bytes ≡ a → eqb (length r) anchor_bytes ≡ b → (a && b) ≡ false
      go true true e f = absurd (d (eqb-true (length s) anchor_bytes e, eqb-true (length r) anchor_bytes f))
      go true false e f = refl
      go false b e f = refl

-- The journalled write

module _ (s r card : List ℕ) (i : ℕ) (block ranges journal : List ℕ) where
  abbrev o : Journalled
  o = journalled (cmac_of (anchor_of s).key) (anchor_of s) card i block ranges journal

  abbrev unmeasured : HostJournalled
  unmeasured = record { code = refused_length; anchor = s; raised = r; card = card; ranges = ranges; journal = journal }

  pub journalled-unmeasured : (BothLong s r → ⊥)
      → HostsJournalled (host_journalled s r card i block ranges journal) refused_length s r card ranges journal
  unfolding host_journalled
  journalled-unmeasured d =
      subst (λ (b : Bool). HostsJournalled (cond b (hosted_journalled s r o) unmeasured) refused_length s r card ranges journal)
      (sym (either-wrong s r d))
      (record { coded = refl; anchored = refl; raises = refl; left = refl; filled = refl; journals = refl })

  pub host-journalled : BothLong s r → host_journalled s r card i block ranges journal ≡ hosted_journalled s r o
  unfolding host_journalled
  host-journalled l = rw (both-right s r l)

  -- a write that is made of lengths that are right, its anchors put into their bytes
  pub journalled-measured : {a : Anchor} {subkeys : ℕ} {each : List ℕ → ℕ} {answer : Answer} {count : ℕ} {raised final : Anchor}
      {left filled kept : List ℕ} {code : ℕ} {lent buffer e t : List ℕ}
      → Journals subkeys each (journalled (cmac_of a.key) a card i block ranges journal) answer count raised final left filled kept
      → code ≡ code_of answer → e ≡ cond (is_whole answer) (with_nonces lent final) lent
      → t ≡ cond (is_whole answer) (with_reserved lent raised.reserved.0) buffer → a ≡ anchor_of s → lent ≡ s → buffer ≡ r
      → length s ≡ anchor_bytes → length r ≡ anchor_bytes
      → HostsJournalled (host_journalled s r card i block ranges journal) code e t left filled kept
  journalled-measured {answer = answer} {raised = raised} {final = final} k c h t q f n l m =
      let g = k.reports.gives in
      rw (host-journalled (l, m), sym q)
      (record {
        coded = c ∙ ap code_of g.answered;
        anchored =
            h ∙ ap (λ (s : List ℕ). cond (is_whole answer) (with_nonces s final) s) f
            ∙ ap₂ (λ (x : Answer) (d : Anchor). cond (is_whole x) (with_nonces s d) s) g.answered g.anchored;
        raises =
            t ∙ ap₂ (λ (s r : List ℕ). cond (is_whole answer) (with_reserved s raised.reserved.0) r) f n
            ∙ ap₂ (λ (x : Answer) (d : Anchor). cond (is_whole x) (with_reserved s d.reserved.0) r) g.answered k.raises;
        left = g.left;
        filled = g.filled;
        journals = k.journals;
      })

  -- what it stores stands for the anchors that it hands out
  module _ (long : length s ≡ anchor_bytes) where
    abbrev Trip : Answer → Journalled → Type 0
    Trip x o = Stands (hosted_journalled s r o).anchor o.call.anchor × (x ≡ Whole → Stands (hosted_journalled s r o).raised o.raised)

    settled-trip : (x : Answer) → journalled_answer (cmac_of (anchor_of s).key) (anchor_of s) card i block ranges journal ≡ x
        → Trip x (journalled_settled (cmac_of (anchor_of s).key) x (anchor_of s) card i block ranges journal)
    settled-trip Whole e =
        let a = anchor_of s in
        let h = a.reserved.0 + a.depth in
        let l = had-nonces (cmac_of a.key) a card i block ranges journal e in
        (nonces-stand s long h h l l, λ w. reserve-stands s long h l)
    settled-trip (Wrong u) e = (record { long = long; is = refl }, λ w. let z : ◌≡◌ {A = ℕ} 0 1 = cc in absurd (omega arith))
    settled-trip (Refused q) e = (record { long = long; is = refl }, λ w. let z : ◌≡◌ {A = ℕ} 0 1 = cc in absurd (omega arith))

    trip : Trip (journalled_answer (cmac_of (anchor_of s).key) (anchor_of s) card i block ranges journal) o
    unfolding journalled
    trip = settled-trip (journalled_answer (cmac_of (anchor_of s).key) (anchor_of s) card i block ranges journal) refl

  module _ (code : ℕ) (e raised left filled kept : List ℕ) where
    pub write-told : BothLong s r → HostsJournalled (host_journalled s r card i block ranges journal) code e raised left filled kept
        → HostsJournalled (hosted_journalled s r o) code e raised left filled kept
    write-told l g = subst (λ (h : HostJournalled). HostsJournalled h code e raised left filled kept) (host-journalled l) g

    pub write-stored : BothLong s r → HostsJournalled (host_journalled s r card i block ranges journal) code e raised left filled kept
        → Stands e o.call.anchor × (code ≡ 0 → Stands raised o.raised)
    write-stored l g =
        let t = write-told l g in
        let k = trip l.0 in
        let is = journalled-is (cmac_of (anchor_of s).key) (anchor_of s) card i block ranges journal in (
          subst (λ (b : List ℕ). Stands b o.call.anchor) (sym t.anchored) k.0,
          λ z.
              subst (λ (b : List ℕ). Stands b o.raised) (sym t.raises)
              (k.1 (sym is ∙ code-whole o.call.answer (sym t.coded ∙ z))),
        )

    leaves : HostsJournalled (hosted_journalled s r o) code e raised left filled kept → (code ≡ 0 → ⊥)
        → (e ≡ s) × (raised ≡ r) × (left ≡ card) × (filled ≡ ranges) × (kept ≡ journal)
    leaves g d =
        let no : o.call.answer ≡ Whole → ⊥ = λ w. d (g.coded ∙ ap code_of w ∙ whole_code) in
        let f = not-whole o.call.answer no in
        let k = journalled-stays (cmac_of (anchor_of s).key) (anchor_of s) card i block ranges journal no in (
          g.anchored ∙ ap (λ (c : Bool). cond c (with_nonces s o.call.anchor) s) f,
          g.raises ∙ ap (λ (c : Bool). cond c (with_reserved s o.raised.reserved.0) r) f,
          g.left ∙ k.card-kept,
          g.filled ∙ k.lent-kept,
          g.journals ∙ k.journal-kept,
        )

    pub write-refused : HostsJournalled (host_journalled s r card i block ranges journal) code e raised left filled kept → (code ≡ 0 → ⊥)
        → (e ≡ s) × (raised ≡ r) × (left ≡ card) × (filled ≡ ranges) × (kept ≡ journal)
    unfolding host_journalled
    write-refused = go (both_lengths s r)
      where
        go : (c : Bool) → HostsJournalled (cond c (hosted_journalled s r o) unmeasured) code e raised left filled kept → (code ≡ 0 → ⊥)
            → (e ≡ s) × (raised ≡ r) × (left ≡ card) × (filled ≡ ranges) × (kept ≡ journal)
        go true g d = leaves g d
        go false g d = (g.anchored, g.raises, g.left, g.filled, g.journals)

-- The recovery

module _ (s card journal : List ℕ) (code : ℕ) (e left : List ℕ) (g : Hosts (host_recovery s card journal) code e left []) where
  abbrev brought : Outcome
  brought = recovered (cmac_of (anchor_of s).key) (anchor_of s) card journal

  hosts : length s ≡ anchor_bytes → Hosts (hosted false s brought) code e left []
  unfolding host_recovery
  hosts long = subst (λ (h : Host). Hosts h code e left []) (measured-in s card [] (hosted false s brought) long) g

  pub recovery-stored : e ≡ s
  unfolding host_recovery
  recovery-stored = g.anchored ∙ go (eqb (length s) anchor_bytes)
    where
      go : (b : Bool) → (cond b (hosted false s brought) (record { code = refused_length; anchor = s; card = card; lent = [] })).anchor ≡ s
      go true = refl
      go false = refl

  pub recovery-told : length s ≡ anchor_bytes
      → Codes (recovered (cmac_of (anchor_of s).key) (anchor_of s) card journal) code (anchor_of e) left []
  unfolding recovered
  recovery-told long =
      let t = hosts long in
      record { coded = t.coded; anchored = ap anchor_of recovery-stored; left = t.left; filled = t.filled }

  pub recovery-refused : (code ≡ 0 → ⊥) → (e ≡ s) × (left ≡ card)
  unfolding host_recovery
  recovery-refused d =
      let F = cmac_of (anchor_of s).key in
      let k = measured-refused s card [] false (recovered F (anchor_of s) card journal)
      (recovered-leaves F (anchor_of s) card journal) code e left [] g d in
      (k.0, k.1)

pub journal-trip : (s card : List ℕ) → JournalTrip s card
journal-trip s card =
    record {
      write-stored = λ long r l i block ranges journal code e raised left filled kept g.
          write-stored s r card i block ranges journal code e raised left filled kept (long, l) g;
      recovery-stored = λ journal code e left g. recovery-stored s card journal code e left g;
      write-told = λ long r l i block ranges journal code e raised left filled kept g.
          let t = write-told s r card i block ranges journal code e raised left filled kept (long, l) g in
          (t.coded, t.left, t.filled, t.journals);
      recovery-told = λ long journal code e left g. recovery-told s card journal code e left g long;
      write-refused = λ r i block ranges journal code e raised left filled kept g d.
          write-refused s r card i block ranges journal code e raised left filled kept g d;
      recovery-refused = λ journal code e left g d. recovery-refused s card journal code e left g d;
    }
