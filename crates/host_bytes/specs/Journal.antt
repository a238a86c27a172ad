-- The journalled write and the recovery for C: two anchors as bytes, the journal in a buffer, and the answer as one number.
use Rattle.std.specs.Prelude.{ℕ, ◌≡◌, false, cond, ◌&&◌, List, [], eqb, length}
use Rattle.cmac.specs.Cmac.{cmac_of}
use Rattle.tree.specs.Answer.{is_whole}
use Rattle.journal.specs.Journalled.{Journalled, journalled}
use Rattle.journal.specs.Recovery.{recovered}
use Rattle.host_bytes.specs.Host.{anchor_bytes, anchor_of, with_reserved, with_nonces, code_of, refused_length, Host, hosted, measured}

-- what pat_write_journalled answers, and what it leaves of the bytes that it may change
pub record HostJournalled : Type 0 where
  pub code : ℕ
  pub anchor : List ℕ
  pub raised : List ℕ
  pub card : List ℕ
  pub ranges : List ℕ
  pub journal : List ℕ

-- Accepted, it puts both nonces into the anchor, and into `raised` the bytes that the anchor had, with the reserved nonce raised.
abbrev pub hosted_journalled : List ℕ → List ℕ → Journalled → HostJournalled
hosted_journalled anchor raised o =
    let whole = is_whole o.call.answer in
    record {
      code = code_of o.call.answer;
      anchor = cond whole (with_nonces anchor o.call.anchor) anchor;
      raised = cond whole (with_reserved anchor o.raised.reserved.0) raised;
      card = o.call.card;
      ranges = o.call.lent;
      journal = o.journal;
    }

-- another length of the anchor or of `raised` is refused before the rest
unfoldable pub host_journalled : List ℕ → List ℕ → List ℕ → ℕ → List ℕ → List ℕ → List ℕ → HostJournalled
host_journalled anchor raised card i block ranges journal =
    let a = anchor_of anchor in
    cond (eqb (length anchor) anchor_bytes && eqb (length raised) anchor_bytes)
    (hosted_journalled anchor raised (journalled (cmac_of a.key) a card i block ranges journal))
    (record { code = refused_length; anchor = anchor; raised = raised; card = card; ranges = ranges; journal = journal })

-- That pat_write_journalled answered and left everything so. Its contract is this record.
pub record HostsJournalled (h : HostJournalled) (code : ℕ) (anchor raised card ranges journal : List ℕ) : Type 0 where
  pub coded : code ≡ h.code
  pub anchored : anchor ≡ h.anchor
  pub raises : raised ≡ h.raised
  pub left : card ≡ h.card
  pub filled : ranges ≡ h.ranges
  pub journals : journal ≡ h.journal

-- pat_recover leaves the anchor, whatever it answers
unfoldable pub host_recovery : List ℕ → List ℕ → List ℕ → Host
host_recovery anchor card journal =
    let a = anchor_of anchor in
    measured anchor card [] (hosted false anchor (recovered (cmac_of a.key) a card journal))
