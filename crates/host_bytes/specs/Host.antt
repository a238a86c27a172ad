-- The calls for C: the anchor as bytes, the answer as one number.
use Rattle.std.specs.Prelude.{ℕ, ◌+◌, ◌*◌, ◌^◌, ◌≡◌, Bool, true, cond, ◌&&◌, List, [], ◌∷◌, eqb, length}
use Rattle.std.proofs.lemmas.List.Edits.{sets}
use Rattle.words.specs.Bytes.{part}
use Rattle.cmac.specs.Cmac.{cmac_of}
use Rattle.tree.specs.Numbers.{be8}
use Rattle.tree.specs.Answer.{number_of, node_of, is_whole}
use Rattle.tree.specs.Calls.{Call, lent_to, renews, Outcome, outcome, format}
use Rattle.tree.specs.declared.Anchor.{Anchor}
use Rattle.tree.specs.Answer.{Answer}

-- the number that bytes stand for, big-endian
unfoldable pub number : List ℕ → ℕ
number [] = 0
number (x ∷ xs) = x * 256 ^ length xs + number xs

-- how long an anchor is: the key in 16 bytes, then depth, root nonce and reserved nonce in 8 each
abbrev pub anchor_bytes : ℕ
anchor_bytes = 40

-- key, depth, root nonce and reserved nonce
unfoldable pub anchor_of : List ℕ → Anchor
anchor_of bytes =
    record {
      key = part bytes 0 16;
      depth = number (part bytes 16 8);
      root = record { 0 = number (part bytes 24 8) };
      reserved = record { 0 = number (part bytes 32 8) };
    }

-- the bytes with another root nonce, with another reserved one, and with those of an anchor
abbrev pub with_root : List ℕ → ℕ → List ℕ
with_root bytes t = sets bytes 24 (be8 t)

abbrev pub with_reserved : List ℕ → ℕ → List ℕ
with_reserved bytes h = sets bytes 32 (be8 h)

abbrev pub with_nonces : List ℕ → Anchor → List ℕ
with_nonces bytes a = with_root (with_reserved bytes a.reserved.0) a.root.0

-- the number of the answer, plus 256 times its node
unfoldable pub code_of : Answer → ℕ
code_of a = number_of a + 256 * node_of a

-- what a function for C answers, and what it leaves of the bytes that it is lent
pub record Host : Type 0 where
  pub code : ℕ
  pub anchor : List ℕ
  pub card : List ℕ
  pub lent : List ℕ

-- a call that moves the anchor, where it is accepted, puts both nonces into the anchor's bytes
abbrev pub hosted : Bool → List ℕ → Outcome → Host
hosted moves anchor o =
    record {
      code = code_of o.answer;
      anchor = cond (moves && is_whole o.answer) (with_nonces anchor o.anchor) anchor;
      card = o.card;
      lent = o.lent;
    }

-- what a function answers to an anchor of another length
abbrev pub refused_length : ℕ
refused_length = 5

-- before the rest
abbrev pub measured : List ℕ → List ℕ → List ℕ → Host → Host
measured anchor card lent h =
    cond (eqb (length anchor) anchor_bytes) h (record { code = refused_length; anchor = anchor; card = card; lent = lent })

-- a call after format
unfoldable pub host_call : List ℕ → List ℕ → Call → Host
host_call anchor card c =
    let a = anchor_of anchor in
    measured anchor card (lent_to c) (hosted (renews c) anchor (outcome (cmac_of a.key) a card c))

-- format takes the key and the depth from the anchor's bytes
unfoldable pub host_format : List ℕ → List ℕ → Host
host_format anchor card =
    let a = anchor_of anchor in
    measured anchor card [] (hosted true anchor (format (cmac_of a.key) a.key a.depth card))

-- That a function answered and left everything so. Contracts are this record.
pub record Hosts (h : Host) (code : ℕ) (anchor card lent : List ℕ) : Type 0 where
  pub coded : code ≡ h.code
  pub anchored : anchor ≡ h.anchor
  pub left : card ≡ h.card
  pub filled : lent ≡ h.lent

-- The same for a function that has the anchor as a struct: the outcome, its answer as one number.
pub record Codes (o : Outcome) (code : ℕ) (anchor : Anchor) (card lent : List ℕ) : Type 0 where
  pub coded : code ≡ code_of o.answer
  pub anchored : anchor ≡ o.anchor
  pub left : card ≡ o.card
  pub filled : lent ≡ o.lent
