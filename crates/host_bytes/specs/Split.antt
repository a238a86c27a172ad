-- The split write for C: the plan as bytes, its messages in a buffer, and the answer as one number.
use Rattle.std.specs.Prelude.{ℕ, ◌≡◌, cond, ◌&&◌, List, ◌++◌, eqb, length, take, drop}
use Rattle.words.specs.Bytes.{part}
use Rattle.cmac.specs.Cmac.{cmac_of}
use Rattle.tree.specs.Numbers.{be8}
use Rattle.tree.specs.Answer.{is_whole}
use Rattle.plan.specs.Split.{Planned, planned, joined, message_room, Put, put}
use Rattle.plan.specs.declared.Plan.{Plan}
use Rattle.host_bytes.specs.Host.{number, anchor_bytes, anchor_of, with_root, with_reserved, code_of, refused_length}

-- how long a plan is: the block's number, the root nonce and the filled places in 8 bytes each
abbrev pub plan_bytes : ℕ
plan_bytes = 24

unfoldable pub plan_of : List ℕ → Plan
plan_of bytes =
    record {
      index = record { 0 = number (part bytes 0 8) };
      root = record { 0 = number (part bytes 8 8) };
      filled = number (part bytes 16 8);
    }

-- the bytes of a plan
abbrev pub bytes_of : Plan → List ℕ
bytes_of p = be8 p.index.0 ++ (be8 p.root.0 ++ be8 p.filled)

-- how long a tag is
abbrev pub tag_bytes : ℕ
tag_bytes = 16

-- what pat_plan answers, and what it leaves of the bytes that it may change
pub record HostPlan : Type 0 where
  pub code : ℕ
  pub anchor : List ℕ
  pub plan : List ℕ
  pub card : List ℕ
  pub ranges : List ℕ
  pub messages : List ℕ

-- accepted, it stores the reserved nonce, the plan, and the messages from the first byte of their buffer on
abbrev pub hosted_plan : List ℕ → List ℕ → List ℕ → Planned → HostPlan
hosted_plan anchor plan messages o =
    let ms = joined o.messages in
    record {
      code = code_of o.call.answer;
      anchor = cond (is_whole o.call.answer) (with_reserved anchor o.call.anchor.reserved.0) anchor;
      plan = cond (is_whole o.call.answer) (bytes_of o.plan) plan;
      card = o.call.card;
      ranges = o.call.lent;
      messages = ms ++ drop (length ms) messages;
    }

-- another length of the anchor, of the plan or of the messages is refused before the rest
unfoldable pub host_plan : List ℕ → List ℕ → ℕ → List ℕ → List ℕ → List ℕ → List ℕ → HostPlan
host_plan anchor card i block ranges plan messages =
    let a = anchor_of anchor in
    cond (eqb (length anchor) anchor_bytes && (eqb (length plan) plan_bytes && eqb (length messages) message_room))
    (hosted_plan anchor plan messages (planned (cmac_of a.key) a card i block ranges))
    (record { code = refused_length; anchor = anchor; plan = plan; card = card; ranges = ranges; messages = messages })

-- That pat_plan answered and left everything so. Its contract is this record.
pub record HostsPlan (h : HostPlan) (code : ℕ) (anchor plan card ranges messages : List ℕ) : Type 0 where
  pub coded : code ≡ h.code
  pub anchored : anchor ≡ h.anchor
  pub planned : plan ≡ h.plan
  pub left : card ≡ h.card
  pub filled : ranges ≡ h.ranges
  pub gave : messages ≡ h.messages

-- the same of pat_put_tag
pub record HostPut : Type 0 where
  pub code : ℕ
  pub anchor : List ℕ
  pub plan : List ℕ
  pub card : List ℕ

-- the anchor's bytes with a root nonce, and as they were where it is theirs
abbrev pub root_moved : List ℕ → ℕ → List ℕ
root_moved anchor t = cond (eqb t (anchor_of anchor).root.0) anchor (with_root anchor t)

-- accepted, it stores the filled places, and the root nonce where it moved
abbrev pub hosted_put : List ℕ → List ℕ → Put → HostPut
hosted_put anchor plan o =
    let whole = is_whole o.answer in
    record {
      code = code_of o.answer;
      anchor = cond whole (root_moved anchor o.anchor.root.0) anchor;
      plan = cond whole (take 16 plan ++ be8 o.plan.filled) plan;
      card = o.card;
    }

-- another length of the anchor, of the plan or of the tag is refused before the rest
unfoldable pub host_put : List ℕ → List ℕ → List ℕ → ℕ → List ℕ → HostPut
host_put anchor plan card u tag =
    cond (eqb (length anchor) anchor_bytes && (eqb (length plan) plan_bytes && eqb (length tag) tag_bytes))
    (hosted_put anchor plan (put (anchor_of anchor) (plan_of plan) card u tag))
    (record { code = refused_length; anchor = anchor; plan = plan; card = card })

pub record HostsPut (h : HostPut) (code : ℕ) (anchor plan card : List ℕ) : Type 0 where
  pub coded : code ≡ h.code
  pub anchored : anchor ≡ h.anchor
  pub planned : plan ≡ h.plan
  pub left : card ≡ h.card
