-- Document 02, T-05, on the two nonces of the anchor, the root nonce T and the reserved one H: sentence by sentence, for every input and
-- every function that makes tags of 16 bytes, and on examples. A definition that is bent together with its code no longer gives these.
use Rattle.std.specs.Prelude.{◌≡◌, List, [], ℕ, ◌+◌, ◌*◌, ◌-◌, ◌^◌, ◌<◌, ◌≤◌, Bool, true, false, length}
use Rattle.std.proofs.Math.Option.{none}
use Rattle.tree.specs.Numbers.{be8}
use Rattle.tree.specs.Layout.{label}
use Rattle.tree.specs.Nodes.{path_node}
use Rattle.tree.specs.Labels.{labels, written_labels}
use Rattle.tree.specs.Limits.{nonce_limit, first_failing}
use Rattle.tree.specs.Answer.{number_of}
use Rattle.tree.specs.Calls.{Call, read, write, check, wipe, first_limits, raise, renew, outcome, format}
use Rattle.tree.specs.declared.Anchor.{Anchor}
use Rattle.tree.specs.Answer.{Whole}
use Rattle.plan.specs.Split.{planned}
use Rattle.scope.specs.WipeRule.{NoncesFit}
use Rattle.scope.specs.Table.{anchor, refused}

module _ (F : List ℕ → List ℕ) where
  -- "the anchor gains a reserved serial H, 0 after format"
  abbrev pub ZeroAfterFormat : Type 0
  ZeroAfterFormat = (key : List ℕ) (n : ℕ) (card : List ℕ) → (format F key n card).anchor ≡ anchor key n 0 0

  pub record ReserveRule (a : Anchor) (card : List ℕ) : Type 0 where
    -- "Every accepted write and wipe first raises H by n", "and on acceptance T becomes H"
    pub write-raises : (i : ℕ) (block ranges : List ℕ) → (outcome F a card (write i block ranges)).answer ≡ Whole
        → (outcome F a card (write i block ranges)).anchor ≡ anchor a.key a.depth (a.reserved.0 + a.depth) (a.reserved.0 + a.depth)
    pub wipe-raises : (outcome F a card wipe).answer ≡ Whole
        → (outcome F a card wipe).anchor ≡ anchor a.key a.depth (a.reserved.0 + a.depth) (a.reserved.0 + a.depth)
    -- a read, a check and whatever is refused leave both
    pub read-keeps : (i : ℕ) (buffer : List ℕ) → (outcome F a card (read i buffer)).anchor ≡ a
    pub check-keeps : (outcome F a card check).anchor ≡ a
    pub refused-keeps : (c : Call) → ((outcome F a card c).answer ≡ Whole → ⊥) → (outcome F a card c).anchor ≡ a
    -- "a plan hands back the anchor with H raised"
    pub plan-raises : (i : ℕ) (block ranges : List ℕ) → (planned F a card i block ranges).call.answer ≡ Whole
        → (planned F a card i block ranges).call.anchor ≡ anchor a.key a.depth a.root.0 (a.reserved.0 + a.depth)
    -- "Path node u_y then gets H - y": H as it was raised
    pub path-nonces : (i : ℕ) (block ranges : List ℕ) → (outcome F a card (write i block ranges)).answer ≡ Whole
        → (y : ℕ) → 1 ≤ y → y < a.depth →
        let o = outcome F a card (write i block ranges) in
        label a.depth o.card (path_node a.depth i y) ≡ be8 (o.anchor.reserved.0 - y)
    -- "a wipe uses H"
    pub wipe-nonces : (outcome F a card wipe).answer ≡ Whole → (u : ℕ) → 2 ≤ u → u < 2 ^ a.depth →
        let o = outcome F a card wipe in
        label a.depth o.card u ≡ be8 o.anchor.reserved.0
    -- "Refusal 2 now also covers an H below T or not a multiple of n", for every call
    pub two : (c : Call) → 1 ≤ a.depth → a.depth ≤ 16 → (NoncesFit a → ⊥) → number_of (outcome F a card c).answer ≡ 2
    pub two-only : (c : Call) → number_of (outcome F a card c).answer ≡ 2 → NoncesFit a → ⊥
    -- "refusal 7 looks at H + n": where every limit before it is passed; of a wipe WipeRule says it
    pub seven : (i : ℕ) (block ranges : List ℕ) → first_failing (first_limits a (length card)) ≡ none → i < 2 ^ a.depth
        → length block ≡ 64 → 16 * a.depth ≤ length ranges → 2 ^ 64 ≤ a.reserved.0 + a.depth
        → number_of (outcome F a card (write i block ranges)).answer ≡ 7
    pub seven-only : (c : Call) → number_of (outcome F a card c).answer ≡ 7 → 2 ^ 64 ≤ a.reserved.0 + a.depth

-- whether 2 refuses the nonces t and h at depth 3
abbrev pub unfit_at : ℕ → ℕ → Bool
unfit_at t h = (nonce_limit 3 t h).fails

-- The same, computed, mostly with T below H, as behind a write that was lost.
pub record ReserveExamples : Type 0 where
  -- depth 3, T = 6 and H = 12: raised, H is 15, and then T is
  pub raised : raise (anchor [] 3 6 12) ≡ anchor [] 3 6 15
  pub renewed : renew (anchor [] 3 6 12) ≡ anchor [] 3 15 15
  -- block 5 is written: node 1 has 15, node 3 gets 14 and node 6 gets 13, and node 2 keeps its own
  pub written : (card block : List ℕ) →
      let L = written_labels 3 6 12 card 5 block in
      (L 1 ≡ be8 15) × (L 3 ≡ be8 14) × (L 6 ≡ be8 13) × (L 13 ≡ block) × (L 2 ≡ label 3 card 2)
  -- before it, the root's nonce is T
  pub sees : (card : List ℕ) → labels 3 6 card 1 ≡ be8 6
  -- 2: both multiples of 3, H not below T; and each of these broken alone
  pub fit : (unfit_at 6 6 ≡ false) × (unfit_at 6 12 ≡ false)
  pub unfit : (unfit_at 7 12 ≡ true) × (unfit_at 6 13 ≡ true) × (unfit_at 6 3 ≡ true)
  -- 7: with H = 2^64 - 2 and depth 2 no write fits, whatever T; with H = 2^64 - 4 one does
  pub spent : (refused 2 0 (2 ^ 64 - 2) 368 0 ≡ 7) × (refused 2 0 (2 ^ 64 - 4) 368 0 ≡ 0)
