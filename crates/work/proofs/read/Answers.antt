-- What the walk along the path found and counted under the context is so under the key, and what is whole gives the block.
use Rattle.tree.specs.declared.Anchor.{Anchor}
use Rattle.std.proofs.Common.{◌≡◌, ℕ, ◌+◌, ◌^◌, List, length, cond, sym, ap, ◌∙◌, arith}
use Rattle.std.specs.Result.{is_ok}
use Rattle.std.proofs.lemmas.List.Edits.{sets}
use Rattle.cmac.proofs.TraceLaws.{subkeys-count}
use Rattle.tree.specs.Layout.{label}
use Rattle.tree.specs.Nodes.{path}
use Rattle.tree.specs.Calls.{read, checks}
use Rattle.tree.proofs.ByteLaws.{sets-whole}
use Rattle.tree.proofs.LayoutLaws.{length_label, leaf}
use Rattle.tree.proofs.LimitLaws.{Reads, passed, sound-card}
use Rattle.tree.proofs.NodeLaws.{leaf-node}
use Rattle.work.proofs.OutcomeLaws.{few-calls, found_of, count_of_lem, reports-read}
use Rattle.work.proofs.read.Goals as goal
use Rattle.work.proofs.read.Goals.{then-is_ok, else-is_ok}

-- the block fills the buffer
full-block : (a : Anchor) (i : ℕ) (card buffer : List ℕ) → Reads a card i buffer → length (label a.depth card (2 ^ a.depth + i)) ≡ length buffer
full-block a i card buffer p =
    let n = a.depth in
    let u = 2 ^ n + i in
    length_label n card u p.sound.full (leaf-node n i p.sound.deep p.inside) ∙ omega (arith, leaf n u (omega arith))

pub of-block-requires-clause-card : goal.of-block-requires-clause-card
of-block-requires-clause-card c = sound-card (passed c.args.anchor c.args.card.now (read c.args.index.0 c.args.buffer.now) c.requires).sound

pub of-block-requires-clause-index : goal.of-block-requires-clause-index
of-block-requires-clause-index c = (passed c.args.anchor c.args.card.now (read c.args.index.0 c.args.buffer.now) c.requires).inside

pub put-requires : goal.put-requires
put-requires c =
    let a = c.args.anchor in
    let b = c.of-block.ensures in
    let e = rw (b.depth, b.bytes, b.index) at c.bytes.ensures in
    omega (
      arith,
      ap length e,
      full-block a c.args.index.0 c.args.card.now c.args.buffer.now
          (passed a c.args.card.now (read c.args.index.0 c.args.buffer.now) c.requires),
    )

pub overflow_add-result : goal.overflow_add-result
unfolding checks
overflow_add-result c =
    let a = c.args.anchor in
    let card = c.args.card.now in
    let call = read c.args.index.0 c.args.buffer.now in
    let b = c.of-block.ensures in
    omega (
      arith,
      count_of_lem a.key _ c.new-context.ensures a.depth a.root.0 card (path a.depth c.args.index.0)
          (rw (b.depth, b.root, b.bytes, b.index) at c.path-found.ensures.count),
      subkeys-count a.key,
      few-calls a.key a card call (passed a card call c.requires),
    )

pub returns : goal.returns
unfolding checks
returns c =
    let a = c.args.anchor in
    let card = c.args.card.now in
    let buffer = c.args.buffer.now in
    let i = c.args.index.0 in
    let us = path a.depth i in
    let made = c.new-context.ensures in
    let b = c.of-block.ensures in
    let filled : c.if-is_ok.buffer ≡ cond (is_ok c.path-found.result.value) (label a.depth card (2 ^ a.depth + i)) buffer =
    elim c.if-is_ok.branch [
      | then-is_ok w ↦
          rw (← c.is_ok.ensures.value, w.if-is_ok.true)
          (w.buffer-is ∙ w.put.ensures ∙ ap (sets buffer 0) (rw (b.depth, b.bytes, b.index) at w.bytes.ensures)
          ∙ sets-whole (label a.depth card (2 ^ a.depth + i)) buffer
          (sym (full-block a i card buffer (passed a card (read i buffer) c.requires))))
      | else-is_ok w ↦ rw (← c.is_ok.ensures.value, w.if-is_ok.false) w.buffer-is
    ] in
    reports-read a card i buffer _ _ _ c.requires
    (found_of a.key _ made a.depth a.root.0 card us (rw (b.depth, b.root, b.bytes, b.index) at c.path-found.ensures.value))
    (count_of_lem a.key _ made a.depth a.root.0 card us (rw (b.depth, b.root, b.bytes, b.index) at c.path-found.ensures.count))
    filled
