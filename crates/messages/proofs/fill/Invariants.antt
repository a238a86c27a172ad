-- After so many turns the messages of so many levels are stored.
use Rattle.std.proofs.Common.{◌≡◌, map}
use Rattle.std.proofs.lemmas.List.Edits.{sets}
use Rattle.tree.specs.Nodes.{up_to}
use Rattle.tree.specs.Labels.{labels}
use Rattle.plan.specs.Places.{rising_pair}
use Rattle.plan.specs.Split.{given, joined}
use Rattle.messages.proofs.fill.Given as goal

abbrev pub invariant-loop-level : goal.invariant-loop-level
invariant-loop-level l =
    let k = l.block.card in
    let n = k.depth.levels in
    let L = labels n k.root.0 k.bytes.now in
    l.buffer ≡ sets l.initial.buffer 0 (joined (map (given L) (up_to l.level (rising_pair n l.block.index.0))))
