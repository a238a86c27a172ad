-- The messages of the card that the labels leave are those of the write's labels.
use Rattle.std.proofs.Common.{ap, ap₂, ◌∙◌, List, ◌++◌, map, ℕ, ◌+◌, ◌*◌, drop}
use Rattle.tree.specs.Labels.{labels}
use Rattle.plan.specs.Places.{plan_nodes}
use Rattle.plan.specs.Split.{Given, given, joined}
use Rattle.split.proofs.OutcomeLaws.{messages-read}
use Rattle.split.proofs.within.lay.Goals as goal

pub returns-clause-messages_after : goal.returns-clause-messages_after
returns-clause-messages_after c t =
    let b = c.args.new.now in
    let n = b.path.depth.levels in
    let r = b.last.0 in
    let i = b.path.index.0 in
    let rest = drop (34 * n + 112) c.args.messages.now in
    c.fill-2.ensures
    ∙ ap₂ (λ (s : ℕ) (l : List ℕ). joined (map (given (labels n s l)) (plan_nodes n i)) ++ rest) c.root-root.ensures (c.lay.ensures t)
    ∙ ap (λ (ms : List Given). joined ms ++ rest)
    (messages-read n t r i c.args.card.now b.bytes.now c.requires.card b.path.on_card b.sized)
