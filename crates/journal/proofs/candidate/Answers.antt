use Rattle.std.proofs.Common.{◌≡◌, ◌+◌, ◌*◌, ◌-◌, ◌/◌, ◌^◌, ◌≤◌, ℕ, List, ap, ap₂, ◌∙◌, arith}
use lib.Pow.{pow_mono}
use Rattle.words.specs.Bytes.{part}
use Rattle.tree.specs.Layout.{offset}
use Rattle.journal.proofs.CandidateLaws.{number-read, lower-tells}
use Rattle.journal.proofs.candidate.Goals as goal

pub invariant_of-leaf : goal.invariant_of-leaf
invariant_of-leaf c =
    let p : 2 ^ 1 ≤ 2 ^ c.args.depth.levels = pow_mono c.requires.deep in
    record { on_card = record { low = omega (arith, c.leaves.ensures); high = omega (arith, c.leaves.ensures) } }

pub returns : goal.returns
returns c = λ i inside is.
    let n = c.args.depth.levels in
    let l = c.args.list.now in
    let o = 16 * (n - 1) in
    let t = lower-tells n i c.requires.deep c.args.depth.shallow inside in
    let start : c.be-start.result ≡ t.start =
    number-read l o c.at.result c.be-start.result t.start t.short (omega arith) (ap (λ (s : List ℕ). part s o 4) is ∙ t.here) c.at.ensures
    c.be-start.ensures in
    ap (λ (x : ℕ). x / 80)
    (c.saturating_sub.ensures
    ∙ ap₂ (λ (x y : ℕ). x + 16 - y) start (c.offset-first.ensures ∙ ap (offset n) c.leaves.ensures))
    ∙ t.tells
