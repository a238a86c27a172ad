use Rattle.std.proofs.Common.{◌≡◌, ◌+◌, ◌*◌, ◌-◌, ℕ, List, length, ap, ◌∙◌, arith}
use Rattle.std.proofs.lemmas.List.Edits.{sets}
use Rattle.std.proofs.Math.Seq.{length-sets}
use borrow.Rule.Slice.PartMut.{put_mid}
use Rattle.tree.specs.Numbers.{be8}
use Rattle.tree.specs.Ranges.{ranges_of, encode}
use Rattle.journal.specs.Journal.{gathered}
use Rattle.journal.proofs.FillLaws.{list_stored, message_stored}
use Rattle.journal.proofs.fill.Goals as goal

pub returns : goal.returns
returns c =
    let p = c.args.path in
    let n = p.depth.levels in
    let i = p.index.0 in
    let s = c.put.new.string in
    let g = gathered (ranges_of n i) c.args.card.now in
    let x = encode (ranges_of n i) in
    let begun : s ≡ sets c.args.journal.now 0 (be8 c.args.root.0) = c.put.ensures ∙ ap (sets c.args.journal.now 0) c.be.ensures in
    let long : length s ≡ length c.args.journal.now = ap length begun ∙ length-sets c.args.journal.now 0 (be8 c.args.root.0) in
    c.gather.ensures
    ∙ ap (λ (l : List ℕ). sets l (8 + 16 * n) g)
    (ap (put_mid 8 (length s - 8) s) c.fill.ensures ∙ list_stored n i s (omega arith) ∙ ap (λ (l : List ℕ). sets l 8 x) begun)
    ∙ message_stored n c.args.root.0 i c.args.card.now p.on_card c.requires.card.deep c.requires.card.full c.args.journal.now (omega arith)
