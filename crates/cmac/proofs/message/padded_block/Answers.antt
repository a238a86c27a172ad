use Rattle.std.proofs.Common.{◌≡◌, ap, ◌∙◌, sym, ◌-◌, ◌<◌, length, arith, refl}
use Rattle.std.proofs.Math.ListN.{drop, take}
use Rattle.std.proofs.lemmas.List.{take_all, length-drop, length-take}
use Rattle.words.specs.Bytes.{part}
use Rattle.cmac.specs.Cmac.{padding}
use Rattle.cmac.proofs.Padding.{padding_more, padding-whole}
use Rattle.cmac.proofs.message.padded_block.Goals as goal

pub loop-i-init : goal.loop-i-init
unfolding padding
loop-i-init c = refl

pub loop-i-preserved : goal.loop-i-preserved
loop-i-preserved c =
    let m = c.args.message.now in
    let x = take (length m - c.args.start) (drop c.args.start m) in
    let h : length x < 16 = omega (arith, length-take (length m - c.args.start) (drop c.args.start m), length-drop c.args.start m, c.requires.1) in
    rw c.loop-i.invariant (padding_more x c.loop-i.i c.loop-i-test.true h)

pub returns : goal.returns
returns c =
    let m = c.args.message.now in
    let o = c.args.start in
    let x = take (length m - o) (drop o m) in
    let l = length-drop o m in
    let e : x ≡ part m o 16 =
    take_all (length m - o) (drop o m) (omega (arith, l)) ∙ sym (take_all 16 (drop o m) (omega (arith, l, c.requires.1))) in
    let h : length x < 16 = omega (arith, ap length e, length-take 16 (drop o m), l, c.requires.1) in
    let i : c.loop-i.i ≡ length x = omega arith in
    c.at.ensures ∙ rw (c.loop-i.invariant, i, take_all (length x) x (omega arith)) (padding-whole x h) ∙ ap padding e
