use mathlib.Core.Path.{◌≡◌, sym, ap, ap₂, ◌∙◌}
use Rattle.std.proofs.Common.{ℕ, ◌+◌, List, ◌++◌, length, length-append, arith}
use lib.Seq.{sets}
use Rattle.words.proofs.Stores.{sets-append}
use Rattle.tree.specs.Numbers.{be8}
use Rattle.tree.proofs.ByteLaws.{length-be, sets-whole}
use Rattle.host_bytes.proofs.plan_bytes.put.Goals as goal

-- three numbers stored one behind the other
stored : (s x y z : List ℕ) → length s ≡ 24 → length x ≡ 8 → length y ≡ 8 → length z ≡ 8
    → sets (sets (sets s 0 x) 8 y) 16 z ≡ x ++ (y ++ z)
stored s x y z h a b c =
    let e : 0 + length x ≡ 8 = omega arith in
    let f : 8 + length y ≡ 16 = omega arith in
    sym (sets-append s 0 x (y ++ z) ∙ ap (λ (k : ℕ). sets (sets s 0 x) k (y ++ z)) e
    ∙ sets-append (sets s 0 x) 8 y z ∙ ap (λ (k : ℕ). sets (sets (sets s 0 x) 8 y) k z) f)
    ∙ sets-whole (x ++ (y ++ z)) s (omega (arith, length-append x (y ++ z), length-append y z))

pub returns : goal.returns
returns c =
    let p = c.args.plan in
    c.put-3.ensures
    ∙ ap₂ (λ (l x : List ℕ). sets l 16 x)
    (c.put-2.ensures
    ∙ ap₂ (λ (l x : List ℕ). sets l 8 x)
    (c.put.ensures ∙ ap (sets c.args.bytes.now 0) c.be.ensures)
    c.be-2.ensures)
    c.be-3.ensures
    ∙ stored c.args.bytes.now (be8 p.index.0) (be8 p.root.0) (be8 p.filled) c.told-bytes
    (length-be 8 p.index.0) (length-be 8 p.root.0) (length-be 8 p.filled)
