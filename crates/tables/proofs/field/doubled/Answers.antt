use Rattle.std.proofs.Common.{◌≡◌, ◌-◌, ◌*◌, ◌%◌, refl, arith}
use borrow.Author.Tests.{lt-ltb, le-ltb}
use Rattle.tables.specs.Field.{x_times}
use Rattle.tables.proofs.Doubling.{times-two}
use Rattle.tables.proofs.field.doubled.Goals as goal

pub returns-then-byte-lt128 : goal.returns-then-byte-lt128
unfolding x_times
returns-then-byte-lt128 c =
    let b = c.args.byte in
    rw (times-two b (omega arith), lt-ltb b 128 c.if-byte-lt128.true) refl

pub returns-else-byte-lt128 : goal.returns-else-byte-lt128
unfolding x_times
returns-else-byte-lt128 c =
    let b = c.args.byte in
    let e : 2 * b % 256 ≡ 2 * (b - 128) = omega arith in
    rw (times-two b (omega arith), le-ltb b 128 c.if-byte-lt128.false, e) refl
