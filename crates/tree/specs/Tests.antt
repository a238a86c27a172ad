-- What a row of tests answers: the first limit that fails.
use Rattle.std.specs.Prelude.{List, Result, Ok, Err}
use Rattle.std.proofs.Math.Option.{Option, none, some}
use Rattle.tree.specs.Limits.{Limit, first_failing}
use Rattle.tree.specs.declared.Refusal.{Refusal}

abbrev pub test_result : Option Refusal → Result Unit Refusal
test_result none = Ok tt
test_result (some r) = Err r

abbrev pub tested : List Limit → Result Unit Refusal
tested ls = test_result (first_failing ls)
