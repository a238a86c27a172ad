-- The rule of every entry, from one test that is computed over the whole table.
use Rattle.std.proofs.Common.{rules}
use Rattle.tables.specs.Field.{x_times, times_low, times, inverse}
use Rattle.tables.specs.SBox.{affine, s_box}
use Rattle.tables.proofs.Tables.{is-sbox}
use Rattle.tables.proofs.sbox.SBox.new.Goals as goal

pub invariant_of-result : goal.invariant_of-result
unfolding x_times times_low times inverse affine s_box
invariant_of-result c = record { of_each_byte = search (rules, is-sbox) }
