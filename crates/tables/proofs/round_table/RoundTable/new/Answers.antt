-- The rule of every entry, from one test that is computed over the whole table.
use Rattle.tables.specs.Field.{x_times, times_low, times, inverse}
use Rattle.tables.specs.SBox.{affine, s_box}
use Rattle.words.specs.Bytes.{same}
use Rattle.tables.proofs.Tables.{mixes, is-round-table}
use Rattle.tables.proofs.round_table.RoundTable.new.Goals as goal

pub invariant_of-result : goal.invariant_of-result
unfolding x_times times_low times inverse affine s_box same mixes
invariant_of-result c = record { of_each_byte = is-round-table _ tt }
