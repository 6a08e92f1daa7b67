use Rattle.cov_bits.proofs.Rows.{number_below, row-number, number_of, length-row, row_bit}
use Rattle.cov_bits.proofs.laws.rows_and_codes.Goals as goal

pub returns : goal.returns
returns c = record { below = number_below; row_of = row-number; number_of = number_of; long = length-row; bit = row_bit }
