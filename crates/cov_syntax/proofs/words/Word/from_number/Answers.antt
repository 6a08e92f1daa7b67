use Rattle.std.proofs.Common.{rules, arith, ◌-◌}
use Rattle.cov_syntax.specs.Words.{word_number, used_words, left_out_words}
use Rattle.cov_syntax.proofs.TableLemmas.{IsNumbered, number-slice_get}
use Rattle.cov_syntax.proofs.words.Word.from_number.Goals as goal

used : IsNumbered word_number 0 used_words
used = search rules

left_out : IsNumbered word_number 100 left_out_words
left_out = search rules

pub returns-then-n-lt-FIRST_LEFT_OUT-clause-number : goal.returns-then-n-lt-FIRST_LEFT_OUT-clause-number
returns-then-n-lt-FIRST_LEFT_OUT-clause-number c = rw c.entry.ensures (number-slice_get word_number 0 used_words c.args.n c.args.n used (omega arith))

pub returns-else-n-lt-FIRST_LEFT_OUT-clause-number : goal.returns-else-n-lt-FIRST_LEFT_OUT-clause-number
returns-else-n-lt-FIRST_LEFT_OUT-clause-number c =
    rw c.entry-else-n-lt-FIRST_LEFT_OUT.ensures (number-slice_get word_number 100 left_out_words (c.args.n - 100) c.args.n left_out (omega arith))
