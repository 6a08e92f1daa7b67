use Rattle.std.proofs.Common.{rules, arith}
use Rattle.cov_syntax.specs.Marks.{mark_number, marks}
use Rattle.cov_syntax.proofs.TableLemmas.{IsNumbered, number-slice_get}
use Rattle.cov_syntax.proofs.marks.Mark.from_number.Goals as goal

numbered : IsNumbered mark_number 0 marks
numbered = search rules

pub returns-clause-number : goal.returns-clause-number
returns-clause-number c = rw c.entry.ensures (number-slice_get mark_number 0 marks c.args.n c.args.n numbered (omega arith))
