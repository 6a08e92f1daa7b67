use Rattle.std.proofs.Common.{◌≡◌, ◌<◌, length, sym, subst, List, Bool, arith}
use Rattle.std.specs.Prelude.{IsTrue}
use Rattle.cov_model.specs.Order.{reads}
use Rattle.cov_conditions.specs.Marks.{are_marked}
use Rattle.cov_conditions.proofs.Marking.{all_stay, reads_marked}
use Rattle.cov_conditions.proofs.marks.mark_all.Goals as goal

pub returns-clause-here : goal.returns-clause-here
returns-clause-here c =
    all_stay c.mark_reads.new.marks c.mark_below.new.marks (reads c.args.e.now) c.mark_below.ensures.kept
    (subst (λ (ms : List Bool). IsTrue (are_marked ms (reads c.args.e.now))) (sym c.mark_reads.ensures)
    (reads_marked c.args.marks.now (reads c.args.e.now) (λ j r. let lt : j < length c.args.defines.now = c.requires.there j r in let count : length c.args.marks.now ≡ length c.args.defines.now = c.requires.count in omega arith)))
