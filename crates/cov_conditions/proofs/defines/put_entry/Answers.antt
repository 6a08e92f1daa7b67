use Rattle.std.proofs.Common.{rules}
use Rattle.std.specs.Prelude.{IsTrue}
use Rattle.cov_model.specs.Order.{reads}
use Rattle.cov_conditions.specs.Marks.{is_marked}
use Rattle.cov_conditions.proofs.Gathering.{reads_stand}
use Rattle.cov_conditions.proofs.defines.put_entry.Goals as goal

pub put_define-requires-clause-reads : goal.put_define-requires-clause-reads
put_define-requires-clause-reads c = λ d at.
    let marked : IsTrue (is_marked c.args.marks.now c.args.i) = search rules in
    reads_stand c.args.marks.now c.args.scope.now.here.now c.args.scope.now.there.now c.args.i (reads d.body) c.requires.here c.requires.there (c.requires.closed c.args.i d at marked)
    (λ j r. c.defines_read_earlier.ensures c.args.scope.now.m.now c.requires.scope.formed c.args.i d at j r)
