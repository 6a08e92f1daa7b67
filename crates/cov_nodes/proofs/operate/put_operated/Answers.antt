use Rattle.std.proofs.Common.{length, sym, subst}
use Rattle.cov_space.specs.Sets.{set_at}
use Rattle.cov_families.specs.declared.table.Table.{Table}
use Rattle.cov_families.specs.Families.{IsTable}
use Rattle.cov_nodes.proofs.Operating.{operated_put, table_fits}
use Rattle.cov_nodes.proofs.operate.put_operated.Goals as goal

pub put_combined-requires-clause-table : goal.put_combined-requires-clause-table
put_combined-requires-clause-table c =
    subst (λ (t : Table). IsTable c.args.sp.now.levels t (length c.args.results.now)) (sym c.in-Ok.ensures)
    (table_fits c.args.sp.now.levels c.args.op c.args.xs.now c.args.ys.now c.args.results.now c.requires.left c.requires.right c.requires.results)

pub returns-clause-ok : goal.returns-clause-ok
returns-clause-ok c = λ m at f g is_f is_g.
    operated_put c.put_combined.result c.layers_are_apart.ensures c.args.sp.now c.put_combined.new.sp m at c.args.op c.args.xs.now c.args.ys.now c.args.results.now f g (set_at c.args.sp.now.sets c.args.a) (set_at c.args.sp.now.sets c.args.b) c.in-Ok.table
    c.requires.left c.requires.right c.requires.results.once c.in-Ok.ensures is_f is_g c.put_combined.ensures.ok
