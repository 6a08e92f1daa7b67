use Rattle.std.proofs.Common.{subst, sym, rules}
use Rattle.cov_dd.specs.declared.node.Ref.{Ref}
use Rattle.cov_dd.specs.declared.node.Ref.TheVariants.{Inner}
use Rattle.cov_dd.specs.Reached.{Reaches, ref_at}
use Rattle.cov_dd.proofs.collection.gather.Goals as goal

pub returns-clause-gathered : goal.returns-clause-gathered
returns-clause-gathered c = record {
  marks = c.mark_below.new.marks;
  places = c.compact-kept.new.places;
  are = c.compact-kept.ensures.moved;
  roots = λ k lt. c.mark_below.ensures.stays (ref_at c.args.keep.now k) (c.mark_roots.ensures.marked k lt);
  only = λ i mi. let (j, mj, r) = c.mark_below.ensures.only i mi in let (k, lk, e) = c.mark_roots.ensures.only j mj in (k, lk, subst (λ (x : Ref). Reaches c.args.nodes.now x (Inner i)) (sym e) r);
  count = search rules;
  renamed = c.rename_all.ensures;
}
