use Rattle.std.proofs.Common.{IsTrue, nat_lt, Option, Some, subst}
use Rattle.cov_model.specs.Kinds.{width, join}
use Rattle.cov_kinds.specs.declared.kind.Kind.{Kind}
use Rattle.cov_kinds.specs.Seen.{seen, IsKindOrLong}
use Rattle.cov_kinds.proofs.Joining.{step_whole, stays_wide, here}
use Rattle.cov_kinds.proofs.Widths.{joinable_split, joinable, join_no_boolean}
use Rattle.cov_kinds.proofs.join.joined_all.Goals as goal

pub loop-k-preserved : goal.loop-k-preserved
loop-k-preserved c =
    let j : IsKindOrLong (Some c.in-Some.joined) (join (seen c.loop-k.all) (seen c.k-item.result)) = subst (λ (k : Option Kind). IsKindOrLong k (join (seen c.loop-k.all) (seen c.k-item.result))) c.in-Some.is c.in_ok-join.ensures in
    let d = here c.args.others.now c.loop-k.k-index c.k-item.result c.loop-k-test.true c.k-item.is c.requires.others in
    let n = joinable_split (seen c.k-item.result) d.0 in
    let m = joinable_split (seen c.loop-k.all) c.loop-k.invariant.fine in
    record {
      whole = step_whole _ _ _ _ _ _ c.loop-k-test.true c.k-item.is j.0 c.loop-k.invariant.whole;
      fine = rw j.0 (joinable _ (join_no_boolean _ _ m.0 n.0) j.1);
    }

pub returns-in-None : goal.returns-in-None
returns-in-None c =
    let j : IsTrue (nat_lt 1024 (width (join (seen c.loop-k.all) (seen c.k-item.result)))) = subst (λ (k : Option Kind). IsKindOrLong k (join (seen c.loop-k.all) (seen c.k-item.result))) c.in-None.is c.in_ok-join.ensures in
    stays_wide _ _ _ _ _ c.loop-k-test.true c.k-item.is c.requires.others c.loop-k.invariant.fine j c.loop-k.invariant.whole
