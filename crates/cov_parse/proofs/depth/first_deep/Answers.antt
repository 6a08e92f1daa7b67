use Rattle.std.proofs.Common.{◌≤◌, sum, subst, ap, ◌∙◌}
use Rattle.cov_syntax.specs.Limits as spec
use Rattle.cov_parse.proofs.DepthLemmas.{deep_stops, deep_goes, still_small}
use Rattle.cov_parse.proofs.depth.first_deep.Goals as goal

pub returns-then-is_over : goal.returns-then-is_over
returns-then-is_over c =
    deep_stops c.loop-at.declares c.loop-at.counts.items c.count.new.counts.items c.as_slice-in-loop-at.result.now c.args.lexemes.now c.loop-at.at _ c.role_of-role.result c.declares_after-after.result (spec.deep _ _ c.args.lexemes.now)
    c.loop-at-test.true c.role_of-role.ensures c.in_ok-count.ensures (c.declares_after-after.ensures ∙ ap (λ (s : spec.Counts). spec.declares_after c.role_of-role.result c.loop-at.declares s) c.as_slice.ensures.value) c.as_slice-in-loop-at.ensures.value c.loop-at.invariant.reads c.if-is_over.ensures

pub loop-at-preserved : goal.loop-at-preserved
loop-at-preserved c = record {
  reads = deep_goes c.loop-at.declares c.loop-at.counts.items c.count.new.counts.items c.as_slice-in-loop-at.result.now c.args.lexemes.now c.loop-at.at _ c.role_of-role.result c.declares_after-after.result _
      c.loop-at-test.true c.role_of-role.ensures c.in_ok-count.ensures (c.declares_after-after.ensures ∙ ap (λ (s : spec.Counts). spec.declares_after c.role_of-role.result c.loop-at.declares s) c.as_slice.ensures.value) c.as_slice-in-loop-at.ensures.value c.loop-at.invariant.reads c.if-is_over.ensures;
  small = subst (λ (s : spec.Counts). sum s ≤ 1000) c.as_slice-in-loop-at.ensures.value (still_small c.as_slice-in-loop-at.result.now c.if-is_over.ensures);
}
