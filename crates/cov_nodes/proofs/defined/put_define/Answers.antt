use Rattle.std.proofs.Common.{List, OnOk, subst}
use Rattle.cov_syntax.specs.declared.tree.Value.{Value}
use Rattle.cov_space.specs.Answers.{PutsSet}
use Rattle.cov_nodes.specs.declared.defined.Standing as standing
use Rattle.cov_nodes.specs.Chunks.{gathered_set}
use Rattle.cov_nodes.specs.Standing.{IsStanding}
use Rattle.cov_nodes.proofs.Defining.{gathered_put, truth_put}
use Rattle.cov_nodes.proofs.defined.put_define.Goals as goal

pub returns-in-Truth-clause-ok : goal.returns-in-Truth-clause-ok
returns-in-Truth-clause-ok c =
    let is = subst (λ (d : standing.Standing). IsStanding c.args.sp.now c.args.m.now c.args.at.present c.args.at.flip c.args.i d) c.in-Truth.is c.requires.standing in
    truth_put c.put_truth_values.result c.args.sp.now c.put_truth_values.new.sp c.args.m.now c.args.at c.args.i c.in-Truth.slot c.args.xs.now is (λ f. c.put_truth_values.ensures.ok c.args.m.now c.args.at f)

pub returns-in-Chunks-clause-ok : goal.returns-in-Chunks-clause-ok
returns-in-Chunks-clause-ok c =
    let is = subst (λ (d : standing.Standing). IsStanding c.args.sp.now c.args.m.now c.args.at.present c.args.at.flip c.args.i d) c.in-Chunks.is c.requires.standing in
    gathered_put c.put_gathered.result c.layers_are_apart.ensures c.args.sp.now c.put_gathered.new.sp c.args.m.now c.args.at c.args.i c.in-Chunks.first c.in-Chunks.values c.args.xs.now is c.requires.chunk
    (subst (λ (vs : List Value). OnOk c.put_gathered.result (PutsSet c.args.sp.now c.put_gathered.new.sp (gathered_set c.args.sp.now c.in-Chunks.first vs c.args.xs.now))) c.as_slice.ensures c.put_gathered.ensures.ok)
