use Rattle.std.proofs.Common.{inr}
use Rattle.cov_syntax.specs.declared.tree.Expr.{Expr}
use Rattle.cov_model.specs.declared.model.Model.{Model}
use Rattle.cov_model.specs.Atoms.{StandsInModel}
use Rattle.cov_conditions.specs.Conditions.{IsRead}
use Rattle.cov_sym.proofs.Deep.{can_be_read}
use Rattle.cov_sym.proofs.Cited.{nows_there, firsts_there, nexts_there}
use Rattle.cov_sym.proofs.lists.readable.Goals as goal

pub returns-clause-readable : goal.returns-clause-readable
returns-clause-readable c =
    let m : Model = c.args.m.now in
    let formed = c.model-model.ensures.formed in
    let reads : (e : Expr) → StandsInModel m e → IsRead m e = λ e s. can_be_read m e (c.expressions_are_shallow.ensures.listed m) c.expressions_are_shallow.ensures.constants (inr s) in
    record {
      inits = λ i e h. (reads e (c.lists_stand.ensures.inits m i e h), c.conditions_are_single.ensures.inits m formed i e h);
      invars = λ i e h. (reads e (c.lists_stand.ensures.invars m i e h), c.conditions_are_single.ensures.invars m formed i e h);
      trans = λ i e h. (reads e (c.lists_stand.ensures.trans m i e h), c.conditions_are_single.ensures.trans m formed i e h);
      fair = λ i e h. (reads e (c.lists_stand.ensures.fair m i e h), c.conditions_are_single.ensures.fair m formed i e h);
      nows = λ i a h. (nows_there m formed i a h, reads a.body (c.lists_stand.ensures.nows m i a h));
      firsts = λ i a h. (firsts_there m formed i a h, reads a.body (c.lists_stand.ensures.firsts m i a h));
      nexts = λ i a h. (nexts_there m formed i a h, reads a.body (c.lists_stand.ensures.nexts m i a h));
    }
