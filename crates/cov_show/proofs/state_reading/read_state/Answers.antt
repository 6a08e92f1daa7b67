use Rattle.std.proofs.Common.{List, IsTrue, IfOk, subst}
use Rattle.cov_model.specs.declared.model.Var.{Var}
use Rattle.cov_show.specs.States.{are_small}
use Rattle.cov_show.proofs.FormedStates.{few_values, Answers, read_is, read_only}
use Rattle.cov_show.proofs.state_reading.read_state.Goals as goal

pub read_values-requires : goal.read_values-requires
read_values-requires c = record { few = few_values c.args.m.now c.as_slice.result.now c.requires.formed c.as_slice.ensures }

pub returns-clause-ok : goal.returns-clause-ok
returns-clause-ok c =
    read_is c.args.m.now c.args.text.now c.read_values.result
    (subst (λ (xs : List Var). Answers c.args.m.now xs c.args.text.now c.read_values.result) c.as_slice.ensures c.read_values.ensures.told)

pub returns-clause-only : goal.returns-clause-only
returns-clause-only c = λ s typed text.
    read_only c.args.m.now c.args.text.now c.read_values.result s c.requires.formed c.len-names.ensures.distinct
    (subst (λ (xs : List Var). Answers c.args.m.now xs c.args.text.now c.read_values.result) c.as_slice.ensures c.read_values.ensures.told)
    (subst (λ (xs : List Var). IfOk c.read_values.result (λ t. IsTrue (are_small xs t))) c.as_slice.ensures c.read_values.ensures.small) typed text
