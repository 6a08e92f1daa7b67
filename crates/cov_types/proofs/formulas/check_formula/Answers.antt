use Rattle.std.proofs.Common.{◌≡◌, Some, sym, ap, ◌∙◌}
use Rattle.cov_syntax.specs.declared.fault.ModelFault.{ModelFault}
use Rattle.cov_types.proofs.LoweredSizes.{large, small}
use Rattle.cov_types.proofs.formulas.check_formula.Goals as goal

pub returns-then-size-gt-MOST_NODES-clause-err : goal.returns-then-size-gt-MOST_NODES-clause-err
returns-then-size-gt-MOST_NODES-clause-err c =
    large c.args.e.now c.lowered_size-size.result c.lowered_size-size.ensures c.if-size-gt-MOST_NODES.true ∙ ap (λ (f : ModelFault). Some f) (sym c.at.ensures)

pub returns-clause-none : goal.returns-clause-none
returns-clause-none c = small c.args.e.now c.lowered_size-size.result c.lowered_size-size.ensures c.if-size-gt-MOST_NODES.false
