use Rattle.cov_sym.proofs.Deep.{can_be_read}
use Rattle.cov_sym.proofs.atoms.put_reading.Goals as goal

pub put_condition-requires-clause-expression : goal.put_condition-requires-clause-expression
put_condition-requires-clause-expression c =
    can_be_read c.args.m.now c.args.e.now (c.expressions_are_shallow.ensures.listed c.args.m.now) c.expressions_are_shallow.ensures.constants c.requires.atom.stands

pub put_condition-requires-clause-single : goal.put_condition-requires-clause-single
put_condition-requires-clause-single c = c.atoms_are_single.ensures c.args.m.now c.model-model.ensures.formed c.args.e.now c.requires.atom
