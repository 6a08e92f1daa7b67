-- The model with its DEFINEs in order of dependence and its kinds settled, or its first fault.
use Rattle.std.specs.Prelude.{List, ◌∷◌, ◌++◌, map, Option, Some, None, Result, Ok, Err}
use Rattle.cov_syntax.specs.declared.fault.ModelFault.{ModelFault}
use Rattle.cov_model.specs.declared.model.Model.{Model}
use Rattle.cov_model.specs.Walk.{first}
use Rattle.cov_model.specs.Types.{type_fault, bits_fault}
use Rattle.cov_model.specs.Order.{circular, ordered}
use Rattle.cov_model.specs.Settled.{walk_fault, settled_model}
use Rattle.cov_model.specs.Written.{formula_fault}

-- the first fault: types, bits, circles, the walk over the model in order of dependence, sizes of formulas
abbrev pub kinds_fault : Model → Option ModelFault
kinds_fault m = first (
    map type_fault m.vars
    ++ bits_fault 0 m.vars
    ∷ circular m.defines
    ∷ walk_fault (ordered m)
    ∷ map formula_fault m.specs)

-- the model, or its fault where there is one
abbrev pub unless_fault : Option ModelFault → Model → Result Model ModelFault
unless_fault None m = Ok m
unless_fault (Some f) m = Err f

-- the model that the kinds give
abbrev pub kinds : Model → Result Model ModelFault
kinds m = unless_fault (kinds_fault m) (settled_model (ordered m))
