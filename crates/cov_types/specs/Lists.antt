-- The first faults of the lists of a model, in the order of the walk.
use Rattle.std.specs.Prelude.{List, ◌++◌, map, Option, Some}
use Rattle.cov_syntax.specs.declared.fault.ModelFault.{ModelFault}
use Rattle.cov_model.specs.declared.model.Model.{Model}
use Rattle.cov_model.specs.Kinds.{Kinds}
use Rattle.cov_model.specs.Settled.{assign_fault, chosen, chosen_next, moving, steady, timed, whole_fault}
use Rattle.cov_model.specs.Walk.{truth}

-- of the conditions on states
abbrev pub state_faults : Kinds → Model → List (Option ModelFault)
state_faults ks m = map (whole_fault ks steady (Some truth)) m.inits ++ map (whole_fault ks steady (Some truth)) m.invars

-- of the assignments
abbrev pub assign_faults : Kinds → Model → List (Option ModelFault)
assign_faults ks m = map (assign_fault ks chosen) m.nows ++ map (assign_fault ks chosen) m.firsts ++ map (assign_fault ks chosen_next) m.nexts

-- of the conditions on steps and paths, and of the specifications
abbrev pub path_faults : Kinds → Model → List (Option ModelFault)
path_faults ks m = map (whole_fault ks moving (Some truth)) m.trans ++ map (whole_fault ks steady (Some truth)) m.fair ++ map (whole_fault ks timed (Some truth)) m.specs
