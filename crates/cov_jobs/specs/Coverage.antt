-- Why there is no report on covered states.
use Rattle.std.specs.Prelude.{◌≡◌, ℕ, List}
use Rattle.cov_coverage.specs.Names.{IsFirstUnknown}
use Rattle.cov_model.specs.declared.model.Model.{Model}
use Rattle.cov_space.specs.Meters.{MeterOf}
use Rattle.cov_sym.specs.Systems.{IsOutOfNodes}
use Rattle.cov_jobs.specs.declared.fault.AskFault.TheVariants.{UnknownSignal}
use Rattle.cov_jobs.specs.declared.fault.JobFault.{JobFault}
use Rattle.cov_jobs.specs.declared.fault.JobFault.TheVariants.{Asked, Nodes, Memory}

-- the model lacks a signal, or the nodes are too few, which the meter was told
abbrev pub IsCoverageFault : Model → List (List ℕ) → ℕ → MeterOf → MeterOf → JobFault → Type 0
IsCoverageFault m names nodes old new (Asked (UnknownSignal place)) = IsFirstUnknown m names place × (new ≡ old)
IsCoverageFault m names nodes old new (Nodes full) = ((place : ℕ) → IsFirstUnknown m names place → ⊥) × IsOutOfNodes m nodes old new full
IsCoverageFault m names nodes old new Memory = new ≡ old
