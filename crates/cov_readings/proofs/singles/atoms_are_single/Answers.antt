use Rattle.std.proofs.Common.{[], ◌∷◌, Some, refl}
use Rattle.cov_model.specs.Settled.{kinds_of, timed}
use Rattle.cov_model.specs.Walk.{judged, truth, kind_fault}
use Rattle.cov_model.proofs.Tied.{first_none}
use Rattle.cov_readings.proofs.Single.{no_set}
use Rattle.cov_readings.proofs.singles.atoms_are_single.Goals as goal

pub returns : goal.returns
returns c = λ m w e a. let ks = kinds_of m in no_set ks e timed refl (first_none ((judged ks e).fault timed) (kind_fault (Some truth) (judged ks e) ∷ []) a.no_fault).0
