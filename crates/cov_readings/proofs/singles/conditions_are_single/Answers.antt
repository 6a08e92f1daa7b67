use Rattle.std.proofs.Common.{refl}
use Rattle.cov_model.specs.Settled.{kinds_of, steady, moving}
use Rattle.cov_readings.proofs.Single.{no_set}
use Rattle.cov_readings.proofs.WholeLists.{all_faultless}
use Rattle.cov_readings.proofs.singles.conditions_are_single.Goals as goal

pub returns-clause-defines : goal.returns-clause-defines
returns-clause-defines c = λ m w i d g. no_set (kinds_of m) d.body steady refl ((all_faultless m w).defines i d g).none

pub returns-clause-inits : goal.returns-clause-inits
returns-clause-inits c = λ m w i e g. no_set (kinds_of m) e steady refl ((all_faultless m w).inits i e g)

pub returns-clause-invars : goal.returns-clause-invars
returns-clause-invars c = λ m w i e g. no_set (kinds_of m) e steady refl ((all_faultless m w).invars i e g)

pub returns-clause-trans : goal.returns-clause-trans
returns-clause-trans c = λ m w i e g. no_set (kinds_of m) e moving refl ((all_faultless m w).trans i e g)

pub returns-clause-fair : goal.returns-clause-fair
returns-clause-fair c = λ m w i e g. no_set (kinds_of m) e steady refl ((all_faultless m w).fair i e g)
