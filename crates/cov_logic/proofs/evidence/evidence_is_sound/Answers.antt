use Rattle.cov_logic.proofs.Refutations.{sound_law}
use Rattle.cov_logic.proofs.evidence.evidence_is_sound.Goals as goal

pub returns : goal.returns
returns g c = sound_law _ _
