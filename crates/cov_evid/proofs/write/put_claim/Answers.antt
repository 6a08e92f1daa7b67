use Rattle.std.proofs.Common.{codes}
use Rattle.std.proofs.lemmas.Result.{on_ok_weaker}
use Rattle.cov_evid.proofs.Writing.{number_text}
use Rattle.cov_evid.proofs.write.put_claim.Goals as goal

pub returns-in-Occurrence : goal.returns-in-Occurrence
returns-in-Occurrence c = rw c.in-Occurrence.is (on_ok_weaker c.put_number.result (λ h. number_text (codes "occurrence ") c.in-Occurrence.n c.args.into.now c.put_number.new.into h) c.put_number.ensures)
