use Rattle.cov_show.proofs.WholeTexts.{text_again}
use Rattle.cov_show.proofs.laws.read_again.Goals as goal

pub returns : goal.returns
returns c = λ names e distinct tree named. text_again names e distinct tree named
