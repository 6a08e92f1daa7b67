use Rattle.std.proofs.Common.{take, ap, ◌∙◌}
use Rattle.cov_show.proofs.StateReading.{word-front}
use Rattle.cov_show.proofs.state_reading.word.Goals as goal

pub returns-clause-value : goal.returns-clause-value
returns-clause-value c = ap (λ n. take n c.args.text.now) c.word_len.ensures.value ∙ word-front c.args.text.now
