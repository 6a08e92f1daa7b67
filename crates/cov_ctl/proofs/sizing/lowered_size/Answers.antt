use Rattle.std.proofs.Common.{◌∙◌, ap, min, ℕ}
use Rattle.cov_ctl.proofs.SizeLemmas.{counted}
use Rattle.cov_ctl.proofs.sizing.lowered_size.Goals as goal

pub returns : goal.returns
returns c = c.count.ensures.size ∙ ap (λ (n : ℕ). min n 4097) (counted c.args.e.now).nodes
