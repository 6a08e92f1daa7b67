use Rattle.std.proofs.Common.{◌∙◌, ap}
use Rattle.cov_modules.specs.Ranks.{never_rises}
use Rattle.cov_modules.proofs.RankLemmas.{never_rises-none}
use Rattle.cov_modules.proofs.ranks.falling_ranks.Goals as goal

pub returns-else-never_rises : goal.returns-else-never_rises
returns-else-never_rises c = ap (never_rises c.args.p.now) c.new.ensures.items ∙ never_rises-none c.args.p.now
