use Rattle.std.proofs.Common.{◌<◌, length, subst, rules}
use Rattle.cov_modules.specs.Ranks.{rank_of}
use Rattle.cov_modules.proofs.RankLemmas.{less-holds-none}
use Rattle.cov_modules.proofs.recursion.contains.Goals as goal

pub returns-then-rank_of : goal.returns-then-rank_of
returns-then-rank_of c =
    less-holds-none c.args.p.now c.args.ranks.now c.requires.ranks (length c.args.p.now.modules) c.args.from c.args.to
    (subst (λ names. rank_of names c.args.ranks.now c.args.from < rank_of names c.args.ranks.now c.args.to) c.requires.modules (search rules))
