use Rattle.cov_kinds.specs.Seen.{seen}
use Rattle.cov_kinds.proofs.Widths.{joinable_split, few_values}
use Rattle.cov_kinds.proofs.join.join.Goals as goal

pub united-requires : goal.united-requires
united-requires c =
    let e = c.in_ok-values.ensures in
    rw e (few_values (seen c.args.left) (joinable_split (seen c.args.left) c.requires.left).1)
