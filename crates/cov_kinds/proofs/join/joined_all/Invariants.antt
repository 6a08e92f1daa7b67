use Rattle.std.proofs.Common.{◌≡◌, IsTrue, map, drop}
use Rattle.cov_model.specs.Kinds.{join_all}
use Rattle.cov_kinds.specs.Seen.{seen, is_joinable}
use Rattle.cov_kinds.proofs.join.joined_all.Given as goal

-- what is left completes what is joined
abbrev pub invariant-loop-k : goal.invariant-loop-k
invariant-loop-k l = record {
  whole : join_all (seen l.all) (map seen (drop l.k-index l.others)) ≡ join_all (seen l.fn.first) (map seen l.others);
  fine : IsTrue (is_joinable (seen l.all));
}
