use Rattle.std.proofs.Common.{◌≡◌, ◌≤◌, length, drop}
use Rattle.cov_model.specs.Kinds.{united}
use Rattle.cov_kinds.proofs.join.united.Given as goal

-- what is left completes what is found
abbrev pub invariant-loop-x : goal.invariant-loop-x
invariant-loop-x l = record {
  whole : united l.values (drop l.x-index l.others) ≡ united l.fn.values l.others;
  few : length l.values ≤ 1024;
}
