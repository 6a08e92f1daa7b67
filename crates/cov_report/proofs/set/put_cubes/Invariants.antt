use Rattle.std.proofs.Common.{◌≡◌, ◌++◌, IsTrue, take, drop}
use Rattle.cov_show.specs.Cubes.{counts, shown_vars}
use Rattle.cov_report.specs.Lines.{are_cubes, cube_lines}
use Rattle.cov_report.proofs.set.put_cubes.Given as goal

-- the lines so far
abbrev pub invariant-loop-c : goal.invariant-loop-c
invariant-loop-c l = record {
  lines : l.into ≡ l.initial.into ++ cube_lines l.indent (shown_vars l.m) (take l.c-index l.c-items);
  left : IsTrue (are_cubes (counts l.m.vars) (drop l.c-index l.c-items));
}
