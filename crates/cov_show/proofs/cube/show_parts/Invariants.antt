use Rattle.std.proofs.Common.{◌≡◌, ◌++◌, IsTrue, drop}
use Rattle.cov_show.specs.Cubes.{comma_joined, is_cube, counts}
use Rattle.cov_show.proofs.CubeLemmas.{marked, parts_of}
use Rattle.cov_show.proofs.cube.show_parts.Given as goal

-- what is there and what is left make the whole
abbrev pub invariant-loop-i : goal.invariant-loop-i
invariant-loop-i l = record {
  left : l.into ++ marked l.mark (parts_of l.m.names (drop l.i l.m.vars) (drop l.i l.c)) ≡ l.initial.into ++ comma_joined (parts_of l.m.names l.m.vars l.c);
  classes : IsTrue (is_cube (counts (drop l.i l.m.vars)) (drop l.i l.c));
}
