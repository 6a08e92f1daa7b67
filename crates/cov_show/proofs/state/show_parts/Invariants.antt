use Rattle.std.proofs.Common.{◌≡◌, ◌++◌, IsTrue, drop}
use Rattle.cov_model.specs.States.{fits}
use Rattle.cov_show.specs.Cubes.{comma_joined}
use Rattle.cov_show.proofs.CubeLemmas.{marked}
use Rattle.cov_show.proofs.StateTexts.{parts_of}
use Rattle.cov_show.proofs.state.show_parts.Given as goal

-- what is there and what is left make the whole
abbrev pub invariant-loop-i : goal.invariant-loop-i
invariant-loop-i l = record {
  left : l.into ++ marked l.mark (parts_of l.m.names (drop l.i l.m.vars) (drop l.i l.s)) ≡ l.initial.into ++ comma_joined (parts_of l.m.names l.m.vars l.s);
  places : IsTrue (fits (drop l.i l.m.vars) (drop l.i l.s));
}
