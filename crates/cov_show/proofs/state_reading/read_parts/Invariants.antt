use Rattle.std.proofs.Common.{◌≡◌, ◌≤◌, IsTrue, [], length, map, drop}
use Rattle.cov_show.specs.Cubes.{shown}
use Rattle.cov_show.specs.States.{told_parts, are_small}
use Rattle.cov_show.proofs.StateReading.{with_places}
use Rattle.cov_show.proofs.state_reading.read_parts.Given as goal

-- what is read and what is left make the whole
abbrev pub invariant-loop-x : goal.invariant-loop-x
invariant-loop-x l = record {
  left : with_places l.state (told_parts (map (shown l.names) (drop l.x-index l.vars)) l.mark l.at (drop l.at l.text)) ≡ told_parts (map (shown l.names) l.vars) [] 0 l.text;
  within : l.at ≤ length l.text;
  count : length l.state ≡ l.x-index;
  small : IsTrue (are_small l.vars l.state);
}
