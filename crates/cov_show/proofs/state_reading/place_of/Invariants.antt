use Rattle.std.proofs.Common.{◌≡◌, ℕ, ◌<◌, false, [], map, get_or}
use Rattle.std.specs.Str.{bytes_eq}
use Rattle.cov_show.specs.Cubes.{value_text}
use Rattle.cov_show.proofs.state_reading.place_of.Given as goal

-- no value before has this text
abbrev pub invariant-loop-i : goal.invariant-loop-i
invariant-loop-i l = (k : ℕ) → k < l.i → bytes_eq l.word (get_or (map (value_text l.names) l.values) k []) ≡ false
