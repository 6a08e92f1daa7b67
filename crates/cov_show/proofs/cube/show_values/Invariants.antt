use Rattle.std.proofs.Common.{◌≡◌, ◌++◌, [], map, drop, get_or}
use Rattle.cov_show.specs.Cubes.{value_text, comma_joined}
use Rattle.cov_show.proofs.CubeLemmas.{marked}
use Rattle.cov_show.proofs.cube.show_values.Given as goal

-- what is there and what is left make the whole
abbrev pub invariant-loop-i : goal.invariant-loop-i
invariant-loop-i l =
    let texts = map (λ i. get_or (map (value_text l.names) l.values) i []) l.class in
    l.into ++ marked l.mark (drop l.i-index texts) ≡ l.initial.into ++ comma_joined texts
