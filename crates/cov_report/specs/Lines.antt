-- The lines of a report.
use Rattle.std.specs.Prelude.{ℕ, ◌+◌, Bool, true, false, List, [], ◌∷◌, ◌++◌, flat_map, replicate, codes}
use Rattle.std.specs.List.{list_all}
use Rattle.cov_syntax.specs.Tokens.{Text}
use Rattle.cov_model.specs.declared.model.CubeList.{CubeList}
use Rattle.cov_show.specs.Cubes.{Shown, is_cube, cube_text}

-- each is a cube of variables with so many values
abbrev pub are_cubes : List ℕ → List (List (List ℕ)) → Bool
are_cubes ns cubes = list_all (is_cube ns) cubes

-- a line, so many spaces deep
abbrev pub line : ℕ → Text → Text
line indent text = replicate indent 32 ++ text ++ codes "\n"

-- a line for each cube
abbrev pub cube_lines : ℕ → List Shown → List (List (List ℕ)) → Text
cube_lines indent xs cubes = flat_map (λ c. line indent (cube_text xs c)) cubes

-- the first cubes of a set, and whether there are others; the empty set has a line of its own
abbrev pub list_lines : ℕ → List Shown → List (List (List ℕ)) → Bool → Text
list_lines indent xs cubes true = cube_lines indent xs cubes ++ line indent (codes "more")
list_lines indent xs [] false = line indent (codes "none")
list_lines indent xs (c ∷ cs) false = cube_lines indent xs (c ∷ cs)

-- a set under a title: its cubes are two spaces deeper
abbrev pub set_lines : ℕ → Text → List Shown → CubeList → Text
set_lines indent title xs list = line indent title ++ list_lines (indent + 2) xs list.cubes list.more
