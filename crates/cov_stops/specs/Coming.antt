-- The instances that a stop declares, as they are put off.
use Rattle.std.specs.Prelude.{ℕ, ◌+◌, List, [], ◌∷◌, ◌++◌, map, length, count_by}
use Rattle.std.specs.Option.{option_to_list}
use Rattle.cov_syntax.specs.declared.program.TypeTree.TheVariants as type
use Rattle.cov_syntax.specs.declared.program.Section.{Section}
use Rattle.cov_syntax.specs.declared.program.Section.TheVariants as section
use Rattle.cov_modules.specs.Names.{place_of}
use Rattle.cov_stops.specs.declared.put_off.PutOff.{PutOff}
use Rattle.cov_stops.specs.Counted.{becomes_define}

-- the instance that a section declares, by the names of the modules, the number of the stop, the section's place, and the place among the children
abbrev pub put_off_at : List ℕ → ℕ → ℕ → ℕ → Section → List PutOff
put_off_at names caller i place (section.Decl name (type.Instance from given) at) =
    map (λ (k : ℕ). record { «module» = k; caller = caller; section = i; place = place; defines = count_by becomes_define given }) (option_to_list (place_of names from.name))
put_off_at names caller i place _ = []

-- the instances that the sections declare, from one place on
abbrev pub put_off_from : List ℕ → ℕ → ℕ → ℕ → List Section → List PutOff
put_off_from names caller i place [] = []
put_off_from names caller i place (s ∷ ss) =
    let here = put_off_at names caller i place s in
    here ++ put_off_from names caller (i + 1) (place + length here) ss

-- what stands among the children where no number is known yet
abbrev pub no_number : PutOff → ℕ
no_number x = 0
