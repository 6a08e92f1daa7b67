-- Ranks of modules, which never rise from a module to those that it contains.
use Rattle.std.specs.Prelude.{ℕ, Bool, nat_le, slice_index, List, map, Option, Some, None}
use Rattle.std.specs.List.{list_all, flat_map}
use Rattle.std.specs.Option.{option_to_list}
use Rattle.cov_syntax.specs.declared.program.ModuleTree.{ModuleTree}
use Rattle.cov_syntax.specs.declared.program.Program.{Program}
use Rattle.cov_modules.specs.Names.{place_of}
use Rattle.cov_modules.specs.Modules.{module_names, Declaration, instances}

-- the rank at a place, and 0 without one
abbrev pub rank_at : List ℕ → Option ℕ → ℕ
rank_at ranks (Some k) = slice_index ranks k
rank_at ranks None = 0

-- the rank of the module of a name
abbrev pub rank_of : List ℕ → List ℕ → ℕ → ℕ
rank_of names ranks i = rank_at ranks (place_of names i)

-- the module of an instance has at most this rank
abbrev pub is_at_most : List ℕ → List ℕ → ℕ → Declaration → Bool
is_at_most names ranks rank d = nat_le (rank_of names ranks d.from.name) rank

-- no instance has a greater rank than the module that declares it
abbrev pub never_rises_in : List ℕ → List ℕ → ModuleTree → Bool
never_rises_in names ranks m = list_all (is_at_most names ranks (rank_of names ranks m.name.name)) (instances m)

-- so it is in every module
abbrev pub never_rises : Program → List ℕ → Bool
never_rises p ranks = list_all (never_rises_in (module_names p) ranks) p.modules

-- the place of the module of an instance
abbrev pub child : List ℕ → Declaration → List ℕ
child names d = option_to_list (place_of names d.from.name)

-- the places of the modules of a module's instances
abbrev pub children_of : List ℕ → ModuleTree → List ℕ
children_of names m = flat_map (child names) (instances m)

-- for each module the places of the modules of its instances
abbrev pub children : Program → List (List ℕ)
children p = map (children_of (module_names p)) p.modules
