-- Numbers of flat names and of nodes, counted on the modules from the deepest ones up.
use Rattle.std.specs.Prelude.{ℕ, zero, suc, ◌+◌, Bool, ◌||◌, nat_lt, if◌then◌else◌, List, [], ◌∷◌, map, is_some, slice_get, unwrap_or}
use Rattle.cov_syntax.specs.declared.program.TypeTree.TheVariants as type
use Rattle.cov_syntax.specs.declared.program.Section.{Section}
use Rattle.cov_syntax.specs.declared.program.Section.TheVariants as section
use Rattle.cov_syntax.specs.declared.program.ModuleTree.{ModuleTree}
use Rattle.cov_syntax.specs.declared.program.Program.{Program}
use Rattle.cov_syntax.specs.declared.tree.Expr.{Expr}
use Rattle.cov_modules.specs.declared.size.Size.{Size}
use Rattle.cov_modules.specs.Modules.{Declaration, instances}
use Rattle.cov_modules.specs.Things.{path_of}
use Rattle.cov_modules.specs.Counts.{most_names, most_nodes, nodes}
use Rattle.cov_modules.specs.Ranks.{children}

-- so many names and nodes
abbrev pub size : ℕ → ℕ → Size
size names nodes = record { names = names; nodes = nodes }

-- two sizes together
abbrev pub both : Size → Size → Size
both a b = size (a.names + b.names) (a.nodes + b.nodes)

-- all sizes together
abbrev pub total : List Size → Size
total [] = size 0 0
total (a ∷ as') = both a (total as')

-- one of the limits is passed
abbrev pub is_over : Size → Bool
is_over a = nat_lt most_names a.names || nat_lt most_nodes a.nodes

-- a size within the limits, and one for all others
abbrev pub capped : Size → Size
capped a = if is_over a then size 4097 1000001 else a

-- what a section gives to the flat model, but for an instance
abbrev pub section_size : Section → Size
section_size (section.Decl name (type.Instance from given) place) = size 0 0
section_size (section.Decl name kind place) = size 1 0
section_size (section.Define name body) = size 1 (nodes body)
section_size (section.Assign when target body) = size 0 (nodes body)
section_size (section.Cond kind body) = size 0 (nodes body)

-- an argument that is no path gives a DEFINE
abbrev pub argument_size : Expr → Size
argument_size e = if is_some (path_of e) then size 0 0 else size 1 (nodes e)

-- an instance has a name, and its arguments
abbrev pub given_size : Declaration → Size
given_size d = both (size 1 0) (total (map argument_size d.given))

-- what a module gives without its instances
abbrev pub own_size : ModuleTree → Size
own_size m = total (map section_size m.sections)

-- what the instances of a module give, without what their modules give
abbrev pub instances_size : ModuleTree → Size
instances_size m = total (map given_size (instances m))

-- what a module gives with its instances, but without what their modules give
abbrev pub whole_size : ModuleTree → Size
whole_size m = both (own_size m) (instances_size m)

-- the size at a place
abbrev pub size_at : List Size → ℕ → Size
size_at sizes i = unwrap_or (slice_get sizes i) (size 0 0)

-- a size with those at some places
abbrev pub grown : List Size → Size → List ℕ → Size
grown sizes whole below = capped (both whole (total (map (size_at sizes) below)))

-- each size with those at its places
abbrev pub all_grown : List Size → List Size → List (List ℕ) → List Size
all_grown sizes (w ∷ ws) (c ∷ cs) = grown sizes w c ∷ all_grown sizes ws cs
all_grown sizes _ _ = []

-- so many times
abbrev pub grown_times : ℕ → List Size → List Size → List (List ℕ) → List Size
grown_times zero sizes wholes cs = sizes
grown_times (suc k) sizes wholes cs = grown_times k (all_grown sizes wholes cs) wholes cs

-- the sizes of the modules without their instances, up to the limits
abbrev pub own_sizes : Program → List Size
own_sizes p = map (λ (m : ModuleTree). capped (own_size m)) p.modules

-- the sizes of the modules with their instances, up to the limits
abbrev pub whole_sizes : Program → List Size
whole_sizes p = map (λ (m : ModuleTree). capped (whole_size m)) p.modules

-- the sizes of the modules with so many levels of instances below them, up to the limits
abbrev pub sizes : Program → ℕ → List Size
sizes p levels = grown_times levels (own_sizes p) (whole_sizes p) (children p)
