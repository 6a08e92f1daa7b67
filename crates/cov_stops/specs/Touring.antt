-- What is so of a flat walk on its way.
use Rattle.std.specs.Prelude.{◌≡◌, ◌<◌, ◌≤◌, ◌⊎◌, ℕ, ◌+◌, List, [], ◌++◌, map, length, take, drop, slice_get, true, Some}
use Rattle.std.specs.List.{flat_map, zip, AllByRecursion}
use Rattle.std.specs.Option.{option_to_list}
use Rattle.cov_syntax.specs.declared.program.Program.{Program}
use Rattle.cov_modules.specs.Names.{has}
use Rattle.cov_modules.specs.Modules.{module_named}
use Rattle.cov_modules.specs.Walk.{Stop, stops_below, walk_from, walk}
use Rattle.cov_modules.specs.FlatLists.{flat_vars, define_of_argument, flat_defines}
use Rattle.cov_stops.specs.declared.stops.Entry.{Entry}
use Rattle.cov_stops.specs.declared.put_off.PutOff.{PutOff}
use Rattle.cov_stops.specs.Table.{IsDeclaredAt}

-- the walk from a stop
abbrev pub walk_at : Program → Stop → List Stop
walk_at p s = walk_from p (length p.modules) s

-- the stops right below some stops
abbrev pub all_below : Program → List Stop → List Stop
all_below p w = flat_map (stops_below p) w

-- the stop of each place among the children: that at `main`, then those right below each stop
abbrev pub child_stops : Program → List Stop
child_stops p = take 1 (walk p) ++ all_below p (walk p)

-- the stop of what is put off
abbrev pub stop_of : Program → PutOff → List Stop
stop_of p x = option_to_list (slice_get (child_stops p) x.place)

-- the DEFINEs that the arguments of a stop become
abbrev pub argument_defines : Stop → ℕ
argument_defines s = length (flat_map (define_of_argument s) (zip s.here.from.formals s.given))

-- the entry of what was put off, with so many variables, DEFINEs and places among the children before it
abbrev pub entry_of : PutOff → ℕ → ℕ → ℕ → Entry
entry_of x vars defines children = record { «module» = x.module; caller = x.caller; section = x.section; first_var = vars; first_define = defines; first_child = children }

-- What is put off tells its stop, before the stop of this number.
pub record IsPutOff (p : Program) (k : ℕ) (x : PutOff) : Type 0 where
  pub stop : Stop
  pub there : slice_get (child_stops p) x.place ≡ Some stop
  pub named : module_named p stop.here.from.name.name ≡ Some stop.here.from
  pub «module» : slice_get p.modules x.module ≡ Some stop.here.from
  pub caller : Stop
  pub called_by : slice_get (walk p) x.caller ≡ Some caller
  pub calls : caller.here ≡ stop.caller
  pub declared : ((k ≡ 0) × (x.caller ≡ 0) × (x.section ≡ 0) × (stop.given ≡ [])) ⊎ ((x.caller < k) × IsDeclaredAt p x.section stop)
  pub defines : x.defines ≡ argument_defines stop

-- An entry tells the stop of its number, but for the numbers of its own instances.
pub record IsNoted (p : Program) (k : ℕ) (e : Entry) (s : Stop) : Type 0 where
  pub «module» : slice_get p.modules e.module ≡ Some s.here.from
  pub named : module_named p s.here.from.name.name ≡ Some s.here.from
  pub caller : Stop
  pub called_by : slice_get (walk p) e.caller ≡ Some caller
  pub calls : caller.here ≡ s.caller
  pub declared : ((k ≡ 0) × (s.given ≡ [])) ⊎ ((e.caller < k) × IsDeclaredAt p e.section s)
  pub at_main : k ≡ 0 → (e.caller ≡ 0) × (e.section ≡ 0)
  pub vars_before : e.first_var ≡ length (flat_vars (take k (walk p)))
  pub defines_before : e.first_define ≡ length (flat_defines (take k (walk p)))
  pub children_from : e.first_child ≡ 1 + length (all_below p (take k (walk p)))

-- At a place among the children stands the number of its stop, for which the place was kept before.
pub record IsNumbered (p : Program) (children : List ℕ) (i : ℕ) : Type 0 where
  pub number : ℕ
  pub there : slice_get children i ≡ Some number
  pub walked : slice_get (walk p) number ≡ slice_get (child_stops p) i
  pub before : i < 1 + length (all_below p (take number (walk p)))

-- What a flat walk knows on its way: the walks of what is put off are left, and each place among the children has its number or is that of something put off.
pub record IsTouring (p : Program) (entries : List Entry) (children : List ℕ) (put_off : List PutOff) (vars defines : ℕ) : Type 0 where
  pub left : drop (length entries) (walk p) ≡ flat_map (walk_at p) (flat_map (stop_of p) put_off)
  pub within : length entries ≤ length (walk p)
  pub count : length entries + length put_off ≡ length children
  pub kept : length children ≡ 1 + length (all_below p (take (length entries) (walk p)))
  pub numbers : (i : ℕ) → i < length children → IsNumbered p children i ⊎ (has (map (λ (x : PutOff). x.place) put_off) i ≡ true)
  pub coming : AllByRecursion (IsPutOff p (length entries)) put_off
  pub placed : AllByRecursion (λ (x : PutOff). x.place < length children) put_off
  pub noted : (k : ℕ) → (e : Entry) → (s : Stop) → slice_get entries k ≡ Some e → slice_get (walk p) k ≡ Some s → IsNoted p k e s
  pub vars_so_far : vars ≡ length (flat_vars (take (length entries) (walk p)))
  pub defines_so_far : defines ≡ length (flat_defines (take (length entries) (walk p)))

-- The numbers of the next entry can be written, and it has its place among the children.
pub record HasRoom (x : PutOff) (entries : List Entry) (children : List ℕ) (vars defines : ℕ) : Type 0 where
  pub number : length entries < 4294967296
  pub place : x.place < length children
  pub «module» : x.module < 4294967296
  pub caller : x.caller < 4294967296
  pub section : x.section < 4294967296
  pub vars_before : vars < 4294967296
  pub defines_before : defines < 4294967296
  pub children_before : length children < 4294967296
