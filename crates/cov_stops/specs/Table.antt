-- The flat walk as a table.
use Rattle.std.specs.Prelude.{◌≡◌, ◌<◌, ◌≤◌, ◌⊎◌, ℕ, ◌+◌, List, [], ◌∷◌, length, take, slice_get, Some}
use Rattle.cov_syntax.specs.declared.tree.Span.{Span}
use Rattle.cov_syntax.specs.declared.program.Spelled.{Spelled}
use Rattle.cov_syntax.specs.declared.program.TypeTree.TheVariants as type
use Rattle.cov_syntax.specs.declared.program.Section.TheVariants as section
use Rattle.cov_syntax.specs.declared.program.Program.{Program}
use Rattle.cov_modules.specs.Modules.{Declaration, instances}
use Rattle.cov_modules.specs.Walk.{Stop, stop_in, walk}
use Rattle.cov_modules.specs.FlatLists.{flat_vars, flat_defines}
use Rattle.cov_stops.specs.declared.stops.Entry.{Entry}

-- The instances of the flat walk, and the numbers of their own instances, which stand together for each.
pub record StopTable : Type 0 where
  pub entries : List Entry
  pub children : List ℕ

-- A section of the caller declares the stop.
pub record IsDeclaredAt (p : Program) (i : ℕ) (s : Stop) : Type 0 where
  pub name : Spelled
  pub from : Spelled
  pub place : Span
  pub there : slice_get s.caller.from.sections i ≡ Some (section.Decl name (type.Instance from s.given) place)
  pub made : stop_in p s.caller (record { name = name; from = from; given = s.given }) ≡ s ∷ []

-- Where the number of an instance stands, and that it is the number of the stop that the declaration makes, behind its caller.
pub record IsChild (p : Program) (t : StopTable) (k : ℕ) (e : Entry) (s : Stop) (j : ℕ) (d : Declaration) : Type 0 where
  pub number : ℕ
  pub there : slice_get t.children (e.first_child + j) ≡ Some number
  pub stop : Stop
  pub walked : slice_get (walk p) number ≡ Some stop
  pub made : stop_in p s.here d ≡ stop ∷ []
  pub later : k < number

-- An entry tells the stop of its number.
pub record TellsStop (p : Program) (t : StopTable) (k : ℕ) (e : Entry) (s : Stop) : Type 0 where
  pub «module» : slice_get p.modules e.module ≡ Some s.here.from
  pub caller : Stop
  pub called_by : slice_get (walk p) e.caller ≡ Some caller
  pub calls : caller.here ≡ s.caller
  pub declared : ((k ≡ 0) × (s.given ≡ [])) ⊎ ((e.caller < k) × IsDeclaredAt p e.section s)
  pub at_main : k ≡ 0 → (e.caller ≡ 0) × (e.section ≡ 0)
  pub vars_before : e.first_var ≡ length (flat_vars (take k (walk p)))
  pub defines_before : e.first_define ≡ length (flat_defines (take k (walk p)))
  pub children : (j : ℕ) → (d : Declaration) → slice_get (instances s.here.from) j ≡ Some d → IsChild p t k e s j d

-- The table has an entry for each stop, which tells it.
pub record IsStopsOf (p : Program) (t : StopTable) : Type 0 where
  pub count : length t.entries ≡ length (walk p)
  pub few : length t.entries ≤ 4097
  pub some : 0 < length t.entries
  pub few_vars : length (flat_vars (walk p)) ≤ 4096
  pub few_defines : length (flat_defines (walk p)) ≤ 4096
  pub few_children : length t.children ≤ 4097
  pub tells : (k : ℕ) → (e : Entry) → (s : Stop) → slice_get t.entries k ≡ Some e → slice_get (walk p) k ≡ Some s → TellsStop p t k e s
