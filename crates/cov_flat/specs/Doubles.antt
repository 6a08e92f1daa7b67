-- Second assignments, by the numbers of the variables.
use Rattle.std.specs.Prelude.{ℕ, Bool, true, false, ◌&&◌, ◌||◌, ◌==◌, if◌then◌else◌, List, [], ◌∷◌, map, Option, Some, None}
use Rattle.std.specs.List.{list_any, flat_map}
use Rattle.cov_syntax.specs.declared.tree.Span.{Span}
use Rattle.cov_syntax.specs.declared.program.When.{When}
use Rattle.cov_syntax.specs.declared.program.When.TheVariants as when
use Rattle.cov_syntax.specs.declared.program.Section.{Section}
use Rattle.cov_syntax.specs.declared.program.Program.{Program}
use Rattle.cov_modules.specs.Things.{Thing, Instance}
use Rattle.cov_modules.specs.Walk.{Stop}
use Rattle.cov_modules.specs.FlatLists.{Index, Assignment, assign_of, same_when}
use Rattle.cov_modules.specs.NameFaults.{is_variable, same_target}
use Rattle.cov_flat.specs.declared.doubles.Assigned.{Assigned}
use Rattle.cov_flat.specs.declared.forms.Forms.{Forms}
use Rattle.cov_flat.specs.Reading.{variable_of, flat_index}

-- An assignment by its form and its target.
pub record Mark : Type 0 where
  pub when : When
  pub target : Option Thing
  pub place : Span

-- an assignment to a variable
abbrev pub mark_at : Assignment → List Mark
mark_at a = if is_variable a.target then record { when = a.when; target = a.target; place = a.place } ∷ [] else []

-- the assignment to a variable that a section of an instance is
abbrev pub marks_in : Program → Instance → Section → List Mark
marks_in p x entry = flat_map mark_at (assign_of p x entry)

-- the assignments to variables of a stop
abbrev pub marks_of : Program → Stop → List Mark
marks_of p s = flat_map (marks_in p s.here) s.here.from.sections

-- an assignment whose variable has a number
abbrev pub mark_of : Index → Assigned → Mark
mark_of ix a = record { when = a.when; target = variable_of ix (Some a.var); place = a.place }

-- assignments whose variables have numbers
abbrev pub marks : Program → List Assigned → List Mark
marks p as' = map (mark_of (flat_index p)) as'

-- two forms of assignment that one variable may not have
abbrev pub forms_exclude : When → When → Bool
forms_exclude a b = same_when a b || same_when a when.Now || same_when b when.Now

-- the first that one before it excludes, by the things that are assigned
abbrev pub double_mark : List Mark → List Mark → Option Span
double_mark before [] = None
double_mark before (a ∷ rest) = if list_any (λ (b : Mark). same_target a.target b.target && forms_exclude a.when b.when) before then Some a.place else double_mark (a ∷ before) rest

-- the first that one before it excludes, by the numbers of the variables
abbrev pub double_number : List Assigned → List Assigned → Option Span
double_number before [] = None
double_number before (a ∷ rest) = if list_any (λ (b : Assigned). (a.var == b.var) && forms_exclude a.when b.when) before then Some a.place else double_number (a ∷ before) rest

-- no form
abbrev pub no_form : Forms
no_form = record { now = false; first = false; next = false }

-- the forms with one more
abbrev pub with_form : When → Forms → Forms
with_form when.Now f = record f { now = true }
with_form when.First f = record f { first = true }
with_form when.Next f = record f { next = true }

-- the forms in which a variable is assigned
abbrev pub forms_of : List Assigned → ℕ → Forms
forms_of [] i = no_form
forms_of (a ∷ rest) i = if a.var == i then with_form a.when (forms_of rest i) else forms_of rest i

-- one of the forms excludes this one
abbrev pub excludes_form : Forms → When → Bool
excludes_form f when.Now = f.now || f.first || f.next
excludes_form f when.First = f.now || f.first
excludes_form f when.Next = f.now || f.next
