-- What the stops and their sections give to the lists of the flat model.
use Rattle.std.specs.Prelude.{ℕ, ◌+◌, ◌-ℤ◌, ℤ, if◌then◌else◌, int_le, nat_abs, min, ◌++◌, ◌∷◌, [], List, map, filter, slice_get, Option, Some, None}
use Rattle.std.specs.List.{flat_map, zip}
use Rattle.std.specs.Option.{option_map_or}
use Rattle.cov_syntax.specs.declared.tree.Expr.{Expr}
use Rattle.cov_syntax.specs.declared.tree.Value.{Value}
use Rattle.cov_syntax.specs.declared.program.Spelled.{Spelled}
use Rattle.cov_syntax.specs.declared.program.TypeTree.{TypeTree}
use Rattle.cov_syntax.specs.declared.program.TypeTree.TheVariants as type
use Rattle.cov_syntax.specs.declared.program.When.{When}
use Rattle.cov_syntax.specs.declared.program.CondKind.{CondKind}
use Rattle.cov_syntax.specs.declared.program.Section.{Section}
use Rattle.cov_syntax.specs.declared.program.Program.{Program}
use Rattle.cov_model.specs.declared.model.Assign.{Assign}
use Rattle.cov_modules.specs.Names.{Dotted, text, spelled}
use Rattle.cov_modules.specs.Things.{Instance}
use Rattle.cov_modules.specs.Walk.{Stop}
use Rattle.cov_modules.specs.FlatLists.{FlatVar, FlatDefine, Assignment, range_values, values_of, var_of, define_of, define_of_argument, cond_of, assign_of, flat_assign, same_when, flat_expr}
use Rattle.cov_flat.specs.declared.variables.Variable.{Variable}
use Rattle.cov_flat.specs.declared.definitions.Definition.{Definition}
use Rattle.cov_flat.specs.Reading.{flat_index}

-- the rest of a name's text, each part behind a dot
abbrev pub dotted_rest : List (List ℕ) → Dotted → List ℕ
dotted_rest names [] = []
dotted_rest names (i ∷ is) = 46 ∷ text names i ++ dotted_rest names is

-- the integers of a range from one on, at most so many
abbrev pub range_from : ℤ → ℤ → ℕ → List Value
range_from low high room = if int_le low high then range_values low (min (nat_abs (high -ℤ low) + 1) room) else []

-- the values of a variable of this type; an instance is no variable
abbrev pub variable_values : TypeTree → Option (List Value)
variable_values (type.Instance from given) = None
variable_values kind = Some (values_of kind)

-- a variable with the text of its flat name
abbrev pub spelled_variable : Program → FlatVar → Variable
spelled_variable p x = record { text = spelled p.names x.name; values = x.values; place = x.place; kind_place = x.kind_place }

-- the variable that a section declares
abbrev pub variables_in : Program → Dotted → Section → List Variable
variables_in p at entry = map (spelled_variable p) (var_of at entry)

-- the variables of a stop
abbrev pub variables_of : Program → Stop → List Variable
variables_of p s = flat_map (variables_in p s.here.name) s.here.from.sections

-- a DEFINE with the text of its flat name, its body as its instance reads it
abbrev pub spelled_define : Program → FlatDefine → Definition
spelled_define p d = record { text = spelled p.names d.name; body = flat_expr p (flat_index p) d.reader d.body; place = d.place }

-- the DEFINE that an argument becomes
abbrev pub argument_in : Program → Stop → Spelled × Expr → List Definition
argument_in p s a = map (spelled_define p) (define_of_argument s a)

-- the formal at a place, if there is one, with an argument
abbrev pub pair_at : {A B : Type 0} → List A → ℕ → B → List (A × B)
pair_at xs i y = option_map_or (λ x. (x, y) ∷ []) (slice_get xs i) []

-- the DEFINEs that the arguments of a stop become
abbrev pub arguments_of : Program → Stop → List Definition
arguments_of p s = flat_map (argument_in p s) (zip s.here.from.formals s.given)

-- the DEFINE that a section declares
abbrev pub definitions_in : Program → Instance → Section → List Definition
definitions_in p x entry = map (spelled_define p) (define_of x entry)

-- the DEFINEs of a stop
abbrev pub definitions_of : Program → Stop → List Definition
definitions_of p s = arguments_of p s ++ flat_map (definitions_in p s.here) s.here.from.sections

-- the condition of this kind that a section is, as the instance reads it
abbrev pub conditions_in : Program → Instance → CondKind → Section → List Expr
conditions_in p x k entry = map (flat_expr p (flat_index p) x) (cond_of k entry)

-- the conditions of this kind of a stop
abbrev pub conditions_of : Program → CondKind → Stop → List Expr
conditions_of p k s = flat_map (conditions_in p s.here k) s.here.from.sections

-- the assignment of this form that a section is, as the instance reads it
abbrev pub assigns_in : Program → Instance → When → Section → List Assign
assigns_in p x k entry = flat_map (flat_assign p (flat_index p)) (filter (λ (a : Assignment). same_when k a.when) (assign_of p x entry))

-- the assignments of this form of a stop
abbrev pub assigns_of : Program → When → Stop → List Assign
assigns_of p k s = flat_map (assigns_in p s.here k) s.here.from.sections
