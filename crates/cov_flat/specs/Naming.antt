-- Variables and DEFINEs with their names among the names of the flat model.
use Rattle.std.specs.Prelude.{ℕ, List}
use Rattle.cov_model.specs.declared.model.Var.{Var}
use Rattle.cov_model.specs.declared.model.Define.{Define}
use Rattle.cov_modules.specs.FlatLists.{number_of}
use Rattle.cov_flat.specs.declared.variables.Variable.{Variable}
use Rattle.cov_flat.specs.declared.definitions.Definition.{Definition}

-- the text of a variable's flat name
abbrev pub variable_text : Variable → List ℕ
variable_text x = x.text

-- the text of a DEFINE's flat name
abbrev pub definition_text : Definition → List ℕ
definition_text d = d.text

-- a variable, named by its number
abbrev pub numbered_variable : List (List ℕ) → Variable → Var
numbered_variable names x = record { name = number_of names x.text; values = x.values; place = x.place; kind_place = x.kind_place }

-- a DEFINE, named by its number
abbrev pub numbered_definition : List (List ℕ) → Definition → Define
numbered_definition names d = record { name = number_of names d.text; body = d.body; place = d.place }
