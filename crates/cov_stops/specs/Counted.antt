-- What gives a variable or a DEFINE.
use Rattle.std.specs.Prelude.{Bool, true, false, not, is_some}
use Rattle.cov_syntax.specs.declared.program.TypeTree.TheVariants as type
use Rattle.cov_syntax.specs.declared.program.Section.{Section}
use Rattle.cov_syntax.specs.declared.program.Section.TheVariants as section
use Rattle.cov_syntax.specs.declared.tree.Expr.{Expr}
use Rattle.cov_modules.specs.Things.{path_of}

-- a section declares a variable
abbrev pub is_variable : Section → Bool
is_variable (section.Decl name (type.Instance from given) place) = false
is_variable (section.Decl name kind place) = true
is_variable _ = false

-- a section declares a DEFINE
abbrev pub is_define : Section → Bool
is_define (section.Define name body) = true
is_define _ = false

-- an argument becomes a DEFINE, since it is no path
abbrev pub becomes_define : Expr → Bool
becomes_define e = not (is_some (path_of e))
