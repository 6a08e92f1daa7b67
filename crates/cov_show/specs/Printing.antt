-- How expressions are printed: with the fewest parentheses, and one blank where the grammar's levels leave a choice.
use Rattle.std.specs.Prelude.{ℕ, ◌+◌, ℤ, Bool, true, false, ◌||◌, nat_lt, if◌then◌else◌, List, [], ◌∷◌, ◌++◌, map, slice_index_or, codes}
use Rattle.std.specs.Fmt.{signed_decimal}
use Rattle.cov_syntax.specs.declared.tree.Branch.{Branch}
use Rattle.cov_syntax.specs.declared.tree.Expr.{Expr}
use Rattle.cov_syntax.specs.declared.tree.Node.{Node}
use Rattle.cov_syntax.specs.declared.tree.Node.TheFolds.{fold-Branch, fold-Expr, fold-Node}
use Rattle.cov_syntax.specs.declared.tree.Node.TheOpen.{Branch-F, Expr-F, Node-F}
use Rattle.cov_syntax.specs.declared.tree.Op1.{Op1}
use Rattle.cov_syntax.specs.declared.tree.Op1.TheVariants as op1
use Rattle.cov_syntax.specs.declared.tree.Op2.{Op2}
use Rattle.cov_syntax.specs.declared.tree.Op2.TheVariants as op2
use Rattle.cov_syntax.specs.declared.tree.Value.{Value}
use Rattle.cov_syntax.specs.declared.tree.Value.TheVariants as value
use Rattle.cov_syntax.specs.Tokens.{Text}
use Rattle.cov_model.specs.declared.model.Var.{Var}
use Rattle.cov_model.specs.declared.model.Define.{Define}
use Rattle.cov_model.specs.declared.model.Model.{Model}

-- the name with this number, or nothing where there is none
abbrev pub name_text : List Text → ℕ → Text
name_text names i = slice_index_or names i []

-- The texts of what an expression cites by a number: names, variables and DEFINEs.
pub record Labels : Type 0 where
  pub names : List Text
  pub variables : List Text
  pub defines : List Text

-- those where these variables and DEFINEs stand, which have names
abbrev pub labels_with : List Text → List Var → List Define → Labels
labels_with names vars defines = record {
  names = names;
  variables = map (λ (x : Var). name_text names x.name) vars;
  defines = map (λ (d : Define). name_text names d.name) defines;
}

-- those of a tree that stands before flattening, where no variable and no DEFINE is cited
abbrev pub name_labels : List Text → Labels
name_labels names = labels_with names [] []

-- those of a model
abbrev pub model_labels : Model → Labels
model_labels m = labels_with m.names m.vars m.defines

-- ---- levels and words

-- A printed expression: its level, whether it is an integer, a range or a unary minus, and its bytes.
pub record Printed : Type 0 where
  pub level : ℕ
  pub is_signed : Bool
  pub bytes : Text

-- The level of an operator with two operands. From loose to tight these are: 1 `->`, 2 `<->`, 3 `|` and xor, 4 `&`, 5 the prefix operators,
-- 6 the comparisons, 7 in, 8 union, 9 mod, 10 `+` and `-`, 11 `*` and `/`, 12 everything else.
abbrev pub level_of : Op2 → ℕ
level_of op2.Implies = 1
level_of op2.Iff = 2
level_of op2.Or = 3
level_of op2.Xor = 3
level_of op2.And = 4
level_of op2.Eq = 6
level_of op2.Ne = 6
level_of op2.Lt = 6
level_of op2.Le = 6
level_of op2.Gt = 6
level_of op2.Ge = 6
level_of op2.Member = 7
level_of op2.Union = 8
level_of op2.Mod = 9
level_of op2.Add = 10
level_of op2.Sub = 10
level_of op2.Mul = 11
level_of op2.Div = 11
level_of op2.Au = 12
level_of op2.Eu = 12

-- the levels that the places of its operands ask
abbrev pub left_asks : Op2 → ℕ
left_asks op2.Implies = 2
left_asks op2.Au = 1
left_asks op2.Eu = 1
left_asks op = level_of op

abbrev pub right_asks : Op2 → ℕ
right_asks op2.Implies = 1
right_asks op2.Au = 1
right_asks op2.Eu = 1
right_asks op = level_of op + 1

-- what stands before the left operand, between the two, and behind the right one
abbrev pub before_left : Op2 → Text
before_left op2.Au = codes "A["
before_left op2.Eu = codes "E["
before_left _ = []

abbrev pub between : Op2 → Text
between op2.Implies = codes " -> "
between op2.Iff = codes " <-> "
between op2.Or = codes " | "
between op2.Xor = codes " xor "
between op2.And = codes " & "
between op2.Eq = codes " = "
between op2.Ne = codes " != "
between op2.Lt = codes " < "
between op2.Le = codes " <= "
between op2.Gt = codes " > "
between op2.Ge = codes " >= "
between op2.Member = codes " in "
between op2.Union = codes " union "
between op2.Mod = codes " mod "
between op2.Add = codes " + "
between op2.Sub = codes " - "
between op2.Mul = codes " * "
between op2.Div = codes " / "
between op2.Au = codes " U "
between op2.Eu = codes " U "

abbrev pub behind_right : Op2 → Text
behind_right op2.Au = codes "]"
behind_right op2.Eu = codes "]"
behind_right _ = []

-- the level of an operator with one operand
abbrev pub level_of_prefix : Op1 → ℕ
level_of_prefix op1.Neg = 12
level_of_prefix op1.Next = 12
level_of_prefix _ = 5

-- what stands before the operand
abbrev pub before : Op1 → Text
before op1.Not = codes "!"
before op1.Neg = codes "-"
before op1.Next = codes "next("
before op1.Ex = codes "EX "
before op1.Ef = codes "EF "
before op1.Eg = codes "EG "
before op1.Ax = codes "AX "
before op1.Af = codes "AF "
before op1.Ag = codes "AG "

abbrev pub truth_text : Bool → Text
truth_text b = if b then codes "TRUE" else codes "FALSE"

-- ---- places

abbrev pub grouped : Bool → Text → Text
grouped in_parens bytes = if in_parens then codes "(" ++ bytes ++ codes ")" else bytes

-- an expression where a level is asked: in parentheses exactly where its own level is lower
abbrev pub placed : ℕ → Printed → Text
placed asked p = grouped (nat_lt p.level asked) p.bytes

-- the operand of a unary minus asks the tightest level, and stands in parentheses also where it is an integer, a range or a unary minus
abbrev pub is_grouped_behind_minus : Printed → Bool
is_grouped_behind_minus p = p.is_signed || nat_lt p.level 12

abbrev pub negated : Printed → Text
negated p = grouped (is_grouped_behind_minus p) p.bytes

-- ---- nodes

-- an expression of the tightest level
abbrev pub primary : Text → Printed
primary bytes = record { level = 12; is_signed = false; bytes = bytes }

abbrev pub value_printed : List Text → Value → Printed
value_printed names (value.Bool b) = primary (truth_text b)
value_printed names (value.Int i) = record { level = 12; is_signed = true; bytes = signed_decimal i }
value_printed names (value.Sym i) = primary (name_text names i)

-- the names of a path, the first one after a mark, and each other one after a dot
abbrev pub path_text : List Text → Text → List ℕ → Text
path_text names mark [] = []
path_text names mark (i ∷ path) = mark ++ name_text names i ++ path_text names (codes ".") path

abbrev pub prefix_printed : Op1 → Printed → Printed
prefix_printed op1.Neg e = record { level = 12; is_signed = true; bytes = before op1.Neg ++ negated e }
prefix_printed op1.Next e = primary (before op1.Next ++ placed 1 e ++ codes ")")
prefix_printed op e = record { level = level_of_prefix op; is_signed = false; bytes = before op ++ placed 5 e }

-- the left operand, with what stands before it and behind it
abbrev pub left_text : Op2 → Printed → Text
left_text op a = before_left op ++ placed (left_asks op) a ++ between op

-- the right operand, and what stands behind it
abbrev pub right_text : Op2 → Printed → Text
right_text op b = placed (right_asks op) b ++ behind_right op

abbrev pub infix_printed : Op2 → Printed → Printed → Printed
infix_printed op a b = record {
  level = level_of op;
  is_signed = false;
  bytes = left_text op a ++ right_text op b;
}

-- the elements of a set, the first one after a mark, and each other one after a comma and a blank
abbrev pub elements_text : Text → List Printed → Text
elements_text mark [] = []
elements_text mark (e ∷ es) = mark ++ placed 1 e ++ elements_text (codes ", ") es

abbrev pub set_text : List Printed → Text
set_text es = codes "{" ++ elements_text [] es ++ codes "}"

abbrev pub range_text : ℤ → ℤ → Text
range_text low high = signed_decimal low ++ codes ".." ++ signed_decimal high

-- a branch, with the blank behind it
abbrev pub branch_text : Printed × Printed → Text
branch_text b = placed 1 b.0 ++ codes " : " ++ placed 1 b.1 ++ codes "; "

abbrev pub branches_text : List (Printed × Printed) → Text
branches_text [] = []
branches_text (b ∷ bs) = branch_text b ++ branches_text bs

abbrev pub case_text : List (Printed × Printed) → Text
case_text bs = codes "case " ++ branches_text bs ++ codes "esac"

abbrev pub of_node : Labels → Node-F Printed (Printed × Printed) Printed → Printed
of_node labels (Node-F.Lit v) = value_printed labels.names v
of_node labels (Node-F.Path path) = primary (path_text labels.names [] path)
of_node labels (Node-F.Var i) = primary (name_text labels.variables i)
of_node labels (Node-F.Def i) = primary (name_text labels.defines i)
of_node labels (Node-F.One op e) = prefix_printed op e
of_node labels (Node-F.Two op a b) = infix_printed op a b
of_node labels (Node-F.Range low high) = record { level = 12; is_signed = true; bytes = range_text low high }
of_node labels (Node-F.Set es) = primary (set_text es)
of_node labels (Node-F.Case bs) = primary (case_text bs)

abbrev pub of_branch : Branch-F Printed (Printed × Printed) Printed → Printed × Printed
of_branch b = (b.guard, b.body)

abbrev pub of_expr : Expr-F Printed (Printed × Printed) Printed → Printed
of_expr e = e.node

-- an expression as it is printed
abbrev pub printed : Labels → Expr → Printed
printed labels = fold-Expr Printed (Printed × Printed) Printed (of_node labels) of_branch of_expr

abbrev pub node_printed : Labels → Node → Printed
node_printed labels = fold-Node Printed (Printed × Printed) Printed (of_node labels) of_branch of_expr

abbrev pub branch_printed : Labels → Branch → Printed × Printed
branch_printed labels = fold-Branch Printed (Printed × Printed) Printed (of_node labels) of_branch of_expr

-- the text of a tree that stands before flattening
abbrev pub tree_text : List Text → Expr → Text
tree_text names e = placed 1 (printed (name_labels names) e)
