-- What the walk finds at the parts of an expression, and the parts settled.
use Rattle.std.specs.Prelude.{Bool, true, if◌then◌else◌, List, Some, None}
use Rattle.std.specs.List.{list_any}
use Rattle.cov_syntax.specs.declared.tree.Span.{Span}
use Rattle.cov_syntax.specs.declared.tree.Value.{Value}
use Rattle.cov_syntax.specs.declared.tree.Value.TheVariants as v
use Rattle.cov_syntax.specs.declared.tree.Expr.{Expr}
use Rattle.cov_syntax.specs.declared.tree.Branch.{Branch}
use Rattle.cov_syntax.specs.declared.tree.Node.{Node}
use Rattle.cov_syntax.specs.declared.tree.Node.TheFolds.{fold-Node, fold-Branch}
use Rattle.cov_model.specs.Kinds.{Kinds, is_boolean}
use Rattle.cov_model.specs.Walk.{Judged, of_node, own, branch_of, bit}

-- what the walk finds at a node, by its place
abbrev pub judged_node : Kinds → Node → Span → Judged
judged_node ks = fold-Node (Span → Judged) (Judged × Judged) Judged (of_node ks) (λ b. (b.guard, b.body)) (λ e. e.node e.place)

-- what the walk finds at the guard and at the body of a branch
abbrev pub judged_branch : Kinds → Branch → Judged × Judged
judged_branch ks = fold-Branch (Span → Judged) (Judged × Judged) Judged (of_node ks) (λ b. (b.guard, b.body)) (λ e. e.node e.place)

-- some member has the own kind Boolean
abbrev pub some_boolean : Kinds → List Expr → Bool
some_boolean ks es = list_any (λ e. is_boolean (own ks e)) es

-- some body has the own kind Boolean
abbrev pub some_body_boolean : Kinds → List Branch → Bool
some_body_boolean ks bs = list_any (λ b. is_boolean (judged_branch ks b).1.own) bs

-- a branch with its body settled in such a place
abbrev pub settled_branch : Kinds → Bool → Branch → Branch
settled_branch ks in_truth b = branch_of ((judged_branch ks b).0.settled true) ((judged_branch ks b).1.settled in_truth)

-- a literal, which a Boolean place takes as FALSE or TRUE where it is 0 or 1
abbrev pub settled_value : Bool → Value → Value
settled_value in_truth (v.Int i) = elim (bit i) [ None ↦ v.Int i | Some b ↦ if in_truth then v.Bool b else v.Int i ]
settled_value in_truth x = x
