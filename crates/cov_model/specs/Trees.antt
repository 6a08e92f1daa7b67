-- Trees apart from places.
use Rattle.std.specs.Prelude.{ℕ, pos, Bool, true, false, ◌&&◌, ◌||◌, ◌==◌, List, [], ◌∷◌, map}
use Rattle.std.specs.Ordering.{int_eq}
use Rattle.std.specs.List.{list_any}
use Rattle.cov_syntax.specs.declared.tree.Value.TheVariants as v
use Rattle.cov_syntax.specs.declared.tree.Op1.{Op1}
use Rattle.cov_syntax.specs.declared.tree.Op1.TheVariants as op1
use Rattle.cov_syntax.specs.declared.tree.Op2.{Op2}
use Rattle.cov_syntax.specs.declared.tree.Op2.TheVariants as op2
use Rattle.cov_syntax.specs.declared.tree.Expr.{Expr}
use Rattle.cov_syntax.specs.declared.tree.Branch.{Branch}
use Rattle.cov_syntax.specs.declared.tree.Node.{Node, out-Node}
use Rattle.cov_syntax.specs.declared.tree.Node.TheOpen.{Node-F, Branch-F, Expr-F}
use Rattle.cov_syntax.specs.declared.tree.Node.TheFolds.{fold-Expr, fold-Node, fold-Branch}
use Rattle.cov_model.specs.Values.{same_value}

-- a number for each operator with one operand
abbrev pub code_of_one : Op1 → ℕ
code_of_one op1.Not = 0
code_of_one op1.Neg = 1
code_of_one op1.Next = 2
code_of_one op1.Ex = 3
code_of_one op1.Ef = 4
code_of_one op1.Eg = 5
code_of_one op1.Ax = 6
code_of_one op1.Af = 7
code_of_one op1.Ag = 8

-- a number for each operator with two operands
abbrev pub code_of_two : Op2 → ℕ
code_of_two op2.And = 0
code_of_two op2.Or = 1
code_of_two op2.Xor = 2
code_of_two op2.Implies = 3
code_of_two op2.Iff = 4
code_of_two op2.Eq = 5
code_of_two op2.Ne = 6
code_of_two op2.Lt = 7
code_of_two op2.Le = 8
code_of_two op2.Gt = 9
code_of_two op2.Ge = 10
code_of_two op2.Add = 11
code_of_two op2.Sub = 12
code_of_two op2.Mul = 13
code_of_two op2.Div = 14
code_of_two op2.Mod = 15
code_of_two op2.Union = 16
code_of_two op2.Member = 17
code_of_two op2.Au = 18
code_of_two op2.Eu = 19

-- the same parts
abbrev pub same_path : List ℕ → List ℕ → Bool
same_path [] [] = true
same_path (i ∷ is) (j ∷ js) = (i == j) && same_path is js
same_path _ _ = false

-- each item passes the test in its place
abbrev pub all_pass : {A : Type 0} → List (A → Bool) → List A → Bool
all_pass [] [] = true
all_pass (f ∷ fs) (x ∷ xs) = f x && all_pass fs xs
all_pass _ _ = false

-- a node with its parts
abbrev pub Layer : Type 0
Layer = Node-F Node Branch Expr

-- a layer of tests of the parts, at a layer of a tree
abbrev pub same_layer : Node-F (Node → Bool) (Branch → Bool) (Expr → Bool) → Layer → Bool
same_layer (Node-F.Lit x) (Node-F.Lit y) = same_value x y
same_layer (Node-F.Path p) (Node-F.Path q) = same_path p q
same_layer (Node-F.Var i) (Node-F.Var j) = i == j
same_layer (Node-F.Def i) (Node-F.Def j) = i == j
same_layer (Node-F.One op f) (Node-F.One oq a) = (code_of_one op == code_of_one oq) && f a
same_layer (Node-F.Two op f g) (Node-F.Two oq a b) = (code_of_two op == code_of_two oq) && f a && g b
same_layer (Node-F.Range a b) (Node-F.Range c d) = int_eq a c && int_eq b d
same_layer (Node-F.Set fs) (Node-F.Set es) = all_pass fs es
same_layer (Node-F.Case fs) (Node-F.Case bs) = all_pass fs bs
same_layer _ _ = false

-- a node, given tests of its parts
abbrev pub on_node : Node-F (Node → Bool) (Branch → Bool) (Expr → Bool) → Node → Bool
on_node layer m = same_layer layer (out-Node m)

-- a branch, given tests of its guard and its body
abbrev pub on_branch : Branch-F (Node → Bool) (Branch → Bool) (Expr → Bool) → Branch → Bool
on_branch b c = b.guard c.guard && b.body c.body

-- an expression, given the test of its node
abbrev pub on_expr : Expr-F (Node → Bool) (Branch → Bool) (Expr → Bool) → Expr → Bool
on_expr e f = e.node f.node

-- the trees are the same apart from places
abbrev pub same_tree : Expr → Expr → Bool
same_tree = fold-Expr (Node → Bool) (Branch → Bool) (Expr → Bool) on_node on_branch on_expr

-- the same of nodes
abbrev pub same_node : Node → Node → Bool
same_node = fold-Node (Node → Bool) (Branch → Bool) (Expr → Bool) on_node on_branch on_expr

-- the same of branches
abbrev pub same_branch : Branch → Branch → Bool
same_branch = fold-Branch (Node → Bool) (Branch → Bool) (Expr → Bool) on_node on_branch on_expr

-- the same, one by one
abbrev pub same_trees : List Expr → List Expr → Bool
same_trees es fs = all_pass (map same_tree es) fs

-- the same, one by one
abbrev pub same_branches : List Branch → List Branch → Bool
same_branches bs cs = all_pass (map same_branch bs) cs

-- ---- the last guard of a case

-- a negation of this expression
abbrev pub one_layer : Layer → Expr → Bool
one_layer (Node-F.One op1.Not a) f = same_tree a f
one_layer _ f = false

-- the first is the negation of the second
abbrev pub is_negation : Expr → Expr → Bool
is_negation e f = one_layer (out-Node e.node) f

-- the literal TRUE or 1
abbrev pub true_layer : Layer → Bool
true_layer (Node-F.Lit (v.Bool b)) = b
true_layer (Node-F.Lit (v.Int n)) = int_eq n (pos 1)
true_layer _ = false

-- the literal TRUE or 1
abbrev pub is_true : Expr → Bool
is_true e = true_layer (out-Node e.node)

-- the last of the guards is TRUE or 1, or it and some guard before are one the negation of the other
abbrev pub is_closed : List Expr → List Expr → Bool
is_closed before [] = false
is_closed before (g ∷ []) = is_true g || list_any (λ e. is_negation e g || is_negation g e) before
is_closed before (g ∷ h ∷ gs) = is_closed (g ∷ before) (h ∷ gs)

-- the literals 0 and 1, which a Boolean place takes
abbrev pub bit_layer : Layer → Bool
bit_layer (Node-F.Lit (v.Int n)) = int_eq n (pos 0) || int_eq n (pos 1)
bit_layer _ = false
