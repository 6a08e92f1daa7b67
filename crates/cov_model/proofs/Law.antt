-- The law on kinds: in an expression without fault, settled in its place, every value and choice is of the kind, and the machine makes the same.
use Rattle.std.proofs.Common.{◌≡◌, ℕ, ℤ, Bool, true, false, IsTrue, List, [], ◌∷◌, map, None, refl, sym, ap, subst, ◌∙◌}
use Rattle.cov_syntax.specs.declared.tree.Span.{Span}
use Rattle.cov_syntax.specs.declared.tree.Op2.{Op2}
use Rattle.cov_syntax.specs.declared.tree.Op2.TheVariants as op2
use Rattle.cov_syntax.specs.declared.tree.Expr.{Expr, roll-Expr}
use Rattle.cov_syntax.specs.declared.tree.Branch.{Branch, roll-Branch}
use Rattle.cov_syntax.specs.declared.tree.Node.{Node, roll-Node}
use Rattle.cov_syntax.specs.declared.tree.Node.TheOpen.{Node-F, Branch-F, Expr-F}
use Rattle.cov_syntax.specs.declared.tree.Node.TheFolds.{ind-Expr, map-Node, fold-roll-Node, fold-roll-Branch, fold-roll-Expr}
use Rattle.cov_model.specs.Values.{whole, machine}
use Rattle.cov_model.specs.Meaning.{Meaning, of_node, of_branch, of_expr, meaning_by}
use Rattle.cov_model.specs.Kinds.{Kinds}
use Rattle.cov_model.specs.Walk as walk
use Rattle.cov_model.specs.Walk.{Judged, put, judged, branch_of}
use Rattle.cov_model.proofs.Tied.{Tied, retie, Layer}
use Rattle.cov_model.proofs.Closed.{node_meaning, branch_meaning, meant, judged_node, judged_branch, judged_layer}
use Rattle.cov_model.proofs.Plain.{tied_literal, tied_path, tied_variable, tied_define, tied_range}
use Rattle.cov_model.proofs.Operators.{tied_one, tied_two}
use Rattle.cov_model.proofs.Parts.{Claim, Part, tied_set, tied_union}
use Rattle.cov_model.proofs.Cases.{Arm, branches, judged_arms, meant_arms, made_arms, tied_case}

abbrev P : Node → Type 0
P m = (ks : Kinds) (place : Span) → Tied ks (judged_node ks m place) (node_meaning whole m) (node_meaning machine m) (put place m)

abbrev Q : Branch → Type 0
Q b = Claim b.guard × Claim b.body

abbrev Proved : Type 0
Proved = Node-F ((m : Node) × P m) ((b : Branch) × Q b) ((e : Expr) × Claim e)

abbrev bare : Proved → Layer
bare y = map-Node ((m : Node) × P m) ((b : Branch) × Q b) ((e : Expr) × Claim e) Node Branch Expr (λ e. e.0) (λ e. e.0) (λ e. e.0) y

abbrev arm_of : ((b : Branch) × Q b) → Arm
arm_of x = ((x.0.guard, x.1.0), (x.0.body, x.1.1))

abbrev arms : List ((b : Branch) × Q b) → List Arm
arms bs = map arm_of bs

same_branches : (bs : List ((b : Branch) × Q b)) → branches (arms bs) ≡ map (λ (x : (b : Branch) × Q b). x.0) bs
same_branches [] = refl
same_branches (b ∷ bs) = ap (λ (cs : List Branch). b.0 ∷ cs) (same_branches bs)

judged_at : (ks : Kinds) (b : Branch) → judged_branch ks b ≡ (judged ks b.guard, judged ks b.body)
judged_at ks b = fold-roll-Branch (Span → Judged) (Judged × Judged) Judged (walk.of_node ks) (λ c. (c.guard, c.body)) (λ e. e.node e.place) (record { guard = b.guard; body = b.body })

same_judged : (ks : Kinds) (bs : List ((b : Branch) × Q b)) → judged_arms ks (arms bs) ≡ map (judged_branch ks) (map (λ (x : (b : Branch) × Q b). x.0) bs)
same_judged ks [] = refl
same_judged ks (b ∷ bs) =
    ap (λ (j : Judged × Judged). j ∷ judged_arms ks (arms bs)) (sym (judged_at ks b.0))
    ∙ ap (λ (js : List (Judged × Judged)). judged_branch ks b.0 ∷ js) (same_judged ks bs)

meant_at : (fit : ℤ → ℤ) (b : Branch) → branch_meaning fit b ≡ (meaning_by fit b.guard, meaning_by fit b.body)
meant_at fit b = fold-roll-Branch Meaning (Meaning × Meaning) Meaning (of_node fit) of_branch of_expr (record { guard = b.guard; body = b.body })

same_meant : (fit : ℤ → ℤ) (bs : List ((b : Branch) × Q b))
    → map (λ (x : Arm). (meaning_by fit x.0.0, meaning_by fit x.1.0)) (arms bs) ≡ map (branch_meaning fit) (map (λ (x : (b : Branch) × Q b). x.0) bs)
same_meant fit [] = refl
same_meant fit (b ∷ bs) =
    ap (λ (m : Meaning × Meaning). m ∷ map (λ (x : Arm). (meaning_by fit x.0.0, meaning_by fit x.1.0)) (arms bs)) (sym (meant_at fit b.0))
    ∙ ap (λ (ms : List (Meaning × Meaning)). branch_meaning fit b.0 ∷ ms) (same_meant fit bs)

-- from the layer to the tree
rolled : (ks : Kinds) (place : Span) (l : Layer)
    → Tied ks (walk.of_node ks (judged_layer ks l) place) (of_node whole (meant whole l)) (of_node machine (meant machine l)) (put place (roll-Node l))
    → Tied ks (judged_node ks (roll-Node l) place) (node_meaning whole (roll-Node l)) (node_meaning machine (roll-Node l)) (put place (roll-Node l))
rolled ks place l t = retie ks
    (sym (ap (λ (f : Span → Judged). f place) (fold-roll-Node (Span → Judged) (Judged × Judged) Judged (walk.of_node ks) (λ b. (b.guard, b.body)) (λ e. e.node e.place) l)))
    (sym (fold-roll-Node Meaning (Meaning × Meaning) Meaning (of_node whole) of_branch of_expr l))
    (sym (fold-roll-Node Meaning (Meaning × Meaning) Meaning (of_node machine) of_branch of_expr l))
    refl t

two : (ks : Kinds) (place : Span) (op : Op2) (a b : Part)
    → Tied ks (walk.of_node ks (Node-F.Two op (judged ks a.0) (judged ks b.0)) place) (of_node whole (Node-F.Two op (meaning_by whole a.0) (meaning_by whole b.0)))
    (of_node machine (Node-F.Two op (meaning_by machine a.0) (meaning_by machine b.0))) (put place (roll-Node (Node-F.Two op a.0 b.0)))
two ks place op2.Union a b = tied_union ks place a b
two ks place op a b = tied_two ks place (judged ks a.0) (judged ks b.0) (meaning_by whole a.0) (meaning_by machine a.0) (meaning_by whole b.0) (meaning_by machine b.0) a.0 b.0 (a.1 ks) (b.1 ks) op (λ e. cc)

cases : (ks : Kinds) (place : Span) (bs : List ((b : Branch) × Q b))
    → Tied ks (walk.of_node ks (Node-F.Case (map (judged_branch ks) (map (λ (x : (b : Branch) × Q b). x.0) bs))) place)
    (of_node whole (Node-F.Case (map (branch_meaning whole) (map (λ (x : (b : Branch) × Q b). x.0) bs))))
    (of_node machine (Node-F.Case (map (branch_meaning machine) (map (λ (x : (b : Branch) × Q b). x.0) bs))))
    (put place (roll-Node (Node-F.Case (map (λ (x : (b : Branch) × Q b). x.0) bs))))
cases ks place bs = retie ks
    (ap (λ (js : List (Judged × Judged)). walk.of_node ks (Node-F.Case js) place) (same_judged ks bs))
    (ap (λ (ms : List (Meaning × Meaning)). of_node whole (Node-F.Case ms)) (same_meant whole bs))
    (ap (λ (ms : List (Meaning × Meaning)). of_node machine (Node-F.Case ms)) (same_meant machine bs))
    (ap (λ (cs : List Branch). put place (roll-Node (Node-F.Case cs))) (same_branches bs))
    (tied_case ks place (arms bs))

at_layer : (y : Proved) → P (roll-Node (bare y))
at_layer (Node-F.Lit x) ks place = rolled ks place (Node-F.Lit x) (tied_literal ks place x)
at_layer (Node-F.Path p) ks place = rolled ks place (Node-F.Path p) (tied_path ks place p)
at_layer (Node-F.Var i) ks place = rolled ks place (Node-F.Var i) (tied_variable ks place i)
at_layer (Node-F.Def i) ks place = rolled ks place (Node-F.Def i) (tied_define ks place i)
at_layer (Node-F.One op a) ks place = rolled ks place (Node-F.One op a.0) (tied_one ks place (judged ks a.0) (meaning_by whole a.0) (meaning_by machine a.0) a.0 (a.1 ks) op)
at_layer (Node-F.Two op a b) ks place = rolled ks place (Node-F.Two op a.0 b.0) (two ks place op a b)
at_layer (Node-F.Range low high) ks place = rolled ks place (Node-F.Range low high) (tied_range ks place low high)
at_layer (Node-F.Set es) ks place = rolled ks place (Node-F.Set (map (λ (x : (e : Expr) × Claim e). x.0) es)) (tied_set ks place es)
at_layer (Node-F.Case bs) ks place = rolled ks place (Node-F.Case (map (λ (x : (b : Branch) × Q b). x.0) bs)) (cases ks place bs)

abbrev ProvedBranch : Type 0
ProvedBranch = Branch-F ((m : Node) × P m) ((b : Branch) × Q b) ((e : Expr) × Claim e)

at_branch : (y : ProvedBranch) → Q (roll-Branch (record { guard = y.guard.0; body = y.body.0 }))
at_branch y = (y.guard.1, y.body.1)

abbrev ProvedExpr : Type 0
ProvedExpr = Expr-F ((m : Node) × P m) ((b : Branch) × Q b) ((e : Expr) × Claim e)

at_expr : (y : ProvedExpr) → Claim (roll-Expr (record { node = y.node.0; place = y.place }))
at_expr y ks =
    let r : Expr-F Node Branch Expr = record { node = y.node.0; place = y.place } in
    retie ks
    (sym (fold-roll-Expr (Span → Judged) (Judged × Judged) Judged (walk.of_node ks) (λ b. (b.guard, b.body)) (λ e. e.node e.place) r))
    (sym (fold-roll-Expr Meaning (Meaning × Meaning) Meaning (of_node whole) of_branch of_expr r))
    (sym (fold-roll-Expr Meaning (Meaning × Meaning) Meaning (of_node machine) of_branch of_expr r))
    refl (y.node.1 ks y.place)

-- every expression is tied to what the walk finds at it
pub law : (e : Expr) → Claim e
law = ind-Expr P Q Claim
    (λ x y h. subst (λ z. P (roll-Node z)) h (at_layer y))
    (λ x y h. subst (λ z. Q (roll-Branch z)) h (at_branch y))
    (λ x y h. subst (λ z. Claim (roll-Expr z)) h (at_expr y))
