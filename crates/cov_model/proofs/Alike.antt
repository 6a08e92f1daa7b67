-- Trees that are the same apart from places mean the same.
use Rattle.std.proofs.Common.{◌≡◌, ℕ, ℤ, Bool, true, false, ◌&&◌, IsTrue, List, [], ◌∷◌, map, refl, sym, ap, subst, ◌∙◌, arith}
use Rattle.std.specs.Prelude.{◌==◌}
use Rattle.std.specs.Ordering.{int_eq}
use Rattle.std.proofs.lemmas.Int.{ints}
use Rattle.cov_syntax.specs.declared.tree.Span.{Span}
use Rattle.cov_syntax.specs.declared.tree.Node.{Node, roll-Node, out-Node, out-roll-Node, roll-out-Node}
use Rattle.cov_syntax.specs.declared.tree.Expr.{Expr, roll-Expr}
use Rattle.cov_syntax.specs.declared.tree.Branch.{Branch, roll-Branch}
use Rattle.cov_syntax.specs.declared.tree.Node.TheFolds.{ind-Expr, map-Node, fold-Node, fold-Branch, fold-roll-Node, fold-roll-Branch, fold-roll-Expr}
use Rattle.cov_syntax.specs.declared.tree.Node.TheOpen.{Node-F, Branch-F, Expr-F}
use Rattle.cov_syntax.specs.declared.tree.Value.{Value}
use Rattle.cov_syntax.specs.declared.tree.Value.TheVariants as v
use Rattle.cov_syntax.specs.declared.tree.Op1.{Op1}
use Rattle.cov_syntax.specs.declared.tree.Op1.TheVariants as op1
use Rattle.cov_syntax.specs.declared.tree.Op2.{Op2}
use Rattle.cov_syntax.specs.declared.tree.Op2.TheVariants as op2
use Rattle.cov_model.specs.Values.{same_value, whole, truth}
use Rattle.cov_model.specs.Meaning.{Point, Meaning, of_node, of_branch, of_expr, meaning, meaning_by}
use Rattle.cov_model.specs.Trees.{code_of_one, code_of_two, same_path, all_pass, same_tree, same_node, same_branch, same_layer, on_node, on_branch, on_expr, is_negation, one_layer, is_true, true_layer}
use Rattle.cov_model.specs.Walk.{put}
use Rattle.cov_model.proofs.Joins.{same_value-eq}
use Rattle.cov_model.proofs.Joined.{and_split}

abbrev Layer : Type 0
Layer = Node-F Node Branch Expr

-- ---- operators by their codes

eq_of : (i j : ℕ) → IsTrue (i == j) → i ≡ j
eq_of i j h = grind arith

same_one : (op oq : Op1) → IsTrue (code_of_one op == code_of_one oq) → op ≡ oq
same_one op1.Not op1.Not h = refl
same_one op1.Neg op1.Neg h = refl
same_one op1.Next op1.Next h = refl
same_one op1.Ex op1.Ex h = refl
same_one op1.Ef op1.Ef h = refl
same_one op1.Eg op1.Eg h = refl
same_one op1.Ax op1.Ax h = refl
same_one op1.Af op1.Af h = refl
same_one op1.Ag op1.Ag h = refl
same_one _ _ h = cc

same_two : (op oq : Op2) → IsTrue (code_of_two op == code_of_two oq) → op ≡ oq
same_two op2.And op2.And h = refl
same_two op2.Or op2.Or h = refl
same_two op2.Xor op2.Xor h = refl
same_two op2.Implies op2.Implies h = refl
same_two op2.Iff op2.Iff h = refl
same_two op2.Eq op2.Eq h = refl
same_two op2.Ne op2.Ne h = refl
same_two op2.Lt op2.Lt h = refl
same_two op2.Le op2.Le h = refl
same_two op2.Gt op2.Gt h = refl
same_two op2.Ge op2.Ge h = refl
same_two op2.Add op2.Add h = refl
same_two op2.Sub op2.Sub h = refl
same_two op2.Mul op2.Mul h = refl
same_two op2.Div op2.Div h = refl
same_two op2.Mod op2.Mod h = refl
same_two op2.Union op2.Union h = refl
same_two op2.Member op2.Member h = refl
same_two op2.Au op2.Au h = refl
same_two op2.Eu op2.Eu h = refl
same_two _ _ h = cc

-- ---- the induction

abbrev of_nodes : Node → Meaning
of_nodes = fold-Node Meaning (Meaning × Meaning) Meaning (of_node whole) of_branch of_expr

abbrev of_branches : Branch → Meaning × Meaning
of_branches = fold-Branch Meaning (Meaning × Meaning) Meaning (of_node whole) of_branch of_expr

abbrev P : Node → Type 0
P m = (k : Node) → IsTrue (same_node m k) → of_nodes m ≡ of_nodes k

abbrev Q : Branch → Type 0
Q b = (c : Branch) → IsTrue (same_branch b c) → of_branches b ≡ of_branches c

abbrev R : Expr → Type 0
R e = (f : Expr) → IsTrue (same_tree e f) → meaning e ≡ meaning f

abbrev Proved : Type 0
Proved = Node-F ((m : Node) × P m) ((b : Branch) × Q b) ((e : Expr) × R e)

abbrev bare : Proved → Layer
bare y = map-Node ((m : Node) × P m) ((b : Branch) × Q b) ((e : Expr) × R e) Node Branch Expr (λ e. e.0) (λ e. e.0) (λ e. e.0) y

abbrev folded : Layer → Node-F (Node → Bool) (Branch → Bool) (Expr → Bool)
folded l = map-Node Node Branch Expr (Node → Bool) (Branch → Bool) (Expr → Bool) same_node same_branch same_tree l

abbrev meant : Layer → Node-F Meaning (Meaning × Meaning) Meaning
meant l = map-Node Node Branch Expr Meaning (Meaning × Meaning) Meaning of_nodes of_branches meaning l

items : (xs : List ((e : Expr) × R e)) (fs : List Expr) → IsTrue (all_pass (map same_tree (map (λ x. x.0) xs)) fs) → map meaning (map (λ x. x.0) xs) ≡ map meaning fs
items [] [] h = refl
items [] (f ∷ fs) h = cc
items (x ∷ xs) [] h = cc
items (x ∷ xs) (f ∷ fs) h = let c = and_split (same_tree x.0 f) _ h in
    ap (λ (m : Meaning). m ∷ map meaning (map (λ x. x.0) xs)) (x.1 f c.0) ∙ ap (λ (ms : List Meaning). meaning f ∷ ms) (items xs fs c.1)

arms : (xs : List ((b : Branch) × Q b)) (cs : List Branch) → IsTrue (all_pass (map same_branch (map (λ x. x.0) xs)) cs) → map of_branches (map (λ x. x.0) xs) ≡ map of_branches cs
arms [] [] h = refl
arms [] (c ∷ cs) h = cc
arms (x ∷ xs) [] h = cc
arms (x ∷ xs) (c ∷ cs) h = let d = and_split (same_branch x.0 c) _ h in
    ap (λ (m : Meaning × Meaning). m ∷ map of_branches (map (λ x. x.0) xs)) (x.1 c d.0) ∙ ap (λ (ms : List (Meaning × Meaning)). of_branches c ∷ ms) (arms xs cs d.1)

same_ints : (i j : ℤ) → IsTrue (int_eq i j) → i ≡ j
same_ints i j h = grind (arith, ints)

at : (y : Proved) (l : Layer) → IsTrue (same_layer (folded (bare y)) l) → of_node whole (meant (bare y)) ≡ of_node whole (meant l)
at (Node-F.Lit x) (Node-F.Lit z) h = ap (λ (w : Value). of_node whole (Node-F.Lit w)) (same_value-eq x z h)
at (Node-F.Path p) (Node-F.Path q) h = refl
at (Node-F.Var i) (Node-F.Var j) h = ap (λ (k : ℕ). of_node whole (Node-F.Var k)) (eq_of i j h)
at (Node-F.Def i) (Node-F.Def j) h = ap (λ (k : ℕ). of_node whole (Node-F.Def k)) (eq_of i j h)
at (Node-F.One op a) (Node-F.One oq b) h = let c = and_split (code_of_one op == code_of_one oq) (same_tree a.0 b) h in
    ap (λ (o : Op1). of_node whole (Node-F.One o (meaning a.0))) (same_one op oq c.0) ∙ ap (λ (m : Meaning). of_node whole (Node-F.One oq m)) (a.1 b c.1)
at (Node-F.Two op a b) (Node-F.Two oq c d) h =
    let s = and_split ((code_of_two op == code_of_two oq) && same_tree a.0 c) (same_tree b.0 d) h in
    let t = and_split (code_of_two op == code_of_two oq) (same_tree a.0 c) s.0 in
    ap (λ (o : Op2). of_node whole (Node-F.Two o (meaning a.0) (meaning b.0))) (same_two op oq t.0)
    ∙ ap (λ (m : Meaning). of_node whole (Node-F.Two oq m (meaning b.0))) (a.1 c t.1)
    ∙ ap (λ (m : Meaning). of_node whole (Node-F.Two oq (meaning c) m)) (b.1 d s.1)
at (Node-F.Range a b) (Node-F.Range c d) h = let s = and_split (int_eq a c) (int_eq b d) h in
    ap (λ (i : ℤ). of_node whole (Node-F.Range i b)) (same_ints a c s.0) ∙ ap (λ (i : ℤ). of_node whole (Node-F.Range c i)) (same_ints b d s.1)
at (Node-F.Set es) (Node-F.Set fs) h = ap (λ (ms : List Meaning). of_node whole (Node-F.Set ms)) (items es fs h)
at (Node-F.Case bs) (Node-F.Case cs) h = ap (λ (ms : List (Meaning × Meaning)). of_node whole (Node-F.Case ms)) (arms bs cs h)
at _ _ h = cc

at_layer : (y : Proved) → P (roll-Node (bare y))
at_layer y k h =
    fold-roll-Node Meaning (Meaning × Meaning) Meaning (of_node whole) of_branch of_expr (bare y)
    ∙ at y (out-Node k) (sym (ap (λ (t : Node → Bool). t k) (fold-roll-Node (Node → Bool) (Branch → Bool) (Expr → Bool) on_node on_branch on_expr (bare y))) ∙ h)
    ∙ sym (fold-roll-Node Meaning (Meaning × Meaning) Meaning (of_node whole) of_branch of_expr (out-Node k))
    ∙ ap of_nodes (roll-out-Node k)

abbrev ProvedBranch : Type 0
ProvedBranch = Branch-F ((m : Node) × P m) ((b : Branch) × Q b) ((e : Expr) × R e)

at_branch : (y : ProvedBranch) → Q (roll-Branch (record { guard = y.guard.0; body = y.body.0 }))
at_branch y c h =
    let r : Branch-F Node Branch Expr = record { guard = y.guard.0; body = y.body.0 } in
    let s = and_split (same_tree y.guard.0 c.guard) (same_tree y.body.0 c.body)
    (sym (ap (λ (t : Branch → Bool). t c) (fold-roll-Branch (Node → Bool) (Branch → Bool) (Expr → Bool) on_node on_branch on_expr r)) ∙ h) in
    fold-roll-Branch Meaning (Meaning × Meaning) Meaning (of_node whole) of_branch of_expr r
    ∙ ap (λ (m : Meaning). (m, meaning y.body.0)) (y.guard.1 c.guard s.0)
    ∙ ap (λ (m : Meaning). (meaning c.guard, m)) (y.body.1 c.body s.1)
    ∙ sym (fold-roll-Branch Meaning (Meaning × Meaning) Meaning (of_node whole) of_branch of_expr (record { guard = c.guard; body = c.body }))

abbrev ProvedExpr : Type 0
ProvedExpr = Expr-F ((m : Node) × P m) ((b : Branch) × Q b) ((e : Expr) × R e)

at_expr : (y : ProvedExpr) → R (roll-Expr (record { node = y.node.0; place = y.place }))
at_expr y f h =
    let r : Expr-F Node Branch Expr = record { node = y.node.0; place = y.place } in
    fold-roll-Expr Meaning (Meaning × Meaning) Meaning (of_node whole) of_branch of_expr r
    ∙ y.node.1 f.node (sym (ap (λ (t : Expr → Bool). t f) (fold-roll-Expr (Node → Bool) (Branch → Bool) (Expr → Bool) on_node on_branch on_expr r)) ∙ h)
    ∙ sym (fold-roll-Expr Meaning (Meaning × Meaning) Meaning (of_node whole) of_branch of_expr (record { node = f.node; place = f.place }))

-- trees that are the same apart from places mean the same
pub same_meaning : (e f : Expr) → IsTrue (same_tree e f) → meaning e ≡ meaning f
same_meaning = ind-Expr P Q R
    (λ x y h. subst (λ z. P (roll-Node z)) h (at_layer y))
    (λ x y h. subst (λ z. Q (roll-Branch z)) h (at_branch y))
    (λ x y h. subst (λ z. R (roll-Expr z)) h (at_expr y))
