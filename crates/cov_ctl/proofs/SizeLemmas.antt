-- The size counted on an expression is that of its lowered formula.
use Rattle.std.proofs.Common.{◌≡◌, ℕ, ◌+◌, Bool, true, false, ◌||◌, if◌then◌else◌, List, [], ◌∷◌, map, refl, sym, ap, subst, ◌∙◌, arith}
use Rattle.std.specs.List.{list_any}
use Rattle.cov_syntax.specs.declared.tree.Span.{Span}
use Rattle.cov_syntax.specs.declared.tree.Op1.{Op1}
use Rattle.cov_syntax.specs.declared.tree.Op1.TheVariants as op1
use Rattle.cov_syntax.specs.declared.tree.Op2.{Op2}
use Rattle.cov_syntax.specs.declared.tree.Op2.TheVariants as op2
use Rattle.cov_syntax.specs.declared.tree.Node.{Node, roll-Node, out-roll-Node}
use Rattle.cov_syntax.specs.declared.tree.Expr.{Expr, roll-Expr}
use Rattle.cov_syntax.specs.declared.tree.Branch.{Branch, roll-Branch}
use Rattle.cov_syntax.specs.declared.tree.Node.TheFolds.{ind-Expr, map-Node, fold-Expr, fold-Node, fold-Branch, fold-roll-Node, fold-roll-Branch, fold-roll-Expr}
use Rattle.cov_syntax.specs.declared.tree.Node.TheOpen.{Node-F, Branch-F, Expr-F}
use Rattle.cov_ctl.specs.declared.formula.Formula.{Formula}
use Rattle.cov_ctl.specs.declared.formula.Formula.TheVariants as f
use Rattle.cov_ctl.specs.declared.formula.Formula.TheFolds as formulas
use Rattle.cov_ctl.specs.Sizes.{size}
use Rattle.cov_ctl.specs.Temporal.{is_temporal, temporal_layer, temporal_branch, temporal_expr, branch_is_temporal, is_path_operator, is_until}
use Rattle.cov_ctl.specs.Lowered.{lowered, lowered_one, lowered_two, lowered_layer, written_out, on_node, on_branch, on_expr}
use Rattle.cov_ctl.specs.Written.{Written, written, written_one, written_two, written_layer, written_branch, written_expr, twice}

abbrev put : Span → Node → Expr
put place m = roll-Expr (record { node = m; place = place })

-- what is claimed of an expression
pub record Counted (e : Expr) : Type 0 where
  pub temporal : (written e).0 ≡ is_temporal e
  pub nodes : (written e).1 ≡ size (lowered e)

abbrev P : Node → Type 0
P m = (place : Span) → Counted (put place m)

abbrev written_of_branch : Branch → Written
written_of_branch = fold-Branch Written Written Written written_layer written_branch written_expr

abbrev Q : Branch → Type 0
Q b = (written_of_branch b).0 ≡ branch_is_temporal b

abbrev Proved : Type 0
Proved = Node-F ((m : Node) × P m) ((b : Branch) × Q b) ((e : Expr) × Counted e)

abbrev bare : Proved → Node-F Node Branch Expr
bare y = map-Node ((m : Node) × P m) ((b : Branch) × Q b) ((e : Expr) × Counted e) Node Branch Expr (λ e. e.0) (λ e. e.0) (λ e. e.0) y

abbrev written_of_node : Node → Written
written_of_node = fold-Node Written Written Written written_layer written_branch written_expr

written_step : (place : Span) (l : Node-F Node Branch Expr)
    → written (put place (roll-Node l)) ≡ written_layer (map-Node Node Branch Expr Written Written Written written_of_node written_of_branch written l)
written_step place l =
    fold-roll-Expr Written Written Written written_layer written_branch written_expr (record { node = roll-Node l; place = place })
    ∙ fold-roll-Node Written Written Written written_layer written_branch written_expr l

abbrev temporal_of_node : Node → Bool
temporal_of_node = fold-Node Bool Bool Bool temporal_layer temporal_branch temporal_expr

temporal_step : (place : Span) (l : Node-F Node Branch Expr)
    → is_temporal (put place (roll-Node l)) ≡ temporal_layer (map-Node Node Branch Expr Bool Bool Bool temporal_of_node branch_is_temporal is_temporal l)
temporal_step place l =
    fold-roll-Expr Bool Bool Bool temporal_layer temporal_branch temporal_expr (record { node = roll-Node l; place = place })
    ∙ fold-roll-Node Bool Bool Bool temporal_layer temporal_branch temporal_expr l

abbrev lowering : Expr → Expr → Formula
lowering = fold-Expr (Expr → Formula) (Branch → Formula) (Expr → Formula) on_node on_branch on_expr

abbrev lowering_node : Node → Expr → Formula
lowering_node = fold-Node (Expr → Formula) (Branch → Formula) (Expr → Formula) on_node on_branch on_expr

abbrev lowering_branch : Branch → Branch → Formula
lowering_branch = fold-Branch (Expr → Formula) (Branch → Formula) (Expr → Formula) on_node on_branch on_expr

abbrev lowering_layer : Node-F Node Branch Expr → Node-F (Expr → Formula) (Branch → Formula) (Expr → Formula)
lowering_layer l = map-Node Node Branch Expr (Expr → Formula) (Branch → Formula) (Expr → Formula) lowering_node lowering_branch lowering l

lowered_step : (place : Span) (l : Node-F Node Branch Expr)
    → lowered (put place (roll-Node l)) ≡ lowered_layer (put place (roll-Node l)) (lowering_layer l) l
lowered_step place l =
    let whole : Expr = put place (roll-Node l) in
    ap (λ (t : Expr → Formula). t whole) (fold-roll-Expr (Expr → Formula) (Branch → Formula) (Expr → Formula) on_node on_branch on_expr (record { node = roll-Node l; place = place }))
    ∙ ap (λ (t : Expr → Formula). t whole) (fold-roll-Node (Expr → Formula) (Branch → Formula) (Expr → Formula) on_node on_branch on_expr l)
    ∙ ap (λ (k : Node-F Node Branch Expr). lowered_layer whole (lowering_layer l) k) (out-roll-Node l)

-- ---- sizes of what an operator makes

size_one : (whole : Expr) (op : Op1) (a : Formula) (t : Bool) → (written_one op (t, size a)).1 ≡ size (lowered_one whole op a)
size_one whole op1.Not a t = search formulas.the_lemmas
size_one whole op1.Neg a t = search formulas.the_lemmas
size_one whole op1.Next a t = search formulas.the_lemmas
size_one whole op1.Ex a t = search formulas.the_lemmas
size_one whole op1.Ef a t = search formulas.the_lemmas
size_one whole op1.Eg a t = search formulas.the_lemmas
size_one whole op1.Ax a t = search formulas.the_lemmas
size_one whole op1.Af a t = search formulas.the_lemmas
size_one whole op1.Ag a t = search formulas.the_lemmas

size_written_out : (op : Op2) (a b : Formula) → 5 + (size a + size b) + (size a + size b) ≡ size (written_out op a b)
size_written_out op2.Xor a b = simp formulas.the_lemmas (omega arith)
size_written_out _ a b = simp formulas.the_lemmas (omega arith)

size_twice : (whole : Expr) (op : Op2) (a b : Formula) (s t : Bool)
    → (twice (s, size a) (t, size b)).1 ≡ size (if s || t then written_out op a b else f.Atom whole)
size_twice whole op a b true t = size_written_out op a b
size_twice whole op a b false true = size_written_out op a b
size_twice whole op a b false false = search formulas.the_lemmas

size_two : (whole : Expr) (op : Op2) (a b : Formula) (s t : Bool) → (written_two op (s, size a) (t, size b)).1 ≡ size (lowered_two whole op (s || t) a b)
size_two whole op2.And a b s t = search formulas.the_lemmas
size_two whole op2.Or a b s t = search formulas.the_lemmas
size_two whole op2.Implies a b s t = search formulas.the_lemmas
size_two whole op2.Au a b s t = search formulas.the_lemmas
size_two whole op2.Eu a b s t = search formulas.the_lemmas
size_two whole op2.Iff a b s t = size_twice whole op2.Iff a b s t
size_two whole op2.Xor a b s t = size_twice whole op2.Xor a b s t
size_two whole _ a b s t = search formulas.the_lemmas

size_atom : (whole : Expr) → 1 ≡ size (f.Atom whole)
size_atom whole = search formulas.the_lemmas

temporal_one : (op : Op1) (t : Bool) (n : ℕ) → (written_one op (t, n)).0 ≡ (is_path_operator op || t)
temporal_one op1.Not t n = refl
temporal_one op1.Neg t n = refl
temporal_one op1.Next t n = refl
temporal_one _ t n = refl

temporal_twice : (s t : Bool) (m n : ℕ) → (twice (s, m) (t, n)).0 ≡ (s || t)
temporal_twice true t m n = refl
temporal_twice false true m n = refl
temporal_twice false false m n = refl

temporal_two : (op : Op2) (s t : Bool) (m n : ℕ) → (written_two op (s, m) (t, n)).0 ≡ (is_until op || s || t)
temporal_two op2.Iff s t m n = temporal_twice s t m n
temporal_two op2.Xor s t m n = temporal_twice s t m n
temporal_two op2.Au s t m n = refl
temporal_two op2.Eu s t m n = refl
temporal_two _ s t m n = refl

any_set : (es : List ((e : Expr) × Counted e)) → list_any (λ (w : Written). w.0) (map written (map (λ e. e.0) es)) ≡ list_any (λ e. e) (map is_temporal (map (λ e. e.0) es))
any_set [] = refl
any_set (e ∷ es) = rw (e.1.temporal, any_set es) refl

any_case : (bs : List ((b : Branch) × Q b)) → list_any (λ (w : Written). w.0) (map written_of_branch (map (λ b. b.0) bs)) ≡ list_any (λ b. b) (map branch_is_temporal (map (λ b. b.0) bs))
any_case [] = refl
any_case (b ∷ bs) = rw (b.1, any_case bs) refl

-- ---- the induction

claim : (place : Span) (l : Node-F Node Branch Expr)
    → (written_layer (map-Node Node Branch Expr Written Written Written written_of_node written_of_branch written l)).0
    ≡ temporal_layer (map-Node Node Branch Expr Bool Bool Bool temporal_of_node branch_is_temporal is_temporal l)
    → (written_layer (map-Node Node Branch Expr Written Written Written written_of_node written_of_branch written l)).1
    ≡ size (lowered_layer (put place (roll-Node l)) (lowering_layer l) l)
    → Counted (put place (roll-Node l))
claim place l t n = record {
  temporal = ap (λ (w : Written). w.0) (written_step place l) ∙ t ∙ sym (temporal_step place l);
  nodes = ap (λ (w : Written). w.1) (written_step place l) ∙ n ∙ ap size (sym (lowered_step place l));
}

one_claim : (op : Op1) (w : Expr) (x : Expr) → Counted x → (written_one op (written x)).1 ≡ size (lowered_one w op (lowered x))
one_claim op w x h = ap (λ (k : ℕ). (written_one op ((written x).0, k)).1) h.nodes ∙ size_one w op (lowered x) (written x).0

two_claim : (op : Op2) (w x y : Expr) → Counted x → Counted y
    → (written_two op (written x) (written y)).1 ≡ size (lowered_two w op (is_temporal x || is_temporal y) (lowered x) (lowered y))
two_claim op w x y h k =
    ap (λ (n : ℕ). (written_two op ((written x).0, n) (written y)).1) h.nodes
    ∙ ap (λ (n : ℕ). (written_two op ((written x).0, size (lowered x)) ((written y).0, n)).1) k.nodes
    ∙ size_two w op (lowered x) (lowered y) (written x).0 (written y).0
    ∙ ap (λ (t : Bool). size (lowered_two w op (t || (written y).0) (lowered x) (lowered y))) h.temporal
    ∙ ap (λ (t : Bool). size (lowered_two w op (is_temporal x || t) (lowered x) (lowered y))) k.temporal

at_layer : (y : Proved) → P (roll-Node (bare y))
at_layer (Node-F.Lit x) place = claim place (Node-F.Lit x) refl (size_atom _)
at_layer (Node-F.Path p) place = claim place (Node-F.Path p) refl (size_atom _)
at_layer (Node-F.Var i) place = claim place (Node-F.Var i) refl (size_atom _)
at_layer (Node-F.Def i) place = claim place (Node-F.Def i) refl (size_atom _)
at_layer (Node-F.One op a) place =
    claim place (Node-F.One op a.0) (temporal_one op (written a.0).0 (written a.0).1 ∙ ap (λ (t : Bool). is_path_operator op || t) a.1.temporal) (one_claim op _ a.0 a.1)
at_layer (Node-F.Two op a b) place =
    claim place (Node-F.Two op a.0 b.0)
    (temporal_two op (written a.0).0 (written b.0).0 (written a.0).1 (written b.0).1
    ∙ ap (λ (t : Bool). is_until op || t || (written b.0).0) a.1.temporal
    ∙ ap (λ (t : Bool). is_until op || is_temporal a.0 || t) b.1.temporal)
    (two_claim op _ a.0 b.0 a.1 b.1)
at_layer (Node-F.Range a b) place = claim place (Node-F.Range a b) refl (size_atom _)
at_layer (Node-F.Set es) place = claim place (Node-F.Set (map (λ e. e.0) es)) (any_set es) (size_atom _)
at_layer (Node-F.Case bs) place = claim place (Node-F.Case (map (λ b. b.0) bs)) (any_case bs) (size_atom _)

abbrev ProvedBranch : Type 0
ProvedBranch = Branch-F ((m : Node) × P m) ((b : Branch) × Q b) ((e : Expr) × Counted e)

at_branch : (y : ProvedBranch) → Q (roll-Branch (record { guard = y.guard.0; body = y.body.0 }))
at_branch y = let r : Branch-F Node Branch Expr = record { guard = y.guard.0; body = y.body.0 } in
    ap (λ (w : Written). w.0) (fold-roll-Branch Written Written Written written_layer written_branch written_expr r)
    ∙ ap (λ (t : Bool). t || (written y.body.0).0) y.guard.1.temporal
    ∙ ap (λ (t : Bool). is_temporal y.guard.0 || t) y.body.1.temporal
    ∙ sym (fold-roll-Branch Bool Bool Bool temporal_layer temporal_branch temporal_expr r)

abbrev ProvedExpr : Type 0
ProvedExpr = Expr-F ((m : Node) × P m) ((b : Branch) × Q b) ((e : Expr) × Counted e)

at_expr : (y : ProvedExpr) → Counted (roll-Expr (record { node = y.node.0; place = y.place }))
at_expr y = y.node.1 y.place

pub counted : (e : Expr) → Counted e
counted = ind-Expr P Q Counted
    (λ x y h. subst (λ z. P (roll-Node z)) h (at_layer y))
    (λ x y h. subst (λ z. Q (roll-Branch z)) h (at_branch y))
    (λ x y h. subst (λ z. Counted (roll-Expr z)) h (at_expr y))

pub written_temporal : (e : Expr) → (written e).0 ≡ is_temporal e
written_temporal e = (counted e).temporal
