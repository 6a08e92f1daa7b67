-- A test that a tree passes where its parts do is passed by each tree that is read.
use Rattle.std.proofs.Common.{◌≡◌, ℕ, Bool, true, nat_lt, List, [], ◌∷◌, map, ap, ◌∙◌}
use Rattle.std.specs.Prelude.{ℤ}
use Rattle.std.proofs.lemmas.List.Folds.{list_all-map}
use Rattle.cov_syntax.specs.declared.tree.Branch.{Branch, roll-Branch}
use Rattle.cov_syntax.specs.declared.tree.Expr.{Expr, roll-Expr}
use Rattle.cov_syntax.specs.declared.tree.Node.TheFolds.{fold-Branch, fold-Expr}
use Rattle.cov_syntax.specs.declared.tree.Node.TheOpen.{Branch-F, Expr-F, Node-F}
use Rattle.cov_syntax.specs.declared.tree.Node.TheVariants as n
use Rattle.cov_syntax.specs.declared.tree.Op1.{Op1}
use Rattle.cov_syntax.specs.declared.tree.Op1.TheVariants as op1
use Rattle.cov_syntax.specs.declared.tree.Op2.{Op2}
use Rattle.cov_syntax.specs.declared.tree.Op2.TheVariants as op2
use Rattle.cov_syntax.specs.declared.tree.Span.{Span}
use Rattle.cov_syntax.specs.declared.tree.Value.TheVariants as v
use Rattle.cov_syntax.specs.Lexemes.{Lexemes, span, at}
use Rattle.cov_syntax.specs.Reading.{Reads, ReadsExprs, ReadsBranches, ReadsBranch}
use Rattle.cov_syntax.specs.Reading.{Reads as r}
use Rattle.cov_syntax.specs.Reading.{ReadsExprs.last_expr, ReadsExprs.more_exprs, ReadsBranches.last_branch, ReadsBranches.more_branches, ReadsBranch.branch}
use Rattle.cov_show.proofs.Folds.{fold_lit, fold_path, fold_range, fold_one, fold_two, fold_set, fold_case, fold_branch}
use Rattle.cov_programs.proofs.KnownLemmas.{Known, some_pass, some_one, some_more, int_known, path_passes}

-- A test of what is computed of trees: literals that are read, paths of names below the bound, and trees whose parts pass it pass it.
pub record IsReadTest {A : Type 0} (bound : ℕ) (test : A → Bool) (node : Node-F A A A → A) (branch : Branch-F A A A → A) (expr : Expr-F A A A → A) : Type 0 where
  pub integer : (i : ℤ) → test (node (Node-F.Lit (v.Int i))) ≡ true
  pub truth : (b : Bool) → test (node (Node-F.Lit (v.Bool b))) ≡ true
  pub path : (names : List ℕ) → some_pass (λ i. nat_lt i bound) names ≡ true → test (node (Node-F.Path names)) ≡ true
  pub one : (op : Op1) (a : A) → test a ≡ true → test (node (Node-F.One op a)) ≡ true
  pub two : (op : Op2) (a b : A) → test a ≡ true → test b ≡ true → test (node (Node-F.Two op a b)) ≡ true
  pub range : (i j : ℤ) → test (node (Node-F.Range i j)) ≡ true
  pub set : (es : List A) → some_pass test es ≡ true → test (node (Node-F.Set es)) ≡ true
  pub choice : (bs : List A) → some_pass test bs ≡ true → test (node (Node-F.Case bs)) ≡ true
  pub pair : (g e : A) → test g ≡ true → test e ≡ true → test (branch (record { guard = g; body = e })) ≡ true
  pub placed : (place : Span) (a : A) → test a ≡ true → test (expr (record { node = a; place = place })) ≡ true

-- what is computed of each passes where each does
some_pass-map : {X A : Type 0} (test : A → Bool) (f : X → A) (xs : List X) → some_pass (λ x. test (f x)) xs ≡ true → some_pass test (map f xs) ≡ true
some_pass-map test f [] e = e
some_pass-map test f (x ∷ xs) e = list_all-map test f (x ∷ xs) ∙ e

module _ {A : Type 0} (bound : ℕ) (test : A → Bool) (node : Node-F A A A → A) (branch_of : Branch-F A A A → A) (expr : Expr-F A A A → A) (is : IsReadTest bound test node branch_of expr) where
  abbrev whole : Expr → A
  whole = fold-Expr A A A node branch_of expr

  abbrev whole_branch : Branch → A
  whole_branch = fold-Branch A A A node branch_of expr

  abbrev passes : Expr → Bool
  passes e = test (whole e)

  abbrev passes_branch : Branch → Bool
  passes_branch b = test (whole_branch b)

  -- ---- each kind of node

  integer_passes : (i : ℤ) (place : Span) → passes (roll-Expr (record { node = n.Lit (v.Int i); place = place })) ≡ true
  integer_passes i place = ap test (fold_lit A A A node branch_of expr (v.Int i) place) ∙ is.placed place _ (is.integer i)

  truth_passes : (b : Bool) (place : Span) → passes (roll-Expr (record { node = n.Lit (v.Bool b); place = place })) ≡ true
  truth_passes b place = ap test (fold_lit A A A node branch_of expr (v.Bool b) place) ∙ is.placed place _ (is.truth b)

  pub path_expr_passes : (names : List ℕ) (place : Span) → some_pass (λ i. nat_lt i bound) names ≡ true → passes (roll-Expr (record { node = n.Path names; place = place })) ≡ true
  path_expr_passes names place e = ap test (fold_path A A A node branch_of expr names place) ∙ is.placed place _ (is.path names e)

  range_passes : (i j : ℤ) (place : Span) → passes (roll-Expr (record { node = n.Range i j; place = place })) ≡ true
  range_passes i j place = ap test (fold_range A A A node branch_of expr i j place) ∙ is.placed place _ (is.range i j)

  one_passes : (op : Op1) (a : Expr) (place : Span) → passes a ≡ true → passes (roll-Expr (record { node = n.One op a; place = place })) ≡ true
  one_passes op a place p = ap test (fold_one A A A node branch_of expr op a place) ∙ is.placed place _ (is.one op (whole a) p)

  two_passes : (op : Op2) (a b : Expr) (place : Span) → passes a ≡ true → passes b ≡ true → passes (roll-Expr (record { node = n.Two op a b; place = place })) ≡ true
  two_passes op a b place p q = ap test (fold_two A A A node branch_of expr op a b place) ∙ is.placed place _ (is.two op (whole a) (whole b) p q)

  set_passes : (es : List Expr) (place : Span) → some_pass passes es ≡ true → passes (roll-Expr (record { node = n.Set es; place = place })) ≡ true
  set_passes es place p = ap test (fold_set A A A node branch_of expr es place) ∙ is.placed place _ (is.set (map whole es) (some_pass-map test whole es p))

  choice_passes : (bs : List Branch) (place : Span) → some_pass passes_branch bs ≡ true → passes (roll-Expr (record { node = n.Case bs; place = place })) ≡ true
  choice_passes bs place p = ap test (fold_case A A A node branch_of expr bs place) ∙ is.placed place _ (is.choice (map whole_branch bs) (some_pass-map test whole_branch bs p))

  branch_passes : (g e : Expr) → passes g ≡ true → passes e ≡ true → passes_branch (roll-Branch (record { guard = g; body = e })) ≡ true
  branch_passes g e p q = ap test (fold_branch A A A node branch_of expr g e) ∙ is.pair (whole g) (whole e) p q

  -- ---- what is read

  mutual
    pub expr_passes : {l : ℕ} {xs ys : Lexemes} {e : Expr} → Reads l xs e ys → Known bound xs → (passes e ≡ true) × Known bound ys
    expr_passes (r.tighter lt p) known = expr_passes p known
    expr_passes (r.implies {xs = xs} {zs = zs} {a = a} {b = b} e p q) known =
        let h = expr_passes p known in let g = expr_passes q h.1.1 in (two_passes op2.Implies a b (span xs zs) h.0 g.0, g.1)
    expr_passes (r.binary {op = op} {xs = xs} {zs = zs} {a = a} {b = b} e p q) known =
        let h = expr_passes p known in let g = expr_passes q h.1.1 in (two_passes op a b (span xs zs) h.0 g.0, g.1)
    expr_passes (r.prefixed {op = op} {xs = xs} {ys = ys} {t = t} {e = a} e p) known =
        let h = expr_passes p known.1 in (one_passes op a (span (t ∷ xs) ys) h.0, h.1)
    expr_passes (r.compared {op = op} {pre = pre} {xs = xs} {ys = ys} {zs = zs} {t = t} {u = u} {a = a} {b = b} e f p q) known =
        let h = expr_passes p known in
        let g = expr_passes q h.1.1.1 in
        (two_passes op a (at (n.One pre b) (u ∷ ys) zs) (span xs zs) h.0 (one_passes pre b (span (u ∷ ys) zs) g.0), g.1)
    expr_passes (r.integer {i = i} {xs = xs} {ys = ys} p) known = (integer_passes i (span xs ys), int_known bound p known)
    expr_passes (r.range {i = i} {j = j} {xs = xs} {zs = zs} e p q) known = let h = int_known bound p known in (range_passes i j (span xs zs), int_known bound q h.1)
    expr_passes (r.negated {xs = xs} {ys = ys} {t = t} {e = a} e h p) known = let g = expr_passes p known.1 in (one_passes op1.Neg a (span (t ∷ xs) ys) g.0, g.1)
    expr_passes (r.literal {b = b} {xs = xs} {t = t} e) known = (truth_passes b (span (t ∷ xs) xs), known.1)
    expr_passes (r.path {names = names} {xs = xs} {ys = ys} p) known = let h = path_passes bound p known in (path_expr_passes names (span xs ys) h.0, h.1)
    expr_passes (r.grouped e f p) known = let h = expr_passes p known.1 in (h.0, h.1.1)
    expr_passes (r.set {xs = xs} {ys = ys} {t = t} {es = es} e f p) known = let h = exprs_pass p known.1 in (set_passes es (span (t ∷ xs) ys) h.0, h.1.1)
    expr_passes (r.choice {xs = xs} {ys = ys} {t = t} {bs = bs} e f p) known = let h = branches_pass p known.1 in (choice_passes bs (span (t ∷ xs) ys) h.0, h.1.1)
    expr_passes (r.next_value {xs = xs} {ys = ys} {t = t} {o = o} {e = a} e f g p) known =
        let h = expr_passes p known.1.1 in (one_passes op1.Next a (span (t ∷ o ∷ xs) ys) h.0, h.1.1)
    expr_passes (r.until {op = op} {xs = xs} {zs = zs} {t = t} {o = o} {a = a} {b = b} e f g i p q) known =
        let h = expr_passes p known.1.1 in let j = expr_passes q h.1.1 in (two_passes op a b (span (t ∷ o ∷ xs) zs) h.0 j.0, j.1.1)

    pub exprs_pass : {xs ys : Lexemes} {es : List Expr} → ReadsExprs xs es ys → Known bound xs → (some_pass passes es ≡ true) × Known bound ys
    exprs_pass (last_expr {e = a} p) known = let h = expr_passes p known in (some_one passes a h.0, h.1)
    exprs_pass (more_exprs {e = a} {es = es} e p q) known = let h = expr_passes p known in let g = exprs_pass q h.1.1 in (some_more passes a es h.0 g.0, g.1)

    branches_pass : {xs ys : Lexemes} {bs : List Branch} → ReadsBranches xs bs ys → Known bound xs → (some_pass passes_branch bs ≡ true) × Known bound ys
    branches_pass (last_branch {b = b} p) known = let h = branch_read_passes p known in (some_one passes_branch b h.0, h.1)
    branches_pass (more_branches {b = b} {bs = bs} p q) known = let h = branch_read_passes p known in let g = branches_pass q h.1 in (some_more passes_branch b bs h.0 g.0, g.1)

    branch_read_passes : {xs ys : Lexemes} {b : Branch} → ReadsBranch xs b ys → Known bound xs → (passes_branch b ≡ true) × Known bound ys
    branch_read_passes (branch {g = g} {e = a} e f p q) known =
        let h = expr_passes p known in let j = expr_passes q h.1.1 in (branch_passes g a h.0 j.0, j.1.1)
