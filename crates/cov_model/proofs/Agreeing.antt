-- What the walk finds at an expression depends on the kinds of what it reads alone.
use Rattle.std.proofs.Common.{◌≡◌, ℕ, Bool, true, false, ◌||◌, IsTrue, ◌⊎◌, inl, inr, List, [], ◌∷◌, ◌++◌, map, refl, sym, ap, subst, ◌∙◌, arith}
use Rattle.std.specs.Prelude.{◌==◌}
use Rattle.std.specs.List.{list_any, flat_map}
use Rattle.cov_syntax.specs.declared.tree.Span.{Span}
use Rattle.cov_syntax.specs.declared.tree.Expr.{Expr, roll-Expr}
use Rattle.cov_syntax.specs.declared.tree.Branch.{Branch, roll-Branch}
use Rattle.cov_syntax.specs.declared.tree.Node.{Node, roll-Node}
use Rattle.cov_syntax.specs.declared.tree.Node.TheVariants as n
use Rattle.cov_syntax.specs.declared.tree.Node.TheOpen.{Node-F, Branch-F, Expr-F}
use Rattle.cov_syntax.specs.declared.tree.Node.TheFolds.{ind-Expr, map-Node, fold-Node, fold-Branch, fold-roll-Node, fold-roll-Branch, fold-roll-Expr}
use Rattle.cov_model.specs.Kinds.{Kind, Kinds, kind_at}
use Rattle.cov_model.specs.Walk as walk
use Rattle.cov_model.specs.Walk.{Judged, judged, simple}
use Rattle.cov_model.specs.Order.{reads, reads_layer, has}
use Rattle.cov_model.proofs.Joins.{or_left, or_right, any_left, any_right}
use Rattle.cov_model.proofs.Tied.{Layer}
use Rattle.cov_model.proofs.Closed.{judged_node, judged_branch, judged_layer}

abbrev node_reads : Node → List ℕ
node_reads = fold-Node (List ℕ) (List ℕ) (List ℕ) reads_layer (λ b. b.guard ++ b.body) (λ e. e.node)

abbrev branch_reads : Branch → List ℕ
branch_reads = fold-Branch (List ℕ) (List ℕ) (List ℕ) reads_layer (λ b. b.guard ++ b.body) (λ e. e.node)

-- the kinds agree on the variables, and on these DEFINEs
abbrev pub Agree : Kinds → Kinds → List ℕ → Type 0
Agree ks ls js = (i : ℕ) → IsTrue (has js i) → kind_at ks.defs i ≡ kind_at ls.defs i

agree_left : (ks ls : Kinds) (xs ys : List ℕ) → Agree ks ls (xs ++ ys) → Agree ks ls xs
agree_left ks ls xs ys h = λ i k. h i (any_left (λ j. j == i) xs ys k)

agree_right : (ks ls : Kinds) (xs ys : List ℕ) → Agree ks ls (xs ++ ys) → Agree ks ls ys
agree_right ks ls xs ys h = λ i k. h i (any_right (λ j. j == i) xs ys k)

module _ (ks ls : Kinds) (same_vars : ks.vars ≡ ls.vars) where
  abbrev P : Node → Type 0
  P m = Agree ks ls (node_reads m) → (place : Span) → judged_node ks m place ≡ judged_node ls m place

  abbrev Q : Branch → Type 0
  Q b = Agree ks ls (branch_reads b) → judged_branch ks b ≡ judged_branch ls b

  abbrev R : Expr → Type 0
  R e = Agree ks ls (reads e) → judged ks e ≡ judged ls e

  abbrev Proved : Type 0
  Proved = Node-F ((m : Node) × P m) ((b : Branch) × Q b) ((e : Expr) × R e)

  abbrev bare : Proved → Layer
  bare y = map-Node ((m : Node) × P m) ((b : Branch) × Q b) ((e : Expr) × R e) Node Branch Expr (λ e. e.0) (λ e. e.0) (λ e. e.0) y

  abbrev read_layer : Layer → Node-F (List ℕ) (List ℕ) (List ℕ)
  read_layer l = map-Node Node Branch Expr (List ℕ) (List ℕ) (List ℕ) node_reads branch_reads reads l

  items : (es : List ((e : Expr) × R e)) → Agree ks ls (flat_map (λ (xs : List ℕ). xs) (map reads (map (λ (x : (e : Expr) × R e). x.0) es)))
      → map (judged ks) (map (λ (x : (e : Expr) × R e). x.0) es) ≡ map (judged ls) (map (λ (x : (e : Expr) × R e). x.0) es)
  items [] h = refl
  items (e ∷ es) h =
      let rest : List ℕ = flat_map (λ (xs : List ℕ). xs) (map reads (map (λ (x : (e : Expr) × R e). x.0) es)) in
      ap (λ (j : Judged). j ∷ map (judged ks) (map (λ (x : (e : Expr) × R e). x.0) es)) (e.1 (agree_left ks ls (reads e.0) rest h))
      ∙ ap (λ (js : List Judged). judged ls e.0 ∷ js) (items es (agree_right ks ls (reads e.0) rest h))

  arms : (bs : List ((b : Branch) × Q b)) → Agree ks ls (flat_map (λ (xs : List ℕ). xs) (map branch_reads (map (λ (x : (b : Branch) × Q b). x.0) bs)))
      → map (judged_branch ks) (map (λ (x : (b : Branch) × Q b). x.0) bs) ≡ map (judged_branch ls) (map (λ (x : (b : Branch) × Q b). x.0) bs)
  arms [] h = refl
  arms (b ∷ bs) h =
      let rest : List ℕ = flat_map (λ (xs : List ℕ). xs) (map branch_reads (map (λ (x : (b : Branch) × Q b). x.0) bs)) in
      ap (λ (j : Judged × Judged). j ∷ map (judged_branch ks) (map (λ (x : (b : Branch) × Q b). x.0) bs)) (b.1 (agree_left ks ls (branch_reads b.0) rest h))
      ∙ ap (λ (js : List (Judged × Judged)). judged_branch ls b.0 ∷ js) (arms bs (agree_right ks ls (branch_reads b.0) rest h))

  own_place : (i : ℕ) → IsTrue (has (i ∷ []) i)
  own_place i = or_left (i == i) false (same i)
    where
      same : (i : ℕ) → IsTrue (i == i)
      same i = grind arith

  at : (y : Proved) → Agree ks ls (reads_layer (read_layer (bare y))) → (place : Span) → walk.of_node ks (judged_layer ks (bare y)) place ≡ walk.of_node ls (judged_layer ls (bare y)) place
  at (Node-F.Lit x) h place = refl
  at (Node-F.Path p) h place = refl
  at (Node-F.Var i) h place = ap (λ (vs : List Kind). simple place (n.Var i) (kind_at vs i) (λ may. []) (n.Var i)) same_vars
  at (Node-F.Def i) h place = ap (λ (k : Kind). simple place (n.Def i) k (λ may. []) (n.Def i)) (h i (own_place i))
  at (Node-F.One op a) h place = ap (λ (j : Judged). walk.of_node ks (Node-F.One op j) place) (a.1 h)
  at (Node-F.Two op a b) h place =
      ap (λ (j : Judged). walk.of_node ks (Node-F.Two op j (judged ks b.0)) place) (a.1 (agree_left ks ls (reads a.0) (reads b.0) h))
      ∙ ap (λ (j : Judged). walk.of_node ks (Node-F.Two op (judged ls a.0) j) place) (b.1 (agree_right ks ls (reads a.0) (reads b.0) h))
  at (Node-F.Range low high) h place = refl
  at (Node-F.Set es) h place = ap (λ (js : List Judged). walk.of_node ks (Node-F.Set js) place) (items es h)
  at (Node-F.Case bs) h place = ap (λ (js : List (Judged × Judged)). walk.of_node ks (Node-F.Case js) place) (arms bs h)

  at_layer : (y : Proved) → P (roll-Node (bare y))
  at_layer y h place =
      ap (λ (f : Span → Judged). f place) (fold-roll-Node (Span → Judged) (Judged × Judged) Judged (walk.of_node ks) (λ b. (b.guard, b.body)) (λ e. e.node e.place) (bare y))
      ∙ at y (subst (Agree ks ls) (fold-roll-Node (List ℕ) (List ℕ) (List ℕ) reads_layer (λ b. b.guard ++ b.body) (λ e. e.node) (bare y)) h) place
      ∙ sym (ap (λ (f : Span → Judged). f place) (fold-roll-Node (Span → Judged) (Judged × Judged) Judged (walk.of_node ls) (λ b. (b.guard, b.body)) (λ e. e.node e.place) (bare y)))

  abbrev ProvedBranch : Type 0
  ProvedBranch = Branch-F ((m : Node) × P m) ((b : Branch) × Q b) ((e : Expr) × R e)

  at_branch : (y : ProvedBranch) → Q (roll-Branch (record { guard = y.guard.0; body = y.body.0 }))
  at_branch y h =
      let r : Branch-F Node Branch Expr = record { guard = y.guard.0; body = y.body.0 } in
      let g = subst (Agree ks ls) (fold-roll-Branch (List ℕ) (List ℕ) (List ℕ) reads_layer (λ b. b.guard ++ b.body) (λ e. e.node) r) h in
      fold-roll-Branch (Span → Judged) (Judged × Judged) Judged (walk.of_node ks) (λ b. (b.guard, b.body)) (λ e. e.node e.place) r
      ∙ ap (λ (j : Judged). (j, judged ks y.body.0)) (y.guard.1 (agree_left ks ls (reads y.guard.0) (reads y.body.0) g))
      ∙ ap (λ (j : Judged). (judged ls y.guard.0, j)) (y.body.1 (agree_right ks ls (reads y.guard.0) (reads y.body.0) g))
      ∙ sym (fold-roll-Branch (Span → Judged) (Judged × Judged) Judged (walk.of_node ls) (λ b. (b.guard, b.body)) (λ e. e.node e.place) r)

  abbrev ProvedExpr : Type 0
  ProvedExpr = Expr-F ((m : Node) × P m) ((b : Branch) × Q b) ((e : Expr) × R e)

  at_expr : (y : ProvedExpr) → R (roll-Expr (record { node = y.node.0; place = y.place }))
  at_expr y h =
      let r : Expr-F Node Branch Expr = record { node = y.node.0; place = y.place } in
      fold-roll-Expr (Span → Judged) (Judged × Judged) Judged (walk.of_node ks) (λ b. (b.guard, b.body)) (λ e. e.node e.place) r
      ∙ y.node.1 (subst (Agree ks ls) (fold-roll-Expr (List ℕ) (List ℕ) (List ℕ) reads_layer (λ b. b.guard ++ b.body) (λ e. e.node) r) h) y.place
      ∙ sym (fold-roll-Expr (Span → Judged) (Judged × Judged) Judged (walk.of_node ls) (λ b. (b.guard, b.body)) (λ e. e.node e.place) r)

  pub same_judged : (e : Expr) → R e
  same_judged = ind-Expr P Q R
      (λ x y h. subst (λ z. P (roll-Node z)) h (at_layer y))
      (λ x y h. subst (λ z. Q (roll-Branch z)) h (at_branch y))
      (λ x y h. subst (λ z. R (roll-Expr z)) h (at_expr y))
