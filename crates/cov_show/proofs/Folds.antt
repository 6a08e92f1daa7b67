-- What a fold over a tree is at each kind of node.
use Rattle.std.proofs.Common.{◌≡◌, ℕ, ℤ, List, map, sym, ap, ◌∙◌}
use Rattle.cov_syntax.specs.declared.tree.Branch.{Branch, roll-Branch}
use Rattle.cov_syntax.specs.declared.tree.Expr.{Expr, roll-Expr}
use Rattle.cov_syntax.specs.declared.tree.Node.TheFolds.{the_lemmas, fold-Branch, fold-Expr, fold-Node, fold-roll-Branch, fold-roll-Expr, fold-roll-Node}
use Rattle.cov_syntax.specs.declared.tree.Node.TheOpen.{Branch-F, Expr-F, Node-F}
use Rattle.cov_syntax.specs.declared.tree.Node.TheVariants as n
use Rattle.cov_syntax.specs.declared.tree.Op1.{Op1}
use Rattle.cov_syntax.specs.declared.tree.Op2.{Op2}
use Rattle.cov_syntax.specs.declared.tree.Span.{Span}
use Rattle.cov_syntax.specs.declared.tree.Value.{Value}

module _ (A B C : Type 0) (node : Node-F A B C → A) (branch : Branch-F A B C → B) (expr : Expr-F A B C → C) where
  abbrev whole : Expr → C
  whole = fold-Expr A B C node branch expr

  abbrev of_branch : Branch → B
  of_branch = fold-Branch A B C node branch expr

  abbrev put : Span → A → C
  put place m = expr (record { node = m; place = place })

  pub fold_lit : (v : Value) (place : Span) → whole (roll-Expr (record { node = n.Lit v; place = place })) ≡ put place (node (Node-F.Lit v))
  fold_lit v place = search the_lemmas

  pub fold_path : (names : List ℕ) (place : Span) → whole (roll-Expr (record { node = n.Path names; place = place })) ≡ put place (node (Node-F.Path names))
  fold_path names place = search the_lemmas

  pub fold_range : (i j : ℤ) (place : Span) → whole (roll-Expr (record { node = n.Range i j; place = place })) ≡ put place (node (Node-F.Range i j))
  fold_range i j place = search the_lemmas

  pub fold_one : (op : Op1) (a : Expr) (place : Span) → whole (roll-Expr (record { node = n.One op a; place = place })) ≡ put place (node (Node-F.One op (whole a)))
  fold_one op a place = search the_lemmas

  pub fold_two : (op : Op2) (a b : Expr) (place : Span) → whole (roll-Expr (record { node = n.Two op a b; place = place })) ≡ put place (node (Node-F.Two op (whole a) (whole b)))
  fold_two op a b place = fold-roll-Expr A B C node branch expr (record { node = n.Two op a b; place = place })
      ∙ ap (put place) (ap (fold-Node A B C node branch expr) (sym (n.rolls-Two op a b)) ∙ fold-roll-Node A B C node branch expr (Node-F.Two op a b))

  pub fold_set : (es : List Expr) (place : Span) → whole (roll-Expr (record { node = n.Set es; place = place })) ≡ put place (node (Node-F.Set (map whole es)))
  fold_set es place = fold-roll-Expr A B C node branch expr (record { node = n.Set es; place = place })
      ∙ ap (put place) (ap (fold-Node A B C node branch expr) (sym (n.rolls-Set es)) ∙ fold-roll-Node A B C node branch expr (Node-F.Set es))

  pub fold_case : (bs : List Branch) (place : Span) → whole (roll-Expr (record { node = n.Case bs; place = place })) ≡ put place (node (Node-F.Case (map of_branch bs)))
  fold_case bs place = fold-roll-Expr A B C node branch expr (record { node = n.Case bs; place = place })
      ∙ ap (put place) (ap (fold-Node A B C node branch expr) (sym (n.rolls-Case bs)) ∙ fold-roll-Node A B C node branch expr (Node-F.Case bs))

  pub fold_branch : (g e : Expr) → of_branch (roll-Branch (record { guard = g; body = e })) ≡ branch (record { guard = whole g; body = whole e })
  fold_branch g e = fold-roll-Branch A B C node branch expr (record { guard = g; body = e })
