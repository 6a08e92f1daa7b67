-- What holds of a tree where it holds of its parts, and a fold of a tree by its top node.
use Rattle.std.proofs.Common.{◌≡◌, List, [], ◌∷◌, map, ap, subst, ◌∙◌}
use Rattle.cov_syntax.specs.declared.tree.Span.{Span}
use Rattle.cov_syntax.specs.declared.tree.Expr.{Expr, roll-Expr}
use Rattle.cov_syntax.specs.declared.tree.Branch.{Branch, roll-Branch}
use Rattle.cov_syntax.specs.declared.tree.Node.{Node, roll-Node}
use Rattle.cov_syntax.specs.declared.tree.Node.TheOpen.{Node-F, Branch-F, Expr-F}
use Rattle.cov_syntax.specs.declared.tree.Node.TheFolds.{ind-Expr, map-Node, fold-Node, fold-Branch, fold-Expr, fold-roll-Node, fold-roll-Branch, fold-roll-Expr}
use Rattle.cov_model.specs.Walk.{put}

-- a node with its parts
abbrev pub Layer : Type 0
Layer = Node-F Node Branch Expr

-- it holds of each
abbrev pub EachItem : (Expr → Type 0) → List Expr → Type 0
EachItem R [] = Unit {0}
EachItem R (e ∷ es) = R e × EachItem R es

-- it holds of each guard and each body
abbrev pub EachArm : (Expr → Type 0) → List Branch → Type 0
EachArm R [] = Unit {0}
EachArm R (b ∷ bs) = R b.guard × R b.body × EachArm R bs

-- it holds of each part of a node
abbrev pub EachPart : (Expr → Type 0) → Layer → Type 0
EachPart R (Node-F.One op a) = R a
EachPart R (Node-F.Two op a b) = R a × R b
EachPart R (Node-F.Set es) = EachItem R es
EachPart R (Node-F.Case bs) = EachArm R bs
EachPart R _ = Unit {0}

module _ (R : Expr → Type 0) (step : (place : Span) (l : Layer) → EachPart R l → R (put place (roll-Node l))) where
  abbrev P : Node → Type 0
  P m = (place : Span) → R (put place m)

  abbrev Q : Branch → Type 0
  Q b = R b.guard × R b.body

  abbrev Proved : Type 0
  Proved = Node-F ((m : Node) × P m) ((b : Branch) × Q b) ((e : Expr) × R e)

  abbrev bare : Proved → Layer
  bare y = map-Node ((m : Node) × P m) ((b : Branch) × Q b) ((e : Expr) × R e) Node Branch Expr (λ e. e.0) (λ e. e.0) (λ e. e.0) y

  items : (es : List ((e : Expr) × R e)) → EachItem R (map (λ (x : (e : Expr) × R e). x.0) es)
  items [] = tt
  items (e ∷ es) = (e.1, items es)

  arms : (bs : List ((b : Branch) × Q b)) → EachArm R (map (λ (x : (b : Branch) × Q b). x.0) bs)
  arms [] = tt
  arms (b ∷ bs) = (b.1.0, b.1.1, arms bs)

  parts : (y : Proved) → EachPart R (bare y)
  parts (Node-F.Lit x) = tt
  parts (Node-F.Path p) = tt
  parts (Node-F.Var i) = tt
  parts (Node-F.Def i) = tt
  parts (Node-F.One op a) = a.1
  parts (Node-F.Two op a b) = (a.1, b.1)
  parts (Node-F.Range low high) = tt
  parts (Node-F.Set es) = items es
  parts (Node-F.Case bs) = arms bs

  at_layer : (y : Proved) → P (roll-Node (bare y))
  at_layer y place = step place (bare y) (parts y)

  abbrev ProvedBranch : Type 0
  ProvedBranch = Branch-F ((m : Node) × P m) ((b : Branch) × Q b) ((e : Expr) × R e)

  at_branch : (y : ProvedBranch) → Q (roll-Branch (record { guard = y.guard.0; body = y.body.0 }))
  at_branch y = (y.guard.1, y.body.1)

  abbrev ProvedExpr : Type 0
  ProvedExpr = Expr-F ((m : Node) × P m) ((b : Branch) × Q b) ((e : Expr) × R e)

  at_expr : (y : ProvedExpr) → R (roll-Expr (record { node = y.node.0; place = y.place }))
  at_expr y = y.node.1 y.place

  -- it holds of every tree where it holds of a tree by its parts
  pub by_parts : (e : Expr) → R e
  by_parts = ind-Expr P Q R
      (λ x y h. subst (λ z. P (roll-Node z)) h (at_layer y))
      (λ x y h. subst (λ z. Q (roll-Branch z)) h (at_branch y))
      (λ x y h. subst (λ z. R (roll-Expr z)) h (at_expr y))

module _ (A B C : Type 0) (node : Node-F A B C → A) (branch : Branch-F A B C → B) (expr : Expr-F A B C → C) where
  -- a fold of a tree, by its top node
  pub fold_step : (place : Span) (l : Layer) → fold-Expr A B C node branch expr (put place (roll-Node l))
      ≡ expr (record { node = node (map-Node Node Branch Expr A B C (fold-Node A B C node branch expr) (fold-Branch A B C node branch expr) (fold-Expr A B C node branch expr) l); place = place })
  fold_step place l =
      fold-roll-Expr A B C node branch expr (record { node = roll-Node l; place = place })
      ∙ ap (λ (a : A). expr (record { node = a; place = place })) (fold-roll-Node A B C node branch expr l)

  -- a fold of a branch, by its guard and its body
  pub fold_branch : (b : Branch) → fold-Branch A B C node branch expr b ≡ branch (record { guard = fold-Expr A B C node branch expr b.guard; body = fold-Expr A B C node branch expr b.body })
  fold_branch b = fold-roll-Branch A B C node branch expr (record { guard = b.guard; body = b.body })
