-- The widest of the own kinds of an expression and its parts, by its top node.
use Rattle.std.proofs.Common.{◌≡◌, ◌≤◌, ◌<◌, ℕ, ◌+◌, max, List, [], ◌∷◌, ◌++◌, map, drop, length, get_or, Result, Err, refl, ap, sym, subst, ◌∙◌, arith}
use Rattle.std.specs.List.{flat_map}
use Rattle.cov_syntax.specs.declared.fault.Refused.{Refused}
use Rattle.cov_syntax.specs.declared.tree.Span.{Span}
use Rattle.cov_syntax.specs.declared.tree.Expr.{Expr, roll-Expr}
use Rattle.cov_syntax.specs.declared.tree.Branch.{Branch, roll-Branch}
use Rattle.cov_syntax.specs.declared.tree.Node.{Node, roll-Node}
use Rattle.cov_syntax.specs.declared.tree.Node.TheOpen.{Node-F, Branch-F, Expr-F}
use Rattle.cov_syntax.specs.declared.tree.Node.TheFolds.{ind-Expr, map-Node, fold-Node, fold-Branch, fold-Expr, fold-roll-Node, fold-roll-Branch, fold-roll-Expr}
use Rattle.cov_model.specs.Flat.{greatest}
use Rattle.cov_model.specs.Kinds.{Kinds, width}
use Rattle.cov_model.specs.Walk.{Judged, May, of_node, judged, own}
use Rattle.cov_model.proofs.Closed.{judged_layer}
use Rattle.cov_model.proofs.Tied.{Layer}
use Rattle.cov_walk.specs.declared.found.Found.{Found}
use Rattle.cov_walk.specs.declared.wide.Wide.{Wide}
use Rattle.cov_walk.specs.declared.wide.WideArms.{WideArms}
use Rattle.cov_walk.specs.Gathered.{arms_fault}
use Rattle.cov_walk.specs.Found.{TellsFault, IsFound}
use Rattle.cov_walk.specs.Parts.{judged_branch}
use Rattle.cov_walk.specs.Widest.{parts_layer, parts, widest}
use Rattle.cov_walk.specs.Wide.{AnswersWide, AnswersWideArms, widest_member, widest_branch, widest_arm}
use Rattle.cov_walk.proofs.Nodes.{node_at, expr_at, dropped}

-- ---- the folds

abbrev NodeParts : Type 0
NodeParts = Node × List Expr

abbrev BranchParts : Type 0
BranchParts = Branch × List Expr

abbrev ExprParts : Type 0
ExprParts = Expr × List Expr

abbrev at_branch : Branch-F NodeParts BranchParts ExprParts → BranchParts
at_branch b = (roll-Branch (record { guard = b.guard.0; body = b.body.0 }), b.guard.1 ++ b.body.1)

abbrev at_expr : Expr-F NodeParts BranchParts ExprParts → ExprParts
at_expr x = let whole : Expr = roll-Expr (record { node = x.node.0; place = x.place }) in (whole, whole ∷ x.node.1)

abbrev node_parts : Node → NodeParts
node_parts = fold-Node NodeParts BranchParts ExprParts parts_layer at_branch at_expr

abbrev branch_parts : Branch → BranchParts
branch_parts = fold-Branch NodeParts BranchParts ExprParts parts_layer at_branch at_expr

abbrev expr_parts : Expr → ExprParts
expr_parts = fold-Expr NodeParts BranchParts ExprParts parts_layer at_branch at_expr

abbrev layer_parts : Layer → Node-F NodeParts BranchParts ExprParts
layer_parts l = map-Node Node Branch Expr NodeParts BranchParts ExprParts node_parts branch_parts expr_parts l

node_step : (l : Layer) → node_parts (roll-Node l) ≡ parts_layer (layer_parts l)
node_step l = fold-roll-Node NodeParts BranchParts ExprParts parts_layer at_branch at_expr l

branch_step : (b : Branch) → branch_parts b ≡ at_branch (record { guard = expr_parts b.guard; body = expr_parts b.body })
branch_step b = fold-roll-Branch NodeParts BranchParts ExprParts parts_layer at_branch at_expr (record { guard = b.guard; body = b.body })

expr_step : (e : Expr) → expr_parts e ≡ at_expr (record { node = node_parts e.node; place = e.place })
expr_step e = fold-roll-Expr NodeParts BranchParts ExprParts parts_layer at_branch at_expr (record { node = e.node; place = e.place })

-- ---- the first of what is gathered is the tree itself

abbrev R : Expr → Type 0
R e = (expr_parts e).0 ≡ e

abbrev P : Node → Type 0
P m = (node_parts m).0 ≡ m

abbrev Q : Branch → Type 0
Q b = (branch_parts b).0 ≡ b

abbrev Proved : Type 0
Proved = Node-F ((m : Node) × P m) ((b : Branch) × Q b) ((e : Expr) × R e)

abbrev bare : Proved → Layer
bare y = map-Node ((m : Node) × P m) ((b : Branch) × Q b) ((e : Expr) × R e) Node Branch Expr (λ e. e.0) (λ e. e.0) (λ e. e.0) y

same_items : (es : List ((e : Expr) × R e)) → map (λ (e : ExprParts). e.0) (map expr_parts (map (λ (x : (e : Expr) × R e). x.0) es)) ≡ map (λ (x : (e : Expr) × R e). x.0) es
same_items [] = refl
same_items (e ∷ es) =
    ap (λ (x : Expr). x ∷ map (λ (e : ExprParts). e.0) (map expr_parts (map (λ (x : (e : Expr) × R e). x.0) es))) e.1
    ∙ ap (λ (xs : List Expr). e.0 ∷ xs) (same_items es)

same_arms : (bs : List ((b : Branch) × Q b)) → map (λ (b : BranchParts). b.0) (map branch_parts (map (λ (x : (b : Branch) × Q b). x.0) bs)) ≡ map (λ (x : (b : Branch) × Q b). x.0) bs
same_arms [] = refl
same_arms (b ∷ bs) =
    ap (λ (x : Branch). x ∷ map (λ (b : BranchParts). b.0) (map branch_parts (map (λ (x : (b : Branch) × Q b). x.0) bs))) b.1
    ∙ ap (λ (xs : List Branch). b.0 ∷ xs) (same_arms bs)

same_layer : (y : Proved) → (parts_layer (layer_parts (bare y))).0 ≡ roll-Node (bare y)
same_layer (Node-F.Lit x) = refl
same_layer (Node-F.Path p) = refl
same_layer (Node-F.Var i) = refl
same_layer (Node-F.Def i) = refl
same_layer (Node-F.One op a) = ap (λ (e : Expr). roll-Node (Node-F.One op e)) a.1
same_layer (Node-F.Two op a b) = ap (λ (e : Expr). roll-Node (Node-F.Two op e (expr_parts b.0).0)) a.1 ∙ ap (λ (e : Expr). roll-Node (Node-F.Two op a.0 e)) b.1
same_layer (Node-F.Range low high) = refl
same_layer (Node-F.Set es) = ap (λ (xs : List Expr). roll-Node (Node-F.Set xs)) (same_items es)
same_layer (Node-F.Case bs) = ap (λ (xs : List Branch). roll-Node (Node-F.Case xs)) (same_arms bs)

same_node : (y : Proved) → P (roll-Node (bare y))
same_node y = ap (λ (m : NodeParts). m.0) (node_step (bare y)) ∙ same_layer y

same_branch : (y : Branch-F ((m : Node) × P m) ((b : Branch) × Q b) ((e : Expr) × R e)) → Q (roll-Branch (record { guard = y.guard.0; body = y.body.0 }))
same_branch y =
    ap (λ (b : BranchParts). b.0) (branch_step (roll-Branch (record { guard = y.guard.0; body = y.body.0 })))
    ∙ ap (λ (e : Expr). roll-Branch (record { guard = e; body = (expr_parts y.body.0).0 })) y.guard.1
    ∙ ap (λ (e : Expr). roll-Branch (record { guard = y.guard.0; body = e })) y.body.1

same_expr : (y : Expr-F ((m : Node) × P m) ((b : Branch) × Q b) ((e : Expr) × R e)) → R (roll-Expr (record { node = y.node.0; place = y.place }))
same_expr y =
    ap (λ (e : ExprParts). e.0) (expr_step (roll-Expr (record { node = y.node.0; place = y.place })))
    ∙ ap (λ (m : Node). roll-Expr (record { node = m; place = y.place })) y.node.1

same : (e : Expr) → R e
same = ind-Expr P Q R
    (λ x y h. subst (λ z. P (roll-Node z)) h (same_node y))
    (λ x y h. subst (λ z. Q (roll-Branch z)) h (same_branch y))
    (λ x y h. subst (λ z. R (roll-Expr z)) h (same_expr y))

-- ---- the greatest

module _ (ks : Kinds) where
  abbrev most : List Expr → ℕ
  most es = greatest (map (λ x. width (own ks x)) es)

  most_both : (xs ys : List Expr) → most (xs ++ ys) ≡ max (most xs) (most ys)
  most_both [] ys = omega arith
  most_both (x ∷ xs) ys =
      let h : most (xs ++ ys) ≡ max (most xs) (most ys) = most_both xs ys in
      omega arith

  most_items : (es : List Expr) → most (flat_map (λ (e : ExprParts). e.1) (map expr_parts es)) ≡ widest_member ks es
  most_items [] = refl
  most_items (e ∷ es) =
      most_both (expr_parts e).1 (flat_map (λ (e : ExprParts). e.1) (map expr_parts es))
      ∙ ap (max (widest ks e)) (most_items es)

  most_branch : (b : Branch) → most (branch_parts b).1 ≡ widest_branch ks b
  most_branch b =
      ap (λ (x : BranchParts). most x.1) (branch_step b)
      ∙ most_both (expr_parts b.guard).1 (expr_parts b.body).1

  most_arms : (bs : List Branch) → most (flat_map (λ (b : BranchParts). b.1) (map branch_parts bs)) ≡ widest_arm ks bs
  most_arms [] = refl
  most_arms (b ∷ bs) =
      most_both (branch_parts b).1 (flat_map (λ (b : BranchParts). b.1) (map branch_parts bs))
      ∙ ap (λ k. max k (most (flat_map (λ (b : BranchParts). b.1) (map branch_parts bs)))) (most_branch b)
      ∙ ap (max (widest_branch ks b)) (most_arms bs)

  -- the widest below a node
  abbrev pub below : Layer → ℕ
  below (Node-F.One op a) = widest ks a
  below (Node-F.Two op a b) = max (widest ks a) (widest ks b)
  below (Node-F.Set es) = widest_member ks es
  below (Node-F.Case bs) = widest_arm ks bs
  below _ = 0

  most_layer : (l : Layer) → most (parts_layer (layer_parts l)).1 ≡ below l
  most_layer (Node-F.Lit x) = refl
  most_layer (Node-F.Path p) = refl
  most_layer (Node-F.Var i) = refl
  most_layer (Node-F.Def i) = refl
  most_layer (Node-F.One op a) = refl
  most_layer (Node-F.Two op a b) = most_both (expr_parts a).1 (expr_parts b).1
  most_layer (Node-F.Range low high) = refl
  most_layer (Node-F.Set es) = most_items es
  most_layer (Node-F.Case bs) = most_arms bs

  -- the widest of a tree, by its top node
  pub widest_at : (e : Expr) (l : Layer) → e.node ≡ roll-Node l → max (width (own ks e)) (below l) ≡ widest ks e
  widest_at e l h =
      let step : expr_parts e ≡ at_expr (record { node = node_parts e.node; place = e.place }) = expr_step e in
      let whole : Expr = roll-Expr (record { node = (node_parts e.node).0; place = e.place }) in
      let is : whole ≡ e = sym (ap (λ (x : ExprParts). x.0) step) ∙ same e in
      let down : most (node_parts e.node).1 ≡ below l = ap (λ (m : Node). most (node_parts m).1) h ∙ ap (λ (x : NodeParts). most x.1) (node_step l) ∙ most_layer l in
      sym (ap (λ (x : ExprParts). most x.1) step
      ∙ ap (λ (x : Expr). max (width (own ks x)) (most (node_parts e.node).1)) is
      ∙ ap (max (width (own ks e))) down)

-- ---- one more of a list

-- what is found is completed by what is left
pub most_left : {A : Type 0} (f : A → ℕ) (xs : List A) (i : ℕ) (x : A) (most next all : ℕ) → i < length xs → x ≡ get_or xs i x
    → max most (greatest (map f (drop i xs))) ≡ all → next ≡ max most (f x) → max next (greatest (map f (drop (i + 1) xs))) ≡ all
most_left {A = A} f xs i x most next all below is h g =
    let front : greatest (map f (drop i xs)) ≡ max (f x) (greatest (map f (drop (i + 1) xs))) = ap (λ (ys : List A). greatest (map f ys)) (dropped xs i x below is) in
    omega (arith, front, h, g)

-- ---- what is answered, by the top node

module _ (ks : Kinds) (e : Expr) (l : Layer) (may : May) (r : Result Wide Refused) (is : e.node ≡ roll-Node l) where
  abbrev here : Judged
  here = of_node ks (judged_layer ks l) e.place

  at_top : here ≡ judged ks e
  at_top = sym (expr_at ks e ∙ node_at ks e.node l e.place is)

  pub answers_wide : (w : ℕ) → w ≡ below ks l → AnswersWide here (max (width here.own) w) may r → AnswersWide (judged ks e) (widest ks e) may r
  answers_wide w h a =
      let P : Judged → Type 0 = λ j. AnswersWide j (max (width j.own) w) may r in
      subst (λ (k : ℕ). AnswersWide (judged ks e) k may r) (ap (max (width (own ks e))) h ∙ widest_at ks e l is) (subst P at_top a)

  pub told_wide : (z : Refused) → r ≡ Err z → TellsFault (here.fault may) z → AnswersWide (judged ks e) (widest ks e) may r
  told_wide z h t =
      let P : Result Wide Refused → Type 0 = λ r. AnswersWide (judged ks e) (widest ks e) may r in
      subst P (sym h) (subst (λ (j : Judged). TellsFault (j.fault may) z) at_top t)

  -- where nothing is below
  pub leaf_wide : 0 ≡ below ks l → AnswersWide (judged ks e) (max (width (own ks e)) 0) may r → AnswersWide (judged ks e) (widest ks e) may r
  leaf_wide h a = subst (λ (k : ℕ). AnswersWide (judged ks e) k may r) (ap (max (width (own ks e))) h ∙ widest_at ks e l is) a

pub arms_wide_told : (bs : List (Judged × Judged)) (w : ℕ) (may : May) (r : Result WideArms Refused) (z : Refused) → r ≡ Err z → TellsFault (arms_fault may bs) z → AnswersWideArms bs w may r
arms_wide_told bs w may r z e h = let P : Result WideArms Refused → Type 0 = λ r. AnswersWideArms bs w may r in subst P (sym e) h

-- the same of an equal expression in an equal place
pub found_at : (ks : Kinds) (e f : Expr) (m o : May) (x : Found) → e ≡ f → m ≡ o → IsFound (judged ks e) m x → IsFound (judged ks f) o x
found_at ks e f m o x h g i = subst (λ (k : May). IsFound (judged ks f) k x) g (subst (λ (z : Expr). IsFound (judged ks z) m x) h i)
