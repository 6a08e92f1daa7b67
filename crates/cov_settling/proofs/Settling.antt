-- An expression without fault that fits its place is settled to such an expression of the same kind, and settles to itself from then on.
use Rattle.std.proofs.Common.{◌≡◌, Bool, not, int_lt, IsTrue, List, [], ◌∷◌, map, None, sym, ap, subst, ◌∙◌}
use Rattle.cov_syntax.specs.declared.tree.Span.{Span}
use Rattle.cov_syntax.specs.declared.tree.Op2.{Op2}
use Rattle.cov_syntax.specs.declared.tree.Op2.TheVariants as op2
use Rattle.cov_syntax.specs.declared.tree.Expr.{Expr, roll-Expr}
use Rattle.cov_syntax.specs.declared.tree.Branch.{Branch, roll-Branch}
use Rattle.cov_syntax.specs.declared.tree.Node.{Node, roll-Node}
use Rattle.cov_syntax.specs.declared.tree.Node.TheVariants as n
use Rattle.cov_syntax.specs.declared.tree.Node.TheOpen.{Node-F, Branch-F, Expr-F}
use Rattle.cov_syntax.specs.declared.tree.Node.TheFolds.{ind-Expr, map-Node, fold-roll-Branch}
use Rattle.cov_model.specs.Kinds.{Kinds, boolean, interval, kind_at}
use Rattle.cov_model.specs.Walk as walk
use Rattle.cov_model.specs.Walk.{May, Judged, put, judged, own, branch_of, truth, fault_if, bad_type, set_place}
use Rattle.cov_model.specs.Settled.{settled}
use Rattle.cov_model.specs.Laws.{kind_in}
use Rattle.cov_model.proofs.Tied.{Layer}
use Rattle.cov_model.proofs.Closed.{judged_layer, judged_step}
use Rattle.cov_settling.proofs.Again.{Stays, found, leaf, literal_stays, one_stays, two_stays}
use Rattle.cov_settling.proofs.AgainParts.{set_stays, case_stays, BranchStays, found_at, found_again, arms_at}

module _ (ks : Kinds) where
  abbrev P : Node → Type 0
  P m = (place : Span) → Stays ks (judged ks (put place m))

  abbrev Q : Branch → Type 0
  Q b = BranchStays ks b

  abbrev R : Expr → Type 0
  R e = Stays ks (judged ks e)

  abbrev Proved : Type 0
  Proved = Node-F ((m : Node) × P m) ((b : Branch) × Q b) ((e : Expr) × R e)

  abbrev bare : Proved → Layer
  bare y = map-Node ((m : Node) × P m) ((b : Branch) × Q b) ((e : Expr) × R e) Node Branch Expr (λ e. e.0) (λ e. e.0) (λ e. e.0) y

  two : (place : Span) (op : Op2) (a b : (e : Expr) × R e) → Stays ks (walk.of_node ks (Node-F.Two op (judged ks a.0) (judged ks b.0)) place)
  two place op2.Union a b =
      set_stays ks place (n.Two op2.Union (judged ks a.0).tree (judged ks b.0).tree) (a ∷ b ∷ [])
      (λ t. n.Two op2.Union ((judged ks a.0).settled t) ((judged ks b.0).settled t))
      (λ t. n.Two op2.Union (judged ks ((judged ks a.0).settled t)).tree (judged ks ((judged ks b.0).settled t)).tree)
      (λ t c. n.Two op2.Union ((judged ks ((judged ks a.0).settled t)).settled c) ((judged ks ((judged ks b.0).settled t)).settled c))
      (λ t. found ks place (n.Two op2.Union ((judged ks a.0).settled t) ((judged ks b.0).settled t)) (Node-F.Two op2.Union ((judged ks a.0).settled t) ((judged ks b.0).settled t)) (n.rolls-Two op2.Union ((judged ks a.0).settled t) ((judged ks b.0).settled t)))
      (λ t h.
      let x : (judged ks ((judged ks a.0).settled t)).settled t ≡ (judged ks a.0).settled t = cc in
      let y : (judged ks ((judged ks b.0).settled t)).settled t ≡ (judged ks b.0).settled t = cc in
      ap (λ (e : Expr). n.Two op2.Union e ((judged ks ((judged ks b.0).settled t)).settled t)) x ∙ ap (λ (e : Expr). n.Two op2.Union ((judged ks a.0).settled t) e) y)
  two place op a b = two_stays ks place op (λ e. cc) (λ x y. found ks place (n.Two op x y) (Node-F.Two op x y) (n.rolls-Two op x y)) a.0 b.0 a.1 b.1

  at : (y : Proved) (place : Span) → Stays ks (walk.of_node ks (judged_layer ks (bare y)) place)
  at (Node-F.Lit x) place = literal_stays ks place x
  at (Node-F.Path p) place = leaf ks place (n.Path p) boolean (λ may. []) (found ks place (n.Path p) (Node-F.Path p) (n.rolls-Path p))
  at (Node-F.Var i) place = leaf ks place (n.Var i) (kind_at ks.vars i) (λ may. []) (found ks place (n.Var i) (Node-F.Var i) (n.rolls-Var i))
  at (Node-F.Def i) place = leaf ks place (n.Def i) (kind_at ks.defs i) (λ may. []) (found ks place (n.Def i) (Node-F.Def i) (n.rolls-Def i))
  at (Node-F.One op a) place = one_stays ks place op a.0 a.1
  at (Node-F.Two op a b) place = two place op a b
  at (Node-F.Range low high) place = leaf ks place (n.Range low high) (interval low high) (λ may. fault_if (int_lt high low) bad_type place ∷ fault_if (not may.set) set_place place ∷ []) (found ks place (n.Range low high) (Node-F.Range low high) (n.rolls-Range low high))
  at (Node-F.Set es) place =
      set_stays ks place (n.Set (map (λ (j : Judged). j.tree) (found_at ks es))) es
      (λ t. n.Set (map (λ (j : Judged). j.settled t) (found_at ks es)))
      (λ t. n.Set (map (λ (j : Judged). j.tree) (found_again ks t es)))
      (λ t c. n.Set (map (λ (j : Judged). j.settled c) (found_again ks t es)))
      (λ t. found ks place (n.Set (map (λ (j : Judged). j.settled t) (found_at ks es))) (Node-F.Set (map (λ (j : Judged). j.settled t) (found_at ks es))) (n.rolls-Set (map (λ (j : Judged). j.settled t) (found_at ks es))))
      (λ t h. ap (λ (xs : List Expr). n.Set xs) h)
  at (Node-F.Case bs) place =
      case_stays ks place (n.Case (map (λ (b : Judged × Judged). branch_of b.0.tree b.1.tree) (arms_at ks bs))) bs
      (λ as'. n.Case (map (λ (b : Judged × Judged). branch_of b.0.tree b.1.tree) as'))
      (λ cs. found ks place (n.Case cs) (Node-F.Case cs) (n.rolls-Case cs))

  at_layer : (y : Proved) → P (roll-Node (bare y))
  at_layer y place = subst (λ (j : Judged). Stays ks j) (sym (judged_step ks place (bare y))) (at y place)

  abbrev ProvedBranch : Type 0
  ProvedBranch = Branch-F ((m : Node) × P m) ((b : Branch) × Q b) ((e : Expr) × R e)

  at_branch : (y : ProvedBranch) → Q (roll-Branch (record { guard = y.guard.0; body = y.body.0 }))
  at_branch y = subst (λ (a : Judged × Judged). Stays ks a.0 × Stays ks a.1)
      (sym (fold-roll-Branch (Span → Judged) (Judged × Judged) Judged (walk.of_node ks) (λ c. (c.guard, c.body)) (λ e. e.node e.place) (record { guard = y.guard.0; body = y.body.0 })))
      (y.guard.1, y.body.1)

  abbrev ProvedExpr : Type 0
  ProvedExpr = Expr-F ((m : Node) × P m) ((b : Branch) × Q b) ((e : Expr) × R e)

  at_expr : (y : ProvedExpr) → R (roll-Expr (record { node = y.node.0; place = y.place }))
  at_expr y = y.node.1 y.place

  -- every expression without fault that fits its place
  pub stays : (e : Expr) → R e
  stays = ind-Expr P Q R
      (λ x y h. subst (λ z. P (roll-Node z)) h (at_layer y))
      (λ x y h. subst (λ z. Q (roll-Branch z)) h (at_branch y))
      (λ x y h. subst (λ z. R (roll-Expr z)) h (at_expr y))

-- the own kind: Boolean in a Boolean place, and elsewhere as before
pub same_own : (ks : Kinds) (may : May) (b : Bool) (e : Expr) → (judged ks e).fault may ≡ None → (IsTrue b → (judged ks e).misfit truth ≡ None) → own ks (settled ks b e) ≡ kind_in b (own ks e)
same_own ks may b e f m = (stays ks e may b f m).own

-- no fault in the same place
pub no_fault : (ks : Kinds) (may : May) (b : Bool) (e : Expr) → (judged ks e).fault may ≡ None → (IsTrue b → (judged ks e).misfit truth ≡ None) → (judged ks (settled ks b e)).fault may ≡ None
no_fault ks may b e f m = (stays ks e may b f m).fault

-- settled once and for all
pub settled_twice : (ks : Kinds) (may : May) (b : Bool) (e : Expr) → (judged ks e).fault may ≡ None → (IsTrue b → (judged ks e).misfit truth ≡ None) → settled ks b (settled ks b e) ≡ settled ks b e
settled_twice ks may b e f m = (stays ks e may b f m).twice
