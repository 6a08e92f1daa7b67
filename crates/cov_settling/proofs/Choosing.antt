-- What fits a place that asks for a number, or for no Boolean, does so by its own kind, if no set or case in it is empty.
use Rattle.std.proofs.Common.{◌≡◌, ℤ, Bool, true, false, not, ◌&&◌, ◌||◌, if◌then◌else◌, IsTrue, List, [], ◌∷◌, map, Option, Some, None, refl, sym, ap, subst, ◌∙◌}
use Rattle.std.specs.List.{list_any, list_all}
use Rattle.cov_syntax.specs.declared.tree.Span.{Span}
use Rattle.cov_syntax.specs.declared.tree.Value.TheVariants as v
use Rattle.cov_syntax.specs.declared.tree.Op2.{Op2}
use Rattle.cov_syntax.specs.declared.tree.Op2.TheVariants as op2
use Rattle.cov_syntax.specs.declared.tree.Expr.{Expr, roll-Expr}
use Rattle.cov_syntax.specs.declared.tree.Branch.{Branch, roll-Branch}
use Rattle.cov_syntax.specs.declared.tree.Node.{Node, roll-Node}
use Rattle.cov_syntax.specs.declared.tree.Node.TheOpen.{Node-F, Branch-F, Expr-F}
use Rattle.cov_syntax.specs.declared.tree.Node.TheFolds.{ind-Expr, map-Node, fold-Node, fold-Branch, fold-roll-Node, fold-roll-Branch, fold-roll-Expr}
use Rattle.cov_model.specs.declared.model.Model.{Model}
use Rattle.cov_model.specs.Kinds.{Kind, Kinds, is_boolean, is_number, joined_kind, literal, boolean, interval, kind_at, own_of_one, own_of_two}
use Rattle.cov_model.specs.Walk as walk
use Rattle.cov_model.specs.Walk.{first, Asks, truth, number, no_truth, kind_fits, asks_truth, Judged, put, judged, own, bit, branch_of, bodies}
use Rattle.cov_model.specs.WellFormed.{cites, cites_layer}
use Rattle.cov_model.proofs.Tied.{Layer, first_none, fits_where}
use Rattle.cov_model.proofs.Joined.{and_split, and_join, joined_boolean, joined_number, AllNumbers}
use Rattle.cov_model.proofs.Closed.{integer, judged_branch, judged_layer, judged_step}
use Rattle.cov_model.proofs.Parts.{owns}

-- what an interval fits
interval_fits : (asks : Asks) → asks_truth (Some asks) ≡ false → (low high : ℤ) → kind_fits asks (interval low high) ≡ true
interval_fits truth t low high = cc
interval_fits number t low high = refl
interval_fits no_truth t low high = refl

all_numbers : (ks : List Kind) → IsTrue (list_all (kind_fits number) ks) → AllNumbers ks
all_numbers [] h = tt
all_numbers (k ∷ ks) h = let s = and_split (is_number k) (list_all (kind_fits number) ks) h in (s.0, all_numbers ks s.1)

not_true : (b : Bool) → not b ≡ true → b ≡ false
not_true true h = cc
not_true false h = refl

no_booleans : (ks : List Kind) → IsTrue (list_all (kind_fits no_truth) ks) → list_any is_boolean ks ≡ false
no_booleans [] h = refl
no_booleans (k ∷ ks) h =
    let s = and_split (not (is_boolean k)) (list_all (kind_fits no_truth) ks) h in
    ap (λ (b : Bool). b || list_any is_boolean ks) (not_true (is_boolean k) s.0) ∙ no_booleans ks s.1

-- kinds that fit join in one that fits
joined_fits : (asks : Asks) → asks_truth (Some asks) ≡ false → (k : Kind) (ks : List Kind) → IsTrue (list_all (kind_fits asks) (k ∷ ks)) → kind_fits asks (joined_kind (k ∷ ks)) ≡ true
joined_fits truth t k ks h = cc
joined_fits number t k ks h = joined_number k ks (all_numbers (k ∷ ks) h)
joined_fits no_truth t k ks h = by (is_boolean (joined_kind (k ∷ ks))) refl
  where
    by : (c : Bool) → is_boolean (joined_kind (k ∷ ks)) ≡ c → not c ≡ true
    by true e = let a : list_any is_boolean (k ∷ ks) ≡ true = joined_boolean k ks e in let b : list_any is_boolean (k ∷ ks) ≡ false = no_booleans (k ∷ ks) h in cc
    by false e = refl

-- an expression that has parts
joined : (asks : Asks) → asks_truth (Some asks) ≡ false → (k : Kind) (ks : List Kind) (o : Option Span) → (if kind_fits asks (joined_kind (k ∷ ks)) then None else o) ≡ None
    → (o ≡ None → IsTrue (list_all (kind_fits asks) (k ∷ ks))) → kind_fits asks (joined_kind (k ∷ ks)) ≡ true
joined asks t k ks o h n = by (kind_fits asks (joined_kind (k ∷ ks))) refl h
  where
    by : (c : Bool) → kind_fits asks (joined_kind (k ∷ ks)) ≡ c → (if c then None else o) ≡ None → kind_fits asks (joined_kind (k ∷ ks)) ≡ true
    by true e h = e
    by false e h = joined_fits asks t k ks (n h)

integer_fits : (asks : Asks) → asks_truth (Some asks) ≡ false → (place : Span) (i : ℤ) (o : Option Bool) → kind_fits asks (integer place i o).own ≡ true
integer_fits asks t place i None = interval_fits asks t i i
integer_fits asks t place i (Some c) = interval_fits asks t i i

module _ (m : Model) (ks : Kinds) (asks : Asks) (t : asks_truth (Some asks) ≡ false) where
  abbrev cites_node : Node → Bool
  cites_node = fold-Node Bool Bool Bool (cites_layer m) (λ b. b.guard && b.body) (λ e. e.node)

  abbrev cites_branch : Branch → Bool
  cites_branch = fold-Branch Bool Bool Bool (cites_layer m) (λ b. b.guard && b.body) (λ e. e.node)

  abbrev cited : Layer → Node-F Bool Bool Bool
  cited l = map-Node Node Branch Expr Bool Bool Bool cites_node cites_branch (cites m) l

  step : (place : Span) (l : Layer) → cites m (put place (roll-Node l)) ≡ cites_layer m (cited l)
  step place l =
      fold-roll-Expr Bool Bool Bool (cites_layer m) (λ b. b.guard && b.body) (λ e. e.node) (record { node = roll-Node l; place = place })
      ∙ fold-roll-Node Bool Bool Bool (cites_layer m) (λ b. b.guard && b.body) (λ e. e.node) l

  abbrev Fitting : Judged → Type 0
  Fitting j = j.misfit asks ≡ None → kind_fits asks j.own ≡ true

  abbrev P : Node → Type 0
  P k = (place : Span) → IsTrue (cites m (put place k)) → Fitting (judged ks (put place k))

  abbrev Q : Branch → Type 0
  Q b = IsTrue (cites_branch b) → Fitting (judged_branch ks b).1

  abbrev R : Expr → Type 0
  R e = IsTrue (cites m e) → Fitting (judged ks e)

  abbrev Proved : Type 0
  Proved = Node-F ((k : Node) × P k) ((b : Branch) × Q b) ((e : Expr) × R e)

  abbrev bare : Proved → Layer
  bare y = map-Node ((k : Node) × P k) ((b : Branch) × Q b) ((e : Expr) × R e) Node Branch Expr (λ e. e.0) (λ e. e.0) (λ e. e.0) y

  items : (es : List ((e : Expr) × R e)) → IsTrue (list_all (λ c. c) (map (cites m) (map (λ (x : (e : Expr) × R e). x.0) es)))
      → first (map (λ (j : Judged). j.misfit asks) (map (judged ks) (map (λ (x : (e : Expr) × R e). x.0) es))) ≡ None
      → IsTrue (list_all (kind_fits asks) (owns (map (judged ks) (map (λ (x : (e : Expr) × R e). x.0) es))))
  items [] c h = refl
  items (e ∷ es) c h =
      let s = and_split (cites m e.0) (list_all (λ c. c) (map (cites m) (map (λ (x : (e : Expr) × R e). x.0) es))) c in
      let f = first_none ((judged ks e.0).misfit asks) (map (λ (j : Judged). j.misfit asks) (map (judged ks) (map (λ (x : (e : Expr) × R e). x.0) es))) h in
      and_join (kind_fits asks (judged ks e.0).own) (list_all (kind_fits asks) (owns (map (judged ks) (map (λ (x : (e : Expr) × R e). x.0) es)))) (e.1 s.0 f.0) (items es s.1 f.1)

  arms : (bs : List ((b : Branch) × Q b)) → IsTrue (list_all (λ c. c) (map cites_branch (map (λ (x : (b : Branch) × Q b). x.0) bs)))
      → first (map (λ (j : Judged). j.misfit asks) (bodies (map (judged_branch ks) (map (λ (x : (b : Branch) × Q b). x.0) bs)))) ≡ None
      → IsTrue (list_all (kind_fits asks) (owns (bodies (map (judged_branch ks) (map (λ (x : (b : Branch) × Q b). x.0) bs)))))
  arms [] c h = refl
  arms (b ∷ bs) c h =
      let js : List Judged = bodies (map (judged_branch ks) (map (λ (x : (b : Branch) × Q b). x.0) bs)) in
      let s = and_split (cites_branch b.0) (list_all (λ c. c) (map cites_branch (map (λ (x : (b : Branch) × Q b). x.0) bs))) c in
      let f = first_none ((judged_branch ks b.0).1.misfit asks) (map (λ (j : Judged). j.misfit asks) js) h in
      and_join (kind_fits asks (judged_branch ks b.0).1.own) (list_all (kind_fits asks) (owns js)) (b.1 s.0 f.0) (arms bs s.1 f.1)

  two : (place : Span) (op : Op2) (a b : (e : Expr) × R e) → IsTrue (cites m a.0 && cites m b.0) → Fitting (walk.of_node ks (Node-F.Two op (judged ks a.0) (judged ks b.0)) place)
  two place op2.Union a b c h =
      let i : Judged = judged ks a.0 in
      let j : Judged = judged ks b.0 in
      let s = and_split (cites m a.0) (cites m b.0) c in
      joined asks t i.own (j.own ∷ []) (first (i.misfit asks ∷ j.misfit asks ∷ [])) h (λ k.
      let f = first_none (i.misfit asks) (j.misfit asks ∷ []) k in
      and_join (kind_fits asks i.own) (kind_fits asks j.own && true) (a.1 s.0 f.0) (and_join (kind_fits asks j.own) true (b.1 s.1 (first_none (j.misfit asks) [] f.1).0) refl))
  two place op a b c h = fits_where (kind_fits asks (own_of_two op (judged ks a.0).own (judged ks b.0).own)) place h

  at : (y : Proved) (place : Span) → IsTrue (cites_layer m (cited (bare y))) → Fitting (walk.of_node ks (judged_layer ks (bare y)) place)
  at (Node-F.Lit (v.Int i)) place c h = integer_fits asks t place i (bit i)
  at (Node-F.Lit (v.Bool b)) place c h = fits_where (kind_fits asks boolean) place h
  at (Node-F.Lit (v.Sym s)) place c h = fits_where (kind_fits asks (literal (v.Sym s))) place h
  at (Node-F.Path p) place c h = cc
  at (Node-F.Var i) place c h = fits_where (kind_fits asks (kind_at ks.vars i)) place h
  at (Node-F.Def i) place c h = fits_where (kind_fits asks (kind_at ks.defs i)) place h
  at (Node-F.One op a) place c h = fits_where (kind_fits asks (own_of_one op (judged ks a.0).own)) place h
  at (Node-F.Two op a b) place c h = two place op a b c h
  at (Node-F.Range low high) place c h = interval_fits asks t low high
  at (Node-F.Set []) place c h = cc
  at (Node-F.Set (e ∷ es)) place c h =
      let js : List Judged = map (judged ks) (map (λ (x : (e : Expr) × R e). x.0) es) in
      joined asks t (judged ks e.0).own (owns js) (first (map (λ (j : Judged). j.misfit asks) (judged ks e.0 ∷ js))) h (λ k. items (e ∷ es) c k)
  at (Node-F.Case []) place c h = cc
  at (Node-F.Case (b ∷ bs)) place c h =
      let js : List Judged = bodies (map (judged_branch ks) (map (λ (x : (b : Branch) × Q b). x.0) bs)) in
      joined asks t (judged_branch ks b.0).1.own (owns js) (first (map (λ (j : Judged). j.misfit asks) ((judged_branch ks b.0).1 ∷ js))) h (λ k. arms (b ∷ bs) c k)

  at_layer : (y : Proved) → P (roll-Node (bare y))
  at_layer y place c = subst (λ (j : Judged). Fitting j) (sym (judged_step ks place (bare y))) (at y place (sym (step place (bare y)) ∙ c))

  abbrev ProvedBranch : Type 0
  ProvedBranch = Branch-F ((k : Node) × P k) ((b : Branch) × Q b) ((e : Expr) × R e)

  at_branch : (y : ProvedBranch) → Q (roll-Branch (record { guard = y.guard.0; body = y.body.0 }))
  at_branch y c =
      let s = and_split (cites m y.guard.0) (cites m y.body.0) (sym (fold-roll-Branch Bool Bool Bool (cites_layer m) (λ b. b.guard && b.body) (λ e. e.node) (record { guard = y.guard.0; body = y.body.0 })) ∙ c) in
      subst (λ (a : Judged × Judged). Fitting a.1)
      (sym (fold-roll-Branch (Span → Judged) (Judged × Judged) Judged (walk.of_node ks) (λ c. (c.guard, c.body)) (λ e. e.node e.place) (record { guard = y.guard.0; body = y.body.0 })))
      (y.body.1 s.1)

  abbrev ProvedExpr : Type 0
  ProvedExpr = Expr-F ((k : Node) × P k) ((b : Branch) × Q b) ((e : Expr) × R e)

  at_expr : (y : ProvedExpr) → R (roll-Expr (record { node = y.node.0; place = y.place }))
  at_expr y = y.node.1 y.place

  -- what fits does so by its own kind
  pub kind_fitting : (e : Expr) → R e
  kind_fitting = ind-Expr P Q R
      (λ x y h. subst (λ z. P (roll-Node z)) h (at_layer y))
      (λ x y h. subst (λ z. Q (roll-Branch z)) h (at_branch y))
      (λ x y h. subst (λ z. R (roll-Expr z)) h (at_expr y))
