-- An expression that fits a Boolean place, and in which no 0 or 1 is left to be read as FALSE or TRUE, is Boolean by its own kind.
use Rattle.std.proofs.Common.{◌≡◌, ℤ, Bool, true, false, if◌then◌else◌, IsTrue, List, [], ◌∷◌, map, Option, Some, None, refl, sym, ap, subst, ◌∙◌}
use Rattle.cov_syntax.specs.declared.tree.Span.{Span}
use Rattle.cov_syntax.specs.declared.tree.Value.TheVariants as v
use Rattle.cov_syntax.specs.declared.tree.Op2.{Op2}
use Rattle.cov_syntax.specs.declared.tree.Op2.TheVariants as op2
use Rattle.cov_syntax.specs.declared.tree.Expr.{Expr}
use Rattle.cov_syntax.specs.declared.tree.Branch.{Branch}
use Rattle.cov_syntax.specs.declared.tree.Node.{roll-Node}
use Rattle.cov_syntax.specs.declared.tree.Node.TheVariants as n
use Rattle.cov_syntax.specs.declared.tree.Node.TheOpen.{Node-F}
use Rattle.cov_model.specs.Kinds.{Kind, boolean, interval, among, is_boolean, Kinds, joined_kind}
use Rattle.cov_model.specs.Walk as walk
use Rattle.cov_model.specs.Walk.{first, Judged, truth, put, judged, bit, branch_of, bodies}
use Rattle.cov_model.proofs.Tied.{fits_where, first_none, injected}
use Rattle.cov_model.proofs.Closed.{integer, judged_branch, judged_layer, judged_step}
use Rattle.cov_order.proofs.ByParts.{Layer, EachItem, EachArm, EachPart, by_parts}
use Rattle.cov_ranges.proofs.PartFaults.{judged_at}

joined_first : (k : Kind) (ks : List Kind) → IsTrue (is_boolean k) → IsTrue (is_boolean (joined_kind (k ∷ ks)))
joined_first boolean ks h = refl
joined_first (interval low high) ks h = cc
joined_first (among xs) ks h = cc

-- Boolean by its own kind, or by what fits in its parts
fits_or : (b : Bool) (o : Option Span) → (if b then None else o) ≡ None → (o ≡ None → IsTrue b) → IsTrue b
fits_or true o h k = refl
fits_or false o h k = k h

literal : (place : Span) (i : ℤ) (o : Option Bool) → (integer place i o).misfit truth ≡ None → (integer place i o).settled true ≡ put place (roll-Node (Node-F.Lit (v.Int i)))
    → IsTrue (is_boolean (integer place i o).own)
literal place i None h s = cc
literal place i (Some b) h s =
    let e : Node-F.Lit (v.Bool b) ≡ Node-F.Lit (v.Int i) = injected (n.Lit (v.Bool b)) (Node-F.Lit (v.Bool b)) (Node-F.Lit (v.Int i)) place (n.rolls-Lit (v.Bool b)) s in
    cc

module _ (ks : Kinds) where
  abbrev R : Expr → Type 0
  R e = (judged ks e).misfit truth ≡ None → (judged ks e).settled true ≡ e → IsTrue (is_boolean (judged ks e).own)

  sides : (place : Span) (a b : Expr) → put place (n.Two op2.Union ((judged ks a).settled true) ((judged ks b).settled true)) ≡ put place (roll-Node (Node-F.Two op2.Union a b)) → (judged ks a).settled true ≡ a
  sides place a b s =
      let q : Node-F.Two op2.Union ((judged ks a).settled true) ((judged ks b).settled true) ≡ Node-F.Two op2.Union a b
      = injected (n.Two op2.Union ((judged ks a).settled true) ((judged ks b).settled true)) (Node-F.Two op2.Union ((judged ks a).settled true) ((judged ks b).settled true)) (Node-F.Two op2.Union a b) place
      (n.rolls-Two op2.Union ((judged ks a).settled true) ((judged ks b).settled true)) s in
      cc

  two : (place : Span) (op : Op2) (a b : Expr) → R a → (walk.of_node ks (Node-F.Two op (judged ks a) (judged ks b)) place).misfit truth ≡ None
      → (walk.of_node ks (Node-F.Two op (judged ks a) (judged ks b)) place).settled true ≡ put place (roll-Node (Node-F.Two op a b))
      → IsTrue (is_boolean (walk.of_node ks (Node-F.Two op (judged ks a) (judged ks b)) place).own)
  two place op2.Union a b r h s =
      fits_or (is_boolean (joined_kind ((judged ks a).own ∷ (judged ks b).own ∷ []))) (first ((judged ks a).misfit truth ∷ (judged ks b).misfit truth ∷ [])) h
      (λ f. joined_first (judged ks a).own ((judged ks b).own ∷ []) (r (first_none ((judged ks a).misfit truth) ((judged ks b).misfit truth ∷ []) f).0 (sides place a b s)))
  two place op a b r h s = fits_where _ place h

  set : (place : Span) (es : List Expr) → EachItem R es → (walk.of_node ks (Node-F.Set (map (judged ks) es)) place).misfit truth ≡ None
      → (walk.of_node ks (Node-F.Set (map (judged ks) es)) place).settled true ≡ put place (roll-Node (Node-F.Set es))
      → IsTrue (is_boolean (walk.of_node ks (Node-F.Set (map (judged ks) es)) place).own)
  set place [] r h s = refl
  set place (e ∷ es) r h s =
      let owns : List Kind = map (λ (j : Judged). j.own) (map (judged ks) es) in
      let misfits : List (Option Span) = map (λ (j : Judged). j.misfit truth) (map (judged ks) es) in
      let ds : List Expr = map (λ (j : Judged). j.settled true) (map (judged ks) (e ∷ es)) in
      let q : Node-F.Set ds ≡ Node-F.Set (e ∷ es) = injected (n.Set ds) (Node-F.Set ds) (Node-F.Set (e ∷ es)) place (n.rolls-Set ds) s in
      let k : (judged ks e).settled true ≡ e = cc in
      fits_or (is_boolean (joined_kind ((judged ks e).own ∷ owns))) (first ((judged ks e).misfit truth ∷ misfits)) h
      (λ f. joined_first (judged ks e).own owns (r.0 (first_none ((judged ks e).misfit truth) misfits f).0 k))

  abbrev settled_arm : Judged × Judged → Branch
  settled_arm b = branch_of (b.0.settled true) (b.1.settled true)

  case : (place : Span) (bs : List Branch) → EachArm R bs → (walk.of_node ks (Node-F.Case (map (judged_branch ks) bs)) place).misfit truth ≡ None
      → (walk.of_node ks (Node-F.Case (map (judged_branch ks) bs)) place).settled true ≡ put place (roll-Node (Node-F.Case bs))
      → IsTrue (is_boolean (walk.of_node ks (Node-F.Case (map (judged_branch ks) bs)) place).own)
  case place [] r h s = refl
  case place (b ∷ bs) r h s =
      let j : Judged = (judged_branch ks b).1 in
      let rest : List Judged = bodies (map (judged_branch ks) bs) in
      let owns : List Kind = map (λ (j : Judged). j.own) rest in
      let misfits : List (Option Span) = map (λ (j : Judged). j.misfit truth) rest in
      let cs : List Branch = map settled_arm (map (judged_branch ks) (b ∷ bs)) in
      let q : Node-F.Case cs ≡ Node-F.Case (b ∷ bs) = injected (n.Case cs) (Node-F.Case cs) (Node-F.Case (b ∷ bs)) place (n.rolls-Case cs) s in
      let k : settled_arm (judged_branch ks b) ≡ b = cc in
      let body : (judged ks b.body).settled true ≡ b.body = ap (λ (x : Judged × Judged). x.1.settled true) (sym (judged_at ks b)) ∙ ap (λ (c : Branch). c.body) k in
      fits_or (is_boolean (joined_kind (j.own ∷ owns))) (first (j.misfit truth ∷ misfits)) h
      (λ f. joined_first j.own owns
      (subst (λ (x : Judged × Judged). IsTrue (is_boolean x.1.own)) (sym (judged_at ks b))
      (r.1 (subst (λ (x : Judged × Judged). x.1.misfit truth ≡ None) (judged_at ks b) (first_none (j.misfit truth) misfits f).0) body)))

  at : (place : Span) (l : Layer) → EachPart R l → (walk.of_node ks (judged_layer ks l) place).misfit truth ≡ None
      → (walk.of_node ks (judged_layer ks l) place).settled true ≡ put place (roll-Node l) → IsTrue (is_boolean (walk.of_node ks (judged_layer ks l) place).own)
  at place (Node-F.Lit (v.Bool b)) r h s = refl
  at place (Node-F.Lit (v.Int i)) r h s = literal place i (bit i) h s
  at place (Node-F.Lit (v.Sym i)) r h s = cc
  at place (Node-F.Two op a b) r h s = two place op a b r.0 h s
  at place (Node-F.Set es) r h s = set place es r h s
  at place (Node-F.Case bs) r h s = case place bs r h s
  at place (Node-F.Path p) r h s = refl
  at place (Node-F.Var i) r h s = fits_where _ place h
  at place (Node-F.Def i) r h s = fits_where _ place h
  at place (Node-F.One op a) r h s = fits_where _ place h
  at place (Node-F.Range low high) r h s = fits_where _ place h

  pub own_boolean : (e : Expr) → R e
  own_boolean = by_parts R (λ place l r h s.
      subst (λ (j : Judged). IsTrue (is_boolean j.own)) (sym (judged_step ks place l))
      (at place l r (subst (λ (j : Judged). j.misfit truth ≡ None) (judged_step ks place l) h) (ap (λ (j : Judged). j.settled true) (sym (judged_step ks place l)) ∙ s)))
