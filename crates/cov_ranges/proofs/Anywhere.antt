-- What is settled in a Boolean place is settled in any place.
use Rattle.std.proofs.Common.{◌≡◌, ℤ, Bool, true, ◌||◌, List, [], ◌∷◌, map, Option, Some, None, refl, sym, ap, ◌∙◌}
use Rattle.cov_syntax.specs.declared.tree.Span.{Span}
use Rattle.cov_syntax.specs.declared.tree.Value.TheVariants as v
use Rattle.cov_syntax.specs.declared.tree.Op2.{Op2}
use Rattle.cov_syntax.specs.declared.tree.Op2.TheVariants as op2
use Rattle.cov_syntax.specs.declared.tree.Expr.{Expr}
use Rattle.cov_syntax.specs.declared.tree.Branch.{Branch}
use Rattle.cov_syntax.specs.declared.tree.Node.{roll-Node}
use Rattle.cov_syntax.specs.declared.tree.Node.TheVariants as n
use Rattle.cov_syntax.specs.declared.tree.Node.TheOpen.{Node-F}
use Rattle.cov_model.specs.Kinds.{is_boolean, Kinds, own_of_two, joined_kind}
use Rattle.cov_model.specs.Walk as walk
use Rattle.cov_model.specs.Walk.{Judged, put, judged, bit, branch_of, case_own}
use Rattle.cov_model.proofs.Tied.{injected}
use Rattle.cov_model.proofs.Closed.{integer, judged_branch, judged_layer, judged_step}
use Rattle.cov_order.proofs.ByParts.{Layer, EachItem, EachArm, EachPart, by_parts}
use Rattle.cov_ranges.proofs.PartFaults.{judged_at}

module _ (ks : Kinds) where
  abbrev R : Expr → Type 0
  R e = (b : Bool) → (judged ks e).settled true ≡ e → (judged ks e).settled b ≡ e

  items : (t : Bool) (es : List Expr) → EachItem R es → map (λ (j : Judged). j.settled true) (map (judged ks) es) ≡ es → map (λ (j : Judged). j.settled t) (map (judged ks) es) ≡ es
  items t [] h s = refl
  items t (e ∷ es) h s =
      let a : (judged ks e).settled true ≡ e = cc in
      let r : map (λ (j : Judged). j.settled true) (map (judged ks) es) ≡ es = cc in
      ap (λ (f : Expr). f ∷ map (λ (j : Judged). j.settled t) (map (judged ks) es)) (h.0 t a) ∙ ap (λ (fs : List Expr). e ∷ fs) (items t es h.1 r)

  abbrev settled_arm : Bool → Judged × Judged → Branch
  settled_arm t b = branch_of (b.0.settled true) (b.1.settled t)

  arm : (t : Bool) (b : Branch) → R b.body → settled_arm true (judged_branch ks b) ≡ b → settled_arm t (judged_branch ks b) ≡ b
  arm t b h s =
      let q : settled_arm true (judged ks b.guard, judged ks b.body) ≡ b = ap (settled_arm true) (sym (judged_at ks b)) ∙ s in
      let g : (judged ks b.guard).settled true ≡ b.guard = ap (λ (c : Branch). c.guard) q in
      let f : (judged ks b.body).settled true ≡ b.body = ap (λ (c : Branch). c.body) q in
      ap (settled_arm t) (judged_at ks b)
      ∙ ap (λ (x : Expr). branch_of ((judged ks b.guard).settled true) x) (h t f ∙ sym f) ∙ q

  arms : (t : Bool) (bs : List Branch) → EachArm R bs → map (settled_arm true) (map (judged_branch ks) bs) ≡ bs → map (settled_arm t) (map (judged_branch ks) bs) ≡ bs
  arms t [] h s = refl
  arms t (b ∷ bs) h s =
      let a : settled_arm true (judged_branch ks b) ≡ b = cc in
      let r : map (settled_arm true) (map (judged_branch ks) bs) ≡ bs = cc in
      ap (λ (c : Branch). c ∷ map (settled_arm t) (map (judged_branch ks) bs)) (arm t b h.1 a) ∙ ap (λ (cs : List Branch). b ∷ cs) (arms t bs h.2 r)

  literal : (place : Span) (i : ℤ) (o : Option Bool) (b : Bool) → (integer place i o).settled true ≡ put place (roll-Node (Node-F.Lit (v.Int i))) → (integer place i o).settled b ≡ put place (roll-Node (Node-F.Lit (v.Int i)))
  literal place i None b s = s
  literal place i (Some c) b s =
      let q : Node-F.Lit (v.Bool c) ≡ Node-F.Lit (v.Int i) = injected (n.Lit (v.Bool c)) (Node-F.Lit (v.Bool c)) (Node-F.Lit (v.Int i)) place (n.rolls-Lit (v.Bool c)) s in cc

  two : (place : Span) (op : Op2) (x y : Expr) (b : Bool) → R x → R y
      → (walk.of_node ks (Node-F.Two op (judged ks x) (judged ks y)) place).settled true ≡ put place (roll-Node (Node-F.Two op x y))
      → (walk.of_node ks (Node-F.Two op (judged ks x) (judged ks y)) place).settled b ≡ put place (roll-Node (Node-F.Two op x y))
  two place op2.Union x y b h g s =
      let t : Bool = b || is_boolean (own_of_two op2.Union (judged ks x).own (judged ks y).own) in
      let f : Expr = (judged ks x).settled true in
      let k : Expr = (judged ks y).settled true in
      let q : Node-F.Two op2.Union f k ≡ Node-F.Two op2.Union x y = injected (n.Two op2.Union f k) (Node-F.Two op2.Union f k) (Node-F.Two op2.Union x y) place (n.rolls-Two op2.Union f k) s in
      let a : f ≡ x = cc in
      let c : k ≡ y = cc in
      ap (λ (z : Expr). put place (n.Two op2.Union z ((judged ks y).settled t))) (h t a)
      ∙ ap (λ (z : Expr). put place (n.Two op2.Union x z)) (g t c)
      ∙ ap (put place) (sym (n.rolls-Two op2.Union x y))
  two place op x y b h g s = s

  at : (place : Span) (l : Layer) (b : Bool) → EachPart R l → (walk.of_node ks (judged_layer ks l) place).settled true ≡ put place (roll-Node l) → (walk.of_node ks (judged_layer ks l) place).settled b ≡ put place (roll-Node l)
  at place (Node-F.Lit (v.Int i)) b h s = literal place i (bit i) b s
  at place (Node-F.Two op x y) b h s = two place op x y b h.0 h.1 s
  at place (Node-F.Set es) b h s =
      let js : List Judged = map (judged ks) es in
      let t : Bool = b || is_boolean (joined_kind (map (λ (e : Judged). e.own) js)) in
      let xs : List Expr = map (λ (j : Judged). j.settled true) js in
      let q : Node-F.Set xs ≡ Node-F.Set es = injected (n.Set xs) (Node-F.Set xs) (Node-F.Set es) place (n.rolls-Set xs) s in
      let k : xs ≡ es = cc in
      ap (λ (fs : List Expr). put place (n.Set fs)) (items t es h k) ∙ ap (put place) (sym (n.rolls-Set es))
  at place (Node-F.Case bs) b h s =
      let js : List (Judged × Judged) = map (judged_branch ks) bs in
      let t : Bool = b || is_boolean (case_own js) in
      let xs : List Branch = map (settled_arm true) js in
      let q : Node-F.Case xs ≡ Node-F.Case bs = injected (n.Case xs) (Node-F.Case xs) (Node-F.Case bs) place (n.rolls-Case xs) s in
      let k : xs ≡ bs = cc in
      ap (λ (cs : List Branch). put place (n.Case cs)) (arms t bs h k) ∙ ap (put place) (sym (n.rolls-Case bs))
  at place _ b h s = s

  -- what is settled in a Boolean place is settled in any
  pub anywhere : (e : Expr) → R e
  anywhere = by_parts R (λ place l h b s.
      ap (λ (j : Judged). j.settled b) (judged_step ks place l)
      ∙ at place l b h (ap (λ (j : Judged). j.settled true) (sym (judged_step ks place l)) ∙ s))
