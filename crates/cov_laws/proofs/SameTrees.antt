-- The test of trees passes exactly where they are equal apart from places.
use Rattle.std.proofs.Common.{◌≡◌, ℕ, ℤ, Bool, true, false, ◌&&◌, IsTrue, ◌↔◌, List, [], ◌∷◌, map, refl, sym, ap, ap₂, subst, ◌∙◌}
use Rattle.std.specs.Prelude.{◌==◌}
use Rattle.std.specs.Ordering.{int_eq}
use Rattle.std.proofs.lemmas.Bool.{and_parts, and_from}
use Rattle.std.proofs.lemmas.Bool.Decides.{Decides-eqb, Decides-int_eq}
use Rattle.cov_syntax.specs.declared.tree.Span.{Span}
use Rattle.cov_syntax.specs.declared.tree.Expr.{Expr, roll-Expr}
use Rattle.cov_syntax.specs.declared.tree.Branch.{Branch, roll-Branch}
use Rattle.cov_syntax.specs.declared.tree.Node.{Node, roll-Node, out-Node, out-roll-Node}
use Rattle.cov_syntax.specs.declared.tree.Node.TheOpen.{Node-F}
use Rattle.cov_syntax.specs.declared.tree.Node.TheFolds.{map-Node, fold-Node, fold-Branch}
use Rattle.cov_syntax.specs.declared.tree.Value.{Value}
use Rattle.cov_syntax.specs.declared.tree.Value.TheVariants as v
use Rattle.cov_syntax.specs.declared.tree.Op1.{Op1}
use Rattle.cov_syntax.specs.declared.tree.Op1.TheVariants as op1
use Rattle.cov_syntax.specs.declared.tree.Op2.{Op2}
use Rattle.cov_syntax.specs.declared.tree.Op2.TheVariants as op2
use Rattle.cov_model.specs.Values.{same_value}
use Rattle.cov_model.specs.Trees.{code_of_one, code_of_two, same_path, all_pass, same_layer, same_tree, same_node, same_branch, on_node, on_branch, on_expr}
use Rattle.cov_model.specs.Walk.{put}
use Rattle.cov_model.proofs.Joins.{same_value-eq}
use Rattle.cov_model.proofs.Closed.{by_top}
use Rattle.cov_order.proofs.ByParts.{Layer, EachItem, EachArm, EachPart, by_parts, fold_step, fold_branch}
use Rattle.cov_laws.specs.Trees.{nowhere, placeless, SameTreeDecides}

-- ---- the tests of what stands in a node

same_one : (op oq : Op1) → IsTrue (code_of_one op == code_of_one oq) → op ≡ oq
same_one op1.Not op1.Not h = refl
same_one op1.Neg op1.Neg h = refl
same_one op1.Next op1.Next h = refl
same_one op1.Ex op1.Ex h = refl
same_one op1.Ef op1.Ef h = refl
same_one op1.Eg op1.Eg h = refl
same_one op1.Ax op1.Ax h = refl
same_one op1.Af op1.Af h = refl
same_one op1.Ag op1.Ag h = refl
same_one _ _ h = cc

same_two : (op oq : Op2) → IsTrue (code_of_two op == code_of_two oq) → op ≡ oq
same_two op2.And op2.And h = refl
same_two op2.Or op2.Or h = refl
same_two op2.Xor op2.Xor h = refl
same_two op2.Implies op2.Implies h = refl
same_two op2.Iff op2.Iff h = refl
same_two op2.Eq op2.Eq h = refl
same_two op2.Ne op2.Ne h = refl
same_two op2.Lt op2.Lt h = refl
same_two op2.Le op2.Le h = refl
same_two op2.Gt op2.Gt h = refl
same_two op2.Ge op2.Ge h = refl
same_two op2.Add op2.Add h = refl
same_two op2.Sub op2.Sub h = refl
same_two op2.Mul op2.Mul h = refl
same_two op2.Div op2.Div h = refl
same_two op2.Mod op2.Mod h = refl
same_two op2.Union op2.Union h = refl
same_two op2.Member op2.Member h = refl
same_two op2.Au op2.Au h = refl
same_two op2.Eu op2.Eu h = refl
same_two _ _ h = cc

equal_number : (i : ℕ) → IsTrue (i == i)
equal_number i = (Decides-eqb i i).1 refl

equal_value : (x : Value) → IsTrue (same_value x x)
equal_value (v.Bool true) = refl
equal_value (v.Bool false) = refl
equal_value (v.Int n) = (Decides-int_eq n n).1 refl
equal_value (v.Sym n) = equal_number n

value_is : (x y : Value) → IsTrue (same_value x y) ↔ (x ≡ y)
value_is x y = (same_value-eq x y, λ e. subst (λ z. IsTrue (same_value x z)) e (equal_value x))

path_is : (p q : List ℕ) → IsTrue (same_path p q) ↔ (p ≡ q)
path_is [] [] = (λ h. refl, λ h. refl)
path_is [] (j ∷ js) = (λ h. cc, λ h. cc)
path_is (i ∷ is) [] = (λ h. cc, λ h. cc)
path_is (i ∷ is) (j ∷ js) = (
  λ h. let p = and_parts (i == j) (same_path is js) h in ap₂ (λ (n : ℕ) (ns : List ℕ). n ∷ ns) ((Decides-eqb i j).0 p.0) ((path_is is js).0 p.1),
  λ h.
      let head : i ≡ j = cc in
      let tail : is ≡ js = cc in
      and_from (i == j) (same_path is js) ((Decides-eqb i j).1 head) ((path_is is js).1 tail),
)

-- ---- trees

abbrev bare_node : Node → Node
bare_node =
    fold-Node Node Branch Expr roll-Node (λ b. roll-Branch (record { guard = b.guard; body = b.body })) (λ e. roll-Expr (record { node = e.node; place = nowhere }))

abbrev bare_branch : Branch → Branch
bare_branch =
    fold-Branch Node Branch Expr roll-Node (λ b. roll-Branch (record { guard = b.guard; body = b.body })) (λ e. roll-Expr (record { node = e.node; place = nowhere }))

abbrev bare_layer : Layer → Layer
bare_layer l = map-Node Node Branch Expr Node Branch Expr bare_node bare_branch placeless l

abbrev tests : Layer → Node-F (Node → Bool) (Branch → Bool) (Expr → Bool)
tests l = map-Node Node Branch Expr (Node → Bool) (Branch → Bool) (Expr → Bool) same_node same_branch same_tree l

bare_step : (place : Span) (l : Layer) → placeless (put place (roll-Node l)) ≡ put nowhere (roll-Node (bare_layer l))
bare_step place l =
    fold_step Node Branch Expr roll-Node (λ b. roll-Branch (record { guard = b.guard; body = b.body })) (λ e. roll-Expr (record { node = e.node; place = nowhere })) place l

bare_arm : (b : Branch) → bare_branch b ≡ roll-Branch (record { guard = placeless b.guard; body = placeless b.body })
bare_arm b =
    fold_branch Node Branch Expr roll-Node (λ b. roll-Branch (record { guard = b.guard; body = b.body })) (λ e. roll-Expr (record { node = e.node; place = nowhere })) b

test_step : (p q : Span) (l k : Layer) → same_tree (put p (roll-Node l)) (put q (roll-Node k)) ≡ same_layer (tests l) k
test_step p q l k =
    ap (λ (t : Expr → Bool). t (put q (roll-Node k))) (fold_step (Node → Bool) (Branch → Bool) (Expr → Bool) on_node on_branch on_expr p l)
    ∙ ap (λ (z : Layer). same_layer (tests l) z) (out-roll-Node k)

test_arm : (b c : Branch) → same_branch b c ≡ (same_tree b.guard c.guard && same_tree b.body c.body)
test_arm b c = ap (λ (t : Branch → Bool). t c) (fold_branch (Node → Bool) (Branch → Bool) (Expr → Bool) on_node on_branch on_expr b)

abbrev R : Expr → Type 0
R e = (f : Expr) → IsTrue (same_tree e f) ↔ (placeless e ≡ placeless f)

items : (es : List Expr) → EachItem R es → (fs : List Expr) → IsTrue (all_pass (map same_tree es) fs) ↔ (map placeless es ≡ map placeless fs)
items [] r [] = (λ h. refl, λ h. refl)
items [] r (f ∷ fs) = (λ h. cc, λ h. cc)
items (e ∷ es) r [] = (λ h. cc, λ h. cc)
items (e ∷ es) r (f ∷ fs) = (
  λ h.
      let p = and_parts (same_tree e f) (all_pass (map same_tree es) fs) h in
      ap₂ (λ (x : Expr) (xs : List Expr). x ∷ xs) ((r.0 f).0 p.0) ((items es r.1 fs).0 p.1),
  λ h.
      let head : placeless e ≡ placeless f = cc in
      let tail : map placeless es ≡ map placeless fs = cc in
      and_from (same_tree e f) (all_pass (map same_tree es) fs) ((r.0 f).1 head) ((items es r.1 fs).1 tail),
)

arm : (b c : Branch) → R b.guard → R b.body → IsTrue (same_branch b c) ↔ (bare_branch b ≡ bare_branch c)
arm b c r s = (
  λ h.
      let p = and_parts (same_tree b.guard c.guard) (same_tree b.body c.body) (sym (test_arm b c) ∙ h) in
      bare_arm b ∙ ap₂ (λ (g x : Expr). roll-Branch (record { guard = g; body = x })) ((r c.guard).0 p.0) ((s c.body).0 p.1) ∙ sym (bare_arm c),
  λ h.
      let rolled = sym (bare_arm b) ∙ h ∙ bare_arm c in
      let guards : placeless b.guard ≡ placeless c.guard = ap (λ (z : Branch). z.guard) rolled in
      let bodies : placeless b.body ≡ placeless c.body = ap (λ (z : Branch). z.body) rolled in
      test_arm b c ∙ and_from (same_tree b.guard c.guard) (same_tree b.body c.body) ((r c.guard).1 guards) ((s c.body).1 bodies),
)

arms : (bs : List Branch) → EachArm R bs → (cs : List Branch) → IsTrue (all_pass (map same_branch bs) cs) ↔ (map bare_branch bs ≡ map bare_branch cs)
arms [] r [] = (λ h. refl, λ h. refl)
arms [] r (c ∷ cs) = (λ h. cc, λ h. cc)
arms (b ∷ bs) r [] = (λ h. cc, λ h. cc)
arms (b ∷ bs) r (c ∷ cs) = (
  λ h.
      let p = and_parts (same_branch b c) (all_pass (map same_branch bs) cs) h in
      ap₂ (λ (x : Branch) (xs : List Branch). x ∷ xs) ((arm b c r.0 r.1).0 p.0) ((arms bs r.2 cs).0 p.1),
  λ h.
      let head : bare_branch b ≡ bare_branch c = cc in
      let tail : map bare_branch bs ≡ map bare_branch cs = cc in
      and_from (same_branch b c) (all_pass (map same_branch bs) cs) ((arm b c r.0 r.1).1 head) ((arms bs r.2 cs).1 tail),
)

at_layer : (l : Layer) → EachPart R l → (k : Layer) → IsTrue (same_layer (tests l) k) ↔ (bare_layer l ≡ bare_layer k)
at_layer (Node-F.Lit x) r (Node-F.Lit y) = (λ h. ap (λ (z : Value). Node-F.Lit z) ((value_is x y).0 h), λ h. let same : x ≡ y = cc in (value_is x y).1 same)
at_layer (Node-F.Path p) r (Node-F.Path q) = (λ h. ap (λ (z : List ℕ). Node-F.Path z) ((path_is p q).0 h), λ h. let same : p ≡ q = cc in (path_is p q).1 same)
at_layer (Node-F.Var i) r (Node-F.Var j) = (λ h. ap (λ (n : ℕ). Node-F.Var n) ((Decides-eqb i j).0 h), λ h. let same : i ≡ j = cc in (Decides-eqb i j).1 same)
at_layer (Node-F.Def i) r (Node-F.Def j) = (λ h. ap (λ (n : ℕ). Node-F.Def n) ((Decides-eqb i j).0 h), λ h. let same : i ≡ j = cc in (Decides-eqb i j).1 same)
at_layer (Node-F.One op a) r (Node-F.One oq b) = (
  λ h.
      let p = and_parts (code_of_one op == code_of_one oq) (same_tree a b) h in
      ap₂ (λ (o : Op1) (z : Expr). Node-F.One o z) (same_one op oq p.0) ((r b).0 p.1),
  λ h.
      let ops : op ≡ oq = cc in
      let parts : placeless a ≡ placeless b = cc in
      and_from (code_of_one op == code_of_one oq) (same_tree a b)
      (subst (λ (o : Op1). IsTrue (code_of_one op == code_of_one o)) ops (equal_number (code_of_one op))) ((r b).1 parts),
)
at_layer (Node-F.Two op a b) r (Node-F.Two oq c d) = (
  λ h.
      let p = and_parts ((code_of_two op == code_of_two oq) && same_tree a c) (same_tree b d) h in
      let q = and_parts (code_of_two op == code_of_two oq) (same_tree a c) p.0 in
      ap₂ (λ (o : Op2) (z : Expr). Node-F.Two o z (placeless b)) (same_two op oq q.0) ((r.0 c).0 q.1)
      ∙ ap (λ (z : Expr). Node-F.Two oq (placeless c) z) ((r.1 d).0 p.1),
  λ h.
      let ops : op ≡ oq = cc in
      let left : placeless a ≡ placeless c = cc in
      let right : placeless b ≡ placeless d = cc in
      and_from ((code_of_two op == code_of_two oq) && same_tree a c) (same_tree b d)
      (and_from (code_of_two op == code_of_two oq) (same_tree a c)
      (subst (λ (o : Op2). IsTrue (code_of_two op == code_of_two o)) ops (equal_number (code_of_two op))) ((r.0 c).1 left))
      ((r.1 d).1 right),
)
at_layer (Node-F.Range a b) r (Node-F.Range c d) = (
  λ h.
      let p = and_parts (int_eq a c) (int_eq b d) h in
      ap₂ (λ (i j : ℤ). Node-F.Range i j) ((Decides-int_eq a c).0 p.0) ((Decides-int_eq b d).0 p.1),
  λ h.
      let low : a ≡ c = cc in
      let high : b ≡ d = cc in
      and_from (int_eq a c) (int_eq b d) ((Decides-int_eq a c).1 low) ((Decides-int_eq b d).1 high),
)
at_layer (Node-F.Set es) r (Node-F.Set fs) = (
  λ h. ap (λ (zs : List Expr). Node-F.Set zs) ((items es r fs).0 h),
  λ h. let same : map placeless es ≡ map placeless fs = cc in (items es r fs).1 same,
)
at_layer (Node-F.Case bs) r (Node-F.Case cs) = (
  λ h. ap (λ (zs : List Branch). Node-F.Case zs) ((arms bs r cs).0 h),
  λ h. let same : map bare_branch bs ≡ map bare_branch cs = cc in (arms bs r cs).1 same,
)
at_layer _ r _ = (λ h. cc, λ h. cc)

pub decides_law : SameTreeDecides
decides_law = by_parts R (λ p l r. by_top (λ f. IsTrue (same_tree (put p (roll-Node l)) f) ↔ (placeless (put p (roll-Node l)) ≡ placeless f)) (λ q k.
    let is = at_layer l r k in (
      λ h. bare_step p l ∙ ap (λ (z : Layer). put nowhere (roll-Node z)) (is.0 (sym (test_step p q l k) ∙ h)) ∙ sym (bare_step q k),
      λ h.
          let rolled = sym (bare_step p l) ∙ h ∙ bare_step q k in
          let layers : bare_layer l ≡ bare_layer k =
          sym (out-roll-Node (bare_layer l)) ∙ ap (λ (z : Expr). out-Node z.node) rolled ∙ out-roll-Node (bare_layer k) in
          test_step p q l k ∙ is.1 layers,
    )))
