-- Trees that are the same apart from places are settled to such trees, so a closed case stays closed.
use Rattle.std.proofs.Common.{◌≡◌, ℕ, ℤ, pos, Bool, true, false, ◌&&◌, ◌||◌, if◌then◌else◌, IsTrue, inl, inr, List, [], ◌∷◌, map, Option, Some, None, refl, sym, ap, subst, ◌∙◌, arith}
use Rattle.std.specs.Prelude.{◌==◌}
use Rattle.std.specs.Ordering.{int_eq}
use Rattle.std.specs.List.{list_any}
use Rattle.std.proofs.lemmas.Int.{ints}
use Rattle.cov_syntax.specs.declared.tree.Span.{Span}
use Rattle.cov_syntax.specs.declared.tree.Value.{Value}
use Rattle.cov_syntax.specs.declared.tree.Value.TheVariants as v
use Rattle.cov_syntax.specs.declared.tree.Op1.{Op1}
use Rattle.cov_syntax.specs.declared.tree.Op1.TheVariants as op1
use Rattle.cov_syntax.specs.declared.tree.Op2.{Op2}
use Rattle.cov_syntax.specs.declared.tree.Op2.TheVariants as op2
use Rattle.cov_syntax.specs.declared.tree.Expr.{Expr, roll-Expr}
use Rattle.cov_syntax.specs.declared.tree.Branch.{Branch, roll-Branch}
use Rattle.cov_syntax.specs.declared.tree.Node.{Node, roll-Node, out-Node, out-roll-Node, roll-out-Node}
use Rattle.cov_syntax.specs.declared.tree.Node.TheVariants as n
use Rattle.cov_syntax.specs.declared.tree.Node.TheOpen.{Node-F, Branch-F, Expr-F}
use Rattle.cov_syntax.specs.declared.tree.Node.TheFolds.{ind-Expr, map-Node, fold-roll-Node, fold-roll-Branch, fold-roll-Expr}
use Rattle.cov_model.specs.Values.{same_value}
use Rattle.cov_model.specs.Kinds.{Kind, Kinds, interval, kind_at, is_boolean, own_of_one, own_of_two, joined_kind}
use Rattle.cov_model.specs.Trees.{code_of_one, code_of_two, all_pass, same_tree, same_node, same_branch, same_layer, on_node, on_branch, on_expr, is_negation, one_layer, is_true, true_layer, is_closed}
use Rattle.cov_model.specs.Walk as walk
use Rattle.cov_model.specs.Walk.{Judged, put, judged, judged_literal, bit, asks_truth, asked_of_one, asked_of_two, branch_of, case_own, bodies}
use Rattle.cov_model.specs.Settled.{settled}
use Rattle.cov_model.proofs.Tied.{Layer}
use Rattle.cov_model.proofs.Joins.{same_value-eq, or_left, or_right, or_case}
use Rattle.cov_model.proofs.Joined.{and_split, and_join}
use Rattle.cov_model.proofs.Closed.{integer, judged_node, judged_branch, judged_layer, judged_step, by_top}

-- ---- what is the same as itself, and what is equal because it is the same

eq_of : (i j : ℕ) → IsTrue (i == j) → i ≡ j
eq_of i j h = grind arith

eq_self : (i : ℕ) → IsTrue (i == i)
eq_self i = grind arith

same_ints : (i j : ℤ) → IsTrue (int_eq i j) → i ≡ j
same_ints i j h = grind (arith, ints)

value_self : (x : Value) → IsTrue (same_value x x)
value_self x = grind (arith, ints)

same_one : (op oq : Op1) → IsTrue (code_of_one op == code_of_one oq) → op ≡ oq
same_one op1.Not op1.Not h = refl
same_one op1.Neg op1.Neg h = refl
same_one op1.Next op1.Next h = refl
same_one op1.Ex op1.Ex h = refl
same_one op1.Ef op1.Ef h = refl
same_one op1.Eg op1.Eg h = refl
same_one op1.Ax op1.Ax h = refl
same_one op1.Af op1.Af h = refl
same_one op1.Ag op1.Ag h = refl
same_one _ _ h = cc

same_two : (op oq : Op2) → IsTrue (code_of_two op == code_of_two oq) → op ≡ oq
same_two op2.And op2.And h = refl
same_two op2.Or op2.Or h = refl
same_two op2.Xor op2.Xor h = refl
same_two op2.Implies op2.Implies h = refl
same_two op2.Iff op2.Iff h = refl
same_two op2.Eq op2.Eq h = refl
same_two op2.Ne op2.Ne h = refl
same_two op2.Lt op2.Lt h = refl
same_two op2.Le op2.Le h = refl
same_two op2.Gt op2.Gt h = refl
same_two op2.Ge op2.Ge h = refl
same_two op2.Add op2.Add h = refl
same_two op2.Sub op2.Sub h = refl
same_two op2.Mul op2.Mul h = refl
same_two op2.Div op2.Div h = refl
same_two op2.Mod op2.Mod h = refl
same_two op2.Union op2.Union h = refl
same_two op2.Member op2.Member h = refl
same_two op2.Au op2.Au h = refl
same_two op2.Eu op2.Eu h = refl
same_two _ _ h = cc

-- ---- trees by their layers

abbrev tests : Layer → Node-F (Node → Bool) (Branch → Bool) (Expr → Bool)
tests l = map-Node Node Branch Expr (Node → Bool) (Branch → Bool) (Expr → Bool) same_node same_branch same_tree l

node_step : (k l : Layer) → same_node (roll-Node k) (roll-Node l) ≡ same_layer (tests k) l
node_step k l =
    ap (λ (t : Node → Bool). t (roll-Node l)) (fold-roll-Node (Node → Bool) (Branch → Bool) (Expr → Bool) on_node on_branch on_expr k)
    ∙ ap (same_layer (tests k)) (out-roll-Node l)

tree_step : (p q : Span) (m k : Node) → same_tree (put p m) (put q k) ≡ same_node m k
tree_step p q m k = ap (λ (t : Expr → Bool). t (put q k)) (fold-roll-Expr (Node → Bool) (Branch → Bool) (Expr → Bool) on_node on_branch on_expr (record { node = m; place = p }))

branch_step : (g e h f : Expr) → same_branch (branch_of g e) (branch_of h f) ≡ (same_tree g h && same_tree e f)
branch_step g e h f = ap (λ (t : Branch → Bool). t (branch_of h f)) (fold-roll-Branch (Node → Bool) (Branch → Bool) (Expr → Bool) on_node on_branch on_expr (record { guard = g; body = e }))

same_put : (p q : Span) (m o : Node) (k l : Layer) → roll-Node k ≡ m → roll-Node l ≡ o → IsTrue (same_layer (tests k) l) → IsTrue (same_tree (put p m) (put q o))
same_put p q m o k l h i t =
    ap (λ (z : Node). same_tree (put p z) (put q o)) (sym h)
    ∙ ap (λ (z : Node). same_tree (put p (roll-Node k)) (put q z)) (sym i)
    ∙ tree_step p q (roll-Node k) (roll-Node l) ∙ node_step k l ∙ t

-- ---- what the walk finds at such trees

record Like (j k : Judged) : Type 0 where
  own : j.own ≡ k.own
  settled : (b : Bool) → IsTrue (same_tree (j.settled b) (k.settled b))

relike : {j k x y : Judged} → j ≡ x → k ≡ y → Like j k → Like x y
relike {j = j} {k = k} {x = x} {y = y} h i l = subst (λ (z : Judged). Like x z) i (subst (λ (z : Judged). Like z k) h l)

abbrev AllLike : List Judged → List Judged → Type 0
AllLike [] [] = Unit {0}
AllLike [] (k ∷ ls) = ⊥
AllLike (j ∷ js) [] = ⊥
AllLike (j ∷ js) (k ∷ ls) = Like j k × AllLike js ls

all_own : (js ls : List Judged) → AllLike js ls → map (λ (j : Judged). j.own) js ≡ map (λ (j : Judged). j.own) ls
all_own [] [] h = refl
all_own [] (k ∷ ls) h = absurd h
all_own (j ∷ js) [] h = absurd h
all_own (j ∷ js) (k ∷ ls) h = ap (λ (o : Kind). o ∷ map (λ (j : Judged). j.own) js) h.0.own ∙ ap (λ (os : List Kind). k.own ∷ os) (all_own js ls h.1)

all_trees : (t : Bool) (js ls : List Judged) → AllLike js ls → IsTrue (all_pass (map same_tree (map (λ (j : Judged). j.settled t) js)) (map (λ (j : Judged). j.settled t) ls))
all_trees t [] [] h = refl
all_trees t [] (k ∷ ls) h = absurd h
all_trees t (j ∷ js) [] h = absurd h
all_trees t (j ∷ js) (k ∷ ls) h = and_join (same_tree (j.settled t) (k.settled t)) _ (h.0.settled t) (all_trees t js ls h.1)

abbrev Arm : Type 0
Arm = Judged × Judged

abbrev ArmsLike : List Arm → List Arm → Type 0
ArmsLike [] [] = Unit {0}
ArmsLike [] (k ∷ ls) = ⊥
ArmsLike (j ∷ js) [] = ⊥
ArmsLike (j ∷ js) (k ∷ ls) = Like j.0 k.0 × Like j.1 k.1 × ArmsLike js ls

arms_own : (js ls : List Arm) → ArmsLike js ls → map (λ (j : Judged). j.own) (bodies js) ≡ map (λ (j : Judged). j.own) (bodies ls)
arms_own [] [] h = refl
arms_own [] (k ∷ ls) h = absurd h
arms_own (j ∷ js) [] h = absurd h
arms_own (j ∷ js) (k ∷ ls) h = ap (λ (o : Kind). o ∷ map (λ (j : Judged). j.own) (bodies js)) h.1.own ∙ ap (λ (os : List Kind). k.1.own ∷ os) (arms_own js ls h.2)

abbrev settled_arm : Bool → Arm → Branch
settled_arm t b = branch_of (b.0.settled true) (b.1.settled t)

arms_trees : (t : Bool) (js ls : List Arm) → ArmsLike js ls → IsTrue (all_pass (map same_branch (map (settled_arm t) js)) (map (settled_arm t) ls))
arms_trees t [] [] h = refl
arms_trees t [] (k ∷ ls) h = absurd h
arms_trees t (j ∷ js) [] h = absurd h
arms_trees t (j ∷ js) (k ∷ ls) h =
    and_join (same_branch (settled_arm t j) (settled_arm t k)) _
    (branch_step (j.0.settled true) (j.1.settled t) (k.0.settled true) (k.1.settled t) ∙ and_join (same_tree (j.0.settled true) (k.0.settled true)) (same_tree (j.1.settled t) (k.1.settled t)) (h.0.settled true) (h.1.settled t))
    (arms_trees t js ls h.2)

literal_tree : (p q : Span) (x : Value) → IsTrue (same_tree (put p (n.Lit x)) (put q (n.Lit x)))
literal_tree p q x = same_put p q (n.Lit x) (n.Lit x) (Node-F.Lit x) (Node-F.Lit x) (n.rolls-Lit x) (n.rolls-Lit x) (value_self x)

bit_tree : (p q : Span) (i : ℤ) (c b : Bool) → IsTrue (same_tree ((integer p i (Some c)).settled b) ((integer q i (Some c)).settled b))
bit_tree p q i c true = literal_tree p q (v.Bool c)
bit_tree p q i c false = literal_tree p q (v.Int i)

integer_like : (p q : Span) (i : ℤ) (o : Option Bool) → Like (integer p i o) (integer q i o)
integer_like p q i None = record { own = refl; settled = λ b. literal_tree p q (v.Int i) }
integer_like p q i (Some c) = record { own = refl; settled = bit_tree p q i c }

literal_like : (p q : Span) (x : Value) → Like (judged_literal p x) (judged_literal q x)
literal_like p q (v.Int i) = integer_like p q i (bit i)
literal_like p q (v.Bool c) = record { own = refl; settled = λ b. literal_tree p q (v.Bool c) }
literal_like p q (v.Sym s) = record { own = refl; settled = λ b. literal_tree p q (v.Sym s) }

sides : (p q : Span) (op : Op2) (a b c d : Judged) → Like a c → Like b d → (t u : Bool) → t ≡ u
    → IsTrue (same_tree (put p (n.Two op (a.settled t) (b.settled t))) (put q (n.Two op (c.settled u) (d.settled u))))
sides p q op a b c d la lb t u e =
    subst (λ (z : Bool). IsTrue (same_tree (put p (n.Two op (a.settled t) (b.settled t))) (put q (n.Two op (c.settled z) (d.settled z))))) e
    (same_put p q (n.Two op (a.settled t) (b.settled t)) (n.Two op (c.settled t) (d.settled t)) (Node-F.Two op (a.settled t) (b.settled t)) (Node-F.Two op (c.settled t) (d.settled t))
    (n.rolls-Two op (a.settled t) (b.settled t)) (n.rolls-Two op (c.settled t) (d.settled t))
    (and_join ((code_of_two op == code_of_two op) && same_tree (a.settled t) (c.settled t)) (same_tree (b.settled t) (d.settled t))
    (and_join (code_of_two op == code_of_two op) (same_tree (a.settled t) (c.settled t)) (eq_self (code_of_two op)) (la.settled t)) (lb.settled t)))

module _ (ks : Kinds) where
  two_like : (p q : Span) (op : Op2) (a b c d : Judged) → Like a c → Like b d → Like (walk.of_node ks (Node-F.Two op a b) p) (walk.of_node ks (Node-F.Two op c d) q)
  two_like p q op2.Union a b c d la lb =
      let e : own_of_two op2.Union a.own b.own ≡ own_of_two op2.Union c.own d.own
      = ap (λ (k : Kind). own_of_two op2.Union k b.own) la.own ∙ ap (λ (k : Kind). own_of_two op2.Union c.own k) lb.own in
      record {
        own = e;
        settled = λ t. sides p q op2.Union a b c d la lb (t || is_boolean (own_of_two op2.Union a.own b.own)) (t || is_boolean (own_of_two op2.Union c.own d.own)) (ap (λ (k : Kind). t || is_boolean k) e);
      }
  two_like p q op a b c d la lb = record {
    own = ap (λ (k : Kind). own_of_two op k b.own) la.own ∙ ap (λ (k : Kind). own_of_two op c.own k) lb.own;
    settled = λ t. sides p q op a b c d la lb (asks_truth (asked_of_two op a.own b.own)) (asks_truth (asked_of_two op c.own d.own))
        (ap (λ (k : Kind). asks_truth (asked_of_two op k b.own)) la.own ∙ ap (λ (k : Kind). asks_truth (asked_of_two op c.own k)) lb.own);
  }

  one_like : (p q : Span) (op : Op1) (a c : Judged) → Like a c → Like (walk.of_node ks (Node-F.One op a) p) (walk.of_node ks (Node-F.One op c) q)
  one_like p q op a c la =
      let t : Bool = asks_truth (asked_of_one op) in
      record {
        own = ap (own_of_one op) la.own;
        settled = λ b. same_put p q (n.One op (a.settled t)) (n.One op (c.settled t)) (Node-F.One op (a.settled t)) (Node-F.One op (c.settled t)) (n.rolls-One op (a.settled t)) (n.rolls-One op (c.settled t))
            (and_join (code_of_one op == code_of_one op) (same_tree (a.settled t) (c.settled t)) (eq_self (code_of_one op)) (la.settled t));
      }

  set_like : (p q : Span) (js ls : List Judged) → AllLike js ls → Like (walk.of_node ks (Node-F.Set js) p) (walk.of_node ks (Node-F.Set ls) q)
  set_like p q js ls h =
      let e : joined_kind (map (λ (j : Judged). j.own) js) ≡ joined_kind (map (λ (j : Judged). j.own) ls) = ap joined_kind (all_own js ls h) in
      record {
        own = e;
        settled = λ b.
            let t : Bool = b || is_boolean (joined_kind (map (λ (j : Judged). j.own) js)) in
            let xs : List Expr = map (λ (j : Judged). j.settled t) js in
            subst (λ (k : Kind). IsTrue (same_tree (put p (n.Set xs)) (put q (n.Set (map (λ (j : Judged). j.settled (b || is_boolean k)) ls))))) e
            (same_put p q (n.Set xs) (n.Set (map (λ (j : Judged). j.settled t) ls)) (Node-F.Set xs) (Node-F.Set (map (λ (j : Judged). j.settled t) ls)) (n.rolls-Set xs) (n.rolls-Set (map (λ (j : Judged). j.settled t) ls)) (all_trees t js ls h));
      }

  case_like : (p q : Span) (js ls : List Arm) → ArmsLike js ls → Like (walk.of_node ks (Node-F.Case js) p) (walk.of_node ks (Node-F.Case ls) q)
  case_like p q js ls h =
      let e : case_own js ≡ case_own ls = ap joined_kind (arms_own js ls h) in
      record {
        own = e;
        settled = λ b.
            let t : Bool = b || is_boolean (case_own js) in
            let xs : List Branch = map (settled_arm t) js in
            subst (λ (k : Kind). IsTrue (same_tree (put p (n.Case xs)) (put q (n.Case (map (settled_arm (b || is_boolean k)) ls))))) e
            (same_put p q (n.Case xs) (n.Case (map (settled_arm t) ls)) (Node-F.Case xs) (Node-F.Case (map (settled_arm t) ls)) (n.rolls-Case xs) (n.rolls-Case (map (settled_arm t) ls)) (arms_trees t js ls h));
      }

  -- ---- the induction

  abbrev P : Node → Type 0
  P m = (k : Node) → IsTrue (same_node m k) → (p q : Span) → Like (judged_node ks m p) (judged_node ks k q)

  abbrev Q : Branch → Type 0
  Q b = (c : Branch) → IsTrue (same_branch b c) → Like (judged_branch ks b).0 (judged_branch ks c).0 × Like (judged_branch ks b).1 (judged_branch ks c).1

  abbrev R : Expr → Type 0
  R e = (f : Expr) → IsTrue (same_tree e f) → Like (judged ks e) (judged ks f)

  abbrev Proved : Type 0
  Proved = Node-F ((m : Node) × P m) ((b : Branch) × Q b) ((e : Expr) × R e)

  abbrev bare : Proved → Layer
  bare y = map-Node ((m : Node) × P m) ((b : Branch) × Q b) ((e : Expr) × R e) Node Branch Expr (λ e. e.0) (λ e. e.0) (λ e. e.0) y

  items : (xs : List ((e : Expr) × R e)) (fs : List Expr) → IsTrue (all_pass (map same_tree (map (λ (x : (e : Expr) × R e). x.0) xs)) fs)
      → AllLike (map (judged ks) (map (λ (x : (e : Expr) × R e). x.0) xs)) (map (judged ks) fs)
  items [] [] h = tt
  items [] (f ∷ fs) h = cc
  items (x ∷ xs) [] h = cc
  items (x ∷ xs) (f ∷ fs) h = let c = and_split (same_tree x.0 f) (all_pass (map same_tree (map (λ (x : (e : Expr) × R e). x.0) xs)) fs) h in (x.1 f c.0, items xs fs c.1)

  arms : (xs : List ((b : Branch) × Q b)) (cs : List Branch) → IsTrue (all_pass (map same_branch (map (λ (x : (b : Branch) × Q b). x.0) xs)) cs)
      → ArmsLike (map (judged_branch ks) (map (λ (x : (b : Branch) × Q b). x.0) xs)) (map (judged_branch ks) cs)
  arms [] [] h = tt
  arms [] (c ∷ cs) h = cc
  arms (x ∷ xs) [] h = cc
  arms (x ∷ xs) (c ∷ cs) h =
      let d = and_split (same_branch x.0 c) (all_pass (map same_branch (map (λ (x : (b : Branch) × Q b). x.0) xs)) cs) h in
      let l = x.1 c d.0 in
      (l.0, l.1, arms xs cs d.1)

  at : (y : Proved) (l : Layer) → IsTrue (same_layer (tests (bare y)) l) → (p q : Span) → Like (walk.of_node ks (judged_layer ks (bare y)) p) (walk.of_node ks (judged_layer ks l) q)
  at (Node-F.Lit x) (Node-F.Lit z) h p q = subst (λ (w : Value). Like (judged_literal p x) (judged_literal q w)) (same_value-eq x z h) (literal_like p q x)
  at (Node-F.Path x) (Node-F.Path z) h p q = record { own = refl; settled = λ b. same_put p q (n.Path x) (n.Path z) (Node-F.Path x) (Node-F.Path z) (n.rolls-Path x) (n.rolls-Path z) h }
  at (Node-F.Var i) (Node-F.Var j) h p q =
      record { own = ap (kind_at ks.vars) (eq_of i j h); settled = λ b. same_put p q (n.Var i) (n.Var j) (Node-F.Var i) (Node-F.Var j) (n.rolls-Var i) (n.rolls-Var j) h }
  at (Node-F.Def i) (Node-F.Def j) h p q =
      record { own = ap (kind_at ks.defs) (eq_of i j h); settled = λ b. same_put p q (n.Def i) (n.Def j) (Node-F.Def i) (Node-F.Def j) (n.rolls-Def i) (n.rolls-Def j) h }
  at (Node-F.One op a) (Node-F.One oq c) h p q =
      let s = and_split (code_of_one op == code_of_one oq) (same_tree a.0 c) h in
      subst (λ (o : Op1). Like (walk.of_node ks (Node-F.One op (judged ks a.0)) p) (walk.of_node ks (Node-F.One o (judged ks c)) q)) (same_one op oq s.0) (one_like p q op (judged ks a.0) (judged ks c) (a.1 c s.1))
  at (Node-F.Two op a b) (Node-F.Two oq c d) h p q =
      let s = and_split ((code_of_two op == code_of_two oq) && same_tree a.0 c) (same_tree b.0 d) h in
      let t = and_split (code_of_two op == code_of_two oq) (same_tree a.0 c) s.0 in
      subst (λ (o : Op2). Like (walk.of_node ks (Node-F.Two op (judged ks a.0) (judged ks b.0)) p) (walk.of_node ks (Node-F.Two o (judged ks c) (judged ks d)) q)) (same_two op oq t.0)
      (two_like p q op (judged ks a.0) (judged ks b.0) (judged ks c) (judged ks d) (a.1 c t.1) (b.1 d s.1))
  at (Node-F.Range a b) (Node-F.Range c d) h p q =
      let s = and_split (int_eq a c) (int_eq b d) h in
      record {
        own = ap (λ (i : ℤ). interval i b) (same_ints a c s.0) ∙ ap (λ (i : ℤ). interval c i) (same_ints b d s.1);
        settled = λ t. same_put p q (n.Range a b) (n.Range c d) (Node-F.Range a b) (Node-F.Range c d) (n.rolls-Range a b) (n.rolls-Range c d) h;
      }
  at (Node-F.Set es) (Node-F.Set fs) h p q = set_like p q (map (judged ks) (map (λ (x : (e : Expr) × R e). x.0) es)) (map (judged ks) fs) (items es fs h)
  at (Node-F.Case bs) (Node-F.Case cs) h p q = case_like p q (map (judged_branch ks) (map (λ (x : (b : Branch) × Q b). x.0) bs)) (map (judged_branch ks) cs) (arms bs cs h)
  at _ _ h p q = cc

  node_at : (l : Layer) (p : Span) → judged_node ks (roll-Node l) p ≡ walk.of_node ks (judged_layer ks l) p
  node_at l p = ap (λ (f : Span → Judged). f p) (fold-roll-Node (Span → Judged) (Judged × Judged) Judged (walk.of_node ks) (λ b. (b.guard, b.body)) (λ e. e.node e.place) l)

  expr_at : (m : Node) (p : Span) → judged ks (put p m) ≡ judged_node ks m p
  expr_at m p = fold-roll-Expr (Span → Judged) (Judged × Judged) Judged (walk.of_node ks) (λ b. (b.guard, b.body)) (λ e. e.node e.place) (record { node = m; place = p })

  branch_at : (b : Branch) → judged_branch ks b ≡ (judged ks b.guard, judged ks b.body)
  branch_at b = fold-roll-Branch (Span → Judged) (Judged × Judged) Judged (walk.of_node ks) (λ c. (c.guard, c.body)) (λ e. e.node e.place) (record { guard = b.guard; body = b.body })

  at_layer : (y : Proved) → P (roll-Node (bare y))
  at_layer y k h p q =
      relike (sym (node_at (bare y) p)) (sym (node_at (out-Node k) q) ∙ ap (λ (m : Node). judged_node ks m q) (roll-out-Node k))
      (at y (out-Node k) (sym (ap (λ (t : Node → Bool). t k) (fold-roll-Node (Node → Bool) (Branch → Bool) (Expr → Bool) on_node on_branch on_expr (bare y))) ∙ h) p q)

  abbrev ProvedBranch : Type 0
  ProvedBranch = Branch-F ((m : Node) × P m) ((b : Branch) × Q b) ((e : Expr) × R e)

  at_branch : (y : ProvedBranch) → Q (roll-Branch (record { guard = y.guard.0; body = y.body.0 }))
  at_branch y c h =
      let b : Branch = branch_of y.guard.0 y.body.0 in
      let s = and_split (same_tree y.guard.0 c.guard) (same_tree y.body.0 c.body) (sym (branch_step y.guard.0 y.body.0 c.guard c.body) ∙ h) in (
        relike (sym (ap (λ (a : Arm). a.0) (branch_at b))) (sym (ap (λ (a : Arm). a.0) (branch_at c))) (y.guard.1 c.guard s.0),
        relike (sym (ap (λ (a : Arm). a.1) (branch_at b))) (sym (ap (λ (a : Arm). a.1) (branch_at c))) (y.body.1 c.body s.1),
      )

  abbrev ProvedExpr : Type 0
  ProvedExpr = Expr-F ((m : Node) × P m) ((b : Branch) × Q b) ((e : Expr) × R e)

  at_expr : (y : ProvedExpr) → R (roll-Expr (record { node = y.node.0; place = y.place }))
  at_expr y f h =
      relike (sym (expr_at y.node.0 y.place)) (sym (expr_at f.node f.place))
      (y.node.1 f.node (sym (tree_step y.place f.place y.node.0 f.node) ∙ h) y.place f.place)

  like : (e : Expr) → R e
  like = ind-Expr P Q R
      (λ x y h. subst (λ z. P (roll-Node z)) h (at_layer y))
      (λ x y h. subst (λ z. Q (roll-Branch z)) h (at_branch y))
      (λ x y h. subst (λ z. R (roll-Expr z)) h (at_expr y))

  -- ---- closed cases

  negation_top : (g : Expr) (place : Span) (l : Layer) → IsTrue (one_layer l g) → IsTrue (is_negation ((walk.of_node ks (judged_layer ks l) place).settled true) (settled ks true g))
  negation_top g place (Node-F.One op1.Not a) h =
      let x : Expr = settled ks true a in
      ap (λ (k : Layer). one_layer k (settled ks true g)) (ap out-Node (sym (n.rolls-One op1.Not x)) ∙ out-roll-Node (Node-F.One op1.Not x)) ∙ (like a g h).settled true
  negation_top g place _ h = cc

  negation_again : (e g : Expr) → IsTrue (is_negation e g) → IsTrue (is_negation (settled ks true e) (settled ks true g))
  negation_again e g = by_top (λ f. IsTrue (is_negation f g) → IsTrue (is_negation (settled ks true f) (settled ks true g)))
      (λ place l h. ap (λ (j : Judged). is_negation (j.settled true) (settled ks true g)) (judged_step ks place l) ∙ negation_top g place l (subst (λ (k : Layer). IsTrue (one_layer k g)) (out-roll-Node l) h)) e

  true_literal : (b : Bool) → IsTrue b → IsTrue (true_layer (out-Node (n.Lit (v.Bool b))))
  true_literal b h = ap true_layer (ap out-Node (sym (n.rolls-Lit (v.Bool b))) ∙ out-roll-Node (Node-F.Lit (v.Bool b))) ∙ h

  not_zero : (i : ℤ) → IsTrue (int_eq i (pos 1)) → int_eq i (pos 0) ≡ false
  not_zero i h = grind (arith, ints)

  true_bit : (place : Span) (i : ℤ) (b c : Bool) → b ≡ false → IsTrue c → IsTrue (is_true ((integer place i (if b then Some false else if c then Some true else None)).settled true))
  true_bit place i true c h k = cc
  true_bit place i false true h k = true_literal true refl
  true_bit place i false false h k = cc

  true_top : (place : Span) (l : Layer) → IsTrue (true_layer l) → IsTrue (is_true ((walk.of_node ks (judged_layer ks l) place).settled true))
  true_top place (Node-F.Lit (v.Bool b)) h = true_literal b h
  true_top place (Node-F.Lit (v.Int i)) h = true_bit place i (int_eq i (pos 0)) (int_eq i (pos 1)) (not_zero i h) h
  true_top place _ h = cc

  true_again : (g : Expr) → IsTrue (is_true g) → IsTrue (is_true (settled ks true g))
  true_again = by_top (λ f. IsTrue (is_true f) → IsTrue (is_true (settled ks true f)))
      (λ place l h. ap (λ (j : Judged). is_true (j.settled true)) (judged_step ks place l) ∙ true_top place l (subst (λ (k : Layer). IsTrue (true_layer k)) (out-roll-Node l) h))

  abbrev opposed : List Expr → Expr → Bool
  opposed before g = list_any (λ e. is_negation e g || is_negation g e) before

  opposed_again : (before : List Expr) (g : Expr) → IsTrue (opposed before g) → IsTrue (opposed (map (settled ks true) before) (settled ks true g))
  opposed_again [] g h = cc
  opposed_again (e ∷ before) g h = elim (or_case (is_negation e g || is_negation g e) (opposed before g) h) [
    | inl k ↦ or_left (is_negation (settled ks true e) (settled ks true g) || is_negation (settled ks true g) (settled ks true e)) (opposed (map (settled ks true) before) (settled ks true g)) (elim (or_case (is_negation e g) (is_negation g e) k) [
      | inl a ↦ or_left (is_negation (settled ks true e) (settled ks true g)) (is_negation (settled ks true g) (settled ks true e)) (negation_again e g a)
      | inr a ↦ or_right (is_negation (settled ks true e) (settled ks true g)) (is_negation (settled ks true g) (settled ks true e)) (negation_again g e a)
    ])
    | inr k ↦ or_right (is_negation (settled ks true e) (settled ks true g) || is_negation (settled ks true g) (settled ks true e)) (opposed (map (settled ks true) before) (settled ks true g)) (opposed_again before g k)
  ]

  -- a closed case stays closed
  pub closed_again : (before gs : List Expr) → IsTrue (is_closed before gs) → IsTrue (is_closed (map (settled ks true) before) (map (settled ks true) gs))
  closed_again before [] h = cc
  closed_again before (g ∷ []) h = elim (or_case (is_true g) (opposed before g) h) [
    | inl k ↦ or_left (is_true (settled ks true g)) (opposed (map (settled ks true) before) (settled ks true g)) (true_again g k)
    | inr k ↦ or_right (is_true (settled ks true g)) (opposed (map (settled ks true) before) (settled ks true g)) (opposed_again before g k)
  ]
  closed_again before (g ∷ f ∷ gs) h = closed_again (g ∷ before) (f ∷ gs) h
