-- What stands in a settled expression is settled.
use Rattle.std.proofs.Common.{◌≡◌, ℕ, zero, suc, ℤ, Bool, true, false, ◌||◌, ◌⊎◌, inl, inr, if◌then◌else◌, IsTrue, List, [], ◌∷◌, ◌++◌, map, Option, Some, None, refl, sym, ap, subst, ◌∙◌, arith}
use Rattle.std.specs.Prelude.{slice_get}
use Rattle.cov_syntax.specs.declared.tree.Span.{Span}
use Rattle.cov_syntax.specs.declared.tree.Value.{Value}
use Rattle.cov_syntax.specs.declared.tree.Value.TheVariants as v
use Rattle.cov_syntax.specs.declared.tree.Op1.{Op1}
use Rattle.cov_syntax.specs.declared.tree.Op2.{Op2}
use Rattle.cov_syntax.specs.declared.tree.Op2.TheVariants as op2
use Rattle.cov_syntax.specs.declared.tree.Expr.{Expr, roll-Expr}
use Rattle.cov_syntax.specs.declared.tree.Branch.{Branch, roll-Branch}
use Rattle.cov_syntax.specs.declared.tree.Node.{Node, roll-Node, out-Node, out-roll-Node, roll-out-Node}
use Rattle.cov_syntax.specs.declared.tree.Node.TheVariants as n
use Rattle.cov_syntax.specs.declared.tree.Node.TheOpen.{Node-F, Branch-F, Expr-F}
use Rattle.cov_syntax.specs.declared.tree.Node.TheFolds.{fold-roll-Branch}
use Rattle.cov_model.specs.Kinds.{Kind, boolean, interval, is_boolean, Kinds, own_of_two, joined_kind}
use Rattle.cov_model.specs.Walk as walk
use Rattle.cov_model.specs.Walk.{Judged, put, judged, simple, bit, judged_bit, judged_literal, asks_truth, asked_of_one, asked_of_two, branch_of, case_own}
use Rattle.cov_model.specs.Atoms.{StandsIn, whole, operand, left, right, member, guard, body, is_constant, is_constant_layer}
use Rattle.cov_model.proofs.Tied.{Layer, injected}
use Rattle.cov_model.proofs.Closed.{integer, judged_branch, judged_layer, judged_step, by_top}

-- the expression is as it is settled in some place
pub record IsSettled (ks : Kinds) (e : Expr) : Type 0 where
  pub in_truth : Bool
  pub settles : (judged ks e).settled in_truth ≡ e

topped : (e : Expr) (l : Layer) → out-Node e.node ≡ l → e ≡ put e.place (roll-Node l)
topped e l h = ap (put e.place) (sym (roll-out-Node e.node) ∙ ap roll-Node h)

-- at the top node
at_top : (ks : Kinds) (e : Expr) (l : Layer) (b : Bool) → out-Node e.node ≡ l → (judged ks e).settled b ≡ e → (walk.of_node ks (judged_layer ks l) e.place).settled b ≡ put e.place (roll-Node l)
at_top ks e l b h s =
    ap (λ (j : Judged). j.settled b) (sym (judged_step ks e.place l))
    ∙ subst (λ (z : Expr). (judged ks z).settled b ≡ z) (topped e l h) s

one_settled : (ks : Kinds) (place : Span) (op : Op1) (a : Expr) (b : Bool) → (walk.of_node ks (Node-F.One op (judged ks a)) place).settled b ≡ put place (roll-Node (Node-F.One op a)) → IsSettled ks a
one_settled ks place op a b s =
    let t : Bool = asks_truth (asked_of_one op) in
    let q : Node-F.One op ((judged ks a).settled t) ≡ Node-F.One op a
    = injected (n.One op ((judged ks a).settled t)) (Node-F.One op ((judged ks a).settled t)) (Node-F.One op a) place (n.rolls-One op ((judged ks a).settled t)) s in
    record { in_truth = t; settles = cc }

sides_settled : (ks : Kinds) (place : Span) (op : Op2) (a b : Expr) (t : Bool) → put place (n.Two op ((judged ks a).settled t) ((judged ks b).settled t)) ≡ put place (roll-Node (Node-F.Two op a b)) → IsSettled ks a × IsSettled ks b
sides_settled ks place op a b t s =
    let q : Node-F.Two op ((judged ks a).settled t) ((judged ks b).settled t) ≡ Node-F.Two op a b
    = injected (n.Two op ((judged ks a).settled t) ((judged ks b).settled t)) (Node-F.Two op ((judged ks a).settled t) ((judged ks b).settled t)) (Node-F.Two op a b) place (n.rolls-Two op ((judged ks a).settled t) ((judged ks b).settled t)) s in
    (record { in_truth = t; settles = cc }, record { in_truth = t; settles = cc })

two_settled : (ks : Kinds) (place : Span) (op : Op2) (a b : Expr) (t : Bool) → (walk.of_node ks (Node-F.Two op (judged ks a) (judged ks b)) place).settled t ≡ put place (roll-Node (Node-F.Two op a b)) → IsSettled ks a × IsSettled ks b
two_settled ks place op2.Union a b t s = sides_settled ks place op2.Union a b (t || is_boolean (own_of_two op2.Union (judged ks a).own (judged ks b).own)) s
two_settled ks place op a b t s = sides_settled ks place op a b (asks_truth (asked_of_two op (judged ks a).own (judged ks b).own)) s

item_settled : (ks : Kinds) (t : Bool) (es : List Expr) (i : ℕ) (a : Expr) → map (λ (j : Judged). j.settled t) (map (judged ks) es) ≡ es → slice_get es i ≡ Some a → (judged ks a).settled t ≡ a
item_settled ks t [] i a s g = cc
item_settled ks t (e ∷ es) zero a s g = let h : e ≡ a = cc in let k : (judged ks e).settled t ≡ e = cc in subst (λ (z : Expr). (judged ks z).settled t ≡ z) h k
item_settled ks t (e ∷ es) (suc i) a s g = let k : map (λ (j : Judged). j.settled t) (map (judged ks) es) ≡ es = cc in item_settled ks t es i a k g

member_settled : (ks : Kinds) (place : Span) (es : List Expr) (i : ℕ) (a : Expr) (b : Bool) → (walk.of_node ks (Node-F.Set (map (judged ks) es)) place).settled b ≡ put place (roll-Node (Node-F.Set es)) → slice_get es i ≡ Some a → IsSettled ks a
member_settled ks place es i a b s g =
    let t : Bool = b || is_boolean (joined_kind (map (λ (e : Judged). e.own) (map (judged ks) es))) in
    let ds : List Expr = map (λ (j : Judged). j.settled t) (map (judged ks) es) in
    let q : Node-F.Set ds ≡ Node-F.Set es = injected (n.Set ds) (Node-F.Set ds) (Node-F.Set es) place (n.rolls-Set ds) s in
    let k : ds ≡ es = cc in
    record { in_truth = t; settles = item_settled ks t es i a k g }

abbrev settled_arm : Bool → Judged × Judged → Branch
settled_arm t b = branch_of (b.0.settled true) (b.1.settled t)

judged_at : (ks : Kinds) (b : Branch) → judged_branch ks b ≡ (judged ks b.guard, judged ks b.body)
judged_at ks b = fold-roll-Branch (Span → Judged) (Judged × Judged) Judged (walk.of_node ks) (λ c. (c.guard, c.body)) (λ e. e.node e.place) (record { guard = b.guard; body = b.body })

arm_settled : (ks : Kinds) (t : Bool) (bs : List Branch) (i : ℕ) (b : Branch) → map (settled_arm t) (map (judged_branch ks) bs) ≡ bs → slice_get bs i ≡ Some b → settled_arm t (judged_branch ks b) ≡ b
arm_settled ks t [] i b s g = cc
arm_settled ks t (c ∷ cs) zero b s g = let h : c ≡ b = cc in let k : settled_arm t (judged_branch ks c) ≡ c = cc in subst (λ (z : Branch). settled_arm t (judged_branch ks z) ≡ z) h k
arm_settled ks t (c ∷ cs) (suc i) b s g = let k : map (settled_arm t) (map (judged_branch ks) cs) ≡ cs = cc in arm_settled ks t cs i b k g

branch_settled : (ks : Kinds) (place : Span) (bs : List Branch) (i : ℕ) (b : Branch) (u : Bool) → (walk.of_node ks (Node-F.Case (map (judged_branch ks) bs)) place).settled u ≡ put place (roll-Node (Node-F.Case bs)) → slice_get bs i ≡ Some b → IsSettled ks b.guard × IsSettled ks b.body
branch_settled ks place bs i b u s g =
    let t : Bool = u || is_boolean (case_own (map (judged_branch ks) bs)) in
    let cs : List Branch = map (settled_arm t) (map (judged_branch ks) bs) in
    let q : Node-F.Case cs ≡ Node-F.Case bs = injected (n.Case cs) (Node-F.Case cs) (Node-F.Case bs) place (n.rolls-Case cs) s in
    let k : cs ≡ bs = cc in
    let h : settled_arm t (judged ks b.guard, judged ks b.body) ≡ b = ap (settled_arm t) (sym (judged_at ks b)) ∙ arm_settled ks t bs i b k g in
    (record { in_truth = true; settles = ap (λ (c : Branch). c.guard) h }, record { in_truth = t; settles = ap (λ (c : Branch). c.body) h })

-- what stands in a settled expression is settled
pub part_settled : (ks : Kinds) (x e : Expr) → StandsIn x e → IsSettled ks e → IsSettled ks x
part_settled ks x _ whole s = s
part_settled ks x _ (operand e a op h p) s = part_settled ks x a p (one_settled ks e.place op a s.in_truth (at_top ks e (Node-F.One op a) s.in_truth h s.settles))
part_settled ks x _ (left e a b op h p) s = part_settled ks x a p (two_settled ks e.place op a b s.in_truth (at_top ks e (Node-F.Two op a b) s.in_truth h s.settles)).0
part_settled ks x _ (right e a b op h p) s = part_settled ks x b p (two_settled ks e.place op a b s.in_truth (at_top ks e (Node-F.Two op a b) s.in_truth h s.settles)).1
part_settled ks x _ (member e a es i h g p) s = part_settled ks x a p (member_settled ks e.place es i a s.in_truth (at_top ks e (Node-F.Set es) s.in_truth h s.settles) g)
part_settled ks x _ (guard e b bs i h g p) s = part_settled ks x b.guard p (branch_settled ks e.place bs i b s.in_truth (at_top ks e (Node-F.Case bs) s.in_truth h s.settles) g).0
part_settled ks x _ (body e b bs i h g p) s = part_settled ks x b.body p (branch_settled ks e.place bs i b s.in_truth (at_top ks e (Node-F.Case bs) s.in_truth h s.settles) g).1

-- ---- an expression that is Boolean by its own kind

or_second : (b c : Bool) → c ≡ true → (b || c) ≡ true
or_second true c h = refl
or_second false c h = h

literal_any : (place : Span) (i : ℤ) (o : Option Bool) (b : Bool)
    → is_boolean (integer place i o).own ≡ true → (integer place i o).settled b ≡ (integer place i o).settled true
literal_any place i None b h = refl
literal_any place i (Some c) b h = cc

any_top : (ks : Kinds) (place : Span) (l : Layer) (b : Bool) → is_boolean (walk.of_node ks (judged_layer ks l) place).own ≡ true
    → (walk.of_node ks (judged_layer ks l) place).settled b ≡ (walk.of_node ks (judged_layer ks l) place).settled true
any_top ks place (Node-F.Lit (v.Int i)) b h = literal_any place i (bit i) b h
any_top ks place (Node-F.Set es) b h = let js : List Judged = map (judged ks) es in
    ap (λ (t : Bool). put place (n.Set (map (λ (j : Judged). j.settled t) js))) (or_second b (is_boolean (joined_kind (map (λ (e : Judged). e.own) js))) h)
any_top ks place (Node-F.Case bs) b h = let js : List (Judged × Judged) = map (judged_branch ks) bs in
    ap (λ (t : Bool). put place (n.Case (map (settled_arm t) js))) (or_second b (is_boolean (case_own js)) h)
any_top ks place (Node-F.Two op2.Union x y) b h =
    ap (λ (t : Bool). put place (n.Two op2.Union ((judged ks x).settled t) ((judged ks y).settled t))) (or_second b (is_boolean (own_of_two op2.Union (judged ks x).own (judged ks y).own)) h)
any_top ks place _ b h = refl

pub settled_any : (ks : Kinds) (e : Expr) (b : Bool) → is_boolean (judged ks e).own ≡ true → (judged ks e).settled b ≡ (judged ks e).settled true
settled_any ks e b = by_top (λ f. is_boolean (judged ks f).own ≡ true → (judged ks f).settled b ≡ (judged ks f).settled true)
    (λ place l. subst (λ (j : Judged). is_boolean j.own ≡ true → j.settled b ≡ j.settled true) (sym (judged_step ks place l)) (any_top ks place l b)) e

constant_top : (ks : Kinds) (place : Span) (l : Layer) → IsTrue (is_constant_layer l) → (walk.of_node ks (judged_layer ks l) place).settled true ≡ put place (roll-Node l)
constant_top ks place (Node-F.Lit (v.Bool b)) h = ap (put place) (sym (n.rolls-Lit (v.Bool b)))
constant_top ks place _ h = cc

-- the literals TRUE and FALSE are settled
pub constant_settled : (ks : Kinds) (e : Expr) → IsTrue (is_constant e) → (judged ks e).settled true ≡ e
constant_settled ks e = by_top (λ f. IsTrue (is_constant f) → (judged ks f).settled true ≡ f)
    (λ place l h. ap (λ (j : Judged). j.settled true) (judged_step ks place l) ∙ constant_top ks place l (subst (λ (k : Layer). IsTrue (is_constant_layer k)) (out-roll-Node l) h)) e
