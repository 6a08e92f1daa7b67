-- The DEFINEs that an expression of a model names are there.
use Rattle.std.proofs.Common.{◌≡◌, ℕ, zero, suc, ◌<◌, ◌==◌, Bool, ◌&&◌, inl, inr, IsTrue, List, [], ◌∷◌, ◌++◌, map, length, refl, sym, ap, subst, ◌∙◌}
use Rattle.std.specs.Prelude.{Some, slice_get, nat_lt}
use Rattle.std.specs.List.{list_all}
use Rattle.cov_syntax.specs.declared.tree.Value.TheVariants as v
use Rattle.cov_syntax.specs.declared.tree.Expr.{Expr}
use Rattle.cov_syntax.specs.declared.tree.Branch.{Branch}
use Rattle.cov_syntax.specs.declared.tree.Node.{Node, out-Node, out-roll-Node}
use Rattle.cov_syntax.specs.declared.tree.Node.TheVariants as n
use Rattle.cov_syntax.specs.declared.tree.Node.TheOpen.{Node-F}
use Rattle.cov_syntax.specs.declared.tree.Node.TheFolds.{fold-roll-Node}
use Rattle.cov_syntax.specs.declared.tree.Op2.{Op2}
use Rattle.cov_model.specs.declared.model.Define.{Define}
use Rattle.cov_model.specs.declared.model.Assign.{Assign}
use Rattle.cov_model.specs.declared.model.Model.{Model}
use Rattle.cov_model.specs.Atoms.{StandsIn, whole, operand, left, right, member, guard, body, expressions, is_constant, is_constant_layer}
use Rattle.cov_model.specs.Order.{has, reads, reads_layer}
use Rattle.cov_model.specs.WellFormed.{IsWellFormed, all_cite, assigns_cite, cites}
use Rattle.cov_model.proofs.Closed.{by_top}
use Rattle.cov_model.proofs.Joins.{or_left, or_right, or_case}
use Rattle.cov_model.proofs.Joined.{and_split, and_join}
use Rattle.cov_order.specs.Parts.{node_reads, item_reads, branch_reads, reads_of_branch}
use Rattle.cov_order.proofs.ByParts.{Layer}
use Rattle.cov_order.proofs.Citing.{cited_reads}
use Rattle.cov_order.proofs.Renumbering.{read_parts, read_step, read_branch}
use Rattle.cov_ranges.specs.Ranges.{IsExpressionOf}

-- ---- a node with two parts

pub two_reads : (m : Node) (op : Op2) (a b : Expr) → m ≡ n.Two op a b → node_reads m ≡ reads a ++ reads b
two_reads m op a b is = ap node_reads (is ∙ sym (n.rolls-Two op a b)) ∙ fold-roll-Node (List ℕ) (List ℕ) (List ℕ) reads_layer (λ b. b.guard ++ b.body) (λ e. e.node) (Node-F.Two op a b)

-- ---- lists

pub all_at : {A : Type 0} (p : A → Bool) (xs : List A) (i : ℕ) (x : A) → slice_get xs i ≡ Some x → IsTrue (list_all p xs) → IsTrue (p x)
all_at p [] i x g h = cc
all_at p (y ∷ ys) zero x g h = let e : y ≡ x = cc in subst (λ z. IsTrue (p z)) e (and_split (p y) (list_all p ys) h).0
all_at p (y ∷ ys) (suc i) x g h = all_at p ys i x g (and_split (p y) (list_all p ys) h).1

all_first : {A : Type 0} (p : A → Bool) (xs ys : List A) → IsTrue (list_all p (xs ++ ys)) → IsTrue (list_all p xs)
all_first p [] ys h = refl
all_first p (x ∷ xs) ys h = let s = and_split (p x) (list_all p (xs ++ ys)) h in and_join (p x) (list_all p xs) s.0 (all_first p xs ys s.1)

all_last : {A : Type 0} (p : A → Bool) (xs ys : List A) → IsTrue (list_all p (xs ++ ys)) → IsTrue (list_all p ys)
all_last p [] ys h = h
all_last p (x ∷ xs) ys h = all_last p xs ys (and_split (p x) (list_all p (xs ++ ys)) h).1

all_both : {A : Type 0} (p : A → Bool) (xs ys : List A) → IsTrue (list_all p xs) → IsTrue (list_all p ys) → IsTrue (list_all p (xs ++ ys))
all_both p [] ys h k = k
all_both p (x ∷ xs) ys h k = let s = and_split (p x) (list_all p xs) h in and_join (p x) (list_all p (xs ++ ys)) s.0 (all_both p xs ys s.1 k)

-- ---- a part of an expression names no other DEFINEs

abbrev Within : List ℕ → List ℕ → Type 0
Within xs ys = (j : ℕ) → IsTrue (has xs j) → IsTrue (has ys j)

has_first : (xs ys : List ℕ) → Within xs (xs ++ ys)
has_first [] ys j h = cc
has_first (x ∷ xs) ys j h = elim (or_case (x == j) (has xs j) h) [
  | inl k ↦ or_left (x == j) (has (xs ++ ys) j) k
  | inr k ↦ or_right (x == j) (has (xs ++ ys) j) (has_first xs ys j k)
]

has_last : (xs ys : List ℕ) → Within ys (xs ++ ys)
has_last [] ys j h = h
has_last (x ∷ xs) ys j h = or_right (x == j) (has (xs ++ ys) j) (has_last xs ys j h)

has_item : (es : List Expr) (i : ℕ) (e : Expr) → slice_get es i ≡ Some e → Within (reads e) (item_reads es)
has_item [] i e g j h = cc
has_item (x ∷ xs) zero e g j h = let k : x ≡ e = cc in has_first (reads x) (item_reads xs) j (subst (λ (z : Expr). IsTrue (has (reads z) j)) (sym k) h)
has_item (x ∷ xs) (suc i) e g j h = has_last (reads x) (item_reads xs) j (has_item xs i e g j h)

has_arm : (bs : List Branch) (i : ℕ) (b : Branch) → slice_get bs i ≡ Some b → Within (reads_of_branch b) (branch_reads bs)
has_arm [] i b g j h = cc
has_arm (x ∷ xs) zero b g j h = let k : x ≡ b = cc in has_first (reads_of_branch x) (branch_reads xs) j (subst (λ (z : Branch). IsTrue (has (reads_of_branch z) j)) (sym k) h)
has_arm (x ∷ xs) (suc i) b g j h = has_last (reads_of_branch x) (branch_reads xs) j (has_arm xs i b g j h)

in_guard : (b : Branch) → Within (reads b.guard) (reads_of_branch b)
in_guard b j h = subst (λ (xs : List ℕ). IsTrue (has xs j)) (sym (read_branch b)) (has_first (reads b.guard) (reads b.body) j h)

in_body : (b : Branch) → Within (reads b.body) (reads_of_branch b)
in_body b j h = subst (λ (xs : List ℕ). IsTrue (has xs j)) (sym (read_branch b)) (has_last (reads b.guard) (reads b.body) j h)

at_top : (e : Expr) (l : Layer) → out-Node e.node ≡ l → reads e ≡ reads_layer (read_parts l)
at_top = by_top (λ f. (l : Layer) → out-Node f.node ≡ l → reads f ≡ reads_layer (read_parts l))
    (λ place k l h. read_step place k ∙ ap (λ (z : Layer). reads_layer (read_parts z)) (sym (out-roll-Node k) ∙ h))

raised : (e : Expr) (l : Layer) (xs : List ℕ) → out-Node e.node ≡ l → Within xs (reads_layer (read_parts l)) → Within xs (reads e)
raised e l xs h w j k = subst (λ (ys : List ℕ). IsTrue (has ys j)) (sym (at_top e l h)) (w j k)

part_reads : (x e : Expr) → StandsIn x e → Within (reads x) (reads e)
part_reads x _ whole j k = k
part_reads x _ (operand e a op h p) j k = raised e (Node-F.One op a) (reads a) h (λ i r. r) j (part_reads x a p j k)
part_reads x _ (left e a b op h p) j k = raised e (Node-F.Two op a b) (reads a) h (has_first (reads a) (reads b)) j (part_reads x a p j k)
part_reads x _ (right e a b op h p) j k = raised e (Node-F.Two op a b) (reads b) h (has_last (reads a) (reads b)) j (part_reads x b p j k)
part_reads x _ (member e a es i h g p) j k = raised e (Node-F.Set es) (reads a) h (has_item es i a g) j (part_reads x a p j k)
part_reads x _ (guard e b bs i h g p) j k = raised e (Node-F.Case bs) (reads b.guard) h (λ l r. has_arm bs i b g l (in_guard b l r)) j (part_reads x b.guard p j k)
part_reads x _ (body e b bs i h g p) j k = raised e (Node-F.Case bs) (reads b.body) h (λ l r. has_arm bs i b g l (in_body b l r)) j (part_reads x b.body p j k)

-- ---- what a model cites

constant_top : (l : Layer) (j : ℕ) → IsTrue (is_constant_layer l) → IsTrue (has (reads_layer (read_parts l)) j) → ⊥
constant_top (Node-F.Lit (v.Bool b)) j c h = cc
constant_top _ j c h = cc

constant_reads : (e : Expr) (j : ℕ) → IsTrue (is_constant e) → IsTrue (has (reads e) j) → ⊥
constant_reads e j c h = constant_top (out-Node e.node) j c (subst (λ (xs : List ℕ). IsTrue (has xs j)) (at_top e (out-Node e.node) refl) h)

bodies_cited : (m : Model) (ds : List Define) → IsTrue (list_all (λ (d : Define). cites m d.body) ds) → IsTrue (all_cite m (map (λ (d : Define). d.body) ds))
bodies_cited m [] h = refl
bodies_cited m (d ∷ ds) h = let s = and_split (cites m d.body) (list_all (λ (d : Define). cites m d.body) ds) h in
    and_join (cites m d.body) (all_cite m (map (λ (d : Define). d.body) ds)) s.0 (bodies_cited m ds s.1)

module _ (m : Model) where
  abbrev assigned : Assign → Bool
  assigned a = nat_lt a.var (length m.vars) && cites m a.body

  assigns_cited : (as' : List Assign) → IsTrue (assigns_cite m as') → IsTrue (all_cite m (map (λ (a : Assign). a.body) as'))
  assigns_cited [] h = refl
  assigns_cited (a ∷ as') h = let s = and_split (assigned a) (assigns_cite m as') h in
      and_join (cites m a.body) (all_cite m (map (λ (a : Assign). a.body) as')) (and_split (nat_lt a.var (length m.vars)) (cites m a.body) s.0).1 (assigns_cited as' s.1)

  all_cited : IsWellFormed m → IsTrue (all_cite m (expressions m))
  all_cited w =
      let p : Expr → Bool = cites m in
      let q : Assign → Bool = assigned in
      let bodies : List Expr = map (λ (d : Define). d.body) m.defines in
      let nows : List Expr = map (λ (a : Assign). a.body) m.nows in
      let firsts : List Expr = map (λ (a : Assign). a.body) m.firsts in
      let nexts : List Expr = map (λ (a : Assign). a.body) m.nexts in
      let four = all_first p (m.inits ++ m.invars ++ m.trans ++ m.fair) m.specs w.conditions in
      let three = all_first p (m.inits ++ m.invars ++ m.trans) m.fair four in
      let two = all_first p (m.inits ++ m.invars) m.trans three in
      let begin = all_first q (m.nows ++ m.firsts) m.nexts w.assigned in
      all_both p (bodies ++ m.inits ++ m.invars ++ nows ++ firsts ++ nexts ++ m.trans ++ m.fair) m.specs
      (all_both p (bodies ++ m.inits ++ m.invars ++ nows ++ firsts ++ nexts ++ m.trans) m.fair
      (all_both p (bodies ++ m.inits ++ m.invars ++ nows ++ firsts ++ nexts) m.trans
      (all_both p (bodies ++ m.inits ++ m.invars ++ nows ++ firsts) nexts
      (all_both p (bodies ++ m.inits ++ m.invars ++ nows) firsts
      (all_both p (bodies ++ m.inits ++ m.invars) nows
      (all_both p (bodies ++ m.inits) m.invars
      (all_both p bodies m.inits (bodies_cited m m.defines w.bodies) (all_first p m.inits m.invars two))
      (all_last p m.inits m.invars two))
      (assigns_cited m.nows (all_first q m.nows m.firsts begin)))
      (assigns_cited m.firsts (all_last q m.nows m.firsts begin)))
      (assigns_cited m.nexts (all_last q (m.nows ++ m.firsts) m.nexts w.assigned)))
      (all_last p (m.inits ++ m.invars) m.trans three))
      (all_last p (m.inits ++ m.invars ++ m.trans) m.fair four))
      (all_last p (m.inits ++ m.invars ++ m.trans ++ m.fair) m.specs w.conditions)

  -- each DEFINE that an expression of the model names is there
  pub named_there : IsWellFormed m → (e : Expr) → IsExpressionOf m e → (j : ℕ) → IsTrue (has (reads e) j) → j < length m.defines
  named_there w e (inl c) j h = absurd (constant_reads e j c h)
  named_there w e (inr s) j h = cited_reads m s.whole (all_at (cites m) (expressions m) s.place s.whole s.there (all_cited w)) j (part_reads e s.whole s.stands j h)
