-- What is said of an expression, by its top node.
use Rattle.std.proofs.Common.{◌≡◌, ℕ, zero, suc, ◌<◌, ◌≤◌, max, List, [], ◌∷◌, ◌++◌, Bool, ◌&&◌, nat_lt, IsTrue, inl, inr, map, length, Some, refl, sym, ◌∙◌, ap, ap₂, subst, arith, ltb-true}
use Rattle.std.specs.Prelude.{slice_get}
use Rattle.std.specs.List.{list_all, flat_map}
use Rattle.std.proofs.lemmas.List.Folds.{list_all-append, list_all-map}
use Rattle.cov_syntax.specs.declared.tree.Expr.{Expr}
use Rattle.cov_syntax.specs.declared.tree.Branch.{Branch}
use Rattle.cov_syntax.specs.declared.tree.Node.{Node, roll-Node, out-Node, out-roll-Node}
use Rattle.cov_syntax.specs.declared.tree.Node.TheOpen.{Node-F}
use Rattle.cov_syntax.specs.declared.tree.Node.TheFolds.{map-Node, fold-Node, fold-Branch}
use Rattle.cov_model.specs.declared.model.Model.{Model}
use Rattle.cov_model.specs.declared.model.Define.{Define}
use Rattle.cov_model.specs.declared.model.Assign.{Assign}
use Rattle.cov_model.specs.Atoms.{StandsIn, whole, operand, left, right, member, guard, body, expressions, is_constant_layer}
use Rattle.cov_model.specs.Flat.{depth, depth_layer}
use Rattle.cov_model.specs.Meaning.{Meaning, of_node, of_branch, of_expr, meaning}
use Rattle.cov_model.specs.Order.{reads, reads_layer}
use Rattle.cov_model.specs.Values as values
use Rattle.cov_model.specs.WellFormed.{IsWellFormed, cites, cites_layer, some_items, assigns_cite}
use Rattle.cov_model.proofs.Closed.{by_top, meaning_step, meant}
use Rattle.cov_model.proofs.Joined.{and_split}
use Rattle.cov_order.proofs.ByParts.{fold_step, fold_branch}
use Rattle.cov_ranges.specs.Ranges.{IsExpressionOf}
use Rattle.cov_types.specs.Depths.{node_depth, branch_depth, all_depth, all_branch_depth}
use Rattle.cov_readings.proofs.Greatest.{at_most}
use Rattle.cov_expressions.specs.Parts.{branch_meaning}

-- the top node, from how it is written
pub top_is : (e : Expr) (n : Node) (l : Node-F Node Branch Expr) → e.node ≡ n → roll-Node l ≡ n → out-Node e.node ≡ l
top_is e n l h r = ap out-Node (h ∙ sym r) ∙ out-roll-Node l

-- ---- what it means

pub meaning_at : (e : Expr) (l : Node-F Node Branch Expr) → out-Node e.node ≡ l → meaning e ≡ of_node values.whole (meant values.whole l)
meaning_at e l = by_top (λ f. out-Node f.node ≡ l → meaning f ≡ of_node values.whole (meant values.whole l))
    (λ place k h. meaning_step values.whole place k ∙ ap (λ (z : Node-F Node Branch Expr). of_node values.whole (meant values.whole z)) (sym (out-roll-Node k) ∙ h)) e

pub branch_means : (b : Branch) → branch_meaning b ≡ (meaning b.guard, meaning b.body)
branch_means b = fold_branch Meaning (Meaning × Meaning) Meaning (of_node values.whole) of_branch of_expr b

-- ---- how deep it is

abbrev pub depth_parts : Node-F Node Branch Expr → ℕ
depth_parts l = depth_layer (map-Node Node Branch Expr ℕ ℕ ℕ node_depth branch_depth depth l)

pub depth_at : (e : Expr) (l : Node-F Node Branch Expr) → out-Node e.node ≡ l → depth e ≡ depth_parts l
depth_at e l = by_top (λ f. out-Node f.node ≡ l → depth f ≡ depth_parts l)
    (λ place k h. fold_step ℕ ℕ ℕ depth_layer (λ b. max b.guard b.body) (λ e. e.node) place k ∙ ap depth_parts (sym (out-roll-Node k) ∙ h)) e

some_depth : (l : Node-F ℕ ℕ ℕ) → 1 ≤ depth_layer l
some_depth (Node-F.One op a) = omega arith
some_depth (Node-F.Two op a b) = omega arith
some_depth (Node-F.Set es) = omega arith
some_depth (Node-F.Case bs) = omega arith
some_depth (Node-F.Lit x) = omega arith
some_depth (Node-F.Path p) = omega arith
some_depth (Node-F.Var i) = omega arith
some_depth (Node-F.Def i) = omega arith
some_depth (Node-F.Range low high) = omega arith

pub depth_some : (e : Expr) → 1 ≤ depth e
depth_some e = subst (λ n. 1 ≤ n) (sym (depth_at e (out-Node e.node) refl)) (some_depth (map-Node Node Branch Expr ℕ ℕ ℕ node_depth branch_depth depth (out-Node e.node)))

pub branch_deep : (b : Branch) → branch_depth b ≡ max (depth b.guard) (depth b.body)
branch_deep b = fold_branch ℕ ℕ ℕ depth_layer (λ b. max b.guard b.body) (λ e. e.node) b

pub member_deep : (es : List Expr) (i : ℕ) (e : Expr) → slice_get es i ≡ Some e → depth e ≤ all_depth es
member_deep es i e h = at_most depth es i e h

pub arm_deep : (bs : List Branch) (i : ℕ) (b : Branch) → slice_get bs i ≡ Some b → (depth b.guard ≤ all_branch_depth bs) × (depth b.body ≤ all_branch_depth bs)
arm_deep bs i b h = let k = at_most branch_depth bs i b h in let e = branch_deep b in (omega arith, omega arith)

-- ---- which DEFINEs it reads

abbrev node_reads : Node → List ℕ
node_reads = fold-Node (List ℕ) (List ℕ) (List ℕ) reads_layer (λ b. b.guard ++ b.body) (λ e. e.node)

abbrev branch_reads : Branch → List ℕ
branch_reads = fold-Branch (List ℕ) (List ℕ) (List ℕ) reads_layer (λ b. b.guard ++ b.body) (λ e. e.node)

abbrev pub reads_parts : Node-F Node Branch Expr → List ℕ
reads_parts l = reads_layer (map-Node Node Branch Expr (List ℕ) (List ℕ) (List ℕ) node_reads branch_reads reads l)

pub reads_at : (e : Expr) (l : Node-F Node Branch Expr) → out-Node e.node ≡ l → reads e ≡ reads_parts l
reads_at e l = by_top (λ f. out-Node f.node ≡ l → reads f ≡ reads_parts l)
    (λ place k h. fold_step (List ℕ) (List ℕ) (List ℕ) reads_layer (λ b. b.guard ++ b.body) (λ e. e.node) place k ∙ ap reads_parts (sym (out-roll-Node k) ∙ h)) e

branch_reads_is : (b : Branch) → branch_reads b ≡ reads b.guard ++ reads b.body
branch_reads_is b = fold_branch (List ℕ) (List ℕ) (List ℕ) reads_layer (λ b. b.guard ++ b.body) (λ e. e.node) b

split : (test : ℕ → Bool) (xs ys : List ℕ) → IsTrue (list_all test (xs ++ ys)) → IsTrue (list_all test xs) × IsTrue (list_all test ys)
split test xs ys h = and_split (list_all test xs) (list_all test ys) (sym (list_all-append test xs ys) ∙ h)

-- what holds of each that is read in some lists holds of each in one of them
in_flat : (A : Type 0) (test : ℕ → Bool) (f : A → List ℕ) (as' : List A) (i : ℕ) (a : A) → slice_get as' i ≡ Some a → IsTrue (list_all test (flat_map (λ xs. xs) (map f as'))) → IsTrue (list_all test (f a))
in_flat A test f [] i a h k = cc
in_flat A test f (b ∷ as') zero a h k = let e : b ≡ a = cc in subst (λ (z : A). IsTrue (list_all test (f z))) e (split test (f b) (flat_map (λ xs. xs) (map f as')) k).0
in_flat A test f (b ∷ as') (suc i) a h k = in_flat A test f as' i a h (split test (f b) (flat_map (λ xs. xs) (map f as')) k).1

module _ (test : ℕ → Bool) where
  abbrev Passes : Expr → Type 0
  Passes e = IsTrue (list_all test (reads e))

  at : (e : Expr) (l : Node-F Node Branch Expr) → out-Node e.node ≡ l → Passes e → IsTrue (list_all test (reads_parts l))
  at e l h p = subst (λ (xs : List ℕ). IsTrue (list_all test xs)) (reads_at e l h) p

  -- what holds of each DEFINE that an expression reads holds of each that a part reads
  pub part_reads : (x e : Expr) → StandsIn x e → Passes e → Passes x
  part_reads x _ whole p = p
  part_reads x _ (operand e a op h q) p = part_reads x a q (at e (Node-F.One op a) h p)
  part_reads x _ (left e a b op h q) p = part_reads x a q (split test (reads a) (reads b) (at e (Node-F.Two op a b) h p)).0
  part_reads x _ (right e a b op h q) p = part_reads x b q (split test (reads a) (reads b) (at e (Node-F.Two op a b) h p)).1
  part_reads x _ (member e a es i h g q) p = part_reads x a q (in_flat Expr test reads es i a g (at e (Node-F.Set es) h p))
  part_reads x _ (guard e b bs i h g q) p =
      part_reads x b.guard q (split test (reads b.guard) (reads b.body) (subst (λ (xs : List ℕ). IsTrue (list_all test xs)) (branch_reads_is b) (in_flat Branch test branch_reads bs i b g (at e (Node-F.Case bs) h p)))).0
  part_reads x _ (body e b bs i h g q) p =
      part_reads x b.body q (split test (reads b.guard) (reads b.body) (subst (λ (xs : List ℕ). IsTrue (list_all test xs)) (branch_reads_is b) (in_flat Branch test branch_reads bs i b g (at e (Node-F.Case bs) h p)))).1

-- ---- what it cites

module _ (m : Model) where
  abbrev cites_node : Node → Bool
  cites_node = fold-Node Bool Bool Bool (cites_layer m) (λ b. b.guard && b.body) (λ e. e.node)

  abbrev cites_branch : Branch → Bool
  cites_branch = fold-Branch Bool Bool Bool (cites_layer m) (λ b. b.guard && b.body) (λ e. e.node)

  abbrev cites_parts : Node-F Node Branch Expr → Bool
  cites_parts l = cites_layer m (map-Node Node Branch Expr Bool Bool Bool cites_node cites_branch (cites m) l)

  cites_at : (e : Expr) (l : Node-F Node Branch Expr) → out-Node e.node ≡ l → IsTrue (cites m e) → IsTrue (cites_parts l)
  cites_at e l = by_top (λ f. out-Node f.node ≡ l → IsTrue (cites m f) → IsTrue (cites_parts l))
      (λ place k h c. subst (λ (z : Node-F Node Branch Expr). IsTrue (cites_parts z)) (sym (out-roll-Node k) ∙ h)
      (subst (λ (b : Bool). IsTrue b) (fold_step Bool Bool Bool (cites_layer m) (λ b. b.guard && b.body) (λ e. e.node) place k) c)) e

  cites_arm : (b : Branch) → cites_branch b ≡ (cites m b.guard && cites m b.body)
  cites_arm b = fold_branch Bool Bool Bool (cites_layer m) (λ b. b.guard && b.body) (λ e. e.node) b

  some_all : (bs : List Bool) → IsTrue (some_items bs) → IsTrue (list_all (λ c. c) bs)
  some_all [] h = cc
  some_all (b ∷ bs) h = h

  in_all : (A : Type 0) (f : A → Bool) (as' : List A) (i : ℕ) (a : A) → slice_get as' i ≡ Some a → IsTrue (list_all (λ c. c) (map f as')) → IsTrue (f a)
  in_all A f [] i a h k = cc
  in_all A f (b ∷ as') zero a h k = let e : b ≡ a = cc in subst (λ (z : A). IsTrue (f z)) e (and_split (f b) (list_all (λ c. c) (map f as')) k).0
  in_all A f (b ∷ as') (suc i) a h k = in_all A f as' i a h (and_split (f b) (list_all (λ c. c) (map f as')) k).1

  -- what an expression cites is there, also in a part
  part_cites : (x e : Expr) → StandsIn x e → IsTrue (cites m e) → IsTrue (cites m x)
  part_cites x _ whole p = p
  part_cites x _ (operand e a op h q) p = part_cites x a q (cites_at e (Node-F.One op a) h p)
  part_cites x _ (left e a b op h q) p = part_cites x a q (and_split (cites m a) (cites m b) (cites_at e (Node-F.Two op a b) h p)).0
  part_cites x _ (right e a b op h q) p = part_cites x b q (and_split (cites m a) (cites m b) (cites_at e (Node-F.Two op a b) h p)).1
  part_cites x _ (member e a es i h g q) p = part_cites x a q (in_all Expr (cites m) es i a g (some_all (map (cites m) es) (cites_at e (Node-F.Set es) h p)))
  part_cites x _ (guard e b bs i h g q) p =
      part_cites x b.guard q (and_split (cites m b.guard) (cites m b.body) (sym (cites_arm b) ∙ in_all Branch cites_branch bs i b g (some_all (map cites_branch bs) (cites_at e (Node-F.Case bs) h p)))).0
  part_cites x _ (body e b bs i h g q) p =
      part_cites x b.body q (and_split (cites m b.guard) (cites m b.body) (sym (cites_arm b) ∙ in_all Branch cites_branch bs i b g (some_all (map cites_branch bs) (cites_at e (Node-F.Case bs) h p)))).1

  all_get : (es : List Expr) (i : ℕ) (e : Expr) → slice_get es i ≡ Some e → IsTrue (list_all (cites m) es) → IsTrue (cites m e)
  all_get [] i e h k = cc
  all_get (d ∷ es) zero e h k = let g : d ≡ e = cc in subst (λ (z : Expr). IsTrue (cites m z)) g (and_split (cites m d) (list_all (cites m) es) k).0
  all_get (d ∷ es) (suc i) e h k = all_get es i e h (and_split (cites m d) (list_all (cites m) es) k).1

  all_join : (xs ys : List Expr) → IsTrue (list_all (cites m) xs) → IsTrue (list_all (cites m) ys) → IsTrue (list_all (cites m) (xs ++ ys))
  all_join xs ys h k = list_all-append (cites m) xs ys ∙ ap₂ (λ (b c : Bool). b && c) h k

  all_split : (xs ys : List Expr) → IsTrue (list_all (cites m) (xs ++ ys)) → IsTrue (list_all (cites m) xs) × IsTrue (list_all (cites m) ys)
  all_split xs ys h = and_split (list_all (cites m) xs) (list_all (cites m) ys) (sym (list_all-append (cites m) xs ys) ∙ h)

  abbrev sides : List Assign → List Expr
  sides as' = map (λ (a : Assign). a.body) as'

  assigned : (as' : List Assign) → IsTrue (assigns_cite m as') → IsTrue (list_all (cites m) (sides as'))
  assigned [] h = refl
  assigned (a ∷ as') h =
      let k = and_split (nat_lt a.var (length m.vars) && cites m a.body) (assigns_cite m as') h in
      ap₂ (λ (b c : Bool). b && c) (and_split (nat_lt a.var (length m.vars)) (cites m a.body) k.0).1 (assigned as' k.1)

  assigns_split : (xs ys : List Assign) → IsTrue (assigns_cite m (xs ++ ys)) → IsTrue (assigns_cite m xs) × IsTrue (assigns_cite m ys)
  assigns_split xs ys h = and_split (assigns_cite m xs) (assigns_cite m ys) (sym (list_all-append (λ a. nat_lt a.var (length m.vars) && cites m a.body) xs ys) ∙ h)

  all_cited : IsWellFormed m → IsTrue (list_all (cites m) (expressions m))
  all_cited w =
      let c4 = all_split (m.inits ++ m.invars ++ m.trans ++ m.fair) m.specs w.conditions in
      let c3 = all_split (m.inits ++ m.invars ++ m.trans) m.fair c4.0 in
      let c2 = all_split (m.inits ++ m.invars) m.trans c3.0 in
      let c1 = all_split m.inits m.invars c2.0 in
      let a2 = assigns_split (m.nows ++ m.firsts) m.nexts w.assigned in
      let a1 = assigns_split m.nows m.firsts a2.0 in
      let d : IsTrue (list_all (cites m) (map (λ (d : Define). d.body) m.defines)) = list_all-map (cites m) (λ (d : Define). d.body) m.defines ∙ w.bodies in
      let b1 = all_join (map (λ (d : Define). d.body) m.defines) m.inits d c1.0 in
      let b2 = all_join (map (λ (d : Define). d.body) m.defines ++ m.inits) m.invars b1 c1.1 in
      let b3 = all_join (map (λ (d : Define). d.body) m.defines ++ m.inits ++ m.invars) (sides m.nows) b2 (assigned m.nows a1.0) in
      let b4 = all_join (map (λ (d : Define). d.body) m.defines ++ m.inits ++ m.invars ++ sides m.nows) (sides m.firsts) b3 (assigned m.firsts a1.1) in
      let b5 = all_join (map (λ (d : Define). d.body) m.defines ++ m.inits ++ m.invars ++ sides m.nows ++ sides m.firsts) (sides m.nexts) b4 (assigned m.nexts a2.1) in
      let b6 = all_join (map (λ (d : Define). d.body) m.defines ++ m.inits ++ m.invars ++ sides m.nows ++ sides m.firsts ++ sides m.nexts) m.trans b5 c2.1 in
      let b7 = all_join (map (λ (d : Define). d.body) m.defines ++ m.inits ++ m.invars ++ sides m.nows ++ sides m.firsts ++ sides m.nexts ++ m.trans) m.fair b6 c3.1 in
      all_join (map (λ (d : Define). d.body) m.defines ++ m.inits ++ m.invars ++ sides m.nows ++ sides m.firsts ++ sides m.nexts ++ m.trans ++ m.fair) m.specs b7 c4.1

  no_variable : (i : ℕ) (l : Node-F Node Branch Expr) → l ≡ Node-F.Var i → IsTrue (is_constant_layer l) → ⊥
  no_variable i l e h = let k = subst (λ (z : Node-F Node Branch Expr). IsTrue (is_constant_layer z)) e h in cc

  -- a variable that an expression of the model names is there
  pub variable_there : (e : Expr) (i : ℕ) → IsWellFormed m → IsExpressionOf m e → out-Node e.node ≡ Node-F.Var i → i < length m.vars
  variable_there e i w (inl c) h = absurd (no_variable i (out-Node e.node) h c)
  variable_there e i w (inr s) h = below (cites_at e (Node-F.Var i) h (part_cites e s.whole s.stands (all_get (expressions m) s.place s.whole s.there (all_cited w))))
    where
      below : IsTrue (nat_lt i (length m.vars)) → i < length m.vars
      below k = ltb-true i (length m.vars) k
