-- What stands in a model: each expression of its lists, and each part of what stands in it.
use Rattle.std.proofs.Common.{◌≡◌, ℕ, zero, suc, inl, inr, IsTrue, List, [], ◌∷◌, ◌++◌, map, Some, ap, subst}
use Rattle.std.specs.Prelude.{slice_get}
use Rattle.cov_syntax.specs.declared.tree.Expr.{Expr}
use Rattle.cov_syntax.specs.declared.tree.Node.{out-Node}
use Rattle.cov_syntax.specs.declared.tree.Node.TheOpen.{Node-F}
use Rattle.cov_model.specs.declared.model.Define.{Define}
use Rattle.cov_model.specs.declared.model.Assign.{Assign}
use Rattle.cov_model.specs.declared.model.Model.{Model}
use Rattle.cov_model.specs.Atoms.{StandsIn, whole, operand, left, right, member, guard, body, expressions, StandsInModel, is_constant, is_constant_layer}
use Rattle.cov_model.proofs.Tied.{Layer}
use Rattle.cov_ranges.specs.Ranges.{IsExpressionOf}

-- ---- parts

-- a part of a part is a part
pub part_of_part : (x y e : Expr) → StandsIn x y → StandsIn y e → StandsIn x e
part_of_part x y _ p whole = p
part_of_part x y _ p (operand e a op h q) = operand e a op h (part_of_part x y a p q)
part_of_part x y _ p (left e a b op h q) = left e a b op h (part_of_part x y a p q)
part_of_part x y _ p (right e a b op h q) = right e a b op h (part_of_part x y b p q)
part_of_part x y _ p (member e a es i h g q) = member e a es i h g (part_of_part x y a p q)
part_of_part x y _ p (guard e b bs i h g q) = guard e b bs i h g (part_of_part x y b.guard p q)
part_of_part x y _ p (body e b bs i h g q) = body e b bs i h g (part_of_part x y b.body p q)

no_layer : (l k : Layer) → l ≡ k → IsTrue (is_constant_layer l) → IsTrue (is_constant_layer k)
no_layer l k h c = subst (λ (z : Layer). IsTrue (is_constant_layer z)) h c

-- a literal has no part but itself
constant_part : (x e : Expr) → StandsIn x e → IsTrue (is_constant e) → IsTrue (is_constant x)
constant_part x _ whole c = c
constant_part x _ (operand e a op h q) c = let k = no_layer (out-Node e.node) (Node-F.One op a) h c in cc
constant_part x _ (left e a b op h q) c = let k = no_layer (out-Node e.node) (Node-F.Two op a b) h c in cc
constant_part x _ (right e a b op h q) c = let k = no_layer (out-Node e.node) (Node-F.Two op a b) h c in cc
constant_part x _ (member e a es i h g q) c = let k = no_layer (out-Node e.node) (Node-F.Set es) h c in cc
constant_part x _ (guard e b bs i h g q) c = let k = no_layer (out-Node e.node) (Node-F.Case bs) h c in cc
constant_part x _ (body e b bs i h g q) c = let k = no_layer (out-Node e.node) (Node-F.Case bs) h c in cc

pub parts_stand : (m : Model) (x e : Expr) → IsExpressionOf m e → StandsIn x e → IsExpressionOf m x
parts_stand m x e (inl c) p = inl (constant_part x e p c)
parts_stand m x e (inr s) p = inr (record { place = s.place; whole = s.whole; there = s.there; stands = part_of_part x e s.whole p s.stands })

-- ---- lists

-- it stands at a place of the list
record IsListed (es : List Expr) (e : Expr) : Type 0 where
  place : ℕ
  there : slice_get es place ≡ Some e

at_left : (xs ys : List Expr) (i : ℕ) (e : Expr) → slice_get xs i ≡ Some e → slice_get (xs ++ ys) i ≡ Some e
at_left [] ys i e h = cc
at_left (x ∷ xs) ys zero e h = h
at_left (x ∷ xs) ys (suc i) e h = at_left xs ys i e h

at_right : (xs ys : List Expr) (i : ℕ) (e : Expr) → slice_get ys i ≡ Some e → IsListed (xs ++ ys) e
at_right [] ys i e h = record { place = i; there = h }
at_right (x ∷ xs) ys i e h = let r = at_right xs ys i e h in record { place = suc r.place; there = r.there }

in_left : (xs ys : List Expr) (e : Expr) → IsListed xs e → IsListed (xs ++ ys) e
in_left xs ys e h = record { place = h.place; there = at_left xs ys h.place e h.there }

in_right : (xs ys : List Expr) (e : Expr) → IsListed ys e → IsListed (xs ++ ys) e
in_right xs ys e h = at_right xs ys h.place e h.there

mapped : {A : Type 0} (f : A → Expr) (xs : List A) (i : ℕ) (x : A) → slice_get xs i ≡ Some x → slice_get (map f xs) i ≡ Some (f x)
mapped f [] i x h = cc
mapped f (y ∷ ys) zero x h = let k : y ≡ x = cc in ap (λ z. Some (f z)) k
mapped f (y ∷ ys) (suc i) x h = mapped f ys i x h

module _ (m : Model) where
  abbrev bodies : List Expr
  bodies = map (λ (d : Define). d.body) m.defines

  abbrev nows : List Expr
  nows = map (λ (a : Assign). a.body) m.nows

  abbrev firsts : List Expr
  firsts = map (λ (a : Assign). a.body) m.firsts

  abbrev nexts : List Expr
  nexts = map (λ (a : Assign). a.body) m.nexts

  stands : (e : Expr) → IsListed (expressions m) e → StandsInModel m e
  stands e h = record { place = h.place; whole = e; there = h.there; stands = whole }

  to_fair : (e : Expr) → IsListed (bodies ++ m.inits ++ m.invars ++ nows ++ firsts ++ nexts ++ m.trans ++ m.fair) e → StandsInModel m e
  to_fair e h = stands e (in_left (bodies ++ m.inits ++ m.invars ++ nows ++ firsts ++ nexts ++ m.trans ++ m.fair) m.specs e h)

  to_trans : (e : Expr) → IsListed (bodies ++ m.inits ++ m.invars ++ nows ++ firsts ++ nexts ++ m.trans) e → StandsInModel m e
  to_trans e h = to_fair e (in_left (bodies ++ m.inits ++ m.invars ++ nows ++ firsts ++ nexts ++ m.trans) m.fair e h)

  to_nexts : (e : Expr) → IsListed (bodies ++ m.inits ++ m.invars ++ nows ++ firsts ++ nexts) e → StandsInModel m e
  to_nexts e h = to_trans e (in_left (bodies ++ m.inits ++ m.invars ++ nows ++ firsts ++ nexts) m.trans e h)

  to_firsts : (e : Expr) → IsListed (bodies ++ m.inits ++ m.invars ++ nows ++ firsts) e → StandsInModel m e
  to_firsts e h = to_nexts e (in_left (bodies ++ m.inits ++ m.invars ++ nows ++ firsts) nexts e h)

  to_nows : (e : Expr) → IsListed (bodies ++ m.inits ++ m.invars ++ nows) e → StandsInModel m e
  to_nows e h = to_firsts e (in_left (bodies ++ m.inits ++ m.invars ++ nows) firsts e h)

  to_invars : (e : Expr) → IsListed (bodies ++ m.inits ++ m.invars) e → StandsInModel m e
  to_invars e h = to_nows e (in_left (bodies ++ m.inits ++ m.invars) nows e h)

  to_inits : (e : Expr) → IsListed (bodies ++ m.inits) e → StandsInModel m e
  to_inits e h = to_invars e (in_left (bodies ++ m.inits) m.invars e h)

  pub defines_stand : (i : ℕ) (d : Define) → slice_get m.defines i ≡ Some d → StandsInModel m d.body
  defines_stand i d g = to_inits d.body (in_left bodies m.inits d.body (record { place = i; there = mapped (λ (c : Define). c.body) m.defines i d g }))

  pub inits_stand : (i : ℕ) (e : Expr) → slice_get m.inits i ≡ Some e → StandsInModel m e
  inits_stand i e g = to_inits e (at_right bodies m.inits i e g)

  pub invars_stand : (i : ℕ) (e : Expr) → slice_get m.invars i ≡ Some e → StandsInModel m e
  invars_stand i e g = to_invars e (at_right (bodies ++ m.inits) m.invars i e g)

  pub nows_stand : (i : ℕ) (a : Assign) → slice_get m.nows i ≡ Some a → StandsInModel m a.body
  nows_stand i a g = to_nows a.body (at_right (bodies ++ m.inits ++ m.invars) nows i a.body (mapped (λ (b : Assign). b.body) m.nows i a g))

  pub firsts_stand : (i : ℕ) (a : Assign) → slice_get m.firsts i ≡ Some a → StandsInModel m a.body
  firsts_stand i a g = to_firsts a.body (at_right (bodies ++ m.inits ++ m.invars ++ nows) firsts i a.body (mapped (λ (b : Assign). b.body) m.firsts i a g))

  pub nexts_stand : (i : ℕ) (a : Assign) → slice_get m.nexts i ≡ Some a → StandsInModel m a.body
  nexts_stand i a g = to_nexts a.body (at_right (bodies ++ m.inits ++ m.invars ++ nows ++ firsts) nexts i a.body (mapped (λ (b : Assign). b.body) m.nexts i a g))

  pub trans_stand : (i : ℕ) (e : Expr) → slice_get m.trans i ≡ Some e → StandsInModel m e
  trans_stand i e g = to_trans e (at_right (bodies ++ m.inits ++ m.invars ++ nows ++ firsts ++ nexts) m.trans i e g)

  pub fair_stand : (i : ℕ) (e : Expr) → slice_get m.fair i ≡ Some e → StandsInModel m e
  fair_stand i e g = to_fair e (at_right (bodies ++ m.inits ++ m.invars ++ nows ++ firsts ++ nexts ++ m.trans) m.fair i e g)

  pub specs_stand : (i : ℕ) (e : Expr) → slice_get m.specs i ≡ Some e → StandsInModel m e
  specs_stand i e g = stands e (at_right (bodies ++ m.inits ++ m.invars ++ nows ++ firsts ++ nexts ++ m.trans ++ m.fair) m.specs i e g)
