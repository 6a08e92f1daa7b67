-- The greatest of a number that each expression of a model has.
use Rattle.std.proofs.Common.{◌≡◌, ◌≤◌, ℕ, zero, suc, max, List, [], ◌∷◌, ◌++◌, map, Some, subst, arith}
use Rattle.std.specs.Prelude.{slice_get}
use Rattle.cov_syntax.specs.declared.tree.Expr.{Expr}
use Rattle.cov_model.specs.declared.model.Define.{Define}
use Rattle.cov_model.specs.declared.model.Assign.{Assign}
use Rattle.cov_model.specs.declared.model.Model.{Model}
use Rattle.cov_model.specs.Atoms.{expressions}
use Rattle.cov_model.specs.Flat as flat
use Rattle.cov_model.specs.Flat.{greatest, conditions_of, assignments_of}

first_most : (n k : ℕ) → n ≤ max n k
first_most n k = omega arith

later_most : (n k l : ℕ) → n ≤ k → n ≤ max l k
later_most n k l h = omega arith

-- each has at most the greatest
pub at_most : {A : Type 0} (f : A → ℕ) (xs : List A) (i : ℕ) (x : A) → slice_get xs i ≡ Some x → f x ≤ greatest (map f xs)
at_most f [] i x h = cc
at_most f (y ∷ ys) zero x h = let k : y ≡ x = cc in subst (λ z. f z ≤ greatest (map f (y ∷ ys))) k (first_most (f y) (greatest (map f ys)))
at_most f (y ∷ ys) (suc i) x h = later_most (f x) (greatest (map f ys)) (f y) (at_most f ys i x h)

module _ (f : Expr → ℕ) where
  abbrev most : List Expr → ℕ
  most es = greatest (map f es)

  -- each has at most so much
  abbrev AllWithin : ℕ → List Expr → Type 0
  AllWithin n es = (i : ℕ) (e : Expr) → slice_get es i ≡ Some e → f e ≤ n

  joined : (n : ℕ) (xs ys : List Expr) → AllWithin n xs → AllWithin n ys → AllWithin n (xs ++ ys)
  joined n [] ys h g i e k = g i e k
  joined n (x ∷ xs) ys h g zero e k = h zero e k
  joined n (x ∷ xs) ys h g (suc i) e k = joined n xs ys (λ j d l. h (suc j) d l) g i e k

  left_of : (n : ℕ) (xs ys : List Expr) → AllWithin n (xs ++ ys) → AllWithin n xs
  left_of n [] ys h i e k = cc
  left_of n (x ∷ xs) ys h zero e k = h zero e k
  left_of n (x ∷ xs) ys h (suc i) e k = left_of n xs ys (λ j d l. h (suc j) d l) i e k

  right_of : (n : ℕ) (xs ys : List Expr) → AllWithin n (xs ++ ys) → AllWithin n ys
  right_of n [] ys h i e k = h i e k
  right_of n (x ∷ xs) ys h i e k = right_of n xs ys (λ j d l. h (suc j) d l) i e k

  abbrev sides : List Assign → List Expr
  sides as' = map (λ (a : Assign). a.body) as'

  left_sides : (n : ℕ) (xs ys : List Assign) → AllWithin n (sides (xs ++ ys)) → AllWithin n (sides xs)
  left_sides n [] ys h i e k = cc
  left_sides n (x ∷ xs) ys h zero e k = h zero e k
  left_sides n (x ∷ xs) ys h (suc i) e k = left_sides n xs ys (λ j d l. h (suc j) d l) i e k

  right_sides : (n : ℕ) (xs ys : List Assign) → AllWithin n (sides (xs ++ ys)) → AllWithin n (sides ys)
  right_sides n [] ys h i e k = h i e k
  right_sides n (x ∷ xs) ys h i e k = right_sides n xs ys (λ j d l. h (suc j) d l) i e k

  -- each expression of a model has at most the greatest
  pub within_most : (m : Model) → AllWithin (greatest (map f (flat.expressions m))) (expressions m)
  within_most m =
      let n : ℕ = greatest (map f (flat.expressions m)) in
      let bodies : List Expr = map (λ (d : Define). d.body) m.defines in
      let all : AllWithin n (flat.expressions m) = at_most f (flat.expressions m) in
      let front : AllWithin n (bodies ++ conditions_of m) = left_of n (bodies ++ conditions_of m) (sides (assignments_of m)) all in
      let conditions : AllWithin n (conditions_of m) = right_of n bodies (conditions_of m) front in
      let to_fair : AllWithin n (m.inits ++ m.invars ++ m.trans ++ m.fair) = left_of n (m.inits ++ m.invars ++ m.trans ++ m.fair) m.specs conditions in
      let to_trans : AllWithin n (m.inits ++ m.invars ++ m.trans) = left_of n (m.inits ++ m.invars ++ m.trans) m.fair to_fair in
      let to_invars : AllWithin n (m.inits ++ m.invars) = left_of n (m.inits ++ m.invars) m.trans to_trans in
      let assigned : AllWithin n (sides (assignments_of m)) = right_of n (bodies ++ conditions_of m) (sides (assignments_of m)) all in
      let to_firsts : AllWithin n (sides (m.nows ++ m.firsts)) = left_sides n (m.nows ++ m.firsts) m.nexts assigned in
      joined n _ m.specs
      (joined n _ m.fair
      (joined n _ m.trans
      (joined n _ (sides m.nexts)
      (joined n _ (sides m.firsts)
      (joined n _ (sides m.nows)
      (joined n (bodies ++ m.inits) m.invars
      (joined n bodies m.inits
      (left_of n bodies (conditions_of m) front)
      (left_of n m.inits m.invars to_invars))
      (right_of n m.inits m.invars to_invars))
      (left_sides n m.nows m.firsts to_firsts))
      (right_sides n m.nows m.firsts to_firsts))
      (right_sides n (m.nows ++ m.firsts) m.nexts assigned))
      (right_of n (m.inits ++ m.invars) m.trans to_trans))
      (right_of n (m.inits ++ m.invars ++ m.trans) m.fair to_fair))
      (right_of n (m.inits ++ m.invars ++ m.trans ++ m.fair) m.specs conditions)
