-- The free places that expressions and DEFINEs take.
use Rattle.std.proofs.Common.{◌≡◌, ℕ, zero, suc, ◌+◌, ◌*◌, ◌≤◌, List, [], ◌∷◌, ◌++◌, map, ap, arith}
use Rattle.std.proofs.Math.Nat.{mul-le-mul_left}
use Rattle.std.specs.Prelude.{Some, slice_get}
use Rattle.cov_syntax.specs.declared.tree.Expr.{Expr}
use Rattle.cov_model.specs.declared.model.Define.{Define}
use Rattle.cov_model.specs.declared.model.Assign.{Assign}
use Rattle.cov_model.specs.declared.model.Model.{Model}
use Rattle.cov_model.specs.Atoms.{expressions}
use Rattle.cov_types.specs.Roots.{greatest_depth, greatest_width}
use Rattle.cov_conditions.specs.Bodies.{body_room}

at_left : {A : Type 0} (xs ys : List A) (i : ℕ) (x : A) → slice_get xs i ≡ Some x → slice_get (xs ++ ys) i ≡ Some x
at_left [] ys i x h = cc
at_left (y ∷ xs) ys zero x h = h
at_left (y ∷ xs) ys (suc i) x h = at_left xs ys i x h

pub mapped : {A B : Type 0} (f : A → B) (xs : List A) (i : ℕ) (x : A) → slice_get xs i ≡ Some x → slice_get (map f xs) i ≡ Some (f x)
mapped f [] i x h = cc
mapped f (y ∷ ys) zero x h = let k : y ≡ x = cc in ap (λ z. Some (f z)) k
mapped f (y ∷ ys) (suc i) x h = mapped f ys i x h

-- the bodies of DEFINEs come first among the expressions of a model
pub body_listed : (m : Model) (i : ℕ) (d : Define) → slice_get m.defines i ≡ Some d → slice_get (expressions m) i ≡ Some d.body
body_listed m i d at =
    let bodies : List Expr = map (λ (d : Define). d.body) m.defines in
    let nows : List Expr = map (λ (a : Assign). a.body) m.nows in
    let firsts : List Expr = map (λ (a : Assign). a.body) m.firsts in
    let nexts : List Expr = map (λ (a : Assign). a.body) m.nexts in
    at_left (bodies ++ m.inits ++ m.invars ++ nows ++ firsts ++ nexts ++ m.trans ++ m.fair) m.specs i d.body
    (at_left (bodies ++ m.inits ++ m.invars ++ nows ++ firsts ++ nexts ++ m.trans) m.fair i d.body
    (at_left (bodies ++ m.inits ++ m.invars ++ nows ++ firsts ++ nexts) m.trans i d.body
    (at_left (bodies ++ m.inits ++ m.invars ++ nows ++ firsts) nexts i d.body
    (at_left (bodies ++ m.inits ++ m.invars ++ nows) firsts i d.body
    (at_left (bodies ++ m.inits ++ m.invars) nows i d.body
    (at_left (bodies ++ m.inits) m.invars i d.body
    (at_left bodies m.inits i d.body (mapped (λ (d : Define). d.body) m.defines i d at))))))))

times_most : (a b c : ℕ) → b ≤ c → a * b ≤ a * c
times_most a b c le = mul-le-mul_left a le

-- a body has the room that it takes
pub body_within : (m : Model) (k : ℕ) → k ≤ greatest_depth m → (3 * greatest_width m + 4) * k + 7 ≤ body_room m
body_within m k le = let h = times_most (3 * greatest_width m + 4) k (greatest_depth m) le in omega (arith, h)
