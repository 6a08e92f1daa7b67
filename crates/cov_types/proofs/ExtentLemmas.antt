-- How wide and how deep lists of expressions are, and that each list of a checked model passes the walk.
use Rattle.std.proofs.Common.{◌≡◌, ◌≤◌, ◌<◌, ℕ, ◌+◌, max, min, inr, List, [], ◌∷◌, ◌++◌, map, length, take, get_or, Some, refl, sym, ap, subst, ◌∙◌, arith}
use Rattle.std.specs.Prelude.{slice_get}
use Rattle.std.specs.List.{All}
use Rattle.std.proofs.lemmas.List.{take_more, map-append}
use Rattle.std.proofs.lemmas.Option.{slice_get-get_or}
use Rattle.cov_syntax.specs.declared.tree.Expr.{Expr}
use Rattle.cov_model.specs.declared.model.Assign.{Assign}
use Rattle.cov_model.specs.declared.model.Define.{Define}
use Rattle.cov_model.specs.declared.model.Model.{Model}
use Rattle.cov_model.specs.Atoms.{StandsInModel}
use Rattle.cov_model.specs.Flat.{greatest, depth}
use Rattle.cov_model.specs.Kinds.{Kinds}
use Rattle.cov_walk.specs.Found.{HasNoFault}
use Rattle.cov_walk.specs.Widest.{widest}
use Rattle.cov_types.specs.Checking.{IsChecked}
use Rattle.cov_types.specs.Extents.{IsExtent, IsJoined}
use Rattle.cov_types.specs.declared.extents.Extent.{Extent}
use Rattle.cov_types.proofs.Valued.{expression_passes}

-- the greatest of two lists
greatest_over : (f : Expr → ℕ) (xs ys : List Expr) → greatest (map f (xs ++ ys)) ≡ max (greatest (map f xs)) (greatest (map f ys))
greatest_over f [] ys = omega arith
greatest_over f (x ∷ xs) ys =
    let h : greatest (map f (xs ++ ys)) ≡ max (greatest (map f xs)) (greatest (map f ys)) = greatest_over f xs ys in
    omega arith

-- the extent of two lists
pub both : (ks : Kinds) (xs ys : List Expr) (a b c : Extent) → IsExtent ks xs a → IsExtent ks ys b → IsJoined a b c → IsExtent ks (xs ++ ys) c
both ks xs ys a b c h g j =
    let wide : greatest (map (widest ks) (xs ++ ys)) ≡ max (greatest (map (widest ks) xs)) (greatest (map (widest ks) ys)) = greatest_over (widest ks) xs ys in
    let deep : greatest (map depth (xs ++ ys)) ≡ max (greatest (map depth xs)) (greatest (map depth ys)) = greatest_over depth xs ys in
    record {
      width = j.width ∙ ap (λ (n : ℕ). max n b.width) h.width ∙ ap (λ (n : ℕ). max (greatest (map (widest ks) xs)) n) g.width ∙ sym wide;
      narrow = rw (j.width) (omega (arith, h.narrow, g.narrow));
      depth = omega (arith, j.depth, h.depth, g.depth);
    }

-- the extent of one more expression of a list
pub one_more : {A : Type 0} (f : A → Expr) (ks : Kinds) (xs : List A) (i : ℕ) (x : A) (a b c : Extent) → i < length xs → x ≡ get_or xs i x
    → IsExtent ks (map f (take i xs)) a → IsExtent ks (f x ∷ []) b → IsJoined a b c → IsExtent ks (map f (take (i + 1) xs)) c
one_more f ks xs i x a b c below is h g j =
    let more : map f (take (i + 1) xs) ≡ map f (take i xs) ++ f x ∷ []
    = ap (map f) (take_more xs i x below) ∙ map-append f (take i xs) (get_or xs i x ∷ []) ∙ ap (λ y. map f (take i xs) ++ f y ∷ []) (sym is) in
    subst (λ (es : List Expr). IsExtent ks es c) (sym more) (both ks (map f (take i xs)) (f x ∷ []) a b c h g j)

-- the same of a list of expressions
pub next : (ks : Kinds) (es : List Expr) (i : ℕ) (e : Expr) (a b c : Extent) → i < length es → e ≡ get_or es i e
    → IsExtent ks (take i es) a → IsExtent ks (e ∷ []) b → IsJoined a b c → IsExtent ks (take (i + 1) es) c
next ks es i e a b c below is h g j =
    let more : take (i + 1) es ≡ take i es ++ e ∷ []
    = take_more es i e below ∙ ap (λ (y : Expr). take i es ++ y ∷ []) (sym is) in
    subst (λ (ds : List Expr). IsExtent ks ds c) (sym more) (both ks (take i es) (e ∷ []) a b c h g j)

-- ---- lists of a checked model

-- each expression of a list that stands in a checked model passes the walk
pub all_pass : (m : Model) (ks : Kinds) (es : List Expr) → IsChecked m ks → ((i : ℕ) (e : Expr) → slice_get es i ≡ Some e → StandsInModel m e) → All (HasNoFault ks) es
all_pass m ks es h stands k d below =
    expression_passes m ks (get_or es k d) h (inr (stands k (get_or es k d) (slice_get-get_or es k d below)))

-- the same of what has an expression
pub sides_pass : {A : Type 0} (f : A → Expr) (m : Model) (ks : Kinds) (xs : List A) → IsChecked m ks → ((i : ℕ) (x : A) → slice_get xs i ≡ Some x → StandsInModel m (f x)) → All (λ x. HasNoFault ks (f x)) xs
sides_pass f m ks xs h stands k d below =
    expression_passes m ks (f (get_or xs k d)) h (inr (stands k (get_or xs k d) (slice_get-get_or xs k d below)))
