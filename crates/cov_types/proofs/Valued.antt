-- What is known of an expression of a checked model, and of the values of its own kind.
use Rattle.std.proofs.Common.{◌≡◌, ◌≤◌, IsFalse, IfOk, List, length, Result, Ok, Err, sym, ap, subst, ◌∙◌}
use Rattle.cov_syntax.specs.declared.tree.Value.{Value}
use Rattle.cov_syntax.specs.declared.tree.Expr.{Expr}
use Rattle.cov_model.specs.declared.model.Model.{Model}
use Rattle.cov_model.specs.Kinds.{Kind, Kinds, values_of}
use Rattle.cov_model.specs.Types.{has_twice}
use Rattle.cov_model.specs.Walk.{own}
use Rattle.cov_walk.specs.Found.{HasNoFault}
use Rattle.cov_ranges.specs.Ranges.{IsExpressionOf, ListsAll, range_of}
use Rattle.cov_ranges.proofs.Listed.{expression_sound, lists_all, lists_once, lists_few}
use Rattle.cov_types.specs.Checking.{IsChecked}

-- the walk finds no fault in an expression of a checked model, in its own place
pub expression_passes : (m : Model) (ks : Kinds) (e : Expr) → IsChecked m ks → IsExpressionOf m e → HasNoFault ks e
expression_passes m ks e h x =
    let f = (expression_sound m e h.formed x).faultless in
    subst (λ (z : Kinds). HasNoFault z e) (sym h.kinds) (record { may = f.may; none = f.none })

-- what is ensured of the list of values
pub record AreValues {E : Type 0} (m : Model) (e : Expr) (r : Result (List Value) E) : Type 0 where
  pub listed : IfOk r (λ xs. xs ≡ range_of m e)
  pub once : IfOk r (λ xs. IsFalse (has_twice xs))
  pub few : IfOk r (λ xs. length xs ≤ 1024)
  pub all : IfOk r (λ xs. ListsAll m e xs)

of_listed : {E : Type 0} (P : List Value → Type 0) (ys : List Value) (r : Result (List Value) E) → IfOk r (λ xs. xs ≡ ys) → P ys → IfOk r P
of_listed P ys (Ok xs) l h = subst P (sym l) h
of_listed P ys (Err x) l h = tt

-- the values of its own kind
pub are_values : {E : Type 0} (m : Model) (ks : Kinds) (e : Expr) (k : Kind) (r : Result (List Value) E) → IsChecked m ks → IsExpressionOf m e → k ≡ own ks e → IfOk r (λ xs. xs ≡ values_of k) → AreValues m e r
are_values m ks e k r h x g l =
    let same : values_of k ≡ range_of m e = ap values_of (g ∙ ap (λ (z : Kinds). own z e) h.kinds) in
    let listed : IfOk r (λ xs. xs ≡ range_of m e) = subst (λ (ys : List Value). IfOk r (λ xs. xs ≡ ys)) same l in
    record {
      listed = listed;
      once = of_listed (λ xs. IsFalse (has_twice xs)) (range_of m e) r listed (lists_once m h.formed e);
      few = of_listed (λ xs. length xs ≤ 1024) (range_of m e) r listed (lists_few m h.formed e x);
      all = of_listed (ListsAll m e) (range_of m e) r listed (lists_all m h.formed e x);
    }
