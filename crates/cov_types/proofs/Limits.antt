-- The limits of a checked model.
use Rattle.std.proofs.Common.{◌≡◌, ◌≤◌, ◌<◌, ℕ, ◌+◌, max, Bool, true, false, ◌||◌, if◌then◌else◌, IsFalse, List, [], ◌∷◌, ◌++◌, map, length, Option, Some, None, Ok, refl, sym, ap, subst, ◌∙◌, arith, length-append}
use Rattle.std.specs.Prelude.{nat_lt, sum_by}
use Rattle.std.proofs.lemmas.Bool.{ltb-false, or_parts}
use Rattle.std.proofs.lemmas.List.Sums.{sum_by-cons}
use Rattle.cov_syntax.specs.declared.fault.ModelFault.{ModelFault}
use Rattle.cov_syntax.specs.declared.tree.Expr.{Expr}
use Rattle.cov_model.specs.declared.model.Var.{Var}
use Rattle.cov_model.specs.declared.model.Model.{Model}
use Rattle.cov_model.specs.Flat.{IsFlat, conditions_of, assignments_of}
use Rattle.cov_model.specs.Kinds.{Kind, boolean, interval, among, Kinds, count, width}
use Rattle.cov_model.specs.Walk.{first, fault_if, is_wide, bad_type, range_too_wide}
use Rattle.cov_model.specs.Types.{has_twice, is_empty, type_fault, bits, bits_fault}
use Rattle.cov_model.specs.Order.{circular, ordered}
use Rattle.cov_model.specs.Settled.{walk_fault}
use Rattle.cov_model.specs.WellFormed.{IsWellFormed}
use Rattle.cov_model.specs.Written.{formula_size, formula_fault}
use Rattle.cov_model.proofs.Fixed.{facts}
use Rattle.cov_model.proofs.Tied.{first_none, first_none_left, first_none_right, no_fault}
use Rattle.cov_types.specs.Checking.{IsChecked}
use Rattle.cov_types.specs.Roots.{state_bits, constraints, greatest_size, widest_variable, greatest_depth}

few_values : (x : Var) → type_fault x ≡ None → length x.values ≤ 1024
few_values x h =
    let wide : List (Option ModelFault) = fault_if (nat_lt 1024 (length x.values)) range_too_wide x.kind_place ∷ [] in
    let p = first_none (fault_if (is_empty x.values || has_twice x.values) bad_type x.kind_place) wide h in
    let q = first_none (fault_if (nat_lt 1024 (length x.values)) range_too_wide x.kind_place) [] p.1 in
    ltb-false 1024 (length x.values) (no_fault (nat_lt 1024 (length x.values)) range_too_wide x.kind_place q.0)

narrow_variables : (xs : List Var) → first (map type_fault xs) ≡ None → widest_variable xs ≤ 1024
narrow_variables [] h = omega arith
narrow_variables (x ∷ xs) h =
    let p = first_none (type_fault x) (map type_fault xs) h in
    let here : length x.values ≤ 1024 = few_values x p.0 in
    let rest : widest_variable xs ≤ 1024 = narrow_variables xs p.1 in
    omega arith

few_bits : (total : ℕ) (xs : List Var) → total ≤ 60 → bits_fault total xs ≡ None → total + state_bits xs ≤ 60
few_bits total [] h e = omega arith
few_bits total (x ∷ xs) h e = by (nat_lt 60 (total + bits x)) refl e (λ f g. few_bits (total + bits x) xs f g)
  where
    by : (b : Bool) → nat_lt 60 (total + bits x) ≡ b
        → (if b then Some (record { code = 21; place = x.place }) else bits_fault (total + bits x) xs) ≡ None
        → (total + bits x ≤ 60 → bits_fault (total + bits x) xs ≡ None → total + bits x + sum_by bits xs ≤ 60) → total + sum_by bits (x ∷ xs) ≤ 60
    by true f g k = cc
    by false f g k =
        let within : total + bits x + sum_by bits xs ≤ 60 = k (ltb-false 60 (total + bits x) f) g in
        rw (sum_by-cons bits x xs) (omega arith)

small_formulas : (es : List Expr) → first (map formula_fault es) ≡ None → greatest_size es ≤ 4096
small_formulas [] h = omega arith
small_formulas (e ∷ es) h =
    let p = first_none (formula_fault e) (map formula_fault es) h in
    let here : formula_size e ≤ 4096 = ltb-false 4096 (formula_size e) (no_fault (nat_lt 4096 (formula_size e)) 23 e.place p.0) in
    let rest : greatest_size es ≤ 4096 = small_formulas es p.1 in
    omega arith

-- a kind that is not too wide
pub narrow_width : (k : Kind) → IsFalse (is_wide k) → width k ≤ 1024
narrow_width boolean h = omega arith
narrow_width (interval low high) h = ltb-false 1024 (count low high) (or_parts _ (nat_lt 1024 (count low high)) h).1
narrow_width (among xs) h = ltb-false 1024 (length xs) h

-- What is known of the numbers of a checked model.
pub record Limits (m : Model) : Type 0 where
  pub few_bits : state_bits m.vars ≤ 60
  pub narrow : widest_variable m.vars ≤ 1024
  pub small : greatest_size m.specs ≤ 4096
  pub few_constraints : constraints m ≤ 1000000
  pub few_listed : constraints m + length m.fair ≤ 1000000
  pub few_defines : length m.defines ≤ 4096
  pub shallow : greatest_depth m ≤ 1000001

few_parts : (m : Model) → length (conditions_of m) + length (assignments_of m) ≤ 1000000 → constraints m + length m.fair ≤ 1000000
few_parts m h = omega (
  arith,
  length-append (m.inits ++ m.invars ++ m.trans ++ m.fair) m.specs,
  length-append (m.inits ++ m.invars ++ m.trans) m.fair,
  length-append (m.inits ++ m.invars) m.trans,
  length-append m.inits m.invars,
  length-append (m.nows ++ m.firsts) m.nexts,
  length-append m.nows m.firsts,
)

pub limits : (m : Model) (ks : Kinds) → IsChecked m ks → Limits m
limits m ks h =
    let types : List (Option ModelFault) = map type_fault m.vars in
    let formulas : List (Option ModelFault) = map formula_fault m.specs in
    let none = (facts m h.formed).no_fault in
    let a = first_none (bits_fault 0 m.vars) (circular m.defines ∷ walk_fault (ordered m) ∷ formulas) (first_none_right types (bits_fault 0 m.vars ∷ circular m.defines ∷ walk_fault (ordered m) ∷ formulas) none) in
    let b = first_none (circular m.defines) (walk_fault (ordered m) ∷ formulas) a.1 in
    let c = first_none (walk_fault (ordered m)) formulas b.1 in
    let few : 0 + state_bits m.vars ≤ 60 = few_bits 0 m.vars (omega arith) a.0 in
    let listed : constraints m + length m.fair ≤ 1000000 = few_parts m h.flat.few_parts in
    record {
      few_bits = omega arith;
      narrow = narrow_variables m.vars (first_none_left types (bits_fault 0 m.vars ∷ circular m.defines ∷ walk_fault (ordered m) ∷ formulas) none);
      small = small_formulas m.specs c.1;
      few_constraints = omega arith;
      few_listed = listed;
      few_defines = h.flat.few_defines;
      shallow = h.flat.shallow;
    }
