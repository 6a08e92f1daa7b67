-- A well-formed model has variables of one to 1,024 values, and at most 60 bits.
use Rattle.std.proofs.Common.{◌≡◌, ◌<◌, ◌≤◌, ◌+◌, ℕ, zero, suc, Bool, true, false, ◌&&◌, ◌||◌, if◌then◌else◌, List, [], ◌∷◌, map, length, get_or, Option, Some, None, Ok, refl, ap, arith}
use Rattle.std.specs.Prelude.{nat_lt}
use Rattle.std.proofs.lemmas.Bool.{ltb-false, or_parts}
use Rattle.cov_syntax.specs.declared.fault.ModelFault.{ModelFault}
use Rattle.cov_syntax.specs.declared.tree.Value.{Value}
use Rattle.cov_model.specs.declared.model.Var.{Var}
use Rattle.cov_model.specs.declared.model.Model.{Model}
use Rattle.cov_model.specs.Walk.{first, fault_if, bad_type, range_too_wide}
use Rattle.cov_model.specs.Types.{has_twice, is_empty, type_fault, bits as bits_of, bits_fault}
use Rattle.cov_model.specs.Order.{circular, ordered}
use Rattle.cov_model.specs.Settled.{walk_fault, settled_model}
use Rattle.cov_model.specs.Written.{formula_fault}
use Rattle.cov_model.specs.Accepted.{kinds_fault, unless_fault}
use Rattle.cov_model.specs.States.{fits}
use Rattle.cov_model.specs.WellFormed.{IsWellFormed}
use Rattle.cov_model.proofs.Tied.{first_none, first_none_left, first_none_right}
use Rattle.cov_bits.specs.Layout.{sizes, IsSize, AreSizes, bits, are_places}

no_fault : (o : Option ModelFault) (m k : Model) → unless_fault o k ≡ Ok m → o ≡ None
no_fault None m k h = refl
no_fault (Some f) m k h = cc

no_test : (b : Bool) (code : ℕ) (place : _) → fault_if b code place ≡ None → b ≡ false
no_test true code place h = cc
no_test false code place h = refl

some_values : (xs : List Value) → is_empty xs ≡ false → 0 < length xs
some_values [] h = cc
some_values (x ∷ xs) h = omega arith

size_of : (x : Var) → type_fault x ≡ None → IsSize (length x.values)
size_of x h =
    let wide : List (Option ModelFault) = fault_if (nat_lt 1024 (length x.values)) range_too_wide x.kind_place ∷ [] in
    let p = first_none (fault_if (is_empty x.values || has_twice x.values) bad_type x.kind_place) wide h in
    let q = first_none (fault_if (nat_lt 1024 (length x.values)) range_too_wide x.kind_place) [] p.1 in
    let e = or_parts (is_empty x.values) (has_twice x.values) (no_test _ bad_type x.kind_place p.0) in
    (some_values x.values e.0, ltb-false 1024 (length x.values) (no_test _ range_too_wide x.kind_place q.0))

sizes_sized : (xs : List Var) → first (map type_fault xs) ≡ None → AreSizes (sizes xs)
sizes_sized [] h = tt
sizes_sized (x ∷ xs) h = let p = first_none (type_fault x) (map type_fault xs) h in (size_of x p.0, sizes_sized xs p.1)

few_bits : (total : ℕ) (xs : List Var) → total ≤ 60 → bits_fault total xs ≡ None → total + bits (sizes xs) ≤ 60
few_bits total [] h e = omega arith
few_bits total (x ∷ xs) h e = by (nat_lt 60 (total + bits_of x)) refl e (λ f g. few_bits (total + bits_of x) xs f g)
  where
    by : (b : Bool) → nat_lt 60 (total + bits_of x) ≡ b
        → (if b then Some (record { code = 21; place = x.place }) else bits_fault (total + bits_of x) xs) ≡ None
        → (total + bits_of x ≤ 60 → bits_fault (total + bits_of x) xs ≡ None → total + bits_of x + bits (sizes xs) ≤ 60) → total + (bits_of x + bits (sizes xs)) ≤ 60
    by true f g k = cc
    by false f g k = let within : total + bits_of x + bits (sizes xs) ≤ 60 = k (ltb-false 60 (total + bits_of x) f) g in omega arith

pub record FewBits (ns : List ℕ) : Type 0 where
  pub sized : AreSizes ns
  pub few : bits ns ≤ 60

pub formed_bits : (m : Model) → IsWellFormed m → FewBits (sizes m.vars)
formed_bits m h =
    let none : kinds_fault m ≡ None = no_fault (kinds_fault m) m (settled_model (ordered m)) h.settled in
    let later : List (Option ModelFault) = bits_fault 0 m.vars ∷ circular m.defines ∷ walk_fault (ordered m) ∷ map formula_fault m.specs in
    let rest = first_none_right (map type_fault m.vars) later none in
    let bit = first_none (bits_fault 0 m.vars) (circular m.defines ∷ walk_fault (ordered m) ∷ map formula_fault m.specs) rest in
    let within = few_bits 0 m.vars (omega arith) bit.0 in
    record { sized = sizes_sized m.vars (first_none_left (map type_fault m.vars) later none); few = omega arith }

-- a typed state has a place for each variable
pub typed_places : (xs : List Var) (s : List ℕ) → fits xs s ≡ are_places (sizes xs) s
typed_places [] [] = refl
typed_places [] (i ∷ s) = refl
typed_places (x ∷ xs) [] = refl
typed_places (x ∷ xs) (i ∷ s) = ap (λ (b : Bool). nat_lt i (length x.values) && b) (typed_places xs s)

pub size_at : (ns : List ℕ) (i : ℕ) → AreSizes ns → i < length ns → IsSize (get_or ns i 0)
size_at [] i h g = absurd (omega arith)
size_at (n ∷ ns) zero h g = h.0
size_at (n ∷ ns) (suc i) h g = size_at ns i h.1 (omega arith)
