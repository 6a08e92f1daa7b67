-- The values of a variable of a model.
use Rattle.std.proofs.Common.{◌≡◌, ℕ, zero, suc, ◌+◌, ◌*◌, ◌^◌, ◌<◌, ◌≤◌, max, Bool, true, false, ◌||◌, IsFalse, List, [], ◌∷◌, ◌++◌, map, length, get_or, Option, Some, None, refl, sym, ap, subst, ◌∙◌, arith, inl, inr, length-append}
use Rattle.std.specs.Prelude.{slice_get, nat_lt}
use Rattle.std.proofs.lemmas.Bool.{cases_lt}
use Rattle.std.proofs.lemmas.List.{get_or_append_left, get_or_at, length-map}
use Rattle.std.proofs.lemmas.Option.{slice_get_within}
use Rattle.cov_syntax.specs.declared.tree.Span.{Span}
use Rattle.cov_bits.specs.Layout.{AreSizes, bits, sizes, width}
use Rattle.cov_bits.specs.Layout as layout
use Rattle.cov_bits.proofs.Formed.{formed_bits, size_at}
use Rattle.cov_bits.proofs.Widths.{width_holds, width_least}
use Rattle.cov_model.specs.declared.model.Model.{Model}
use Rattle.cov_model.specs.declared.model.Var.{Var}
use Rattle.cov_model.specs.Types.{has_twice, is_empty, type_fault}
use Rattle.cov_model.specs.Walk.{bad_type, fault_if, range_too_wide}
use Rattle.cov_model.specs.WellFormed.{IsWellFormed}
use Rattle.cov_model.proofs.Tied.{first_none}
use Rattle.cov_ranges.proofs.PartFaults.{none_at}
use Rattle.cov_ranges.proofs.Whole.{types_none}
use Rattle.cov_readings.proofs.Greatest.{at_most}
use Rattle.cov_types.specs.Roots.{greatest_width, widest_variable}
use Rattle.cov_space.specs.declared.layer.Layer.{Layer}
use Rattle.cov_fields.specs.Fields.{field_of}
use Rattle.cov_fields.proofs.Places.{first_within}
use Rattle.cov_families.specs.Families.{AllFit, index_of, target}
use Rattle.cov_fields.specs.declared.field.Field.{Field}
use Rattle.cov_nodes.specs.Choices.{IsChunk}
use Rattle.cov_conditions.specs.Carried.{own_targets}
use Rattle.cov_conditions.proofs.Rooms.{mapped}

-- ---- values

fault_none : (b : Bool) (code : ℕ) (place : Span) → fault_if b code place ≡ None → IsFalse b
fault_none true code place h = cc
fault_none false code place h = refl

second_none : (a b : Bool) → IsFalse (a || b) → IsFalse b
second_none false b h = h
second_none true b h = cc

-- no value stands twice
values_once : (m : Model) (var : ℕ) (x : Var) → IsWellFormed m → slice_get m.vars var ≡ Some x → IsFalse (has_twice x.values)
values_once m var x formed at =
    let none : type_fault x ≡ None = none_at (map type_fault m.vars) var (type_fault x) (mapped type_fault m.vars var x at) (types_none m formed) in
    let head = first_none (fault_if (is_empty x.values || has_twice x.values) bad_type x.kind_place) (fault_if (nat_lt 1024 (length x.values)) range_too_wide x.kind_place ∷ []) none in
    second_none (is_empty x.values) (has_twice x.values) (fault_none (is_empty x.values || has_twice x.values) bad_type x.kind_place head.0)

size_is : (vars : List Var) (var : ℕ) (x : Var) → slice_get vars var ≡ Some x → get_or (sizes vars) var 0 ≡ length x.values
size_is [] var x at = cc
size_is (y ∷ ys) zero x at = let same : y ≡ x = cc in ap (λ (z : Var). length z.values) same
size_is (y ∷ ys) (suc var) x at = size_is ys var x at

pub record Sized (m : Model) (var : ℕ) (x : Var) : Type 0 where
  pub there : var < length (sizes m.vars)
  pub size : get_or (sizes m.vars) var 0 ≡ length x.values
  pub some : 0 < length x.values
  pub few : length x.values ≤ 1024

pub sized : (m : Model) (var : ℕ) (x : Var) → IsWellFormed m → slice_get m.vars var ≡ Some x → Sized m var x
sized m var x formed at =
    let within : var < length m.vars = slice_get_within m.vars var x at in
    let long : length (sizes m.vars) ≡ length m.vars = length-map m.vars (λ (y : Var). length y.values) in
    let there : var < length (sizes m.vars) = omega arith in
    let size : get_or (sizes m.vars) var 0 ≡ length x.values = size_is m.vars var x at in
    let s = size_at (sizes m.vars) var (formed_bits m formed).sized there in
    record { there = there; size = size; some = omega (arith, s.0); few = omega (arith, s.1) }

-- the values of a variable have an index
pub variable_chunk : (m : Model) (levels var : ℕ) (x : Var) → IsWellFormed m → slice_get m.vars var ≡ Some x → levels ≡ 3 * bits (sizes m.vars) → IsChunk levels x.values
variable_chunk m levels var x formed at is =
    let s : Sized m var x = sized m var x formed at in
    let fits : layout.first (sizes m.vars) var + width (get_or (sizes m.vars) var 0) ≤ bits (sizes m.vars) = first_within (sizes m.vars) var s.there in
    let wide : width (get_or (sizes m.vars) var 0) ≡ width (length x.values) = ap width s.size in
    let few : length x.values ≤ 2 ^ 10 = s.few in
    let narrow : width (length x.values) ≤ 10 = width_least (length x.values) 10 s.some few in
    record { some = s.some; few = s.few; fits = record { there = omega arith; narrow = narrow }; once = values_once m var x formed at }

widest : (n a b : ℕ) → n ≤ a → n ≤ max (max a b) 2
widest n a b h = omega arith

-- and are no more than the widest
pub variable_narrow : (m : Model) (var : ℕ) (x : Var) → slice_get m.vars var ≡ Some x → length x.values ≤ greatest_width m
variable_narrow m var x at = widest (length x.values) (widest_variable m.vars) _ (at_most (λ (x : Var). length x.values) m.vars var x at)

-- ---- numbers that are their own targets

pub length-own : (n : ℕ) → length (own_targets n) ≡ n
length-own zero = refl
length-own (suc n) = let h = length-own n in let e = length-append (own_targets n) (Some n ∷ []) in omega (arith, h, e)

fit_last : (f : Field) (ts : List (Option ℕ)) (k : ℕ) → AllFit f ts → k < 2 ^ f.width → AllFit f (ts ++ Some k ∷ [])
fit_last f [] k h lt = (lt, tt)
fit_last f (t ∷ ts) k h lt = (h.0, fit_last f ts k h.1 lt)

own_fit : (f : Field) (n : ℕ) → n ≤ 2 ^ f.width → AllFit f (own_targets n)
own_fit f zero le = tt
own_fit f (suc n) le = fit_last f (own_targets n) n (own_fit f n (omega arith)) (omega arith)

pub targets_few : (n : ℕ) (ts : List (Option ℕ)) (f : Field) → 0 < n → ts ≡ own_targets n → f ≡ index_of n → length ts ≤ 2 ^ f.width
targets_few n ts f some is at =
    subst (λ (g : Field). length ts ≤ 2 ^ g.width) (sym at)
    (let e : length ts ≡ n = ap (λ (us : List (Option ℕ)). length us) is ∙ length-own n in let h = width_holds n some in omega (arith, e, h))

pub targets_fit : (m : Model) (var : ℕ) (x : Var) (to : Layer) (n : ℕ) (ts : List (Option ℕ)) (f : Field) → Sized m var x → n ≡ length x.values → ts ≡ own_targets n → f ≡ field_of (sizes m.vars) var to → AllFit f ts
targets_fit m var x to n ts f s size is at =
    let holds : length x.values ≤ 2 ^ width (length x.values) = width_holds (length x.values) s.some in
    let wide : n ≤ 2 ^ width (get_or (sizes m.vars) var 0) = subst (λ k. n ≤ 2 ^ width k) (sym s.size) (subst (λ k. k ≤ 2 ^ width (length x.values)) (sym size) holds) in
    subst (λ (us : List (Option ℕ)). AllFit f us) (sym is) (subst (λ (g : Field). AllFit g (own_targets n)) (sym at) (own_fit (field_of (sizes m.vars) var to) n wide))

-- the target of a number is itself
pub target_own : (n i : ℕ) → i < n → target (own_targets n) i ≡ Some i
target_own zero i lt = absurd (omega arith)
target_own (suc n) i lt = elim (cases_lt i n) [
  | inl below ↦ get_or_append_left (own_targets n) (Some n ∷ []) None i (let e = length-own n in omega (arith, e)) ∙ target_own n i below
  | inr last ↦ here (omega arith)
]
  where
    here : i ≡ n → target (own_targets n ++ Some n ∷ []) i ≡ Some i
    here e = get_or_at (own_targets n) (Some n) [] None i (length-own n ∙ sym e) ∙ ap (λ k. Some k) (sym e)
