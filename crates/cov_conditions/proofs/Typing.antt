-- The last set of a Space, and the rows of a set that name typed states.
use Rattle.std.proofs.Common.{◌≡◌, ℕ, zero, suc, ◌+◌, ◌++◌, Bool, true, false, ◌&&◌, List, [], ◌∷◌, length, take, get_or, refl, sym, ap, ap₂, ◌∙◌, arith, Result, Ok, Err, OnOk}
use Rattle.std.proofs.lemmas.List.{take_at}
use Rattle.cov_bits.specs.Layout.{sizes}
use Rattle.cov_model.specs.declared.model.Model.{Model}
use Rattle.cov_space.specs.declared.layer.Layer.{Layer}
use Rattle.cov_space.specs.Operations.{intersection}
use Rattle.cov_space.specs.declared.fault.SpaceFault.{SpaceFault}
use Rattle.cov_space.specs.Sets.{SpaceOf, lies, set_at}
use Rattle.cov_space.specs.Steps.{with_more}
use Rattle.cov_space.proofs.Calls.{at_behind}
use Rattle.cov_space.proofs.Members.{lies-intersection}
use Rattle.cov_space.proofs.Sets.{lies_values, values_same}
use Rattle.cov_places.specs.Places.{is_typed_on, typed_set}
use Rattle.cov_nodes.specs.declared.reading.Reading.{Reading}
use Rattle.cov_nodes.specs.Points.{has_typed}
use Rattle.cov_conditions.specs.Fixed.{first_sets, typed_part}

-- ---- the last set

list_split : {A : Type 0} (n : ℕ) (xs : List A) (d : A) → length xs ≡ n + 1 → xs ≡ take n xs ++ get_or xs n d ∷ []
list_split zero [] d e = absurd (omega arith)
list_split (suc n) [] d e = absurd (omega arith)
list_split zero (x ∷ []) d e = refl
list_split zero (x ∷ y ∷ ys) d e = absurd (omega arith)
list_split (suc n) (x ∷ xs) d e = ap (λ ys. x ∷ ys) (list_split n xs d (omega arith))

pub split_last : (s : SpaceOf) (n : ℕ) → length s.sets ≡ n + 1 → s ≡ with_more (first_sets s n) (set_at s.sets n ∷ [])
split_last s n e = ap (λ (xs : List (List Bool)). record s { sets = xs }) (list_split n s.sets [] e)

taken : {A : Type 0} (n : ℕ) (xs : List A) → length xs ≡ n + 1 → length (take n xs) ≡ n
taken zero xs e = refl
taken (suc n) [] e = absurd (omega arith)
taken (suc n) (x ∷ xs) e = ap suc (taken n xs (omega arith))

pub first_count : (s : SpaceOf) (n : ℕ) → length s.sets ≡ n + 1 → length (first_sets s n).sets ≡ n
first_count s n e = taken n s.sets e

-- behind so many sets one more was put
pub first_again : (old s : SpaceOf) (n : ℕ) (more : List (List Bool)) → length old.sets ≡ n → s ≡ with_more old more → first_sets s n ≡ old
first_again old s n more count is =
    ap (λ (z : SpaceOf). first_sets z n) is ∙ ap (λ (xs : List (List Bool)). record old { sets = xs }) (take_at old.sets more n count)

-- ---- typed states

pub typed_at : (m : Model) (levels : ℕ) (ns row : _) (layer : Layer) → ns ≡ sizes m.vars → length row ≡ levels → lies (typed_set levels ns layer) row ≡ has_typed m layer row
typed_at m levels ns row layer plan long = lies_values levels (λ row. is_typed_on ns layer row) row long ∙ ap (λ ks. is_typed_on ks layer row) plan

twice : (a b : Bool) → (a && b) ≡ (a && (b && b))
twice true true = refl
twice true false = refl
twice false b = refl

grouped : (a b c : Bool) → (a && b && c) ≡ (a && (b && c))
grouped true b c = refl
grouped false b c = refl

pub typed_once : (m : Model) (levels : ℕ) (ns : List ℕ) (at : Reading) (x : List Bool) → ns ≡ sizes m.vars → at.next ≡ at.present → intersection levels x (typed_set levels ns at.present) ≡ typed_part levels m at x
typed_once m levels ns at x plan one = values_same levels _ _ (λ row long.
    ap (λ t. lies x row && t) (typed_at m levels ns row at.present plan long)
    ∙ twice (lies x row) (has_typed m at.present row)
    ∙ ap (λ l. lies x row && (has_typed m at.present row && has_typed m l row)) (sym one))

pub typed_twice : (m : Model) (levels : ℕ) (ns : List ℕ) (at : Reading) (x : List Bool) → ns ≡ sizes m.vars
    → intersection levels (intersection levels x (typed_set levels ns at.present)) (typed_set levels ns at.next) ≡ typed_part levels m at x
typed_twice m levels ns at x plan = values_same levels _ _ (λ row long.
    ap₂ (λ s t. s && t) (lies-intersection levels x (typed_set levels ns at.present) row long ∙ ap (λ t. lies x row && t) (typed_at m levels ns row at.present plan long)) (typed_at m levels ns row at.next plan long)
    ∙ grouped (lies x row) (has_typed m at.present row) (has_typed m at.next row))

-- the same where the sets stand behind those of before
pub narrowed : (old s new : SpaceOf) (n : ℕ) (x y : List Bool) → length old.sets ≡ n → s ≡ with_more old (x ∷ []) → new ≡ with_more (first_sets s n) (y ∷ []) → new ≡ with_more old (y ∷ [])
narrowed old s new n x y count is e = e ∙ ap (λ (z : SpaceOf). with_more z (y ∷ [])) (first_again old s n (x ∷ []) count is)

-- what stands in front of the last set
pub front_again : (s t : SpaceOf) (n : ℕ) (x : List Bool) → length s.sets ≡ n + 1 → t ≡ with_more (first_sets s n) (x ∷ []) → first_sets t n ≡ first_sets s n
front_again s t n x count is = first_again (first_sets s n) t n (x ∷ []) (first_count s n count) is

pub last_again : (s t : SpaceOf) (n : ℕ) (x : List Bool) → length s.sets ≡ n + 1 → t ≡ with_more (first_sets s n) (x ∷ []) → set_at t.sets n ≡ x
last_again s t n x count is = at_behind (first_sets s n) t (x ∷ []) n 0 is (let e = first_count s n count in omega (arith, e))

-- narrowed to both layers
pub narrowed_twice : (res : Result Unit SpaceFault) (m : Model) (s t new : SpaceOf) (n : ℕ) (ns : List ℕ) (at : Reading) → length s.sets ≡ n + 1 → ns ≡ sizes m.vars
    → t ≡ with_more (first_sets s n) (intersection s.levels (set_at s.sets n) (typed_set s.levels ns at.present) ∷ [])
    → OnOk res (new ≡ with_more (first_sets t n) (intersection t.levels (set_at t.sets n) (typed_set t.levels ns at.next) ∷ []))
    → OnOk res (new ≡ with_more (first_sets s n) (typed_part s.levels m at (set_at s.sets n) ∷ []))
narrowed_twice (Err e) m s t new n ns at count plan first second = tt
narrowed_twice (Ok u) m s t new n ns at count plan first second =
    second
    ∙ ap₂ (λ (z : SpaceOf) (y : List Bool). with_more z (y ∷ [])) (front_again s t n _ count first)
    (ap₂ (λ (k : ℕ) (y : List Bool). intersection k y (typed_set k ns at.next)) (ap (λ (z : SpaceOf). z.levels) first) (last_again s t n _ count first))
    ∙ ap (λ (y : List Bool). with_more (first_sets s n) (y ∷ [])) (typed_twice m s.levels ns at (set_at s.sets n) plan)
