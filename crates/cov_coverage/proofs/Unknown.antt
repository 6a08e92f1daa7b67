-- The first name that no signal of the model has.
use Rattle.std.proofs.Common.{◌≡◌, ℕ, ◌-◌, ◌<◌, ◌≤◌, List, [], length, take, subst, arith}
use Rattle.std.proofs.lemmas.List.{get_or-take, length-take-le}
use Rattle.cov_coverage.specs.declared.names.NamedSignal.{NamedSignal}
use Rattle.cov_coverage.specs.Names.{AreNamed, IsFirstUnknown, IsKnown}
use Rattle.cov_coverage.proofs.Naming.{known}
use Rattle.cov_model.specs.declared.model.Model.{Model}

-- where each name has its signal there is none
pub named_known : (m : Model) (names : List (List ℕ)) (qs : List NamedSignal) (place : ℕ) → AreNamed m names qs → IsFirstUnknown m names place → ⊥
named_known m names qs place named first =
    let from : 1 ≤ place = first.from in
    let to : place ≤ length names = first.to in
    first.unknown [] (known m names qs named (place - 1) [] (omega arith))

-- the names before it have signals
none_before : (m : Model) (names : List (List ℕ)) (p q : ℕ) → IsFirstUnknown m names p → IsFirstUnknown m names q → p < q → ⊥
none_before m names p q first later lt =
    let from : 1 ≤ p = first.from in
    let to : q ≤ length names = later.to in
    let before : List (List ℕ) = take (q - 1) names in
    let long : length before ≡ q - 1 = length-take-le (q - 1) names (omega arith) in
    first.unknown [] (subst (IsKnown m) (get_or-take (q - 1) names (p - 1) [] (omega arith)) (later.before (p - 1) [] (omega arith)))

pub one_unknown : (m : Model) (names : List (List ℕ)) (p q : ℕ) → IsFirstUnknown m names p → IsFirstUnknown m names q → p ≡ q
one_unknown m names p q first other =
    let not_below : p < q → ⊥ = none_before m names p q first other in
    let not_above : q < p → ⊥ = none_before m names q p other first in
    omega arith
