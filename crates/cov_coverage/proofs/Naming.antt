-- Names that are looked up one after another.
use Rattle.std.proofs.Common.{◌≡◌, ◌↔◌, ℕ, ◌+◌, ◌-◌, ◌<◌, ◌++◌, List, [], ◌∷◌, Some, None, Option, length, take, slice_get, refl, sym, ◌∙◌, ap, subst, arith}
use Rattle.std.specs.List.{All, HoldsAt}
use Rattle.std.proofs.lemmas.List.{take_more}
use Rattle.std.proofs.lemmas.Option.{get_or_from_slice_get, slice_get_within}
use Rattle.std.proofs.lemmas.List.Elements.{All-cons, All-nil, at_read}
use Rattle.cov_coverage.specs.declared.names.NamedSignal.{NamedSignal}
use Rattle.cov_coverage.specs.Names.{AreNamed, IsFirstUnknown, IsKnown, IsNamed}
use Rattle.cov_model.specs.declared.model.Model.{Model}
use Rattle.cov_model.specs.declared.model.Signal.{Signal}
use Rattle.cov_types.specs.Signals.{IsSignalNamed}

-- a name with what was found for it
pub named_is : (m : Model) (name text : List ℕ) (signal : Signal) (q : NamedSignal) → text ≡ name → IsSignalNamed m text signal → q ≡ record { name = name; signal = signal } → IsNamed m name q
named_is m name text signal q same h is =
    subst (λ (z : NamedSignal). IsNamed m name z) (sym is) (record { same = refl; signal = subst (λ (t : List ℕ). IsSignalNamed m t signal) same h })

-- each of the names is that of a signal
pub known : (m : Model) (names : List (List ℕ)) (signals : List NamedSignal) → AreNamed m names signals → All (IsKnown m) names
known m [] [] h = All-nil (IsKnown m)
known m [] (q ∷ qs) h = absurd h
known m (n ∷ ns) [] h = absurd h
known m (n ∷ ns) (q ∷ qs) h = All-cons (IsKnown m) n ns (let k : IsNamed m n q = h.0 in (q.signal, k.signal)) (known m ns qs h.1)

push_named : (m : Model) (names : List (List ℕ)) (signals : List NamedSignal) (name : List ℕ) (q : NamedSignal) → AreNamed m names signals → IsNamed m name q → AreNamed m (names ++ name ∷ []) (signals ++ q ∷ [])
push_named m [] [] name q h k = (k, tt)
push_named m [] (x ∷ xs) name q h k = absurd h
push_named m (n ∷ ns) [] name q h k = absurd h
push_named m (n ∷ ns) (x ∷ xs) name q h k = (h.0, push_named m ns xs name q h.1 k)

pub one_more_named : (m : Model) (names : List (List ℕ)) (signals : List NamedSignal) (i : ℕ) (name : List ℕ) (q : NamedSignal) → slice_get names i ≡ Some name
    → AreNamed m (take i names) signals → IsNamed m name q → AreNamed m (take (i + 1) names) (signals ++ q ∷ [])
one_more_named m names signals i name q at h k =
    let more_is : take (i + 1) names ≡ take i names ++ name ∷ [] =
    take_more names i name (slice_get_within names i name at) ∙ ap (λ (z : List ℕ). take i names ++ z ∷ []) (get_or_from_slice_get names i name name at) in
    subst (λ (l : List (List ℕ)). AreNamed m l (signals ++ q ∷ [])) (sym more_is) (push_named m (take i names) signals name q h k)

no_signal : (q : Signal) → ◌≡◌ {A = Option Signal} None (Some q) → ⊥
no_signal q e = cc e

pub first_unknown : (m : Model) (names : List (List ℕ)) (signals : List NamedSignal) (i : ℕ) (name text : List ℕ) → slice_get names i ≡ Some name → text ≡ name
    → AreNamed m (take i names) signals → ((q : Signal) → (◌≡◌ {A = Option Signal} None (Some q)) ↔ IsSignalNamed m text q) → IsFirstUnknown m names (i + 1)
first_unknown m names signals i name text at same h none =
    let back : i ≡ i + 1 - 1 = omega arith in
    let lt : i < length names = slice_get_within names i name at in
    let no : IsKnown m name → ⊥ = λ k. no_signal k.0 ((none k.0).1 (subst (λ (t : List ℕ). IsSignalNamed m t k.0) (sym same) k.1)) in
    record {
      from = omega arith;
      to = omega arith;
      unknown = subst (λ j. HoldsAt (λ n. IsKnown m n → ⊥) names j) back (at_read names (λ n. IsKnown m n → ⊥) i name lt (sym (get_or_from_slice_get names i name name at)) no);
      before = subst (λ j. All (IsKnown m) (take j names)) back (known m (take i names) signals h);
    }
