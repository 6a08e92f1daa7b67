-- Sets that are put behind those of before, and what is left once the last one is settled.
use Rattle.std.proofs.Common.{◌≡◌, ℕ, suc, ◌-◌, ◌≤◌, List, [], ◌∷◌, ◌++◌, Bool, length, take, drop, refl, sym, ◌∙◌, ap, arith, length-append}
use Rattle.std.proofs.lemmas.List.{take_at, get_or_at, take-append-drop, length-take-le}
use Rattle.cov_space.specs.declared.fault.SpaceFault.{SpaceFault}
use Rattle.cov_space.specs.Sets.{SpaceOf, set_at}
use Rattle.cov_space.specs.Answers.{PutsSet, IsCallFault}
use Rattle.cov_space.specs.Steps.{with_more, Leaves}
use Rattle.cov_space.proofs.Calls.{push_behind, settled_behind, call_leaves, leaves_behind}
use Rattle.cov_expressions.specs.Parts.{cut_to}

-- the last set alone is kept behind the first n
abbrev pub settle_to : ℕ → SpaceOf → SpaceOf
settle_to n s = record s { sets = take n s.sets ++ set_at s.sets (length s.sets - 1) ∷ [] }

-- the sets from the n-th on stand behind the first n
pub cut_more : (n : ℕ) (s : SpaceOf) → s ≡ with_more (cut_to n s) (drop n s.sets)
cut_more n s = ap (λ (x : List (List Bool)). record s { sets = x }) (sym (take-append-drop n s.sets))

pub cut_back : (n : ℕ) (old s : SpaceOf) (more : List (List Bool)) → s ≡ with_more old more → length old.sets ≡ n → cut_to n s ≡ old
cut_back n old s more is count = ap (cut_to n) is ∙ ap (λ (x : List (List Bool)). record old { sets = x }) (take_at old.sets more n count)

pub length_cut : (n : ℕ) (s : SpaceOf) → n ≤ length s.sets → length (cut_to n s).sets ≡ n
length_cut n s le = length-take-le n s.sets le

pub puts_last : (old new : SpaceOf) (x : List Bool) → new ≡ with_more old (x ∷ []) → PutsSet old new x
puts_last old new x is = record {
  is = is;
  count = ap (λ (s : SpaceOf). length s.sets) is ∙ length-append old.sets (x ∷ []);
}

-- the set at the end
pub last_at : (old s : SpaceOf) (n : ℕ) (x : List Bool) → s ≡ with_more old (x ∷ []) → length old.sets ≡ n → set_at s.sets n ≡ x
last_at old s n x is count = ap (λ (z : SpaceOf). set_at z.sets n) is ∙ get_or_at old.sets x [] [] n count

-- a set that is put is settled at the n-th place
pub settled : (n : ℕ) (old s new : SpaceOf) (x : List Bool) → n ≤ length old.sets → PutsSet old s x → new ≡ settle_to n s → new ≡ with_more (cut_to n old) (x ∷ [])
settled n old s new x le p e =
    let base : SpaceOf = cut_to n old in
    let rest : List (List Bool) = drop n old.sets in
    let long : length (rest ++ x ∷ []) ≡ suc (length rest) = omega (arith, length-append rest (x ∷ [])) in
    settled_behind base s new (rest ++ x ∷ []) n (length rest) (push_behind base old s rest x (cut_more n old) p) (length_cut n old le) long e
    ∙ ap (λ (y : List Bool). with_more base (y ∷ [])) (get_or_at rest x [] [] (length rest) refl)

-- a call that is refused leaves the first n sets
pub leaves_cut : (n : ℕ) (old new : SpaceOf) (e : SpaceFault) → IsCallFault old new e → Leaves (cut_to n old) new e
leaves_cut n old new e f = call_leaves (cut_to n old) old new (drop n old.sets) e (cut_more n old) f

pub leaves_under : (n : ℕ) (old new : SpaceOf) (e : SpaceFault) → Leaves old new e → Leaves (cut_to n old) new e
leaves_under n old new e f = leaves_behind (cut_to n old) old new (drop n old.sets) e (cut_more n old) f
