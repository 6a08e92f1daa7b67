-- What is found at a set, a `union` and a case.
use Rattle.std.proofs.Common.{◌≡◌, Bool, true, false, not, ◌||◌, if◌then◌else◌, IsFalse, List, [], ◌∷◌, ◌++◌, map, Option, Some, None, refl, ap, sym, subst, ◌∙◌, append_assoc}
use Rattle.std.specs.List.{list_any}
use Rattle.cov_syntax.specs.declared.tree.Span.{Span}
use Rattle.cov_syntax.specs.declared.fault.ModelFault.{ModelFault}
use Rattle.cov_syntax.specs.declared.tree.Node.{Node}
use Rattle.cov_model.specs.Kinds.{Kind, joined_kind, is_boolean}
use Rattle.cov_model.specs.Trees as trees
use Rattle.cov_model.specs.Walk as walk
use Rattle.cov_model.specs.Walk.{first, fault_if, kind_fits, is_wide, set_place, case_not_closed, range_too_wide, May, Judged, compound, kind_fault, tests_of_set, tests_of_case, part_may, bodies, guards, case_own, in_order}
use Rattle.cov_kinds.specs.declared.kind.Kind.{Kind as Made}
use Rattle.cov_kinds.specs.Seen.{seen, IsKindOrWide}
use Rattle.cov_walk.specs.declared.misfits.Misfits.{Misfits}
use Rattle.cov_walk.specs.declared.found.Found.{Found}
use Rattle.cov_walk.specs.declared.members.Members.{Members}
use Rattle.cov_walk.specs.declared.arms.Arms.{Arms}
use Rattle.cov_walk.specs.Misfits.{HasMisfits, IsUnless, kind_told}
use Rattle.cov_walk.specs.Found.{IsFound}
use Rattle.cov_walk.specs.Gathered.{HasMembers, HasArms, members_fault, arms_fault, first_misfit, first_untrue}
use Rattle.cov_walk.proofs.Firsts.{first_past, first_behind, first_front, first_second, first_marked, marked_if, kind_at_place}
use Rattle.cov_walk.proofs.Simple.{not_wide}

abbrev pub wide_at : Span → Kind → Option ModelFault
wide_at place k = fault_if (is_wide k) range_too_wide place

-- ---- members

same_any : (js : List Judged) (ks : List Made) → map seen ks ≡ map (λ (j : Judged). j.own) js → list_any (λ k. is_boolean (seen k)) ks ≡ list_any (λ (j : Judged). is_boolean j.own) js
same_any [] [] h = refl
same_any [] (k ∷ ks) h = cc
same_any (j ∷ js) [] h = cc
same_any (j ∷ js) (k ∷ ks) h =
    let a : seen k ≡ j.own = cc in
    let b : map seen ks ≡ map (λ (j : Judged). j.own) js = cc in
    ap (λ x. is_boolean x || list_any (λ k. is_boolean (seen k)) ks) a ∙ ap (λ t. is_boolean j.own || t) (same_any js ks b)

kinds_told : (js : List Judged) (b : Bool) (m : Misfits) → m.truth ≡ first_misfit js walk.truth
    → first (if b then map (kind_fault (Some walk.truth)) js else []) ≡ kind_told (if b then Some walk.truth else None) m
kinds_told js true m h = first_marked (kind_fault (Some walk.truth)) (λ (j : Judged). j.misfit walk.truth) (λ j. refl) js ∙ ap kind_at_place (sym h)
kinds_told js false m h = refl

-- the tests of a set in which no member has a fault
pub set_tests : (place : Span) (may : May) (js : List Judged) (members : Members) → HasMembers js members → members_fault (part_may may) js ≡ None
    → first (tests_of_set place js may ++ wide_at place (joined_kind (map (λ (j : Judged). j.own) js)) ∷ [])
    ≡ first (fault_if (not may.set) set_place place ∷ kind_told (if list_any (λ k. is_boolean (seen k)) members.kinds then Some walk.truth else None) members.misfits ∷ wide_at place (joined_kind (map seen members.kinds)) ∷ [])
set_tests place may js members h none =
    let faults : List (Option ModelFault) = map (λ (j : Judged). j.fault (part_may may)) js in
    let here : Option ModelFault = fault_if (not may.set) set_place place in
    let untrue : Bool → List (Option ModelFault) = λ b. if b then map (kind_fault (Some walk.truth)) js else [] in
    let some : Bool = list_any (λ (j : Judged). is_boolean j.own) js in
    let wide : Kind → List (Option ModelFault) = λ k. wide_at place k ∷ [] in
    let own : Kind = joined_kind (map (λ (j : Judged). j.own) js) in
    ap first (append_assoc faults (here ∷ untrue some) (wide own))
    ∙ first_behind faults (here ∷ (untrue some ++ wide own)) none
    ∙ first_second here (untrue some) (wide own)
    ∙ ap (λ (o : Option ModelFault). first (here ∷ o ∷ wide own)) (kinds_told js some members.misfits h.misfits.truth)
    ∙ ap (λ (b : Bool). first (here ∷ kind_told (if b then Some walk.truth else None) members.misfits ∷ wide own)) (sym (same_any js members.kinds h.kinds))
    ∙ ap (λ (ks : List (Kind)). first (here ∷ kind_told (if list_any (λ k. is_boolean (seen k)) members.kinds then Some walk.truth else None) members.misfits ∷ wide (joined_kind ks))) (sym h.kinds)

-- ---- branches

untrue_told : (bs : List (Judged × Judged)) (b : Bool)
    → first (map (λ (x : Judged × Bool). if x.1 || b then kind_fault (Some walk.truth) x.0 else None) (in_order bs)) ≡ kind_at_place (first_untrue b bs)
untrue_told bs b = first_marked
    (λ (x : Judged × Bool). if x.1 || b then kind_fault (Some walk.truth) x.0 else None)
    (λ (x : Judged × Bool). if x.1 || b then x.0.misfit walk.truth else None)
    (λ x. marked_if (x.1 || b) (x.0.misfit walk.truth)) (in_order bs)

-- the tests of a case in which no guard and no body has a fault
pub case_tests : (place : Span) (may : May) (bs : List (Judged × Judged)) (b : Bool) → arms_fault may bs ≡ None → b ≡ is_boolean (case_own bs)
    → first (tests_of_case place bs may ++ wide_at place (case_own bs) ∷ [])
    ≡ first (kind_at_place (first_untrue b bs) ∷ fault_if (not (trees.is_closed [] (map (λ (e : Judged). e.tree) (guards bs)))) case_not_closed place ∷ wide_at place (case_own bs) ∷ [])
case_tests place may bs b none e =
    let faults : List (Option ModelFault) = map (λ (x : Judged × Bool). x.0.fault (if x.1 then walk.plain_may may else part_may may)) (in_order bs) in
    let untrue : Bool → List (Option ModelFault) = λ b. map (λ (x : Judged × Bool). if x.1 || b then kind_fault (Some walk.truth) x.0 else None) (in_order bs) in
    let open_at : Option ModelFault = fault_if (not (trees.is_closed [] (map (λ (e : Judged). e.tree) (guards bs)))) case_not_closed place in
    let wide : List (Option ModelFault) = wide_at place (case_own bs) ∷ [] in
    let own : Bool = is_boolean (case_own bs) in
    ap first (append_assoc (faults ++ untrue own) (open_at ∷ []) wide ∙ append_assoc faults (untrue own) (open_at ∷ wide))
    ∙ first_behind faults (untrue own ++ open_at ∷ wide) none
    ∙ first_front (untrue own) (open_at ∷ wide)
    ∙ ap (λ (o : Option ModelFault). first (o ∷ open_at ∷ wide)) (untrue_told bs own)
    ∙ ap (λ (t : Bool). first (kind_at_place (first_untrue t bs) ∷ open_at ∷ wide)) (sym e)

-- ---- found

unless_misfit : (k : Kind) (asks : walk.Asks) (m a b : Option Span) → m ≡ (if kind_fits asks k then None else a) → a ≡ b → m ≡ (if kind_fits asks k then None else b)
unless_misfit k asks m a b h e = h ∙ ap (λ (o : Option Span). if kind_fits asks k then None else o) e

pub compound_found : (place : Span) (m : Node) (k : Kind) (js : List Judged) (tests : May → List (Option ModelFault)) (s : Bool → Node) (may : May) (f : Found) (inside : Misfits)
    → first (tests may ++ wide_at place k ∷ []) ≡ None → seen f.own ≡ k → HasMisfits (first_misfit js) inside → IsUnless k inside f.misfits
    → IsFound (compound place m k js tests s) may f
compound_found place m k js tests s may f inside t o h u = record {
  own = o;
  misfits = record {
    truth = unless_misfit k walk.truth f.misfits.truth inside.truth (first_misfit js walk.truth) u.truth h.truth;
    number = unless_misfit k walk.number f.misfits.number inside.number (first_misfit js walk.number) u.number h.number;
    no_truth = unless_misfit k walk.no_truth f.misfits.no_truth inside.no_truth (first_misfit js walk.no_truth) u.no_truth h.no_truth;
  };
  none = t;
}

pub three_none : (place : Span) (a b : Option ModelFault) (k : Kind) → a ≡ None → b ≡ None → IsFalse (is_wide k) → first (a ∷ b ∷ wide_at place k ∷ []) ≡ None
three_none place a b k h g w = first_past a (b ∷ wide_at place k ∷ []) h ∙ first_past b (wide_at place k ∷ []) g ∙ not_wide (is_wide k) place w

-- the misfit that a case has
pub chosen_untrue : (bs : List (Judged × Judged)) (a : Arms) (b : Bool) → HasArms bs a → (if b then a.either else a.guard) ≡ first_untrue b bs
chosen_untrue bs a true h = h.either
chosen_untrue bs a false h = h.guard

-- the tests of a case, by what is gathered at its branches
pub arms_tests : (place : Span) (may : May) (bs : List (Judged × Judged)) (a : Arms) (b closed : Bool) (o : Option Span) → HasArms bs a → arms_fault may bs ≡ None → b ≡ is_boolean (case_own bs)
    → closed ≡ trees.is_closed [] (map (λ (e : Judged). e.tree) (guards bs)) → o ≡ (if b then a.either else a.guard)
    → first (tests_of_case place bs may ++ wide_at place (case_own bs) ∷ [])
    ≡ first (kind_at_place o ∷ fault_if (not closed) case_not_closed place ∷ wide_at place (case_own bs) ∷ [])
arms_tests place may bs a b closed o h none e c u =
    case_tests place may bs b none e
    ∙ ap (λ (t : Bool). first (kind_at_place (first_untrue b bs) ∷ fault_if (not t) case_not_closed place ∷ wide_at place (case_own bs) ∷ [])) (sym c)
    ∙ ap (λ (p : Option Span). first (kind_at_place p ∷ fault_if (not closed) case_not_closed place ∷ wide_at place (case_own bs) ∷ [])) (sym (u ∙ chosen_untrue bs a b h))

-- the tests of a set, by what is gathered at its members
pub members_tests : (place : Span) (may : May) (js : List Judged) (members : Members) (asks : Option walk.Asks) (b : Bool) → HasMembers js members → members_fault (part_may may) js ≡ None
    → b ≡ list_any (λ k. is_boolean (seen k)) members.kinds → asks ≡ (if b then Some walk.truth else None)
    → first (tests_of_set place js may ++ wide_at place (joined_kind (map (λ (j : Judged). j.own) js)) ∷ [])
    ≡ first (fault_if (not may.set) set_place place ∷ kind_told asks members.misfits ∷ wide_at place (joined_kind (map seen members.kinds)) ∷ [])
members_tests place may js members asks b h none e q =
    set_tests place may js members h none
    ∙ ap (λ (a : Option walk.Asks). first (fault_if (not may.set) set_place place ∷ kind_told a members.misfits ∷ wide_at place (joined_kind (map seen members.kinds)) ∷ [])) (sym (q ∙ ap (λ (t : Bool). if t then Some walk.truth else None) e))

-- the kind of the joined, by what is gathered
pub joined_of : (ks : List Made) (js : List Judged) (o : Option Made) (ls : List Made) → map seen ks ≡ map (λ (j : Judged). j.own) js → ls ≡ ks → IsKindOrWide o (joined_kind (map seen ls)) → IsKindOrWide o (joined_kind (map (λ (j : Judged). j.own) js))
joined_of ks js o ls h e w = subst (λ (z : List (Kind)). IsKindOrWide o (joined_kind z)) (ap (map seen) e ∙ h) w
