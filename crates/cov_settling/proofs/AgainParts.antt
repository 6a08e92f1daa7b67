-- What the walk finds at a settled set, `union` or case.
use Rattle.std.proofs.Common.{◌≡◌, Bool, true, false, not, ◌||◌, if◌then◌else◌, IsTrue, List, [], ◌∷◌, ◌++◌, map, Option, Some, None, refl, sym, ap, subst, ◌∙◌}
use Rattle.std.specs.List.{list_any}
use Rattle.cov_syntax.specs.declared.tree.Span.{Span}
use Rattle.cov_syntax.specs.declared.fault.ModelFault.{ModelFault}
use Rattle.cov_syntax.specs.declared.tree.Expr.{Expr}
use Rattle.cov_syntax.specs.declared.tree.Branch.{Branch}
use Rattle.cov_syntax.specs.declared.tree.Node.{Node}
use Rattle.cov_syntax.specs.declared.tree.Node.TheVariants as n
use Rattle.cov_syntax.specs.declared.tree.Node.TheFolds.{fold-roll-Branch}
use Rattle.cov_model.specs.Kinds.{Kind, boolean, is_boolean, Kinds, join_all, joined_kind}
use Rattle.cov_model.specs.Trees.{is_closed}
use Rattle.cov_model.specs.Walk as walk
use Rattle.cov_model.specs.Walk.{first, fault_if, is_wide, May, Asks, truth, kind_fits, Judged, put, kind_fault, compound, judged, own, part_may, plain_may, bodies, guards, in_order, case_own, tests_of_set, tests_of_case, branch_of, set_place, case_not_closed, range_too_wide}
use Rattle.cov_model.specs.Settled.{settled}
use Rattle.cov_model.specs.Laws.{kind_in}
use Rattle.cov_model.proofs.Tied.{first_none, first_none_left, first_none_right, no_misfit, is_boolean-eq}
use Rattle.cov_model.proofs.Closed.{judged_branch}
use Rattle.cov_model.proofs.Parts.{owns, parts_fit}
use Rattle.cov_model.proofs.Law.{law}
use Rattle.cov_settling.proofs.Again.{Again, Stays, first_of, first_both, no_kind_fault, wide_again, again}
use Rattle.cov_settling.proofs.Closing.{closed_again}

-- ---- joined kinds

all_boolean : (ks : List Kind) → joined_kind (map (kind_in true) ks) ≡ boolean
all_boolean [] = refl
all_boolean (k ∷ ks) = refl

all_same : (ks : List Kind) → map (kind_in false) ks ≡ ks
all_same [] = refl
all_same (k ∷ ks) = ap (λ (ls : List Kind). k ∷ ls) (all_same ks)

joined_again : (ks : List Kind) (b : Bool) → joined_kind (map (kind_in (b || is_boolean (joined_kind ks))) ks) ≡ kind_in b (joined_kind ks)
joined_again ks b = by b (is_boolean (joined_kind ks)) refl
  where
    by : (b c : Bool) → is_boolean (joined_kind ks) ≡ c → joined_kind (map (kind_in (b || c)) ks) ≡ kind_in b (joined_kind ks)
    by true c e = all_boolean ks
    by false true e = all_boolean ks ∙ sym (is_boolean-eq (joined_kind ks) e)
    by false false e = ap joined_kind (all_same ks)

none_boolean : (ks : List Kind) → is_boolean (joined_kind ks) ≡ false → list_any is_boolean ks ≡ false
none_boolean [] h = refl
none_boolean (k ∷ ks) h = by (list_any is_boolean (k ∷ ks)) h
  where
    by : (c : Bool) → is_boolean (if c then boolean else join_all k ks) ≡ false → c ≡ false
    by true h = cc
    by false h = refl

or_again : (b : Bool) (k l : Kind) → l ≡ kind_in b k → (b || is_boolean l) ≡ (b || is_boolean k)
or_again true k l h = refl
or_again false k l h = ap is_boolean h

any_own : (js : List Judged) → list_any is_boolean (owns js) ≡ list_any (λ (j : Judged). is_boolean j.own) js
any_own [] = refl
any_own (j ∷ js) = ap (λ (b : Bool). is_boolean j.own || b) (any_own js)

-- ---- parts

abbrev AllAgain : May → Bool → List Judged → List Judged → Type 0
AllAgain may t [] [] = Unit {0}
AllAgain may t [] (l ∷ ls) = ⊥
AllAgain may t (j ∷ js) [] = ⊥
AllAgain may t (j ∷ js) (l ∷ ls) = Again may t j l × AllAgain may t js ls

again_owns : (may : May) (t : Bool) (js ls : List Judged) → AllAgain may t js ls → owns ls ≡ map (kind_in t) (owns js)
again_owns may t [] [] h = refl
again_owns may t [] (l ∷ ls) h = absurd h
again_owns may t (j ∷ js) [] h = absurd h
again_owns may t (j ∷ js) (l ∷ ls) h = ap (λ (k : Kind). k ∷ owns ls) h.0.own ∙ ap (λ (ks : List Kind). kind_in t j.own ∷ ks) (again_owns may t js ls h.1)

again_faults : (may : May) (t : Bool) (js ls : List Judged) → AllAgain may t js ls → first (map (λ (j : Judged). j.fault may) ls) ≡ None
again_faults may t [] [] h = refl
again_faults may t [] (l ∷ ls) h = absurd h
again_faults may t (j ∷ js) [] h = absurd h
again_faults may t (j ∷ js) (l ∷ ls) h = first_of (l.fault may) (map (λ (j : Judged). j.fault may) ls) h.0.fault (again_faults may t js ls h.1)

again_fits : (may : May) (js ls : List Judged) → AllAgain may true js ls → first (map (kind_fault (Some truth)) ls) ≡ None
again_fits may [] [] h = refl
again_fits may [] (l ∷ ls) h = absurd h
again_fits may (j ∷ js) [] h = absurd h
again_fits may (j ∷ js) (l ∷ ls) h = first_of (kind_fault (Some truth) l) (map (kind_fault (Some truth)) ls) (no_kind_fault truth l (h.0.fits refl)) (again_fits may js ls h.1)

again_twice : (may : May) (t : Bool) (js ls : List Judged) → AllAgain may t js ls → map (λ (j : Judged). j.settled t) ls ≡ map (λ (j : Judged). j.settled t) js
again_twice may t [] [] h = refl
again_twice may t [] (l ∷ ls) h = absurd h
again_twice may t (j ∷ js) [] h = absurd h
again_twice may t (j ∷ js) (l ∷ ls) h =
    ap (λ (e : Expr). e ∷ map (λ (j : Judged). j.settled t) ls) h.0.twice ∙ ap (λ (es : List Expr). j.settled t ∷ es) (again_twice may t js ls h.1)

again_kinds : (may : May) (t : Bool) (js ls : List Judged) → AllAgain may t js ls → (t ≡ false → list_any (λ (j : Judged). is_boolean j.own) ls ≡ false)
    → first (if list_any (λ (j : Judged). is_boolean j.own) ls then map (kind_fault (Some truth)) ls else []) ≡ None
again_kinds may true js ls h n = by (list_any (λ (j : Judged). is_boolean j.own) ls)
  where
    by : (c : Bool) → first (if c then map (kind_fault (Some truth)) ls else []) ≡ None
    by true = again_fits may js ls h
    by false = refl
again_kinds may false js ls h n = ap (λ (c : Bool). first (if c then map (kind_fault (Some truth)) ls else [])) (n refl)

not_second : (b c : Bool) → (b || c) ≡ false → c ≡ false
not_second true c h = cc
not_second false c h = h

-- ---- sets and unions

module _ (ks : Kinds) where
  -- an expression that stays
  abbrev pub Part : Type 0
  Part = (e : Expr) × Stays ks (judged ks e)

  abbrev pub exprs : List Part → List Expr
  exprs xs = map (λ (x : Part). x.0) xs

  abbrev pub found_at : List Part → List Judged
  found_at xs = map (judged ks) (exprs xs)

  abbrev pub found_again : Bool → List Part → List Judged
  found_again t xs = map (judged ks) (map (λ (j : Judged). j.settled t) (found_at xs))

  all_again : (may : May) (t : Bool) (xs : List Part) → first (map (λ (j : Judged). j.fault may) (found_at xs)) ≡ None
      → (IsTrue t → first (map (λ (j : Judged). j.misfit truth) (found_at xs)) ≡ None) → AllAgain may t (found_at xs) (found_again t xs)
  all_again may t [] f m = tt
  all_again may t (x ∷ xs) f m =
      let j : Judged = judged ks x.0 in
      let c = first_none (j.fault may) (map (λ (j : Judged). j.fault may) (found_at xs)) f in (
        x.1 may t c.0 (λ u. (first_none (j.misfit truth) (map (λ (j : Judged). j.misfit truth) (found_at xs)) (m u)).0),
        all_again may t xs c.1 (λ u. (first_none (j.misfit truth) (map (λ (j : Judged). j.misfit truth) (found_at xs)) (m u)).1),
      )

  abbrev set_at : Span → Node → List Judged → (Bool → Node) → Judged
  set_at place m js sett = compound place m (joined_kind (owns js)) js (tests_of_set place js) sett

  record SetParts (place : Span) (js : List Judged) (may : May) : Type 0 where
    parts : first (map (λ (j : Judged). j.fault (part_may may)) js) ≡ None
    place_of : fault_if (not may.set) set_place place ≡ None
    kinds : first (if list_any (λ (j : Judged). is_boolean j.own) js then map (kind_fault (Some truth)) js else []) ≡ None
    wide : fault_if (is_wide (joined_kind (owns js))) range_too_wide place ≡ None

  set_parts : (place : Span) (m : Node) (js : List Judged) (sett : Bool → Node) (may : May) → (set_at place m js sett).fault may ≡ None → SetParts place js may
  set_parts place m js sett may f =
      let w : List (Option ModelFault) = fault_if (is_wide (joined_kind (owns js))) range_too_wide place ∷ [] in
      let fs : List (Option ModelFault) = map (λ (j : Judged). j.fault (part_may may)) js in
      let s : Option ModelFault = fault_if (not may.set) set_place place in
      let r : List (Option ModelFault) = if list_any (λ (j : Judged). is_boolean j.own) js then map (kind_fault (Some truth)) js else [] in
      let a = first_none_left (tests_of_set place js may) w f in
      let b = first_none s r (first_none_right fs (s ∷ r) a) in
      record { parts = first_none_left fs (s ∷ r) a; place_of = b.0; kinds = b.1; wide = (first_none (fault_if (is_wide (joined_kind (owns js))) range_too_wide place) [] (first_none_right (tests_of_set place js may) w f)).0 }

  set_tests : (place : Span) (m : Node) (js : List Judged) (sett : Bool → Node) (may : May) → SetParts place js may → (set_at place m js sett).fault may ≡ None
  set_tests place m js sett may p =
      let w : List (Option ModelFault) = fault_if (is_wide (joined_kind (owns js))) range_too_wide place ∷ [] in
      let fs : List (Option ModelFault) = map (λ (j : Judged). j.fault (part_may may)) js in
      let s : Option ModelFault = fault_if (not may.set) set_place place in
      let r : List (Option ModelFault) = if list_any (λ (j : Judged). is_boolean j.own) js then map (kind_fault (Some truth)) js else [] in
      first_both (tests_of_set place js may) w (first_both fs (s ∷ r) p.parts (first_of s r p.place_of p.kinds)) (first_of (fault_if (is_wide (joined_kind (owns js))) range_too_wide place) [] p.wide refl)

  pub set_stays : (place : Span) (m : Node) (xs : List Part) (sett : Bool → Node) (m2 : Bool → Node) (sett2 : Bool → Bool → Node)
      → ((t : Bool) → judged ks (put place (sett t)) ≡ set_at place (m2 t) (found_again t xs) (sett2 t))
      → ((t : Bool) → map (λ (j : Judged). j.settled t) (found_again t xs) ≡ map (λ (j : Judged). j.settled t) (found_at xs) → sett2 t t ≡ sett t)
      → Stays ks (set_at place m (found_at xs) sett)
  set_stays place m xs sett m2 sett2 found same may b f g =
      let js : List Judged = found_at xs in
      let k : Kind = joined_kind (owns js) in
      let t : Bool = b || is_boolean k in
      let ls : List Judged = found_again t xs in
      let p = set_parts place m js sett may f in
      let h : AllAgain (part_may may) t js ls = all_again (part_may may) t xs p.parts (parts_fit js b g p.kinds) in
      let o : owns ls ≡ map (kind_in t) (owns js) = again_owns (part_may may) t js ls h in
      let e : joined_kind (owns ls) ≡ kind_in b k = ap joined_kind o ∙ joined_again (owns js) b in
      let none : t ≡ false → list_any (λ (j : Judged). is_boolean j.own) ls ≡ false
      = λ u. sym (any_own ls) ∙ ap (list_any is_boolean) (o ∙ ap (λ (c : Bool). map (kind_in c) (owns js)) u ∙ all_same (owns js)) ∙ none_boolean (owns js) (not_second b (is_boolean k) u) in
      again ks may b (set_at place m js sett) (set_at place (m2 t) ls (sett2 t)) (put place (sett t)) (found t) e
      (set_tests place (m2 t) ls (sett2 t) may (record {
        parts = again_faults (part_may may) t js ls h;
        place_of = p.place_of;
        kinds = again_kinds (part_may may) t js ls h none;
        wide = wide_again b k (joined_kind (owns ls)) place e p.wide;
      }))
      (ap (λ (c : Bool). put place (sett2 t c)) (or_again b k (joined_kind (owns ls)) e) ∙ ap (put place) (same t (again_twice (part_may may) t js ls h)))

  -- ---- cases

  abbrev pub Arm : Type 0
  Arm = Judged × Judged

  abbrev pub BranchStays : Branch → Type 0
  BranchStays b = Stays ks (judged_branch ks b).0 × Stays ks (judged_branch ks b).1

  -- a branch whose guard and body stay
  abbrev pub ArmPart : Type 0
  ArmPart = (b : Branch) × BranchStays b

  abbrev pub branches : List ArmPart → List Branch
  branches xs = map (λ (x : ArmPart). x.0) xs

  abbrev pub arms_at : List ArmPart → List Arm
  arms_at xs = map (judged_branch ks) (branches xs)

  abbrev settled_arm : Bool → Arm → Branch
  settled_arm t a = branch_of (a.0.settled true) (a.1.settled t)

  abbrev arm_again : Bool → Arm → Arm
  arm_again t a = (judged ks (a.0.settled true), judged ks (a.1.settled t))

  branch_at : (b : Branch) → judged_branch ks b ≡ (judged ks b.guard, judged ks b.body)
  branch_at b = fold-roll-Branch (Span → Judged) (Judged × Judged) Judged (walk.of_node ks) (λ c. (c.guard, c.body)) (λ e. e.node e.place) (record { guard = b.guard; body = b.body })

  arms_found : (t : Bool) (as' : List Arm) → map (judged_branch ks) (map (settled_arm t) as') ≡ map (arm_again t) as'
  arms_found t [] = refl
  arms_found t (a ∷ as') = ap (λ (x : Arm). x ∷ map (judged_branch ks) (map (settled_arm t) as')) (branch_at (settled_arm t a)) ∙ ap (λ (xs : List Arm). arm_again t a ∷ xs) (arms_found t as')

  abbrev ArmsAgain : May → Bool → List Arm → List Arm → Type 0
  ArmsAgain may t [] [] = Unit {0}
  ArmsAgain may t [] (l ∷ ls) = ⊥
  ArmsAgain may t (j ∷ js) [] = ⊥
  ArmsAgain may t (j ∷ js) (l ∷ ls) = Again (plain_may may) true j.0 l.0 × Again (part_may may) t j.1 l.1 × ArmsAgain may t js ls

  abbrev fault_of : May → Judged × Bool → Option ModelFault
  fault_of may x = x.0.fault (if x.1 then plain_may may else part_may may)

  abbrev kind_of : Kind → Judged × Bool → Option ModelFault
  kind_of k x = if x.1 || is_boolean k then kind_fault (Some truth) x.0 else None

  arms_again : (may : May) (t : Bool) (k : Kind) (xs : List ArmPart) → first (map (fault_of may) (in_order (arms_at xs))) ≡ None → first (map (kind_of k) (in_order (arms_at xs))) ≡ None
      → (IsTrue t → first (map (λ (j : Judged). j.misfit truth) (bodies (arms_at xs))) ≡ None) → ArmsAgain may t (arms_at xs) (map (arm_again t) (arms_at xs))
  arms_again may t k [] f q m = tt
  arms_again may t k (x ∷ xs) f q m =
      let a : Arm = judged_branch ks x.0 in
      let js : List (Judged × Bool) = in_order (arms_at xs) in
      let c = first_none (a.0.fault (plain_may may)) (a.1.fault (part_may may) ∷ map (fault_of may) js) f in
      let d = first_none (a.1.fault (part_may may)) (map (fault_of may) js) c.1 in
      let g = first_none (kind_fault (Some truth) a.0) (kind_of k (a.1, false) ∷ map (kind_of k) js) q in
      let h = first_none (kind_of k (a.1, false)) (map (kind_of k) js) g.1 in (
        x.1.0 (plain_may may) true c.0 (λ u. no_misfit truth a.0 g.0),
        x.1.1 (part_may may) t d.0 (λ u. (first_none (a.1.misfit truth) (map (λ (j : Judged). j.misfit truth) (bodies (arms_at xs))) (m u)).0),
        arms_again may t k xs d.1 h.1 (λ u. (first_none (a.1.misfit truth) (map (λ (j : Judged). j.misfit truth) (bodies (arms_at xs))) (m u)).1),
      )

  bodies_fit : (k : Kind) (as' : List Arm) → is_boolean k ≡ true → first (map (kind_of k) (in_order as')) ≡ None → first (map (λ (j : Judged). j.misfit truth) (bodies as')) ≡ None
  bodies_fit k [] e q = refl
  bodies_fit k (a ∷ as') e q =
      let js : List (Judged × Bool) = in_order as' in
      let g = first_none (kind_fault (Some truth) a.0) (kind_of k (a.1, false) ∷ map (kind_of k) js) q in
      let h = first_none (kind_of k (a.1, false)) (map (kind_of k) js) g.1 in
      first_of (a.1.misfit truth) (map (λ (j : Judged). j.misfit truth) (bodies as')) (no_misfit truth a.1 (subst (λ (c : Bool). (if c then kind_fault (Some truth) a.1 else None) ≡ None) e h.0)) (bodies_fit k as' e h.1)

  arms_fit : (as' : List Arm) (b : Bool) → (IsTrue b → (if is_boolean (case_own as') then None else first (map (λ (j : Judged). j.misfit truth) (bodies as'))) ≡ None)
      → first (map (kind_of (case_own as')) (in_order as')) ≡ None → IsTrue (b || is_boolean (case_own as')) → first (map (λ (j : Judged). j.misfit truth) (bodies as')) ≡ None
  arms_fit as' b m q = by b (is_boolean (case_own as')) refl m
    where
      by : (b c : Bool) → is_boolean (case_own as') ≡ c → (IsTrue b → (if c then None else first (map (λ (j : Judged). j.misfit truth) (bodies as'))) ≡ None) → IsTrue (b || c) → first (map (λ (j : Judged). j.misfit truth) (bodies as')) ≡ None
      by b true e m u = bodies_fit (case_own as') as' e q
      by true false e m u = m refl
      by false false e m u = cc

  arms_owns : (may : May) (t : Bool) (js ls : List Arm) → ArmsAgain may t js ls → owns (bodies ls) ≡ map (kind_in t) (owns (bodies js))
  arms_owns may t [] [] h = refl
  arms_owns may t [] (l ∷ ls) h = absurd h
  arms_owns may t (j ∷ js) [] h = absurd h
  arms_owns may t (j ∷ js) (l ∷ ls) h = ap (λ (k : Kind). k ∷ owns (bodies ls)) h.1.own ∙ ap (λ (ks : List Kind). kind_in t j.1.own ∷ ks) (arms_owns may t js ls h.2)

  arms_faults : (may : May) (t : Bool) (js ls : List Arm) → ArmsAgain may t js ls → first (map (fault_of may) (in_order ls)) ≡ None
  arms_faults may t [] [] h = refl
  arms_faults may t [] (l ∷ ls) h = absurd h
  arms_faults may t (j ∷ js) [] h = absurd h
  arms_faults may t (j ∷ js) (l ∷ ls) h =
      first_of (l.0.fault (plain_may may)) (l.1.fault (part_may may) ∷ map (fault_of may) (in_order ls)) h.0.fault
      (first_of (l.1.fault (part_may may)) (map (fault_of may) (in_order ls)) h.1.fault (arms_faults may t js ls h.2))

  body_kind : (c t : Bool) (l : Judged) → (IsTrue c → IsTrue t) → (IsTrue t → l.misfit truth ≡ None) → (if c then kind_fault (Some truth) l else None) ≡ None
  body_kind true t l u m = no_kind_fault truth l (m (u refl))
  body_kind false t l u m = refl

  arms_kinds : (may : May) (t : Bool) (k : Kind) (js ls : List Arm) → (IsTrue (is_boolean k) → IsTrue t) → ArmsAgain may t js ls → first (map (kind_of k) (in_order ls)) ≡ None
  arms_kinds may t k [] [] u h = refl
  arms_kinds may t k [] (l ∷ ls) u h = absurd h
  arms_kinds may t k (j ∷ js) [] u h = absurd h
  arms_kinds may t k (j ∷ js) (l ∷ ls) u h =
      first_of (kind_fault (Some truth) l.0) (kind_of k (l.1, false) ∷ map (kind_of k) (in_order ls)) (no_kind_fault truth l.0 (h.0.fits refl))
      (first_of (kind_of k (l.1, false)) (map (kind_of k) (in_order ls)) (body_kind (is_boolean k) t l.1 u h.1.fits) (arms_kinds may t k js ls u h.2))

  arms_twice : (may : May) (t : Bool) (js ls : List Arm) → ArmsAgain may t js ls → map (settled_arm t) ls ≡ map (settled_arm t) js
  arms_twice may t [] [] h = refl
  arms_twice may t [] (l ∷ ls) h = absurd h
  arms_twice may t (j ∷ js) [] h = absurd h
  arms_twice may t (j ∷ js) (l ∷ ls) h =
      ap (λ (e : Expr). branch_of e (l.1.settled t) ∷ map (settled_arm t) ls) h.0.twice
      ∙ ap (λ (e : Expr). branch_of (j.0.settled true) e ∷ map (settled_arm t) ls) h.1.twice
      ∙ ap (λ (bs : List Branch). settled_arm t j ∷ bs) (arms_twice may t js ls h.2)

  guard_exprs : (bs : List Branch) → map (λ (j : Judged). j.tree) (guards (map (judged_branch ks) bs)) ≡ map (λ (b : Branch). b.guard) bs
  guard_exprs [] = refl
  guard_exprs (b ∷ bs) =
      ap (λ (a : Arm). a.0.tree ∷ map (λ (j : Judged). j.tree) (guards (map (judged_branch ks) bs))) (branch_at b)
      ∙ ap (λ (e : Expr). e ∷ map (λ (j : Judged). j.tree) (guards (map (judged_branch ks) bs))) (law b.guard ks).tree
      ∙ ap (λ (es : List Expr). b.guard ∷ es) (guard_exprs bs)

  guards_again : (t : Bool) (bs : List Branch) → map (λ (j : Judged). j.tree) (guards (map (arm_again t) (map (judged_branch ks) bs))) ≡ map (settled ks true) (map (λ (b : Branch). b.guard) bs)
  guards_again t [] = refl
  guards_again t (b ∷ bs) =
      let rest : List Expr = map (λ (j : Judged). j.tree) (guards (map (arm_again t) (map (judged_branch ks) bs))) in
      ap (λ (a : Arm). (judged ks (a.0.settled true)).tree ∷ rest) (branch_at b)
      ∙ ap (λ (e : Expr). e ∷ rest) (law (settled ks true b.guard) ks).tree
      ∙ ap (λ (es : List Expr). settled ks true b.guard ∷ es) (guards_again t bs)

  not_closed : (c : Bool) (place : Span) → fault_if (not c) case_not_closed place ≡ None → c ≡ true
  not_closed true place h = refl
  not_closed false place h = cc

  closes : (place : Span) (t : Bool) (bs : List Branch) → fault_if (not (is_closed [] (map (λ (j : Judged). j.tree) (guards (map (judged_branch ks) bs))))) case_not_closed place ≡ None
      → fault_if (not (is_closed [] (map (λ (j : Judged). j.tree) (guards (map (arm_again t) (map (judged_branch ks) bs)))))) case_not_closed place ≡ None
  closes place t bs h =
      let gs : List Expr = map (λ (b : Branch). b.guard) bs in
      let c : is_closed [] gs ≡ true = sym (ap (is_closed []) (guard_exprs bs)) ∙ not_closed (is_closed [] (map (λ (j : Judged). j.tree) (guards (map (judged_branch ks) bs)))) place h in
      ap (λ (b : Bool). fault_if (not b) case_not_closed place) (ap (is_closed []) (guards_again t bs) ∙ closed_again ks [] gs c)

  abbrev case_at : Span → Node → List Arm → Judged
  case_at place m as' = compound place m (case_own as') (bodies as') (tests_of_case place as') (λ t. n.Case (map (settled_arm t) as'))

  record CaseParts (place : Span) (as' : List Arm) (may : May) : Type 0 where
    parts : first (map (fault_of may) (in_order as')) ≡ None
    kinds : first (map (kind_of (case_own as')) (in_order as')) ≡ None
    closed : fault_if (not (is_closed [] (map (λ (j : Judged). j.tree) (guards as')))) case_not_closed place ≡ None
    wide : fault_if (is_wide (case_own as')) range_too_wide place ≡ None

  case_parts : (place : Span) (m : Node) (as' : List Arm) (may : May) → (case_at place m as').fault may ≡ None → CaseParts place as' may
  case_parts place m as' may f =
      let w : Option ModelFault = fault_if (is_wide (case_own as')) range_too_wide place in
      let fs : List (Option ModelFault) = map (fault_of may) (in_order as') in
      let qs : List (Option ModelFault) = map (kind_of (case_own as')) (in_order as') in
      let c : Option ModelFault = fault_if (not (is_closed [] (map (λ (j : Judged). j.tree) (guards as')))) case_not_closed place in
      let a = first_none_left (tests_of_case place as' may) (w ∷ []) f in
      let r = first_none_left (fs ++ qs) (c ∷ []) a in
      record { parts = first_none_left fs qs r; kinds = first_none_right fs qs r; closed = (first_none c [] (first_none_right (fs ++ qs) (c ∷ []) a)).0; wide = (first_none w [] (first_none_right (tests_of_case place as' may) (w ∷ []) f)).0 }

  case_tests : (place : Span) (m : Node) (as' : List Arm) (may : May) → CaseParts place as' may → (case_at place m as').fault may ≡ None
  case_tests place m as' may p =
      let w : Option ModelFault = fault_if (is_wide (case_own as')) range_too_wide place in
      let fs : List (Option ModelFault) = map (fault_of may) (in_order as') in
      let qs : List (Option ModelFault) = map (kind_of (case_own as')) (in_order as') in
      let c : Option ModelFault = fault_if (not (is_closed [] (map (λ (j : Judged). j.tree) (guards as')))) case_not_closed place in
      first_both (tests_of_case place as' may) (w ∷ []) (first_both (fs ++ qs) (c ∷ []) (first_both fs qs p.parts p.kinds) (first_of c [] p.closed refl)) (first_of w [] p.wide refl)

  or_of : (b : Bool) (k l : Kind) → l ≡ kind_in b k → IsTrue (is_boolean l) → IsTrue (b || is_boolean k)
  or_of true k l h u = refl
  or_of false k l h u = ap is_boolean (sym h) ∙ u

  pub case_stays : (place : Span) (m : Node) (xs : List ArmPart) (m2 : List Arm → Node)
      → ((bs : List Branch) → judged ks (put place (n.Case bs)) ≡ case_at place (m2 (map (judged_branch ks) bs)) (map (judged_branch ks) bs))
      → Stays ks (case_at place m (arms_at xs))
  case_stays place m xs m2 found may b f g =
      let js : List Arm = arms_at xs in
      let k : Kind = case_own js in
      let t : Bool = b || is_boolean k in
      let ls : List Arm = map (arm_again t) js in
      let p = case_parts place m js may f in
      let h : ArmsAgain may t js ls = arms_again may t k xs p.parts p.kinds (arms_fit js b g p.kinds) in
      let e : case_own ls ≡ kind_in b k = ap joined_kind (arms_owns may t js ls h) ∙ joined_again (owns (bodies js)) b in
      again ks may b (case_at place m js) (case_at place (m2 ls) ls) (put place (n.Case (map (settled_arm t) js)))
      (found (map (settled_arm t) js) ∙ ap (λ (as' : List Arm). case_at place (m2 as') as') (arms_found t js)) e
      (case_tests place (m2 ls) ls may (record {
        parts = arms_faults may t js ls h;
        kinds = arms_kinds may t (case_own ls) js ls (or_of b k (case_own ls) e) h;
        closed = closes place t (branches xs) p.closed;
        wide = wide_again b k (case_own ls) place e p.wide;
      }))
      (ap (λ (c : Bool). put place (n.Case (map (settled_arm c) ls))) (or_again b k (case_own ls) e) ∙ ap (λ (bs : List Branch). put place (n.Case bs)) (arms_twice may t js ls h))
