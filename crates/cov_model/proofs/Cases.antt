-- The claims for cases.
use Rattle.std.proofs.Common.{◌≡◌, ℕ, Bool, true, false, not, ◌&&◌, ◌||◌, if◌then◌else◌, IsTrue, IsFalse, ◌⊎◌, inl, inr, List, [], ◌∷◌, ◌++◌, map, Option, Some, None, refl, sym, ap, subst, ◌∙◌, arith}
use Rattle.std.specs.List.{list_any}
use Rattle.cov_syntax.specs.declared.tree.Span.{Span}
use Rattle.cov_syntax.specs.declared.fault.ModelFault.{ModelFault}
use Rattle.cov_syntax.specs.declared.tree.Value.{Value}
use Rattle.cov_syntax.specs.declared.tree.Value.TheVariants as v
use Rattle.cov_syntax.specs.declared.tree.Expr.{Expr, roll-Expr}
use Rattle.cov_syntax.specs.declared.tree.Branch.{Branch, roll-Branch}
use Rattle.cov_syntax.specs.declared.tree.Node.{Node, roll-Node}
use Rattle.cov_syntax.specs.declared.tree.Node.TheVariants as n
use Rattle.cov_syntax.specs.declared.tree.Node.TheOpen.{Node-F}
use Rattle.cov_model.specs.Values.{whole, machine, truth as truth_of}
use Rattle.cov_model.specs.Meaning as meaning
use Rattle.cov_model.specs.Meaning.{Point, Meaning, meaning_by, first_body, value}
use Rattle.cov_model.specs.Kinds.{Kind, boolean, interval, among, is_boolean, is_number, Kinds, of_kind, joined_kind}
use Rattle.cov_model.specs.Trees.{is_closed}
use Rattle.cov_model.specs.Walk.{first, fault_if, is_wide, May, Asks, truth, number, kind_fits, Judged, put, kind_fault, compound, judged, of_node, part_may, plain_may, bodies, guards, in_order, case_own, tests_of_case, branch_of, case_not_closed, range_too_wide}
use Rattle.cov_model.specs.Laws.{ReadsKinds, kind_in, Keeps}
use Rattle.cov_model.proofs.Tied.{Tied, first_none, first_none_left, first_none_right, no_fault, no_misfit, is_boolean-eq, Layer, injected, fits_where}
use Rattle.cov_model.proofs.Joins.{or_left, or_right, or_case}
use Rattle.cov_model.proofs.Joined.{joined_has, joined_boolean, joined_number, AllNumbers}
use Rattle.cov_model.proofs.Closed.{AllSettled, some_true, closed_true}
use Rattle.cov_model.proofs.Parts.{Claim, Part, owns, parts_fit, into_joined}

-- a guard and a body, each with what is claimed of it
abbrev pub Arm : Type 0
Arm = Part × Part

abbrev pub branches : List Arm → List Branch
branches xs = map (λ (x : Arm). branch_of x.0.0 x.1.0) xs

abbrev pub judged_arms : Kinds → List Arm → List (Judged × Judged)
judged_arms ks xs = map (λ (x : Arm). (judged ks x.0.0, judged ks x.1.0)) xs

abbrev pub meant_arms : (ks : Kinds) → List Arm → List (Meaning × Meaning)
meant_arms ks xs = map (λ (x : Arm). (meaning_by whole x.0.0, meaning_by whole x.1.0)) xs

abbrev pub made_arms : (ks : Kinds) → List Arm → List (Meaning × Meaning)
made_arms ks xs = map (λ (x : Arm). (meaning_by machine x.0.0, meaning_by machine x.1.0)) xs

abbrev guard_trees : List Arm → List Expr
guard_trees xs = map (λ (x : Arm). x.0.0) xs

-- ---- trees

same_guards : (ks : Kinds) (xs : List Arm) → map (λ (j : Judged). j.tree) (guards (judged_arms ks xs)) ≡ guard_trees xs
same_guards ks [] = refl
same_guards ks (x ∷ xs) = ap (λ (e : Expr). e ∷ map (λ (j : Judged). j.tree) (guards (judged_arms ks xs))) (x.0.1 ks).tree ∙ ap (λ (es : List Expr). x.0.0 ∷ es) (same_guards ks xs)

same_branches : (ks : Kinds) (xs : List Arm) → map (λ (b : Judged × Judged). branch_of b.0.tree b.1.tree) (judged_arms ks xs) ≡ branches xs
same_branches ks [] = refl
same_branches ks (x ∷ xs) =
    ap (λ (e : Expr). branch_of e (judged ks x.1.0).tree ∷ map (λ (b : Judged × Judged). branch_of b.0.tree b.1.tree) (judged_arms ks xs)) (x.0.1 ks).tree
    ∙ ap (λ (e : Expr). branch_of x.0.0 e ∷ map (λ (b : Judged × Judged). branch_of b.0.tree b.1.tree) (judged_arms ks xs)) (x.1.1 ks).tree
    ∙ ap (λ (bs : List Branch). branch_of x.0.0 x.1.0 ∷ bs) (same_branches ks xs)

-- ---- what the arms keep

abbrev AllKeep : Kinds → Bool → May → Point → List Arm → Type 0
AllKeep ks b may p [] = Unit {0}
AllKeep ks b may p (x ∷ xs) =
    Keeps boolean (plain_may may) (meaning_by whole x.0.0) (meaning_by machine x.0.0) p
    × (Keeps (kind_in b (judged ks x.1.0).own) (part_may may) (meaning_by whole x.1.0) (meaning_by machine x.1.0) p × AllKeep ks b may p xs)

abbrev fault_of : May → Judged × Bool → Option ModelFault
fault_of may x = x.0.fault (if x.1 then plain_may may else part_may may)

abbrev kind_of : Kind → Judged × Bool → Option ModelFault
kind_of own x = if x.1 || is_boolean own then kind_fault (Some truth) x.0 else None

settled_arms : (ks : Kinds) (b : Bool) (x : Arm) (xs : List Arm)
    → map (λ (c : Judged × Judged). branch_of (c.0.settled true) (c.1.settled b)) (judged_arms ks (x ∷ xs)) ≡ branches (x ∷ xs)
    → ((judged ks x.0.0).settled true ≡ x.0.0) × ((judged ks x.1.0).settled b ≡ x.1.0)
    × (map (λ (c : Judged × Judged). branch_of (c.0.settled true) (c.1.settled b)) (judged_arms ks xs) ≡ branches xs)
settled_arms ks b x xs s =
    let h : branch_of ((judged ks x.0.0).settled true) ((judged ks x.1.0).settled b) ≡ branch_of x.0.0 x.1.0 = cc in
    (ap (λ (c : Branch). c.guard) h, ap (λ (c : Branch). c.body) h, cc)

all_keep : (ks : Kinds) (b : Bool) (own : Kind) (may : May) (p : Point) (xs : List Arm)
    → first (map (fault_of may) (in_order (judged_arms ks xs))) ≡ None
    → first (map (kind_of own) (in_order (judged_arms ks xs))) ≡ None
    → (IsTrue b → first (map (λ (j : Judged). j.misfit truth) (bodies (judged_arms ks xs))) ≡ None)
    → map (λ (c : Judged × Judged). branch_of (c.0.settled true) (c.1.settled b)) (judged_arms ks xs) ≡ branches xs
    → ReadsKinds ks p.present → ReadsKinds ks p.next → AllKeep ks b may p xs
all_keep ks b own may p [] f k m s r r' = tt
all_keep ks b own may p (x ∷ xs) f k m s r r' =
    let js : List (Judged × Bool) = in_order (judged_arms ks xs) in
    let c = first_none ((judged ks x.0.0).fault (plain_may may)) ((judged ks x.1.0).fault (part_may may) ∷ map (fault_of may) js) f in
    let d = first_none ((judged ks x.1.0).fault (part_may may)) (map (fault_of may) js) c.1 in
    let g = first_none (kind_fault (Some truth) (judged ks x.0.0)) (kind_of own (judged ks x.1.0, false) ∷ map (kind_of own) js) k in
    let h = first_none (kind_of own (judged ks x.1.0, false)) (map (kind_of own) js) g.1 in
    let t = settled_arms ks b x xs s in (
      (x.0.1 ks).keeps (plain_may may) true p c.0 (λ u. no_misfit truth (judged ks x.0.0) g.0) t.0 r r',
      (
        (x.1.1 ks).keeps (part_may may) b p d.0 (λ u. (first_none ((judged ks x.1.0).misfit truth) (map (λ (j : Judged). j.misfit truth) (bodies (judged_arms ks xs))) (m u)).0) t.1 r r',
        all_keep ks b own may p xs d.1 h.1 (λ u. (first_none ((judged ks x.1.0).misfit truth) (map (λ (j : Judged). j.misfit truth) (bodies (judged_arms ks xs))) (m u)).1) t.2 r r',
      ),
    )

all_settled : (ks : Kinds) (b : Bool) (xs : List Arm)
    → map (λ (c : Judged × Judged). branch_of (c.0.settled true) (c.1.settled b)) (judged_arms ks xs) ≡ branches xs
    → AllSettled ks (guard_trees xs)
all_settled ks b [] s = tt
all_settled ks b (x ∷ xs) s = let t = settled_arms ks b x xs s in (t.0, all_settled ks b xs t.2)

-- ---- the first body

abbrev if_same : Bool → Bool → Type 0
if_same a b = a ≡ b

-- the machine goes into the same body
same_body : {A : Type 0} (ks : Kinds) (b : Bool) (may : May) (p : Point) (none : A) (of : Meaning → A) (xs : List Arm)
    → AllKeep ks b may p xs
    → ((x : Arm) → Keeps (kind_in b (judged ks x.1.0).own) (part_may may) (meaning_by whole x.1.0) (meaning_by machine x.1.0) p → of (meaning_by machine x.1.0) ≡ of (meaning_by whole x.1.0))
    → first_body of p none (made_arms ks xs) ≡ first_body of p none (meant_arms ks xs)
same_body ks b may p none of [] k h = refl
same_body ks b may p none of (x ∷ xs) k h =
    ap (λ (w : Value). if truth_of w then of (meaning_by machine x.1.0) else first_body of p none (made_arms ks xs)) k.0.same_value
    ∙ ap (λ (a : _). if truth_of ((meaning_by whole x.0.0).value p) then a else first_body of p none (made_arms ks xs)) (h x k.1.0)
    ∙ ap (λ (a : _). if truth_of ((meaning_by whole x.0.0).value p) then of (meaning_by whole x.1.0) else a) (same_body ks b may p none of xs k.1.1 h)

chosen : (ks : Kinds) (b : Bool) (may : May) (p : Point) (xs : List Arm) (x : Value) → AllKeep ks b may p xs
    → IsTrue (first_body (λ m. m.allows p x) p false (meant_arms ks xs))
    → IsTrue (list_any (λ (j : Judged). of_kind (kind_in b j.own) x) (bodies (judged_arms ks xs)))
chosen ks b may p [] x k h = h
chosen ks b may p (y ∷ ys) x k h = by (truth_of ((meaning_by whole y.0.0).value p)) h (chosen ks b may p ys x k.1.1)
  where
    by : (t : Bool) → IsTrue (if t then (meaning_by whole y.1.0).allows p x else first_body (λ m. m.allows p x) p false (meant_arms ks ys))
        → (IsTrue (first_body (λ m. m.allows p x) p false (meant_arms ks ys)) → IsTrue (list_any (λ (j : Judged). of_kind (kind_in b j.own) x) (bodies (judged_arms ks ys))))
        → IsTrue (list_any (λ (j : Judged). of_kind (kind_in b j.own) x) (bodies (judged_arms ks (y ∷ ys))))
    by true h f = or_left (of_kind (kind_in b (judged ks y.1.0).own) x) _ (k.1.0.choices x h)
    by false h f = or_right (of_kind (kind_in b (judged ks y.1.0).own) x) _ (f h)

valued : (ks : Kinds) (b : Bool) (may : May) (p : Point) (xs : List Arm) → AllKeep ks b may p xs → IsFalse may.set
    → IsTrue (some_true p (guard_trees xs))
    → IsTrue (list_any (λ (j : Judged). of_kind (kind_in b j.own) (first_body (λ m. m.value p) p (v.Bool false) (meant_arms ks xs))) (bodies (judged_arms ks xs)))
valued ks b may p [] k u h = cc
valued ks b may p (y ∷ ys) k u h = by (truth_of ((meaning_by whole y.0.0).value p)) h (valued ks b may p ys k.1.1 u)
  where
    by : (t : Bool) → IsTrue (t || some_true p (guard_trees ys))
        → (IsTrue (some_true p (guard_trees ys)) → IsTrue (list_any (λ (j : Judged). of_kind (kind_in b j.own) (first_body (λ m. m.value p) p (v.Bool false) (meant_arms ks ys))) (bodies (judged_arms ks ys))))
        → IsTrue (list_any (λ (j : Judged). of_kind (kind_in b j.own) (if t then (meaning_by whole y.1.0).value p else first_body (λ m. m.value p) p (v.Bool false) (meant_arms ks ys))) (bodies (judged_arms ks (y ∷ ys))))
    by true h f = or_left (of_kind (kind_in b (judged ks y.1.0).own) ((meaning_by whole y.1.0).value p)) _ (k.1.0.value_of u)
    by false h f = or_right (of_kind (kind_in b (judged ks y.1.0).own) (first_body (λ m. m.value p) p (v.Bool false) (meant_arms ks ys))) _ (f h)

-- ---- numbers

all_numbers : (ks : Kinds) (may : May) (xs : List Arm) → IsFalse may.set
    → first (map (fault_of may) (in_order (judged_arms ks xs))) ≡ None
    → first (map (λ (j : Judged). j.misfit number) (bodies (judged_arms ks xs))) ≡ None
    → AllNumbers (owns (bodies (judged_arms ks xs)))
all_numbers ks may [] u f m = tt
all_numbers ks may (x ∷ xs) u f m =
    let js : List (Judged × Bool) = in_order (judged_arms ks xs) in
    let c = first_none ((judged ks x.0.0).fault (plain_may may)) ((judged ks x.1.0).fault (part_may may) ∷ map (fault_of may) js) f in
    let d = first_none ((judged ks x.1.0).fault (part_may may)) (map (fault_of may) js) c.1 in
    let g = first_none ((judged ks x.1.0).misfit number) (map (λ (j : Judged). j.misfit number) (bodies (judged_arms ks xs))) m in
    ((x.1.1 ks).is_numeric (part_may may) d.0 u g.0, all_numbers ks may xs u d.1 g.1)

join_numbers : (ks : Kinds) (xs : List Arm) → IsTrue (is_closed [] (guard_trees xs)) → AllNumbers (owns (bodies (judged_arms ks xs))) → IsTrue (is_number (case_own (judged_arms ks xs)))
join_numbers ks [] c h = cc
join_numbers ks (x ∷ xs) c h = joined_number (judged ks x.1.0).own (owns (bodies (judged_arms ks xs))) h

-- ---- cases

-- where the case is Boolean, each body is in a Boolean place
bodies_asked : (own : Kind) (bs : List (Judged × Judged)) → is_boolean own ≡ true → first (map (kind_of own) (in_order bs)) ≡ None → first (map (λ (j : Judged). j.misfit truth) (bodies bs)) ≡ None
bodies_asked own [] e h = refl
bodies_asked own (b ∷ bs) e h =
    let js : List (Judged × Bool) = in_order bs in
    let g = first_none (kind_fault (Some truth) b.0) (kind_of own (b.1, false) ∷ map (kind_of own) js) h in
    let i = first_none (kind_of own (b.1, false)) (map (kind_of own) js) g.1 in
    let m : b.1.misfit truth ≡ None = no_misfit truth b.1 (subst (λ (t : Bool). (if t then kind_fault (Some truth) b.1 else None) ≡ None) e i.0) in
    rw m (bodies_asked own bs e i.1)

bodies_fit : (own : Kind) (bs : List (Judged × Judged)) (b : Bool)
    → (IsTrue b → (if is_boolean own then None else first (map (λ (j : Judged). j.misfit truth) (bodies bs))) ≡ None)
    → first (map (kind_of own) (in_order bs)) ≡ None
    → IsTrue (b || is_boolean own)
    → first (map (λ (j : Judged). j.misfit truth) (bodies bs)) ≡ None
bodies_fit own bs b m f h = by (is_boolean own) b refl m h
  where
    by : (t b : Bool) → is_boolean own ≡ t → (IsTrue b → (if t then None else first (map (λ (j : Judged). j.misfit truth) (bodies bs))) ≡ None) → IsTrue (b || t)
        → first (map (λ (j : Judged). j.misfit truth) (bodies bs)) ≡ None
    by true b e m h = bodies_asked own bs e f
    by false true e m h = m refl
    by false false e m h = cc

record CaseFaults (ks : Kinds) (may : May) (xs : List Arm) : Type 0 where
  inner : first (map (fault_of may) (in_order (judged_arms ks xs))) ≡ None
  asked : first (map (kind_of (case_own (judged_arms ks xs))) (in_order (judged_arms ks xs))) ≡ None
  closed : IsTrue (is_closed [] (guard_trees xs))

opened : (b : Bool) → not b ≡ false → IsTrue b
opened true h = refl
opened false h = cc

case_faults : (ks : Kinds) (place : Span) (may : May) (xs : List Arm) → (of_node ks (Node-F.Case (judged_arms ks xs)) place).fault may ≡ None → CaseFaults ks may xs
case_faults ks place may xs f =
    let bs : List (Judged × Judged) = judged_arms ks xs in
    let own : Kind = case_own bs in
    let closed : Option ModelFault = fault_if (not (is_closed [] (map (λ (e : Judged). e.tree) (guards bs)))) case_not_closed place in
    let faults : List (Option ModelFault) = map (fault_of may) (in_order bs) in
    let asks : List (Option ModelFault) = map (kind_of own) (in_order bs) in
    let a = first_none_left ((faults ++ asks) ++ (closed ∷ [])) (fault_if (is_wide own) range_too_wide place ∷ []) f in
    let b = first_none_left (faults ++ asks) (closed ∷ []) a in
    let c = first_none closed [] (first_none_right (faults ++ asks) (closed ∷ []) a) in
    record {
      inner = first_none_left faults asks b;
      asked = first_none_right faults asks b;
      closed = subst (λ (es : List Expr). IsTrue (is_closed [] es)) (same_guards ks xs)
          (opened (is_closed [] (map (λ (e : Judged). e.tree) (guards bs))) (no_fault (not (is_closed [] (map (λ (e : Judged). e.tree) (guards bs)))) case_not_closed place c.0));
    }

misfit_numbers : (k : Kind) (o : Option Span) → (if kind_fits number k then None else o) ≡ None → IsTrue (is_number k) ⊎ (o ≡ None)
misfit_numbers boolean o h = inr h
misfit_numbers (interval a b) o h = inl refl
misfit_numbers (among xs) o h = inr h

pub tied_case : (ks : Kinds) (place : Span) (xs : List Arm)
    → Tied ks (of_node ks (Node-F.Case (judged_arms ks xs)) place) (meaning.of_node whole (Node-F.Case (meant_arms ks xs))) (meaning.of_node machine (Node-F.Case (made_arms ks xs))) (put place (roll-Node (Node-F.Case (branches xs))))
tied_case ks place xs = record {
  tree = ap (λ (bs : List Branch). put place (n.Case bs)) (same_branches ks xs) ∙ ap (put place) (sym (n.rolls-Case (branches xs)));
  is_numeric = λ may f u q.
      let g = case_faults ks place may xs f in
      elim (misfit_numbers (case_own (judged_arms ks xs)) (first (map (λ (j : Judged). j.misfit number) (bodies (judged_arms ks xs)))) q) [
        | inl h ↦ h
        | inr h ↦ join_numbers ks xs g.closed (all_numbers ks may xs u g.inner h)
      ];
  keeps = λ may b p f mis s r r'.
      let bs : List (Judged × Judged) = judged_arms ks xs in
      let own : Kind = case_own bs in
      let c : Bool = b || is_boolean own in
      let g = case_faults ks place may xs f in
      let cs : List Branch = map (λ (d : Judged × Judged). branch_of (d.0.settled true) (d.1.settled c)) bs in
      let e : Node-F.Case cs ≡ Node-F.Case (branches xs) = injected (n.Case cs) (Node-F.Case cs) (Node-F.Case (branches xs)) place (n.rolls-Case cs) s in
      let sett : cs ≡ branches xs = cc in
      let k = all_keep ks c own may p xs g.inner g.asked (bodies_fit own bs b mis g.asked) sett r r' in
      record {
        choices = λ x q. into_joined (bodies bs) b x (chosen ks c may p xs x k q);
        value_of = λ u. into_joined (bodies bs) b (first_body (λ m. m.value p) p (v.Bool false) (meant_arms ks xs))
            (valued ks c may p xs k u (closed_true ks p (guard_trees xs) (all_settled ks c xs sett) g.closed));
        same_choices = λ x. same_body ks c may p false (λ m. m.allows p x) xs k (λ y h. h.same_choices x);
        same_value = same_body ks c may p (v.Bool false) (λ m. m.value p) xs k (λ y h. h.same_value);
      };
}
