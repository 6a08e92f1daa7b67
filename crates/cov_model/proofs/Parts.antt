-- The claims for sets and unions.
use Rattle.std.proofs.Common.{◌≡◌, ℕ, Bool, true, false, not, ◌&&◌, ◌||◌, if◌then◌else◌, IsTrue, IsFalse, ◌⊎◌, inl, inr, List, [], ◌∷◌, ◌++◌, map, Option, Some, None, refl, sym, ap, subst, ◌∙◌, arith}
use Rattle.std.specs.List.{list_any}
use Rattle.cov_syntax.specs.declared.tree.Span.{Span}
use Rattle.cov_syntax.specs.declared.fault.ModelFault.{ModelFault}
use Rattle.cov_syntax.specs.declared.tree.Value.{Value}
use Rattle.cov_syntax.specs.declared.tree.Value.TheVariants as v
use Rattle.cov_syntax.specs.declared.tree.Op2.TheVariants as op2
use Rattle.cov_syntax.specs.declared.tree.Expr.{Expr, roll-Expr}
use Rattle.cov_syntax.specs.declared.tree.Node.{Node, roll-Node}
use Rattle.cov_syntax.specs.declared.tree.Node.TheVariants as n
use Rattle.cov_syntax.specs.declared.tree.Node.TheOpen.{Node-F}
use Rattle.cov_model.specs.Values.{whole, machine}
use Rattle.cov_model.specs.Meaning as meaning
use Rattle.cov_model.specs.Meaning.{Point, Meaning, choices, meaning_by}
use Rattle.cov_model.specs.Kinds.{Kind, boolean, interval, among, is_boolean, is_number, Kinds, of_kind, joined_kind}
use Rattle.cov_model.specs.Walk.{first, fault_if, is_wide, May, Asks, truth, number, kind_fits, Judged, put, kind_fault, compound, judged, of_node, part_may, tests_of_set, set_place, range_too_wide}
use Rattle.cov_model.specs.Laws.{ReadsKinds, kind_in, Keeps}
use Rattle.cov_model.proofs.Tied.{Tied, first_none, first_none_left, first_none_right, no_fault, no_misfit, is_boolean-eq, Layer, injected}
use Rattle.cov_model.proofs.Plain.{must_be_set}
use Rattle.cov_model.proofs.Joins.{or_left, or_right, or_case}
use Rattle.cov_model.proofs.Joined.{joined_has, joined_boolean}

-- what is claimed of an expression
abbrev pub Claim : Expr → Type 0
Claim e = (ks : Kinds) → Tied ks (judged ks e) (meaning_by whole e) (meaning_by machine e) e

abbrev pub Part : Type 0
Part = (e : Expr) × Claim e

abbrev pub trees : List Part → List Expr
trees xs = map (λ (x : Part). x.0) xs

abbrev pub judgements : Kinds → List Part → List Judged
judgements ks xs = map (judged ks) (trees xs)

abbrev pub owns : List Judged → List Kind
owns js = map (λ (j : Judged). j.own) js

pub same_trees : (ks : Kinds) (xs : List Part) → map (λ (j : Judged). j.tree) (judgements ks xs) ≡ trees xs
same_trees ks [] = refl
same_trees ks (x ∷ xs) = ap (λ (e : Expr). e ∷ map (λ (j : Judged). j.tree) (judgements ks xs)) (x.1 ks).tree ∙ ap (λ (es : List Expr). x.0 ∷ es) (same_trees ks xs)

-- each part keeps the kind of its place
abbrev pub AllKeep : Kinds → Bool → May → Point → List Part → Type 0
AllKeep ks b may p [] = Unit {0}
AllKeep ks b may p (x ∷ xs) = Keeps (kind_in b (judged ks x.0).own) may (meaning_by whole x.0) (meaning_by machine x.0) p × AllKeep ks b may p xs

-- the parts fit their place, and are settled in it
pub all_keep : (ks : Kinds) (b : Bool) (may : May) (p : Point) (xs : List Part)
    → first (map (λ (j : Judged). j.fault may) (judgements ks xs)) ≡ None
    → (IsTrue b → first (map (λ (j : Judged). j.misfit truth) (judgements ks xs)) ≡ None)
    → map (λ (j : Judged). j.settled b) (judgements ks xs) ≡ trees xs
    → ReadsKinds ks p.present → ReadsKinds ks p.next → AllKeep ks b may p xs
all_keep ks b may p [] f m s r r' = tt
all_keep ks b may p (x ∷ xs) f m s r r' =
    let c = first_none ((judged ks x.0).fault may) (map (λ (j : Judged). j.fault may) (judgements ks xs)) f in
    let head : (judged ks x.0).settled b ≡ x.0 = cc in
    let tail : map (λ (j : Judged). j.settled b) (judgements ks xs) ≡ trees xs = cc in (
      (x.1 ks).keeps may b p c.0 (λ t. (first_none ((judged ks x.0).misfit truth) (map (λ (j : Judged). j.misfit truth) (judgements ks xs)) (m t)).0) head r r',
      all_keep ks b may p xs c.1 (λ t. (first_none ((judged ks x.0).misfit truth) (map (λ (j : Judged). j.misfit truth) (judgements ks xs)) (m t)).1) tail r r',
    )

-- ---- Boolean places among the parts

any_own : (js : List Judged) → list_any is_boolean (owns js) ≡ list_any (λ (j : Judged). is_boolean j.own) js
any_own [] = refl
any_own (j ∷ js) = ap (λ (b : Bool). is_boolean j.own || b) (any_own js)

all_fit : (js : List Judged) → first (map (kind_fault (Some truth)) js) ≡ None → first (map (λ (j : Judged). j.misfit truth) js) ≡ None
all_fit [] h = refl
all_fit (j ∷ js) h =
    let c = first_none (kind_fault (Some truth) j) (map (kind_fault (Some truth)) js) h in
    rw (no_misfit truth j c.0) (all_fit js c.1)

-- where a place is Boolean, or the parts join in a Boolean, each part fits a Boolean place
pub parts_fit : (js : List Judged) (b : Bool)
    → (IsTrue b → (if is_boolean (joined_kind (owns js)) then None else first (map (λ (j : Judged). j.misfit truth) js)) ≡ None)
    → first (if list_any (λ (j : Judged). is_boolean j.own) js then map (kind_fault (Some truth)) js else []) ≡ None
    → IsTrue (b || is_boolean (joined_kind (owns js)))
    → first (map (λ (j : Judged). j.misfit truth) js) ≡ None
parts_fit [] b m f h = refl
parts_fit (j ∷ js) b m f h = by (is_boolean (joined_kind (owns (j ∷ js)))) b refl m h
  where
    by : (t b : Bool) → is_boolean (joined_kind (owns (j ∷ js))) ≡ t
        → (IsTrue b → (if t then None else first (map (λ (j : Judged). j.misfit truth) (j ∷ js))) ≡ None)
        → IsTrue (b || t)
        → first (map (λ (j : Judged). j.misfit truth) (j ∷ js)) ≡ None
    by true b e m h =
        let c : list_any (λ (j : Judged). is_boolean j.own) (j ∷ js) ≡ true = sym (any_own (j ∷ js)) ∙ joined_boolean j.own (owns js) e in
        all_fit (j ∷ js) (subst (λ (t : Bool). first (if t then map (kind_fault (Some truth)) (j ∷ js) else []) ≡ None) c f)
    by false true e m h = m refl
    by false false e m h = cc

-- ---- choices

-- a choice of a part is of the part's kind
chosen : (ks : Kinds) (b : Bool) (may : May) (p : Point) (xs : List Part) (x : Value) → AllKeep ks b may p xs
    → IsTrue (list_any (λ (m : Meaning). m.allows p x) (map (meaning_by whole) (trees xs)))
    → IsTrue (list_any (λ (j : Judged). of_kind (kind_in b j.own) x) (judgements ks xs))
chosen ks b may p [] x k h = h
chosen ks b may p (y ∷ ys) x k h = elim (or_case ((meaning_by whole y.0).allows p x) (list_any (λ (m : Meaning). m.allows p x) (map (meaning_by whole) (trees ys))) h) [
  | inl a ↦ or_left _ _ (k.0.choices x a)
  | inr a ↦ or_right (of_kind (kind_in b (judged ks y.0).own) x) _ (chosen ks b may p ys x k.1 a)
]

same_chosen : (ks : Kinds) (b : Bool) (may : May) (p : Point) (xs : List Part) (x : Value) → AllKeep ks b may p xs
    → list_any (λ (m : Meaning). m.allows p x) (map (meaning_by machine) (trees xs)) ≡ list_any (λ (m : Meaning). m.allows p x) (map (meaning_by whole) (trees xs))
same_chosen ks b may p [] x k = refl
same_chosen ks b may p (y ∷ ys) x k =
    ap (λ (t : Bool). t || list_any (λ (m : Meaning). m.allows p x) (map (meaning_by machine) (trees ys))) (k.0.same_choices x)
    ∙ ap (λ (t : Bool). (meaning_by whole y.0).allows p x || t) (same_chosen ks b may p ys x k.1)

all_boolean : (js : List Judged) (x : Value) → IsTrue (list_any (λ (j : Judged). of_kind boolean x) js) → IsTrue (of_kind boolean x)
all_boolean [] x h = cc
all_boolean (j ∷ js) x h = elim (or_case (of_kind boolean x) (list_any (λ (j : Judged). of_kind boolean x) js) h) [ inl a ↦ a | inr a ↦ all_boolean js x a ]

any_of_kind : (js : List Judged) (x : Value) → list_any (λ (j : Judged). of_kind j.own x) js ≡ list_any (λ k. of_kind k x) (owns js)
any_of_kind [] x = refl
any_of_kind (j ∷ js) x = ap (λ (b : Bool). of_kind j.own x || b) (any_of_kind js x)

-- what is of a part's kind is of the joined kind
pub into_joined : (js : List Judged) (b : Bool) (x : Value)
    → IsTrue (list_any (λ (j : Judged). of_kind (kind_in (b || is_boolean (joined_kind (owns js))) j.own) x) js)
    → IsTrue (of_kind (kind_in b (joined_kind (owns js))) x)
into_joined js b x h = by (is_boolean (joined_kind (owns js))) b refl h
  where
    by : (t b : Bool) → is_boolean (joined_kind (owns js)) ≡ t
        → IsTrue (list_any (λ (j : Judged). of_kind (kind_in (b || t) j.own) x) js)
        → IsTrue (of_kind (kind_in b (joined_kind (owns js))) x)
    by t true e h = all_boolean js x h
    by true false e h = subst (λ (k : Kind). IsTrue (of_kind k x)) (sym (is_boolean-eq (joined_kind (owns js)) e)) (all_boolean js x h)
    by false false e h = joined_has (owns js) x e (subst (λ (t : Bool). IsTrue t) (any_of_kind js x) h)

-- ---- sets and unions

module _ (ks : Kinds) (place : Span) (m : Node) (l : Layer) (xs : List Part) (sett : Bool → Node) (fw fm : Point → Value → Bool)
    (t : put place m ≡ put place (roll-Node l))
    (hs : (b : Bool) → put place (sett b) ≡ put place (roll-Node l) → map (λ (j : Judged). j.settled b) (judgements ks xs) ≡ trees xs)
    (hw : (p : Point) (x : Value) → fw p x ≡ list_any (λ (m : Meaning). m.allows p x) (map (meaning_by whole) (trees xs)))
    (hm : (p : Point) (x : Value) → fm p x ≡ list_any (λ (m : Meaning). m.allows p x) (map (meaning_by machine) (trees xs))) where
  faults : (may : May) → (compound place m (joined_kind (owns (judgements ks xs))) (judgements ks xs) (tests_of_set place (judgements ks xs)) sett).fault may ≡ None
      → (first (map (λ (j : Judged). j.fault (part_may may)) (judgements ks xs)) ≡ None)
      × (fault_if (not may.set) set_place place ≡ None)
      × (first (if list_any (λ (j : Judged). is_boolean j.own) (judgements ks xs) then map (kind_fault (Some truth)) (judgements ks xs) else []) ≡ None)
  faults may f =
      let js : List Judged = judgements ks xs in
      let own : Kind = joined_kind (owns js) in
      let rest : List (Option ModelFault) = if list_any (λ (j : Judged). is_boolean j.own) js then map (kind_fault (Some truth)) js else [] in
      let a = first_none_left (tests_of_set place js may) (fault_if (is_wide own) range_too_wide place ∷ []) f in
      let b = first_none (fault_if (not may.set) set_place place) rest (first_none_right (map (λ (j : Judged). j.fault (part_may may)) js) (fault_if (not may.set) set_place place ∷ rest) a) in
      (first_none_left (map (λ (j : Judged). j.fault (part_may may)) js) (fault_if (not may.set) set_place place ∷ rest) a, b.0, b.1)

  pub set_node : Tied ks (compound place m (joined_kind (owns (judgements ks xs))) (judgements ks xs) (tests_of_set place (judgements ks xs)) sett) (choices fw) (choices fm) (put place (roll-Node l))
  set_node = record {
    tree = t;
    is_numeric = λ may f s q. absurd (must_be_set may place (faults may f).1 s);
    keeps = λ may b p f mis s r r'.
        let js : List Judged = judgements ks xs in
        let c : Bool = b || is_boolean (joined_kind (owns js)) in
        let g = faults may f in
        let k = all_keep ks c (part_may may) p xs g.0 (parts_fit js b mis g.2) (hs c s) r r' in
        record {
          choices = λ x q. into_joined js b x (chosen ks c (part_may may) p xs x k (subst (λ (u : Bool). IsTrue u) (hw p x) q));
          value_of = λ u. absurd (must_be_set may place g.1 u);
          same_choices = λ x. hm p x ∙ same_chosen ks c (part_may may) p xs x k ∙ sym (hw p x);
          same_value = refl;
        };
  }

pub tied_set : (ks : Kinds) (place : Span) (xs : List Part)
    → Tied ks (of_node ks (Node-F.Set (judgements ks xs)) place) (meaning.of_node whole (Node-F.Set (map (meaning_by whole) (trees xs)))) (meaning.of_node machine (Node-F.Set (map (meaning_by machine) (trees xs)))) (put place (roll-Node (Node-F.Set (trees xs))))
tied_set ks place xs = set_node ks place (n.Set (map (λ (j : Judged). j.tree) (judgements ks xs))) (Node-F.Set (trees xs)) xs
    (λ b. n.Set (map (λ (j : Judged). j.settled b) (judgements ks xs)))
    (λ p x. list_any (λ (m : Meaning). m.allows p x) (map (meaning_by whole) (trees xs)))
    (λ p x. list_any (λ (m : Meaning). m.allows p x) (map (meaning_by machine) (trees xs)))
    (ap (λ (es : List Expr). put place (n.Set es)) (same_trees ks xs) ∙ ap (put place) (sym (n.rolls-Set (trees xs))))
    (λ b s.
    let es : List Expr = map (λ (j : Judged). j.settled b) (judgements ks xs) in
    let e : Node-F.Set es ≡ Node-F.Set (trees xs) = injected (n.Set es) (Node-F.Set es) (Node-F.Set (trees xs)) place (n.rolls-Set es) s in cc)
    (λ p x. refl) (λ p x. refl)

or_nothing : (a b : Bool) → (a || b) ≡ (a || (b || false))
or_nothing true b = refl
or_nothing false true = refl
or_nothing false false = refl

pub tied_union : (ks : Kinds) (place : Span) (a b : Part)
    → Tied ks (of_node ks (Node-F.Two op2.Union (judged ks a.0) (judged ks b.0)) place) (meaning.of_node whole (Node-F.Two op2.Union (meaning_by whole a.0) (meaning_by whole b.0)))
    (meaning.of_node machine (Node-F.Two op2.Union (meaning_by machine a.0) (meaning_by machine b.0))) (put place (roll-Node (Node-F.Two op2.Union a.0 b.0)))
tied_union ks place a b = set_node ks place (n.Two op2.Union (judged ks a.0).tree (judged ks b.0).tree) (Node-F.Two op2.Union a.0 b.0) (a ∷ b ∷ [])
    (λ t. n.Two op2.Union ((judged ks a.0).settled t) ((judged ks b.0).settled t))
    (λ p x. (meaning_by whole a.0).allows p x || (meaning_by whole b.0).allows p x)
    (λ p x. (meaning_by machine a.0).allows p x || (meaning_by machine b.0).allows p x)
    (ap (λ (e : Expr). put place (n.Two op2.Union e (judged ks b.0).tree)) (a.1 ks).tree ∙ ap (λ (e : Expr). put place (n.Two op2.Union a.0 e)) (b.1 ks).tree ∙ ap (put place) (sym (n.rolls-Two op2.Union a.0 b.0)))
    (λ t s.
    let e : Node-F.Two op2.Union ((judged ks a.0).settled t) ((judged ks b.0).settled t) ≡ Node-F.Two op2.Union a.0 b.0
    = injected (n.Two op2.Union ((judged ks a.0).settled t) ((judged ks b.0).settled t)) (Node-F.Two op2.Union ((judged ks a.0).settled t) ((judged ks b.0).settled t)) (Node-F.Two op2.Union a.0 b.0) place (n.rolls-Two op2.Union ((judged ks a.0).settled t) ((judged ks b.0).settled t)) s in
    cc)
    (λ p x. or_nothing ((meaning_by whole a.0).allows p x) ((meaning_by whole b.0).allows p x))
    (λ p x. or_nothing ((meaning_by machine a.0).allows p x) ((meaning_by machine b.0).allows p x))
