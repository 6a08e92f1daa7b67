-- In typed states every value and every choice of an expression is listed, and none is listed twice.
use Rattle.std.proofs.Common.{◌≡◌, ◌≤◌, ℕ, zero, suc, Bool, true, false, ◌||◌, inl, inr, IsTrue, IsFalse, List, [], ◌∷◌, ◌++◌, map, length, None, refl, ap, subst, ◌∙◌}
use Rattle.std.specs.Prelude.{nat_lt}
use Rattle.std.proofs.lemmas.Bool.{or_parts}
use Rattle.cov_syntax.specs.declared.tree.Span.{Span}
use Rattle.cov_syntax.specs.declared.tree.Value.{Value}
use Rattle.cov_syntax.specs.declared.tree.Value.TheVariants as v
use Rattle.cov_syntax.specs.declared.tree.Expr.{Expr}
use Rattle.cov_syntax.specs.declared.tree.Node.{out-roll-Node}
use Rattle.cov_syntax.specs.declared.tree.Node.TheOpen.{Node-F}
use Rattle.cov_model.specs.declared.model.Var.{Var}
use Rattle.cov_model.specs.declared.model.Define.{Define}
use Rattle.cov_model.specs.declared.model.Model.{Model}
use Rattle.cov_model.specs.Meaning.{Point, meaning, value}
use Rattle.cov_model.specs.Machine as made
use Rattle.cov_model.specs.States.{between}
use Rattle.cov_model.specs.Kinds.{Kind, boolean, interval, among, Kinds, kind_at, of_kind, member, values_of, kind_of_values}
use Rattle.cov_model.specs.Types.{has_twice, is_empty, type_fault}
use Rattle.cov_model.specs.Walk as walk
use Rattle.cov_model.specs.Walk.{first, fault_if, bad_type, range_too_wide, May, nothing_may, logic_may, Judged, put, judged, own}
use Rattle.cov_model.specs.Settled.{known, define_kinds, kinds_of}
use Rattle.cov_model.specs.WellFormed.{IsWellFormed}
use Rattle.cov_model.specs.Laws.{ReadsKinds, Keeps}
use Rattle.cov_model.specs.Atoms.{is_constant, is_constant_layer}
use Rattle.cov_model.proofs.Tied.{Layer, first_none, no_fault}
use Rattle.cov_model.proofs.Closed.{judged_layer, judged_step, by_top}
use Rattle.cov_model.proofs.Joined.{listed}
use Rattle.cov_model.proofs.Law.{law}
use Rattle.cov_model.proofs.ModelLaw.{reads_kinds}
use Rattle.cov_model.proofs.Standing.{IsSettled, constant_settled}
use Rattle.cov_ranges.specs.Ranges.{IsExpressionOf, range_of, ListsAll}
use Rattle.cov_ranges.proofs.Anywhere.{anywhere}
use Rattle.cov_ranges.proofs.Narrow.{narrow, few_values}
use Rattle.cov_ranges.proofs.NoSets.{without_sets}
use Rattle.cov_ranges.proofs.Once.{IsApart, own_apart, variable_apart}
use Rattle.cov_ranges.proofs.Whole.{IsSound, standing_sound, types_none}

-- ---- the literals TRUE and FALSE

constant_top : (ks : Kinds) (place : Span) (l : Layer) → IsTrue (is_constant_layer l) → (walk.of_node ks (judged_layer ks l) place).fault nothing_may ≡ None
constant_top ks place (Node-F.Lit (v.Bool b)) h = refl
constant_top ks place _ h = cc

constant_none : (ks : Kinds) (e : Expr) → IsTrue (is_constant e) → (judged ks e).fault nothing_may ≡ None
constant_none ks e = by_top (λ f. IsTrue (is_constant f) → (judged ks f).fault nothing_may ≡ None)
    (λ place l h. ap (λ (j : Judged). j.fault nothing_may) (judged_step ks place l) ∙ constant_top ks place l (subst (λ (k : Layer). IsTrue (is_constant_layer k)) (out-roll-Node l) h)) e

constant_sound : (ks : Kinds) (e : Expr) → IsTrue (is_constant e) → IsSound ks e
constant_sound ks e c = record {
  faultless = record { may = nothing_may; none = constant_none ks e c };
  settled = record { in_truth = true; settles = constant_settled ks e c };
}

pub expression_sound : (m : Model) (e : Expr) → IsWellFormed m → IsExpressionOf m e → IsSound (kinds_of m) e
expression_sound m e w (inl c) = constant_sound (kinds_of m) e c
expression_sound m e w (inr s) = standing_sound m e w s

-- ---- values and choices

-- a value of a kind is one of its values
in_values : (k : Kind) (x : Value) → IsTrue (of_kind k x) → IsTrue (member (values_of k) x)
in_values boolean (v.Bool true) h = refl
in_values boolean (v.Bool false) h = refl
in_values boolean (v.Int n) h = cc
in_values boolean (v.Sym s) h = cc
in_values (interval low high) x h = listed (interval low high) x refl h
in_values (among xs) x h = listed (among xs) x refl h

settled_false : (ks : Kinds) (e : Expr) → IsSettled ks e → (judged ks e).settled false ≡ e
settled_false ks e s = by s.in_truth s.settles
  where
    by : (b : Bool) → (judged ks e).settled b ≡ e → (judged ks e).settled false ≡ e
    by true h = anywhere ks e false h
    by false h = h

-- it keeps its own kind wherever it has no fault
keeps_own : (ks : Kinds) (e : Expr) (may : May) (p : Point) → (judged ks e).fault may ≡ None → IsSettled ks e → ReadsKinds ks p.present → ReadsKinds ks p.next → Keeps (own ks e) may (meaning e) (made.meaning e) p
keeps_own ks e may p f s r r' = (law e ks).keeps may false p f (λ u. cc) (settled_false ks e s) r r'

pub lists_all : (m : Model) → IsWellFormed m → (e : Expr) → IsExpressionOf m e → ListsAll m e (range_of m e)
lists_all m w e x =
    let ks : Kinds = kinds_of m in
    let s = expression_sound m e w x in
    let may : May = s.faultless.may in
    record {
      values = λ a b flip t t' g.
          let p : Point = between m a b flip in
          let k = keeps_own ks e (logic_may may) p (without_sets ks e may g s.faultless.none) s.settled (reads_kinds m a flip w t) (reads_kinds m b None w t') in
          in_values (own ks e) (value e p) (k.value_of refl);
      choices = λ a b flip t t' y h.
          let k = keeps_own ks e may (between m a b flip) s.faultless.none s.settled (reads_kinds m a flip w t) (reads_kinds m b None w t') in
          in_values (own ks e) y (k.choices y h);
    }

pub lists_few : (m : Model) → IsWellFormed m → (e : Expr) → IsExpressionOf m e → length (range_of m e) ≤ 1024
lists_few m w e x =
    let f = (expression_sound m e w x).faultless in
    few_values (own (kinds_of m) e) (narrow (kinds_of m) e f.may f.none)

-- ---- once

abbrev AllApart : List Kind → Type 0
AllApart ks = (i : ℕ) → IsApart (kind_at ks i)

apart_last : (ks : List Kind) (k : Kind) → AllApart ks → IsApart k → AllApart (ks ++ k ∷ [])
apart_last [] k h g zero = g
apart_last [] k h g (suc i) = refl
apart_last (l ∷ ks) k h g zero = h 0
apart_last (l ∷ ks) k h g (suc i) = apart_last ks k (λ j. h (suc j)) g i

type_apart : (x : Var) → type_fault x ≡ None → IsApart (kind_of_values x.values)
type_apart x f =
    let c = first_none (fault_if (is_empty x.values || has_twice x.values) bad_type x.kind_place) (fault_if (nat_lt 1024 (length x.values)) range_too_wide x.kind_place ∷ []) f in
    variable_apart x.values (or_parts (is_empty x.values) (has_twice x.values) (no_fault (is_empty x.values || has_twice x.values) bad_type x.kind_place c.0)).1

variables_apart : (xs : List Var) → first (map type_fault xs) ≡ None → AllApart (map (λ (x : Var). kind_of_values x.values) xs)
variables_apart [] f i = refl
variables_apart (x ∷ xs) f zero = type_apart x (first_none (type_fault x) (map type_fault xs) f).0
variables_apart (x ∷ xs) f (suc i) = variables_apart xs (first_none (type_fault x) (map type_fault xs) f).1 i

defines_apart : (vk : List Kind) (ds : List Define) (done : List Kind) → AllApart vk → AllApart done → AllApart (define_kinds vk ds done)
defines_apart vk [] done h g = g
defines_apart vk (d ∷ ds) done h g =
    defines_apart vk ds (done ++ own (known vk done) d.body ∷ []) h
    (apart_last done (own (known vk done) d.body) g (own_apart (known vk done) (record { vars = h; defs = g }) d.body))

pub lists_once : (m : Model) → IsWellFormed m → (e : Expr) → IsFalse (has_twice (range_of m e))
lists_once m w e =
    let vars : AllApart (kinds_of m).vars = variables_apart m.vars (types_none m w) in
    own_apart (kinds_of m) (record { vars = vars; defs = defines_apart (kinds_of m).vars m.defines [] vars (λ i. refl) }) e
