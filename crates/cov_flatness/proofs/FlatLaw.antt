-- A program without faults is flattened to a flat model.
use Rattle.std.proofs.Common.{◌≡◌, ℕ, ◌≤◌, inl, inr, ◌&&◌, nat_lt, List, [], ◌∷◌, ◌++◌, map, length, None, refl, subst, arith}
use Rattle.std.proofs.lemmas.Bool.{and_from}
use Rattle.std.proofs.lemmas.List.{length-map}
use Rattle.cov_syntax.specs.Texts.{IsDistinctTexts}
use Rattle.cov_syntax.specs.declared.tree.Expr.{Expr}
use Rattle.cov_syntax.specs.declared.program.When.TheVariants as when
use Rattle.cov_syntax.specs.declared.program.CondKind.TheVariants as cond_kind
use Rattle.cov_syntax.specs.declared.program.Program.{Program}
use Rattle.cov_model.specs.declared.model.Define.{Define}
use Rattle.cov_model.specs.declared.model.Assign.{Assign}
use Rattle.cov_model.specs.declared.model.Model.{Model}
use Rattle.cov_model.specs.Flat.{greatest, depth, conditions_of, assignments_of, expressions, IsFlat}
use Rattle.cov_model.specs.WellFormed.{cites}
use Rattle.cov_modules.specs.Walk.{walk}
use Rattle.cov_modules.specs.FlatLists.{flat_defines, flat_model}
use Rattle.cov_modules.specs.Conditions.{IsFlattenable}
use Rattle.cov_modules.specs.Flatten.{flat_fault}
use Rattle.cov_modules.specs.ModuleFaults.{modules_fault}
use Rattle.cov_modules.specs.NameFaults.{unknown_name}
use Rattle.cov_modules.proofs.LawLemmas.{few-names}
use Rattle.cov_flatness.proofs.Among.{Among, among-split, from-map, all-pass}
use Rattle.cov_flatness.proofs.FlatNames.{as_define, names-there, names-different, symbols-there, values-there}
use Rattle.cov_flatness.proofs.Bodies.{no-faults, IsRead, condition-read, define-read, IsAssignment, assignment-read}
use Rattle.cov_flatness.proofs.Amounts.{few-parts}

-- what holds in each of some lists
three-hold : {A : Type 0} (P : A → Type 0) (a b c : List A) → ((x : A) → Among a x → P x) → ((x : A) → Among b x → P x) → ((x : A) → Among c x → P x) → (x : A) → Among (a ++ b ++ c) x → P x
three-hold P a b c f g h x k = elim (among-split (a ++ b) c x k) [
  | inr l ↦ h x l
  | inl k ↦ elim (among-split a b x k) [ inl l ↦ f x l | inr l ↦ g x l ]
]

five-hold : {A : Type 0} (P : A → Type 0) (a b c d e : List A) → ((x : A) → Among a x → P x) → ((x : A) → Among b x → P x) → ((x : A) → Among c x → P x) → ((x : A) → Among d x → P x) → ((x : A) → Among e x → P x)
    → (x : A) → Among (a ++ b ++ c ++ d ++ e) x → P x
five-hold P a b c d e f g h i j x k = elim (among-split (a ++ b ++ c ++ d) e x k) [
  | inr l ↦ j x l
  | inl k ↦ elim (among-split (a ++ b ++ c) d x k) [ inr l ↦ i x l | inl k ↦ three-hold P a b c f g h x k ]
]

-- the greatest of some numbers below a limit
greatest-below : (n : ℕ) (es : List Expr) → ((e : Expr) → Among es e → depth e ≤ n) → greatest (map depth es) ≤ n
greatest-below n [] h = omega arith
greatest-below n (e ∷ es) h = let here = h e (inl refl) in let rest = greatest-below n es (λ x g. h x (inr g)) in omega (arith, here, rest)

module _ (p : Program) (f : IsFlattenable p) (h : modules_fault p ≡ None) (u : unknown_name p ≡ None) where
  abbrev m : Model
  m = flat_model p

  abbrev Read : Expr → Type 0
  Read = IsRead p f h u

  conditions-read : (e : Expr) → Among (conditions_of (flat_model p)) e → IsRead p f h u e
  conditions-read =
      five-hold Read m.inits m.invars m.trans m.fair m.specs (condition-read p f h u cond_kind.Init) (condition-read p f h u cond_kind.Invar) (condition-read p f h u cond_kind.Trans) (condition-read p f h u cond_kind.Fair) (condition-read p f h u cond_kind.Spec)

  assignments-read : (b : Assign) → Among (assignments_of (flat_model p)) b → IsAssignment p f h u b
  assignments-read = three-hold (IsAssignment p f h u) m.nows m.firsts m.nexts (assignment-read p f h u when.Now) (assignment-read p f h u when.First) (assignment-read p f h u when.Next)

  defines-read : (d : Define) → Among m.defines d → IsRead p f h u d.body
  defines-read d g = let w = from-map (as_define p f h) (flat_defines (walk p)) d g in subst (λ (d : Define). Read d.body) w.2 (define-read p f h u w.0 w.1)

  all-read : (e : Expr) → Among (expressions (flat_model p)) e → IsRead p f h u e
  all-read =
      three-hold Read (map (λ (d : Define). d.body) m.defines) (conditions_of m) (map (λ (a : Assign). a.body) (assignments_of m))
      (λ e g. let d = from-map (λ (d : Define). d.body) m.defines e g in subst Read d.2 (defines-read d.0 d.1))
      conditions-read
      (λ e g. let b = from-map (λ (a : Assign). a.body) (assignments_of m) e g in subst Read b.2 (assignments-read b.0 b.1).body)

  pub model-flat : IsDistinctTexts p.names → IsFlat (flat_model p)
  model-flat distinct = record {
    conditions = all-pass (cites m) (conditions_of m) (λ e g. (conditions-read e g).cited);
    bodies = all-pass (λ (d : Define). cites m d.body) m.defines (λ d g. (defines-read d g).cited);
    assigned = all-pass (λ (a : Assign). nat_lt a.var (length m.vars) && cites m a.body) (assignments_of m)
        (λ b g. let r = assignments-read b g in and_from (nat_lt b.var (length m.vars)) (cites m b.body) r.variable r.body.cited);
    symbols = symbols-there p f h;
    names = names-there p f h;
    different = names-different p f h distinct;
    values = values-there p f h;
    few_defines = let few = few-names p h in omega (arith, few, length-map (flat_defines (walk p)) (as_define p f h));
    few_parts = few-parts p h;
    shallow = let deep = greatest-below 1000000 (expressions m) (λ e g. (all-read e g).shallow) in omega arith;
  }

-- a program without faults has a flat model
pub flat-is-flat : (p : Program) → IsFlattenable p → IsDistinctTexts p.names → flat_fault p ≡ None → IsFlat (flat_model p)
flat-is-flat p f distinct h = let none = no-faults p h in model-flat p f none.0 none.1 distinct
