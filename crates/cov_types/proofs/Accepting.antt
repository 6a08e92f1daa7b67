-- A flat model without fault, put in order and settled, is well formed.
use Rattle.std.proofs.Common.{◌≡◌, List, [], ◌∷◌, ◌++◌, map, Option, Some, None, Ok, refl, sym, ap, subst, ◌∙◌, ℕ}
use Rattle.std.specs.Prelude.{nat_lt}
use Rattle.cov_syntax.specs.declared.tree.Expr.{Expr}
use Rattle.cov_syntax.specs.declared.tree.Span.{Span}
use Rattle.cov_syntax.specs.declared.fault.ModelFault.{ModelFault}
use Rattle.cov_syntax.specs.declared.fault.Refused.{Refused}
use Rattle.cov_model.specs.declared.model.Model.{Model}
use Rattle.cov_model.specs.Accepted.{kinds, kinds_fault, unless_fault}
use Rattle.cov_model.specs.Flat.{IsFlat}
use Rattle.cov_model.specs.Kinds.{Kinds}
use Rattle.cov_model.specs.Order.{circular, dependence, ordered, reads_of, renumbered}
use Rattle.cov_model.specs.Settled.{kinds_of, settled_model, walk_fault}
use Rattle.cov_model.specs.Types.{bits_fault, type_fault}
use Rattle.cov_model.specs.Walk.{fault_if, first}
use Rattle.cov_model.specs.WellFormed.{IsWellFormed}
use Rattle.cov_model.specs.Written.{Written, formula_fault, written}
use Rattle.cov_order.proofs.FlatOrder.{flat_kept}
use Rattle.cov_order.proofs.InPlace.{IsBackward, backward_no_circle}
use Rattle.cov_order.proofs.Renumbering.{same_place, same_written}
use Rattle.cov_order.proofs.WholeOrder.{in_order_backward, ordered_itself}
use Rattle.cov_settling.specs.Cited.{IsCited}
use Rattle.cov_settling.proofs.SettledFlat.{flat_again, same_circular, same_formulas, same_reads_of}
use Rattle.cov_settling.proofs.SettledModel.{passes_again, same_kinds, settled_again}
use Rattle.cov_types.specs.Checking.{IsChecked}
use Rattle.cov_types.proofs.Tells.{none_both, none_front}
use Rattle.cov_walk.specs.Found.{TellsFault}

-- ---- formulas keep their faults in order

formula_renumbered : (order : List ℕ) (e : Expr) → formula_fault (renumbered order e) ≡ formula_fault e
formula_renumbered order e =
    ap (λ (w : Written). fault_if (nat_lt 4096 w.1) 23 (renumbered order e).place) (same_written order e)
    ∙ ap (λ (p : Span). fault_if (nat_lt 4096 (written e).1) 23 p) (same_place order e)

formulas_renumbered : (order : List ℕ) (es : List Expr) → map formula_fault (map (renumbered order) es) ≡ map formula_fault es
formulas_renumbered order [] = refl
formulas_renumbered order (e ∷ es) =
    ap (λ (f : Option ModelFault). f ∷ map formula_fault (map (renumbered order) es)) (formula_renumbered order e)
    ∙ ap (λ (fs : List (Option ModelFault)). formula_fault e ∷ fs) (formulas_renumbered order es)

-- ---- a model without fault

-- What is tested of a flat model, each test without fault.
pub record Passes (m : Model) : Type 0 where
  pub flat : IsFlat m
  pub types : first (map type_fault m.vars) ≡ None
  pub few_bits : bits_fault 0 m.vars ≡ None
  pub no_circle : circular m.defines ≡ None
  pub walked : walk_fault (ordered m) ≡ None
  pub small : first (map formula_fault (settled_model (ordered m)).specs) ≡ None

-- none of the tests has a fault
all_none : (t : List (Option ModelFault)) (b c w : Option ModelFault) (fs : List (Option ModelFault)) → first t ≡ None → b ≡ None → c ≡ None → w ≡ None → first fs ≡ None → first (t ++ b ∷ c ∷ w ∷ fs) ≡ None
all_none t b c w fs ht hb hc hw hf = none_both t (b ∷ c ∷ w ∷ fs) ht (none_front b (c ∷ w ∷ fs) hb (none_front c (w ∷ fs) hc (none_front w fs hw hf)))

-- formulas have the faults that they had before the model was settled
pub same_small : (m : Model) → map formula_fault (settled_model (ordered m)).specs ≡ map formula_fault m.specs
same_small m = same_formulas (ordered m) ∙ formulas_renumbered (dependence (reads_of m.defines)) m.specs

module _ (m : Model) (p : Passes m) where
  abbrev o : Model
  o = ordered m

  abbrev r : Model
  r = settled_model (ordered m)

  backward : IsBackward (reads_of o.defines)
  backward = in_order_backward m.defines

  backward_again : IsBackward (reads_of r.defines)
  backward_again = subst IsBackward (sym (same_reads_of o)) backward

  flat_o : IsFlat o
  flat_o = flat_kept m p.flat p.no_circle

  flat_r : IsFlat r
  flat_r = flat_again o flat_o

  cited_o : IsCited o
  cited_o = record { conditions = flat_o.conditions; bodies = flat_o.bodies; assigned = flat_o.assigned }

  in_order_r : ordered r ≡ r
  in_order_r = ordered_itself r backward_again flat_r.conditions flat_r.bodies flat_r.assigned

  walked_r : walk_fault (ordered r) ≡ None
  walked_r = ap walk_fault in_order_r ∙ passes_again o cited_o p.walked

  none_r : kinds_fault r ≡ None
  none_r = all_none (map type_fault m.vars) (bits_fault 0 m.vars) (circular r.defines) (walk_fault (ordered r)) (map formula_fault r.specs)
      p.types p.few_bits (same_circular o ∙ backward_no_circle o.defines backward) walked_r p.small

  settled_r : settled_model (ordered r) ≡ r
  settled_r = ap settled_model in_order_r ∙ settled_again o p.walked

  kinds_r : kinds r ≡ Ok r
  kinds_r = ap (λ (f : Option ModelFault). unless_fault f (settled_model (ordered r))) none_r ∙ ap (λ (n : Model). unless_fault None n) settled_r

  -- the model that is answered
  pub is_answer : kinds m ≡ Ok r
  is_answer = ap (λ (f : Option ModelFault). unless_fault f (settled_model (ordered m)))
      (all_none (map type_fault m.vars) (bits_fault 0 m.vars) (circular m.defines) (walk_fault (ordered m)) (map formula_fault m.specs)
      p.types p.few_bits p.no_circle p.walked (subst (λ (fs : List (Option ModelFault)). first fs ≡ None) (same_small m) p.small))

  -- the answer is well formed and flat, and these are its kinds
  pub is_checked : IsChecked r (kinds_of o)
  is_checked = record {
    formed = record {
      conditions = flat_r.conditions;
      bodies = flat_r.bodies;
      assigned = flat_r.assigned;
      symbols = flat_r.symbols;
      names = flat_r.names;
      different = flat_r.different;
      values = flat_r.values;
      settled = kinds_r;
    };
    flat = flat_r;
    kinds = sym (same_kinds o p.walked);
  }
