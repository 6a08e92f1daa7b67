-- The specifications of a well-formed model, each in its place.
use Rattle.std.proofs.Common.{◌≡◌, ◌≤◌, ℕ, zero, suc, true, nat_lt, List, [], ◌∷◌, ◌++◌, map, Option, Some, None, sym, ap, subst, ◌∙◌}
use Rattle.std.proofs.lemmas.Bool.{ltb-false}
use Rattle.std.specs.Prelude.{slice_get}
use Rattle.cov_syntax.specs.declared.fault.ModelFault.{ModelFault}
use Rattle.cov_syntax.specs.declared.tree.Expr.{Expr}
use Rattle.cov_model.specs.declared.model.Model.{Model}
use Rattle.cov_model.specs.Walk.{first, truth, judged, kind_fault}
use Rattle.cov_model.specs.Types.{type_fault, bits_fault}
use Rattle.cov_model.specs.Order.{ordered, circular}
use Rattle.cov_model.specs.Written.{formula_fault, formula_size}
use Rattle.cov_model.specs.Settled.{define_faults, whole_fault, assign_fault, walk_fault, settled, kinds_of, steady, chosen, chosen_next, moving, timed}
use Rattle.cov_model.specs.Kinds.{Kinds}
use Rattle.cov_model.specs.WellFormed.{IsWellFormed}
use Rattle.cov_model.proofs.Tied.{first_none, first_none_right, no_misfit, no_fault}
use Rattle.cov_model.proofs.Fixed.{facts}
use Rattle.cov_formulas.proofs.Lowering.{Fits}

-- the walk and the counting find nothing
no_faults : (m : Model) → IsWellFormed m → (walk_fault m ≡ None) × (first (map formula_fault m.specs) ≡ None)
no_faults m w =
    let sizes : List (Option ModelFault) = map formula_fault m.specs in
    let a = first_none (bits_fault 0 m.vars) (circular m.defines ∷ walk_fault (ordered m) ∷ sizes)
    (first_none_right (map type_fault m.vars) (bits_fault 0 m.vars ∷ circular m.defines ∷ walk_fault (ordered m) ∷ sizes) (facts m w).no_fault) in
    let b = first_none (circular m.defines) (walk_fault (ordered m) ∷ sizes) a.1 in
    let c = first_none (walk_fault (ordered m)) sizes b.1 in
    (ap walk_fault (sym (facts m w).in_order) ∙ c.0, c.1)

specs_none : (m : Model) → IsWellFormed m → first (map (whole_fault (kinds_of m) timed (Some truth)) m.specs) ≡ None
specs_none m w =
    let ks : Kinds = kinds_of m in
    first_none_right
    (define_faults ks.vars m.defines []
    ++ map (whole_fault ks steady (Some truth)) m.inits
    ++ map (whole_fault ks steady (Some truth)) m.invars
    ++ map (assign_fault ks chosen) m.nows
    ++ map (assign_fault ks chosen) m.firsts
    ++ map (assign_fault ks chosen_next) m.nexts
    ++ map (whole_fault ks moving (Some truth)) m.trans
    ++ map (whole_fault ks steady (Some truth)) m.fair)
    (map (whole_fault ks timed (Some truth)) m.specs) (no_faults m w).0

each_fits : (ks : Kinds) (es : List Expr) → first (map (whole_fault ks timed (Some truth)) es) ≡ None → map (settled ks true) es ≡ es
    → (i : ℕ) (e : Expr) → slice_get es i ≡ Some e → Fits (judged ks e) e
each_fits ks [] h s i e g = cc
each_fits ks (c ∷ es) h s zero e g =
    let f = first_none (whole_fault ks timed (Some truth) c) (map (whole_fault ks timed (Some truth)) es) h in
    let a = first_none ((judged ks c).fault timed) (kind_fault (Some truth) (judged ks c) ∷ []) f.0 in
    let b = first_none (kind_fault (Some truth) (judged ks c)) [] a.1 in
    let t : settled ks true c ≡ c = cc in
    let is : c ≡ e = cc in
    let fits : Fits (judged ks c) c = record { none = a.0; misfit = no_misfit truth (judged ks c) b.0; settles = t } in
    subst (λ (z : Expr). Fits (judged ks z) z) is fits
each_fits ks (c ∷ es) h s (suc i) e g =
    let t : map (settled ks true) es ≡ es = cc in
    each_fits ks es (first_none (whole_fault ks timed (Some truth) c) (map (whole_fault ks timed (Some truth)) es) h).1 t i e g

pub spec_fits : (m : Model) → IsWellFormed m → (i : ℕ) (e : Expr) → slice_get m.specs i ≡ Some e → Fits (judged (kinds_of m) e) e
spec_fits m w i e g = each_fits (kinds_of m) m.specs (specs_none m w) (ap (λ (z : Model). z.specs) (facts m w).settled) i e g

each_small : (es : List Expr) → first (map formula_fault es) ≡ None → (i : ℕ) (e : Expr) → slice_get es i ≡ Some e → formula_size e ≤ 4096
each_small [] h i e g = cc
each_small (c ∷ es) h zero e g =
    let is : c ≡ e = cc in
    let small : formula_size c ≤ 4096 = ltb-false 4096 (formula_size c) (no_fault (nat_lt 4096 (formula_size c)) 23 c.place (first_none (formula_fault c) (map formula_fault es) h).0) in
    subst (λ (z : Expr). formula_size z ≤ 4096) is small
each_small (c ∷ es) h (suc i) e g = each_small es (first_none (formula_fault c) (map formula_fault es) h).1 i e g

pub spec_small : (m : Model) → IsWellFormed m → (i : ℕ) (e : Expr) → slice_get m.specs i ≡ Some e → formula_size e ≤ 4096
spec_small m w i e g = each_small m.specs (no_faults m w).1 i e g
