-- What a lasso refutes and shows depends on the atoms of its states alone.
use Rattle.std.proofs.Common.{◌≡◌, ℕ, ◌+◌, Bool, inl, inr, sym, subst₂, ◌∙◌}
use Rattle.cov_logic.specs.Lasso.{Lasso}
use Rattle.cov_logic.specs.Suffix.{suffix}
use Rattle.cov_logic.specs.Formula.{Formula, Atom, Not, And, Or, Implies, EX, EF, EG, EU, AX, AF, AG, AU}
use Rattle.cov_logic.specs.Evidence.{Refutes, Shows}
use Rattle.cov_logic.specs.EvidenceLaws.{Agree, LabelsDecide}
use Rattle.cov_logic.proofs.Suffixes.{at_suffix}

module _ {S A : Type 0} (one other : S → A → Bool) where
  suffix_agree : (n : ℕ) (l k : Lasso S) → Agree one other l k → Agree one other (suffix n l) (suffix n k)
  suffix_agree n l k h = record { by = λ i a. subst₂ (λ s t. one s a ≡ other t a) (sym (at_suffix n i l)) (sym (at_suffix n i k)) (h.by (n + i) a) }

  mutual
    pub same_refuted : (f : Formula A) (l k : Lasso S) → Agree one other l k → Refutes one f l → Refutes other f k
    same_refuted (Atom a) l k h r = sym (h.by 0 a) ∙ r
    same_refuted (Not f) l k h r = same_shown f l k h r
    same_refuted (And f g) l k h r = elim r [ inl x ↦ inl (same_refuted f l k h x) | inr y ↦ inr (same_refuted g l k h y) ]
    same_refuted (Or f g) l k h r = (same_refuted f l k h r.0, same_refuted g l k h r.1)
    same_refuted (Implies f g) l k h r = (same_shown f l k h r.0, same_refuted g l k h r.1)
    same_refuted (AX f) l k h r = same_refuted f (suffix 1 l) (suffix 1 k) (suffix_agree 1 l k h) r
    same_refuted (AF f) l k h r = λ i. same_refuted f (suffix i l) (suffix i k) (suffix_agree i l k h) (r i)
    same_refuted (AG f) l k h r = (r.0, same_refuted f (suffix r.0 l) (suffix r.0 k) (suffix_agree r.0 l k h) r.1)
    same_refuted (AU f g) l k h r =
        elim r [
          | inl never ↦ inl (λ i. same_refuted g (suffix i l) (suffix i k) (suffix_agree i l k h) (never i))
          | inr b ↦ inr (
            b.0,
            same_refuted f (suffix b.0 l) (suffix b.0 k) (suffix_agree b.0 l k h) b.1,
            λ i c. same_refuted g (suffix i l) (suffix i k) (suffix_agree i l k h) (b.2 i c),
          )
        ]
    same_refuted (EX f) l k h r = r
    same_refuted (EF f) l k h r = r
    same_refuted (EG f) l k h r = r
    same_refuted (EU f g) l k h r = r

    pub same_shown : (f : Formula A) (l k : Lasso S) → Agree one other l k → Shows one f l → Shows other f k
    same_shown (Atom a) l k h r = sym (h.by 0 a) ∙ r
    same_shown (Not f) l k h r = same_refuted f l k h r
    same_shown (And f g) l k h r = (same_shown f l k h r.0, same_shown g l k h r.1)
    same_shown (Or f g) l k h r = elim r [ inl x ↦ inl (same_shown f l k h x) | inr y ↦ inr (same_shown g l k h y) ]
    same_shown (Implies f g) l k h r = elim r [ inl x ↦ inl (same_refuted f l k h x) | inr y ↦ inr (same_shown g l k h y) ]
    same_shown (EX f) l k h r = same_shown f (suffix 1 l) (suffix 1 k) (suffix_agree 1 l k h) r
    same_shown (EF f) l k h r = (r.0, same_shown f (suffix r.0 l) (suffix r.0 k) (suffix_agree r.0 l k h) r.1)
    same_shown (EG f) l k h r = λ i. same_shown f (suffix i l) (suffix i k) (suffix_agree i l k h) (r i)
    same_shown (EU f g) l k h r = (
      r.0,
      same_shown g (suffix r.0 l) (suffix r.0 k) (suffix_agree r.0 l k h) r.1,
      λ i c. same_shown f (suffix i l) (suffix i k) (suffix_agree i l k h) (r.2 i c),
    )
    same_shown (AX f) l k h r = r
    same_shown (AF f) l k h r = r
    same_shown (AG f) l k h r = r
    same_shown (AU f g) l k h r = r

pub labels_law : (S A : Type 0) → LabelsDecide S A
labels_law S A = record { refuted = same_refuted; shown = same_shown }
