-- What a fair lasso refutes is false at its first state, and what it shows is true there.
use Rattle.std.proofs.Common.{Bool, inl, inr, sym, subst, arith}
use Rattle.std.proofs.lemmas.Bool.{both_ways, cases_order}
use Rattle.cov_logic.specs.Structure.{Structure}
use Rattle.cov_logic.specs.Lasso.{Lasso}
use Rattle.cov_logic.specs.Suffix.{suffix, at}
use Rattle.cov_logic.specs.FairLasso.{IsFair}
use Rattle.cov_logic.specs.Formula.{Formula, Atom, Not, And, Or, Implies, EX, EF, EG, EU, AX, AF, AG, AU}
use Rattle.cov_logic.specs.Truth.{Sat}
use Rattle.cov_logic.specs.Evidence.{Refutes, Shows}
use Rattle.cov_logic.specs.EvidenceLaws.{EvidenceIsSound, RefutedFails}
use Rattle.cov_logic.proofs.Suffixes.{from_start, suffix_fair}

module _ {S A : Type 0} (m : Structure S) (label : S → A → Bool) where
  mutual
    pub refuted_false : (f : Formula A) (l : Lasso S) → IsFair m l → Refutes label f l → Sat m label f (at l 0) → ⊥
    refuted_false (Atom a) l fair r s = both_ways _ r s
    refuted_false (Not f) l fair r s = s (shown_true f l fair r)
    refuted_false (And f g) l fair r s = elim r [ inl x ↦ refuted_false f l fair x s.0 | inr y ↦ refuted_false g l fair y s.1 ]
    refuted_false (Or f g) l fair r s = elim s [ inl x ↦ refuted_false f l fair r.0 x | inr y ↦ refuted_false g l fair r.1 y ]
    refuted_false (Implies f g) l fair r s = refuted_false g l fair r.1 (s (shown_true f l fair r.0))
    refuted_false (AX f) l fair r s = refuted_false f (suffix 1 l) (suffix_fair m 1 l fair) r (s l (from_start l fair))
    refuted_false (AF f) l fair r s =
        let q = s l (from_start l fair) in refuted_false f (suffix q.0 l) (suffix_fair m q.0 l fair) (r q.0) q.1
    refuted_false (AG f) l fair r s = refuted_false f (suffix r.0 l) (suffix_fair m r.0 l fair) r.1 (s l (from_start l fair) r.0)
    refuted_false (AU f g) l fair r s =
        let q = s l (from_start l fair) in
        elim r [
          | inl never ↦ refuted_false g (suffix q.0 l) (suffix_fair m q.0 l fair) (never q.0) q.1
          | inr b ↦ elim (cases_order q.0 b.0) [
            | inl e ↦ refuted_false g (suffix q.0 l) (suffix_fair m q.0 l fair) (b.2 q.0 (omega arith)) q.1
            | inr o ↦ elim o [
              | inl c ↦ refuted_false g (suffix q.0 l) (suffix_fair m q.0 l fair) (b.2 q.0 (omega arith)) q.1
              | inr c ↦ refuted_false f (suffix b.0 l) (suffix_fair m b.0 l fair) b.1 (q.2 b.0 c)
            ]
          ]
        ]
    refuted_false (EX f) l fair r s = r
    refuted_false (EF f) l fair r s = r
    refuted_false (EG f) l fair r s = r
    refuted_false (EU f g) l fair r s = r

    pub shown_true : (f : Formula A) (l : Lasso S) → IsFair m l → Shows label f l → Sat m label f (at l 0)
    shown_true (Atom a) l fair r = r
    shown_true (Not f) l fair r = refuted_false f l fair r
    shown_true (And f g) l fair r = (shown_true f l fair r.0, shown_true g l fair r.1)
    shown_true (Or f g) l fair r = elim r [ inl x ↦ inl (shown_true f l fair x) | inr y ↦ inr (shown_true g l fair y) ]
    shown_true (Implies f g) l fair r = λ s. elim r [ inl x ↦ absurd (refuted_false f l fair x s) | inr y ↦ shown_true g l fair y ]
    shown_true (EX f) l fair r = (l, from_start l fair, shown_true f (suffix 1 l) (suffix_fair m 1 l fair) r)
    shown_true (EF f) l fair r = (l, from_start l fair, (r.0, shown_true f (suffix r.0 l) (suffix_fair m r.0 l fair) r.1))
    shown_true (EG f) l fair r = (l, from_start l fair, λ i. shown_true f (suffix i l) (suffix_fair m i l fair) (r i))
    shown_true (EU f g) l fair r = (
      l,
      from_start l fair,
      (
        r.0,
        shown_true g (suffix r.0 l) (suffix_fair m r.0 l fair) r.1,
        λ i c. shown_true f (suffix i l) (suffix_fair m i l fair) (r.2 i c),
      ),
    )
    shown_true (AX f) l fair r = absurd r
    shown_true (AF f) l fair r = absurd r
    shown_true (AG f) l fair r = absurd r
    shown_true (AU f g) l fair r = absurd r

pub sound_law : (S A : Type 0) → EvidenceIsSound S A
sound_law S A = record { refuted = refuted_false; shown = shown_true }

pub refuted_law : (S A : Type 0) → RefutedFails S A
refuted_law S A m label f s l init fair r p =
    refuted_false m label f l fair.fair r (subst (Sat m label f) (sym fair.starts) (p s l init fair))
