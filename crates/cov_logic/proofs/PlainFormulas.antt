-- Formulas without temporal operators: their truth is decided by the labels of one state, and a lasso tells it.
use Rattle.std.proofs.Common.{Bool, ◌&&◌, IsTrue, ◌⊎◌, inl, inr, refl}
use Rattle.std.proofs.lemmas.Bool.{cases_Bool, both_ways, and_parts, and_from, or_left}
use Rattle.cov_logic.specs.Structure.{Structure}
use Rattle.cov_logic.specs.Lasso.{Lasso}
use Rattle.cov_logic.specs.Suffix.{at}
use Rattle.cov_logic.specs.Formula.{Formula, Atom, Not, And, Or, Implies, EX, EF, EG, EU, AX, AF, AG, AU}
use Rattle.cov_logic.specs.Truth.{Sat}
use Rattle.cov_logic.specs.Evidence.{Refutes, Shows}
use Rattle.cov_logic.specs.LinearFragment.{is_plain, is_universal, is_existential}
use Rattle.cov_logic.specs.EvidenceLaws.{PlainIsTold, PlainIsLinear}

module _ {S A : Type 0} (m : Structure S) (label : S → A → Bool) where
  -- it is true or not
  pub plain_decided : (f : Formula A) → IsTrue (is_plain f) → (s : S) → Sat m label f s ⊎ (Sat m label f s → ⊥)
  plain_decided (Atom a) p s = elim (cases_Bool (label s a)) [ inl e ↦ inl e | inr e ↦ inr (both_ways _ e) ]
  plain_decided (Not f) p s = elim (plain_decided f p s) [ inl x ↦ inr (λ n. n x) | inr n ↦ inl n ]
  plain_decided (And f g) p s =
      let q = and_parts (is_plain f) (is_plain g) p in
      elim (plain_decided f q.0 s) [
        | inl x ↦ elim (plain_decided g q.1 s) [ inl y ↦ inl (x, y) | inr n ↦ inr (λ h. n h.1) ]
        | inr n ↦ inr (λ h. n h.0)
      ]
  plain_decided (Or f g) p s =
      let q = and_parts (is_plain f) (is_plain g) p in
      elim (plain_decided f q.0 s) [
        | inl x ↦ inl (inl x)
        | inr n ↦ elim (plain_decided g q.1 s) [ inl y ↦ inl (inr y) | inr k ↦ inr (λ h. elim h [ inl x ↦ n x | inr y ↦ k y ]) ]
      ]
  plain_decided (Implies f g) p s =
      let q = and_parts (is_plain f) (is_plain g) p in
      elim (plain_decided f q.0 s) [
        | inl x ↦ elim (plain_decided g q.1 s) [ inl y ↦ inl (λ _. y) | inr k ↦ inr (λ h. k (h x)) ]
        | inr n ↦ inl (λ x. absurd (n x))
      ]
  plain_decided (EX f) p s = cc
  plain_decided (EF f) p s = cc
  plain_decided (EG f) p s = cc
  plain_decided (EU f g) p s = cc
  plain_decided (AX f) p s = cc
  plain_decided (AF f) p s = cc
  plain_decided (AG f) p s = cc
  plain_decided (AU f g) p s = cc

  -- what the lasso tells of the formula is its truth at the first state
  pub record IsTold (f : Formula A) (l : Lasso S) : Type 0 where
    pub shows : Sat m label f (at l 0) → Shows label f l
    pub refutes : (Sat m label f (at l 0) → ⊥) → Refutes label f l
    pub is_true : Shows label f l → Sat m label f (at l 0)
    pub is_false : Refutes label f l → Sat m label f (at l 0) → ⊥

  pub told : (f : Formula A) (l : Lasso S) → IsTrue (is_plain f) → IsTold f l
  told (Atom a) l p = record {
    shows = λ h. h;
    refutes = λ n. elim (cases_Bool (label (at l 0) a)) [ inl e ↦ absurd (n e) | inr e ↦ e ];
    is_true = λ r. r;
    is_false = λ r h. both_ways _ r h;
  }
  told (Not f) l p =
      let x = told f l p in
      record {
        shows = x.refutes;
        refutes = λ n. elim (plain_decided f p (at l 0)) [ inl a ↦ x.shows a | inr k ↦ absurd (n k) ];
        is_true = x.is_false;
        is_false = λ r k. k (x.is_true r);
      }
  told (And f g) l p =
      let q = and_parts (is_plain f) (is_plain g) p in
      let x = told f l q.0 in
      let y = told g l q.1 in
      record {
        shows = λ h. (x.shows h.0, y.shows h.1);
        refutes = λ n. elim (plain_decided f q.0 (at l 0)) [ inl a ↦ inr (y.refutes (λ b. n (a, b))) | inr k ↦ inl (x.refutes k) ];
        is_true = λ r. (x.is_true r.0, y.is_true r.1);
        is_false = λ r h. elim r [ inl a ↦ x.is_false a h.0 | inr b ↦ y.is_false b h.1 ];
      }
  told (Or f g) l p =
      let q = and_parts (is_plain f) (is_plain g) p in
      let x = told f l q.0 in
      let y = told g l q.1 in
      record {
        shows = λ h. elim h [ inl a ↦ inl (x.shows a) | inr b ↦ inr (y.shows b) ];
        refutes = λ n. (x.refutes (λ a. n (inl a)), y.refutes (λ b. n (inr b)));
        is_true = λ r. elim r [ inl a ↦ inl (x.is_true a) | inr b ↦ inr (y.is_true b) ];
        is_false = λ r h. elim h [ inl a ↦ x.is_false r.0 a | inr b ↦ y.is_false r.1 b ];
      }
  told (Implies f g) l p =
      let q = and_parts (is_plain f) (is_plain g) p in
      let x = told f l q.0 in
      let y = told g l q.1 in
      record {
        shows = λ h. elim (plain_decided f q.0 (at l 0)) [ inl a ↦ inr (y.shows (h a)) | inr k ↦ inl (x.refutes k) ];
        refutes = λ n. elim (plain_decided f q.0 (at l 0)) [
          | inl a ↦ (x.shows a, y.refutes (λ b. n (λ _. b)))
          | inr k ↦ absurd (n (λ a. absurd (k a)))
        ];
        is_true = λ r a. elim r [ inl c ↦ absurd (x.is_false c a) | inr b ↦ y.is_true b ];
        is_false = λ r h. y.is_false r.1 (h (x.is_true r.0));
      }
  told (EX f) l p = cc
  told (EF f) l p = cc
  told (EG f) l p = cc
  told (EU f g) l p = cc
  told (AX f) l p = cc
  told (AF f) l p = cc
  told (AG f) l p = cc
  told (AU f g) l p = cc

pub told_law : (S A : Type 0) → PlainIsTold S A
told_law S A = record {
  refuted = λ m label f l p. let h = told m label f l p in (h.is_false, h.refutes);
  shown = λ m label f l p. let h = told m label f l p in (h.is_true, h.shows);
}

mutual
  plain_universal : {A : Type 0} (f : Formula A) → IsTrue (is_plain f) → IsTrue (is_universal f)
  plain_universal (Atom a) p = refl
  plain_universal (Not f) p = plain_existential f p
  plain_universal (And f g) p =
      let q = and_parts (is_plain f) (is_plain g) p in and_from (is_universal f) (is_universal g) (plain_universal f q.0) (plain_universal g q.1)
  plain_universal (Or f g) p =
      let q = and_parts (is_plain f) (is_plain g) p in
      or_left (is_plain f && is_universal g) (is_universal f && is_plain g) (and_from (is_plain f) (is_universal g) q.0 (plain_universal g q.1))
  plain_universal (Implies f g) p =
      let q = and_parts (is_plain f) (is_plain g) p in and_from (is_plain f) (is_universal g) q.0 (plain_universal g q.1)
  plain_universal (EX f) p = p
  plain_universal (EF f) p = p
  plain_universal (EG f) p = p
  plain_universal (EU f g) p = p
  plain_universal (AX f) p = cc
  plain_universal (AF f) p = cc
  plain_universal (AG f) p = cc
  plain_universal (AU f g) p = cc

  plain_existential : {A : Type 0} (f : Formula A) → IsTrue (is_plain f) → IsTrue (is_existential f)
  plain_existential (Atom a) p = refl
  plain_existential (Not f) p = plain_universal f p
  plain_existential (And f g) p =
      let q = and_parts (is_plain f) (is_plain g) p in
      or_left (is_plain f && is_existential g) (is_existential f && is_plain g) (and_from (is_plain f) (is_existential g) q.0 (plain_existential g q.1))
  plain_existential (Or f g) p =
      let q = and_parts (is_plain f) (is_plain g) p in and_from (is_existential f) (is_existential g) (plain_existential f q.0) (plain_existential g q.1)
  plain_existential (Implies f g) p = p
  plain_existential (EX f) p = cc
  plain_existential (EF f) p = cc
  plain_existential (EG f) p = cc
  plain_existential (EU f g) p = cc
  plain_existential (AX f) p = p
  plain_existential (AF f) p = p
  plain_existential (AG f) p = p
  plain_existential (AU f g) p = p

pub plain_law : (A : Type 0) → PlainIsLinear A
plain_law A = record { universal = plain_universal; existential = plain_existential }
