-- A coding keeps truth, verdicts and what is reachable.
use Rattle.std.proofs.Common.{◌≡◌, ℕ, suc, Bool, if◌then◌else◌, IsTrue, ◌↔◌, inl, inr, List, [], ◌∷◌, map, refl, sym, ap, ◌∙◌, subst}
use Rattle.cov_logic.specs.Structure.{Structure}
use Rattle.cov_logic.specs.Lasso.{Lasso, first_of, Leads}
use Rattle.cov_logic.specs.Suffix.{at}
use Rattle.cov_logic.specs.FairLasso.{IsFairFrom}
use Rattle.cov_logic.specs.Paths.{Next, Eventually, Always, Until, SomeLasso, EveryLasso}
use Rattle.cov_logic.specs.Formula.{Formula, Atom, Not, And, Or, Implies, EX, EF, EG, EU, AX, AF, AG, AU}
use Rattle.cov_logic.specs.Truth.{Sat}
use Rattle.cov_logic.specs.Verdict.{Passes}
use Rattle.cov_logic.specs.Reachable.{Reachable}
use Rattle.cov_logic.specs.Mutant.{mutant}
use Rattle.cov_logic.specs.Sets.{Set}
use Rattle.cov_logic.specs.Coding.{AgreeAll, IsCoding}
use Rattle.cov_logic.specs.CodingLaws.{LabelsAgree, CodingKeeps, CodingKeepsCoverage}
use Rattle.cov_logic.proofs.Suffixes.{at_step, first_step}
use Rattle.cov_logic.proofs.Images.{image, at_image, first_of-map, FairKept, leads_image, fair_image}

module _ {S R : Type 0} (m : Structure S) (k : Structure R) (valid : Set S) (encode : S → R) (decode : R → S) (coding : IsCoding m k valid encode decode) where
  -- the state is valid; the code is that of a valid state
  abbrev IsValid : S → Type 0
  IsValid s = IsTrue (valid s)

  abbrev IsCode : R → Type 0
  IsCode r = IsTrue (valid (decode r)) × (encode (decode r) ≡ r)

  encode_step : (s t : S) → IsValid s → IsValid t → IsTrue (m.step s t) → IsTrue (k.step (encode s) (encode t))
  encode_step s t v w e = sym (coding.step s t v w) ∙ e

  decode_step : (r u : R) → IsCode r → IsCode u → IsTrue (k.step r u) → IsTrue (m.step (decode r) (decode u))
  decode_step r u v w e =
      coding.step (decode r) (decode u) v.0 w.0
      ∙ subst (λ q. k.step q (encode (decode u)) ≡ k.step r u) (sym v.1) (subst (λ q. k.step r q ≡ k.step r u) (sym w.1) refl) ∙ e

  encode_fair : (fs : List (Set S)) (gs : List (Set R)) → AgreeAll valid encode fs gs → FairKept IsValid encode fs gs
  encode_fair [] [] h = tt
  encode_fair [] (g ∷ gs) h = h
  encode_fair (f ∷ fs) [] h = h
  encode_fair (f ∷ fs) (g ∷ gs) h = (λ s v e. sym (h.0 s v) ∙ e, encode_fair fs gs h.1)

  decode_fair : (fs : List (Set S)) (gs : List (Set R)) → AgreeAll valid encode fs gs → FairKept IsCode decode gs fs
  decode_fair [] [] h = tt
  decode_fair [] (g ∷ gs) h = h
  decode_fair (f ∷ fs) [] h = h
  decode_fair (f ∷ fs) (g ∷ gs) h = (λ r v e. h.0 (decode r) v.0 ∙ ap g v.1 ∙ e, decode_fair fs gs h.1)

  -- lassos go over, and back
  encode_lasso : (s : S) (l : Lasso S) → IsFairFrom m s l → IsFairFrom k (encode s) (image encode l)
  encode_lasso = fair_image m k encode IsValid coding.from_valid encode_step (encode_fair m.fair k.fair coding.fair)

  decode_lasso : (r : R) (l : Lasso R) → IsFairFrom k r l → IsFairFrom m (decode r) (image decode l)
  decode_lasso = fair_image k m decode IsCode coding.from_code decode_step (decode_fair m.fair k.fair coding.fair)

  valid_at : (s : S) (l : Lasso S) → IsFairFrom m s l → (i : ℕ) → IsValid (at l i)
  valid_at s l fair i = coding.from_valid (at l i) (at l (suc i)) (at_step m i l fair.fair)

  code_at : (r : R) (l : Lasso R) → IsFairFrom k r l → (i : ℕ) → IsCode (at l i)
  code_at r l fair i = coding.from_code (at l i) (at l (suc i)) (at_step k i l fair.fair)

  -- a property of states, and the same of their codes
  record Same (P : S → Type 0) (Q : R → Type 0) : Type 0 where
    by : (s : S) → IsValid s → P s ↔ Q (encode s)

  -- along a lasso and its image
  over : (P : S → Type 0) (Q : R → Type 0) → Same P Q → (s : S) (l : Lasso S) → IsFairFrom m s l → (i : ℕ) → P (at l i) ↔ Q (at (image encode l) i)
  over P Q h s l fair i =
      let e = sym (at_image encode i l) in
      let q = h.by (at l i) (valid_at s l fair i) in
      (λ p. subst Q e (q.0 p), λ x. q.1 (subst Q (sym e) x))

  back : (P : S → Type 0) (Q : R → Type 0) → Same P Q → (r : R) (l : Lasso R) → IsFairFrom k r l → (i : ℕ) → P (at (image decode l) i) ↔ Q (at l i)
  back P Q h r l fair i =
      let c = code_at r l fair i in
      let e = sym (at_image decode i l) in
      let q = h.by (decode (at l i)) c.0 in
      (λ p. subst Q c.1 (q.0 (subst P (sym e) p)), λ x. subst P e (q.1 (subst Q (sym c.1) x)))

  -- a condition on lassos, and the same on their images both ways
  record SamePaths (C : Lasso S → Type 0) (D : Lasso R → Type 0) : Type 0 where
    over : (s : S) (l : Lasso S) → IsFairFrom m s l → C l ↔ D (image encode l)
    back : (r : R) (l : Lasso R) → IsFairFrom k r l → C (image decode l) ↔ D l

  same_some : (C : Lasso S → Type 0) (D : Lasso R → Type 0) → SamePaths C D → Same (λ s. SomeLasso m s C) (λ r. SomeLasso k r D)
  same_some C D h = record {
    by = λ s v. (
      λ (l, fair, c). (image encode l, encode_lasso s l fair, (h.over s l fair).0 c),
      λ (l, fair, d). (
        image decode l,
        subst (λ t. IsFairFrom m t (image decode l)) (coding.decoded s v) (decode_lasso (encode s) l fair),
        (h.back (encode s) l fair).1 d,
      ),
    );
  }

  same_every : (C : Lasso S → Type 0) (D : Lasso R → Type 0) → SamePaths C D → Same (λ s. EveryLasso m s C) (λ r. EveryLasso k r D)
  same_every C D h = record {
    by = λ s v. (
      λ all l fair. (h.back (encode s) l fair).0
          (all (image decode l) (subst (λ t. IsFairFrom m t (image decode l)) (coding.decoded s v) (decode_lasso (encode s) l fair))),
      λ all l fair. (h.over s l fair).1 (all (image encode l) (encode_lasso s l fair)),
    );
  }

  module _ (P : S → Type 0) (Q : R → Type 0) (h : Same P Q) where
    same_next : SamePaths (Next P) (Next Q)
    same_next = record { over = λ s l fair. over P Q h s l fair 1; back = λ r l fair. back P Q h r l fair 1 }

    same_eventually : SamePaths (Eventually P) (Eventually Q)
    same_eventually = record {
      over = λ s l fair. (λ (i, p). (i, (over P Q h s l fair i).0 p), λ (i, q). (i, (over P Q h s l fair i).1 q));
      back = λ r l fair. (λ (i, p). (i, (back P Q h r l fair i).0 p), λ (i, q). (i, (back P Q h r l fair i).1 q));
    }

    same_always : SamePaths (Always P) (Always Q)
    same_always = record {
      over = λ s l fair. (λ p i. (over P Q h s l fair i).0 (p i), λ q i. (over P Q h s l fair i).1 (q i));
      back = λ r l fair. (λ p i. (back P Q h r l fair i).0 (p i), λ q i. (back P Q h r l fair i).1 (q i));
    }

    same_until : (X : S → Type 0) (Y : R → Type 0) → Same X Y → SamePaths (Until P X) (Until Q Y)
    same_until X Y g = record {
      over = λ s l fair. (
        λ (j, x, p). (j, (over X Y g s l fair j).0 x, λ i c. (over P Q h s l fair i).0 (p i c)),
        λ (j, y, q). (j, (over X Y g s l fair j).1 y, λ i c. (over P Q h s l fair i).1 (q i c)),
      );
      back = λ r l fair. (
        λ (j, x, p). (j, (back X Y g r l fair j).0 x, λ i c. (back P Q h r l fair i).0 (p i c)),
        λ (j, y, q). (j, (back X Y g r l fair j).1 y, λ i c. (back P Q h r l fair i).1 (q i c)),
      );
    }

  module _ {A : Type 0} (label : S → A → Bool) (code_label : R → A → Bool) (agree : LabelsAgree valid encode label code_label) where
    same : (f : Formula A) → Same (Sat m label f) (Sat k code_label f)
    same (Atom a) = record { by = λ s v. (λ e. sym (agree.by s a v) ∙ e, λ e. agree.by s a v ∙ e) }
    same (Not f) = let h = same f in record { by = λ s v. (λ n q. n ((h.by s v).1 q), λ n p. n ((h.by s v).0 p)) }
    same (And f g) =
        let h = same f in
        let i = same g in
        record { by = λ s v. (λ p. ((h.by s v).0 p.0, (i.by s v).0 p.1), λ q. ((h.by s v).1 q.0, (i.by s v).1 q.1)) }
    same (Or f g) =
        let h = same f in
        let i = same g in
        record {
          by = λ s v. (
            λ p. elim p [ inl x ↦ inl ((h.by s v).0 x) | inr y ↦ inr ((i.by s v).0 y) ],
            λ q. elim q [ inl x ↦ inl ((h.by s v).1 x) | inr y ↦ inr ((i.by s v).1 y) ],
          );
        }
    same (Implies f g) =
        let h = same f in
        let i = same g in
        record { by = λ s v. (λ p x. (i.by s v).0 (p ((h.by s v).1 x)), λ q x. (i.by s v).1 (q ((h.by s v).0 x))) }
    same (EX f) = same_some _ _ (same_next (Sat m label f) (Sat k code_label f) (same f))
    same (EF f) = same_some _ _ (same_eventually (Sat m label f) (Sat k code_label f) (same f))
    same (EG f) = same_some _ _ (same_always (Sat m label f) (Sat k code_label f) (same f))
    same (EU f g) = same_some _ _ (same_until (Sat m label f) (Sat k code_label f) (same f) (Sat m label g) (Sat k code_label g) (same g))
    same (AX f) = same_every _ _ (same_next (Sat m label f) (Sat k code_label f) (same f))
    same (AF f) = same_every _ _ (same_eventually (Sat m label f) (Sat k code_label f) (same f))
    same (AG f) = same_every _ _ (same_always (Sat m label f) (Sat k code_label f) (same f))
    same (AU f g) = same_every _ _ (same_until (Sat m label f) (Sat k code_label f) (same f) (Sat m label g) (Sat k code_label g) (same g))

    pub same_truth : (f : Formula A) (s : S) → IsTrue (valid s) → Sat m label f s ↔ Sat k code_label f (encode s)
    same_truth f s v = (same f).by s v

    pub same_verdict : (f : Formula A) → Passes m label f ↔ Passes k code_label f
    same_verdict f = (
      λ p r l init fair.
          let c = coding.from_code r (at l 1) (first_step k r l fair) in
          let start = coding.initial (decode r) c.0 ∙ ap k.initial c.1 ∙ init in
          subst (Sat k code_label f) c.1 ((same_truth f (decode r) c.0).0 (p (decode r) (image decode l) start (decode_lasso r l fair))),
      λ p s l init fair.
          let v = coding.from_valid s (at l 1) (first_step m s l fair) in
          (same_truth f s v).1 (p (encode s) (image encode l) (sym (coding.initial s v) ∙ init) (encode_lasso s l fair)),
    )

  valid_first : (path : List S) (s : S) → IsValid s → Leads m path s → IsValid (first_of path s)
  valid_first [] s v leads = v
  valid_first (x ∷ path) s v leads = coding.from_valid x (first_of path s) leads.0

  code_first : (path : List R) (r : R) → IsCode r → Leads k path r → IsCode (first_of path r)
  code_first [] r v leads = v
  code_first (x ∷ path) r v leads = coding.from_code x (first_of path r) leads.0

  pub same_reachable : (s : S) → IsTrue (valid s) → Reachable m s ↔ Reachable k (encode s)
  same_reachable s v =
      let decoded = coding.decoded s v in
      let code : IsCode (encode s) = (subst IsValid (sym decoded) v, ap encode decoded) in (
        λ (path, init, leads). (
          map encode path,
          subst (λ r. IsTrue (k.initial r)) (sym (first_of-map encode path s)) (sym (coding.initial (first_of path s) (valid_first path s v leads)) ∙ init),
          leads_image m k encode IsValid coding.from_valid encode_step path s v leads,
        ),
        λ (path, init, leads).
            let c = code_first path (encode s) code leads in
            let start : IsTrue (m.initial (decode (first_of path (encode s)))) = coding.initial (decode (first_of path (encode s))) c.0 ∙ ap k.initial c.1 ∙ init in
            subst (Reachable m) decoded (
              map decode path,
              subst (λ t. IsTrue (m.initial t)) (sym (first_of-map decode path (encode s))) start,
              leads_image k m decode IsCode coding.from_code decode_step path (encode s) code leads,
            ),
      )

pub coding_law : (S R A : Type 0) → CodingKeeps S R A
coding_law S R A m k valid encode decode label code_label coding agree = record {
  truth = same_truth m k valid encode decode coding label code_label agree;
  verdict = same_verdict m k valid encode decode coding label code_label agree;
  reachable = same_reachable m k valid encode decode coding;
}

-- the labellings of a mutant and of its code agree
mutants_agree : {S R A : Type 0} (valid : Set S) (encode : S → R) (same : S → S → Bool) (code_same : R → R → Bool) (plain inverted : S → A → Bool)
    (code_plain code_inverted : R → A → Bool) →
    ((w s : S) → IsTrue (valid w) → IsTrue (valid s) → same w s ≡ code_same (encode w) (encode s)) →
    LabelsAgree valid encode plain code_plain → LabelsAgree valid encode inverted code_inverted → (w : S) → IsTrue (valid w) →
    LabelsAgree valid encode (mutant same plain inverted w) (mutant code_same code_plain code_inverted (encode w))
mutants_agree valid encode same code_same plain inverted code_plain code_inverted sames plains inverts w v = record {
  by = λ s a u.
      ap (λ b. if b then inverted s a else plain s a) (sames w s v u)
      ∙ ap (λ x. if code_same (encode w) (encode s) then x else plain s a) (inverts.by s a u)
      ∙ ap (λ y. if code_same (encode w) (encode s) then code_inverted (encode s) a else y) (plains.by s a u);
}

pub coverage_law : (S R A : Type 0) → CodingKeepsCoverage S R A
coverage_law S R A m k valid encode decode same code_same plain inverted code_plain code_inverted coding sames plains inverts f w v =
    let original = coding_law S R A m k valid encode decode plain code_plain coding plains in
    let changed = coding_law S R A m k valid encode decode (mutant same plain inverted w) (mutant code_same code_plain code_inverted (encode w)) coding
    (mutants_agree valid encode same code_same plain inverted code_plain code_inverted sames plains inverts w v) in (
      λ h. record {
        reachable = (original.reachable w v).0 h.reachable;
        passes = (original.verdict f).0 h.passes;
        fails = λ p. h.fails ((changed.verdict f).1 p);
      },
      λ h. record {
        reachable = (original.reachable w v).1 h.reachable;
        passes = (original.verdict f).1 h.passes;
        fails = λ p. h.fails ((changed.verdict f).0 p);
      },
    )
