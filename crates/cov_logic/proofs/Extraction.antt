-- Where a linear universal formula is false, some fair lasso refutes it; where a linear existential one is true, some fair lasso shows it.
use Rattle.std.proofs.Common.{Bool, ◌&&◌, IsTrue, inl, inr, refl, sym, subst}
use Rattle.std.proofs.lemmas.Bool.{and_parts, or_cases}
use Rattle.cov_logic.specs.Structure.{Structure}
use Rattle.cov_logic.specs.Lasso.{Lasso}
use Rattle.cov_logic.specs.Suffix.{suffix, at}
use Rattle.cov_logic.specs.FairLasso.{IsFairFrom}
use Rattle.cov_logic.specs.Formula.{Formula, Atom, Not, And, Or, Implies, EX, EF, EG, EU, AX, AF, AG, AU}
use Rattle.cov_logic.specs.Truth.{Sat}
use Rattle.cov_logic.specs.Evidence.{Refutes, Shows}
use Rattle.cov_logic.specs.LinearFragment.{is_plain, is_universal, is_existential}
use Rattle.cov_logic.specs.TruthSet.{Operations, AreExact}
use Rattle.cov_logic.proofs.Suffixes.{suffix_from}
use Rattle.cov_logic.proofs.Positions.{up_to}
use Rattle.cov_logic.proofs.PlainFormulas.{told}
use Rattle.cov_logic.proofs.Found.{Found, found_map, step_back, path_back}
use Rattle.cov_logic.proofs.Counterexamples.{choose, not_ax, not_af, not_ag, not_au}

module _ {S A : Type 0} (m : Structure S) (ops : Operations (Unit {0}) S) (exact : AreExact m ops) (label : S → A → Bool) where
  plain_shown : (f : Formula A) → IsTrue (is_plain f) → (s : S) (l : Lasso S) → IsFairFrom m s l → Sat m label f s → Shows label f l
  plain_shown f p s l fair h = (told m label f l p).shows (subst (Sat m label f) (sym fair.starts) h)

  plain_refuted : (f : Formula A) → IsTrue (is_plain f) → (s : S) (l : Lasso S) → IsFairFrom m s l → ¬ Sat m label f s → Refutes label f l
  plain_refuted f p s l fair h = (told m label f l p).refutes (λ x. h (subst (Sat m label f) fair.starts x))

  mutual
    pub refuted_from : (f : Formula A) → IsTrue (is_universal f) → (s : S) (l : Lasso S) → IsFairFrom m s l → ¬ Sat m label f s → Found m (Refutes label f) s
    refuted_from (Atom a) u s l fair h = record { lasso = l; fair = fair; has = plain_refuted (Atom a) refl s l fair h }
    refuted_from (Not f) u s l fair h =
        elim (choose m ops exact label f s) [ inl x ↦ shown_from f u s l fair x | inr no_x ↦ absurd (h no_x) ]
    refuted_from (And f g) u s l fair h =
        let q = and_parts (is_universal f) (is_universal g) u in
        elim (choose m ops exact label f s) [
          | inl x ↦ found_map m (Refutes label g) (Refutes label (And f g)) s (λ k _ r. inr r) (refuted_from g q.1 s l fair (λ y. h (x, y)))
          | inr no_x ↦ found_map m (Refutes label f) (Refutes label (And f g)) s (λ k _ r. inl r) (refuted_from f q.0 s l fair no_x)
        ]
    refuted_from (Or f g) u s l fair h =
        elim (or_cases (is_plain f && is_universal g) (is_universal f && is_plain g) u) [
          | inl p ↦
              let q = and_parts (is_plain f) (is_universal g) p in
              found_map m (Refutes label g) (Refutes label (Or f g)) s (λ k k_fair r. (plain_refuted f q.0 s k k_fair (λ x. h (inl x)), r))
              (refuted_from g q.1 s l fair (λ y. h (inr y)))
          | inr p ↦
              let q = and_parts (is_universal f) (is_plain g) p in
              found_map m (Refutes label f) (Refutes label (Or f g)) s (λ k k_fair r. (r, plain_refuted g q.1 s k k_fair (λ y. h (inr y))))
              (refuted_from f q.0 s l fair (λ x. h (inl x)))
        ]
    refuted_from (Implies f g) u s l fair h =
        let q = and_parts (is_plain f) (is_universal g) u in
        elim (choose m ops exact label f s) [
          | inl x ↦ found_map m (Refutes label g) (Refutes label (Implies f g)) s (λ k k_fair r. (plain_shown f q.0 s k k_fair x, r))
              (refuted_from g q.1 s l fair (λ y. h (λ _. y)))
          | inr no_x ↦ absurd (h (λ x. absurd (no_x x)))
        ]
    refuted_from (AX f) u s l fair h =
        let (k, k_fair, p) = not_ax m ops exact label f s h in
        subst (Found m (Refutes label (AX f))) k_fair.starts
        (step_back m (Refutes label f) k k_fair.fair (refuted_from f u (at k 1) (suffix 1 k) (suffix_from m 1 k k_fair.fair) p))
    refuted_from (AF f) u s l fair h =
        let (k, k_fair, p) = not_af m ops exact label f s h in
        record { lasso = k; fair = k_fair; has = λ i. plain_refuted f u (at k i) (suffix i k) (suffix_from m i k k_fair.fair) (p i) }
    refuted_from (AG f) u s l fair h =
        let (k, k_fair, (j, p)) = not_ag m ops exact label f s h in
        let r = path_back m (Refutes label f) (λ _. Unit {0}) (λ _. Unit {0}) (λ _ _ _ _. tt) j k k_fair.fair (λ _ _. tt)
        (refuted_from f u (at k j) (suffix j k) (suffix_from m j k k_fair.fair) p) in
        subst (Found m (Refutes label (AG f))) k_fair.starts (record { lasso = r.lasso; fair = r.fair; has = (r.has.place, r.has.there) })
    refuted_from (AU f g) u s l fair h =
        let q = and_parts (is_universal f) (is_plain g) u in
        elim (not_au m ops exact label f g s h) [
          | inl x ↦ (let (k, k_fair, p) = x in
              record { lasso = k; fair = k_fair; has = inl (λ i. plain_refuted g q.1 (at k i) (suffix i k) (suffix_from m i k k_fair.fair) (p i)) })
          | inr y ↦ (let (k, k_fair, (j, none, before)) = y in
              let r = found_map m (Refutes label f) (λ n. Refutes label f n × Refutes label g n) (at k j)
              (λ n n_fair r. (r, plain_refuted g q.1 (at k j) n n_fair none.0))
              (refuted_from f q.0 (at k j) (suffix j k) (suffix_from m j k k_fair.fair) none.1) in
              let b = path_back m (λ n. Refutes label f n × Refutes label g n) (Refutes label g) (λ t. Sat m label g t → ⊥) (plain_refuted g q.1) j k k_fair.fair before r in
              subst (Found m (Refutes label (AU f g))) k_fair.starts
              (record { lasso = b.lasso; fair = b.fair; has = inr (b.has.place, b.has.there.0, up_to (λ i. Refutes label g (suffix i b.lasso)) b.has.place b.has.before b.has.there.1) }))
        ]
    refuted_from (EX f) u s l fair h = cc
    refuted_from (EF f) u s l fair h = cc
    refuted_from (EG f) u s l fair h = cc
    refuted_from (EU f g) u s l fair h = cc

    pub shown_from : (f : Formula A) → IsTrue (is_existential f) → (s : S) (l : Lasso S) → IsFairFrom m s l → Sat m label f s → Found m (Shows label f) s
    shown_from (Atom a) u s l fair h = record { lasso = l; fair = fair; has = plain_shown (Atom a) refl s l fair h }
    shown_from (Not f) u s l fair h = refuted_from f u s l fair h
    shown_from (And f g) u s l fair h =
        elim (or_cases (is_plain f && is_existential g) (is_existential f && is_plain g) u) [
          | inl p ↦
              let q = and_parts (is_plain f) (is_existential g) p in
              found_map m (Shows label g) (Shows label (And f g)) s (λ k k_fair r. (plain_shown f q.0 s k k_fair h.0, r)) (shown_from g q.1 s l fair h.1)
          | inr p ↦
              let q = and_parts (is_existential f) (is_plain g) p in
              found_map m (Shows label f) (Shows label (And f g)) s (λ k k_fair r. (r, plain_shown g q.1 s k k_fair h.1)) (shown_from f q.0 s l fair h.0)
        ]
    shown_from (Or f g) u s l fair h =
        let q = and_parts (is_existential f) (is_existential g) u in
        elim h [
          | inl x ↦ found_map m (Shows label f) (Shows label (Or f g)) s (λ k _ r. inl r) (shown_from f q.0 s l fair x)
          | inr y ↦ found_map m (Shows label g) (Shows label (Or f g)) s (λ k _ r. inr r) (shown_from g q.1 s l fair y)
        ]
    shown_from (Implies f g) u s l fair h = record { lasso = l; fair = fair; has = plain_shown (Implies f g) u s l fair h }
    shown_from (EX f) u s l fair (k, k_fair, p) =
        subst (Found m (Shows label (EX f))) k_fair.starts
        (step_back m (Shows label f) k k_fair.fair (shown_from f u (at k 1) (suffix 1 k) (suffix_from m 1 k k_fair.fair) p))
    shown_from (EF f) u s l fair (k, k_fair, (j, p)) =
        let r = path_back m (Shows label f) (λ _. Unit {0}) (λ _. Unit {0}) (λ _ _ _ _. tt) j k k_fair.fair (λ _ _. tt)
        (shown_from f u (at k j) (suffix j k) (suffix_from m j k k_fair.fair) p) in
        subst (Found m (Shows label (EF f))) k_fair.starts (record { lasso = r.lasso; fair = r.fair; has = (r.has.place, r.has.there) })
    shown_from (EG f) u s l fair (k, k_fair, p) =
        record { lasso = k; fair = k_fair; has = λ i. plain_shown f u (at k i) (suffix i k) (suffix_from m i k k_fair.fair) (p i) }
    shown_from (EU f g) u s l fair (k, k_fair, (j, p, before)) =
        let q = and_parts (is_plain f) (is_existential g) u in
        let r = path_back m (Shows label g) (Shows label f) (Sat m label f) (plain_shown f q.0) j k k_fair.fair before
        (shown_from g q.1 (at k j) (suffix j k) (suffix_from m j k k_fair.fair) p) in
        subst (Found m (Shows label (EU f g))) k_fair.starts (record { lasso = r.lasso; fair = r.fair; has = (r.has.place, r.has.there, r.has.before) })
    shown_from (AX f) u s l fair h = cc
    shown_from (AF f) u s l fair h = cc
    shown_from (AG f) u s l fair h = cc
    shown_from (AU f g) u s l fair h = cc
