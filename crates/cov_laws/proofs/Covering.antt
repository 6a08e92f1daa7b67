-- Verdicts, reachable states and coverage.
use Rattle.std.proofs.Common.{Bool, not, ◌&&◌, ◌⊎◌, inl, inr, List, refl, sym, subst}
use Rattle.std.specs.List.{list_any}
use Rattle.std.proofs.lemmas.Bool.{and_parts, and_from, cases_Bool, both_ways}
use Rattle.cov_logic.specs.Structure.{Structure}
use Rattle.cov_logic.specs.Suffix.{at}
use Rattle.cov_logic.specs.Sets.{Set}
use Rattle.cov_logic.specs.Finite.{IsFinite}
use Rattle.cov_logic.specs.Formula.{Formula}
use Rattle.cov_logic.specs.Verdict.{Passes}
use Rattle.cov_logic.specs.Reachable.{Reachable}
use Rattle.cov_logic.specs.Mutant.{mutant}
use Rattle.cov_logic.specs.TruthSet.{truth_set}
use Rattle.cov_logic.proofs.MutantStates.{reachable_at, reachable_start}
use Rattle.cov_logic.proofs.Suffixes.{first_step}
use Rattle.cov_logic.proofs.Tests.{not_is}
use Rattle.cov_logic.proofs.TruthSets.{right}
use Rattle.cov_logic.proofs.Listed.{some_in, found_in}
use Rattle.cov_logic.proofs.FiniteSets.{good_set, operations, are_exact}
use Rattle.cov_laws.specs.Verdicts.{LassosAreReachable, NothingIsCovered, ConjunctionCovers}

pub reachable_law : (S : Type 0) → LassosAreReachable S
reachable_law S m s l i init fair = reachable_at m i l fair.fair (subst (Reachable m) (sym fair.starts) (reachable_start m s init))

pub unfair_law : (S A : Type 0) → NothingIsCovered S A
unfair_law S A = record {
  passes = λ m label f unfair s l init fair. absurd (unfair s init (l, fair));
  uncovered = λ m same plain inverted f w unfair c. c.fails (λ s l init fair. absurd (unfair s init (l, fair)));
}

module _ {S A : Type 0} (m : Structure S) (same : S → S → Bool) (states : List S) (finite : IsFinite m same states) where
  -- on a finite structure a formula passes or does not
  verdict_decided : (label : S → A → Bool) (f : Formula A) → Passes m label f ⊎ ¬ Passes m label f
  verdict_decided label f =
      let good = good_set m same states finite in
      let ops = operations m same states finite in
      let exact = are_exact m same states finite in
      let truth : Set S = truth_set ops (λ (_ : Unit {0}). label) f tt in
      let is = right m ops exact (λ _. label) tt f in
      let bad : Set S = λ s. m.initial s && (good.set s && not (truth s)) in
      elim (cases_Bool (list_any bad states)) [
        | inl e ↦
            let (s, h) = some_in bad states e in
            let p = and_parts (m.initial s) (good.set s && not (truth s)) h in
            let q = and_parts (good.set s) (not (truth s)) p.1 in
            let (l, fair) = (good.exact.has s).0 q.0 in
            inr (λ passes. (not_is (truth s)).0 q.1 ((is.at_valid s refl).1 (passes s l p.0 fair)))
        | inr none ↦
            inl (λ s l init fair. elim (cases_Bool (truth s)) [
              | inl e ↦ (is.at_valid s refl).0 e
              | inr e ↦
                  absurd (both_ways (list_any bad states) none
                  (found_in m same states finite bad s states (finite.from s (at l 1) (first_step m s l fair))
                  (and_from (m.initial s) (good.set s && not (truth s)) init
                  (and_from (good.set s) (not (truth s)) ((good.exact.has s).1 (l, fair)) ((not_is (truth s)).1 (λ h. both_ways (truth s) e h))))))
            ])
      ]

pub conjunction_law : (S A : Type 0) → ConjunctionCovers S A
conjunction_law S A m same states plain inverted f g w finite p q = (
  λ c. elim (verdict_decided m same states finite (mutant same plain inverted w) f) [
    | inl one ↦ inr (record { reachable = c.reachable; passes = q; fails = λ other. c.fails (λ s l init fair. (one s l init fair, other s l init fair)) })
    | inr fails ↦ inl (record { reachable = c.reachable; passes = p; fails = fails })
  ],
  λ h. elim h [
    | inl c ↦ record {
      reachable = c.reachable;
      passes = λ s l init fair. (p s l init fair, q s l init fair);
      fails = λ both. c.fails (λ s l init fair. (both s l init fair).0);
    }
    | inr c ↦ record {
      reachable = c.reachable;
      passes = λ s l init fair. (p s l init fair, q s l init fair);
      fails = λ both. c.fails (λ s l init fair. (both s l init fair).1);
    }
  ],
)
