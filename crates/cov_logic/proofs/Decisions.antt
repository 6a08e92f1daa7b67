-- On a finite structure truth is decided, and a linear universal formula that does not pass is refuted by a lasso.
use Rattle.std.proofs.Common.{not, ◌&&◌, inl, inr, refl}
use Rattle.std.specs.List.{list_any}
use Rattle.std.proofs.lemmas.Bool.{and_parts, and_from, cases_Bool, both_ways}
use Rattle.cov_logic.specs.Suffix.{at}
use Rattle.cov_logic.specs.Sets.{Set}
use Rattle.cov_logic.specs.TruthSet.{truth_set}
use Rattle.cov_logic.specs.TruthLaws.{TruthIsDecided}
use Rattle.cov_logic.specs.EvidenceLaws.{FailureIsRefuted}
use Rattle.cov_logic.proofs.Suffixes.{first_step}
use Rattle.cov_logic.proofs.Tests.{not_is}
use Rattle.cov_logic.proofs.TruthSets.{right}
use Rattle.cov_logic.proofs.Counterexamples.{choose}
use Rattle.cov_logic.proofs.Extraction.{refuted_from}
use Rattle.cov_logic.proofs.Listed.{some_in, found_in}
use Rattle.cov_logic.proofs.FiniteSets.{good_set, operations, are_exact}

pub decided_law : (S A : Type 0) → TruthIsDecided S A
decided_law S A m same states label f s finite = choose m (operations m same states finite) (are_exact m same states finite) label f s

pub failure_law : (S A : Type 0) → FailureIsRefuted S A
failure_law S A m same states label f finite u fails =
    let good = good_set m same states finite in
    let ops = operations m same states finite in
    let exact = are_exact m same states finite in
    let truth : Set S = truth_set ops (λ (_ : Unit {0}). label) f tt in
    let is = right m ops exact (λ _. label) tt f in
    -- the initial states that start a fair lasso and at which the formula is false
    let bad : Set S = λ s. m.initial s && (good.set s && not (truth s)) in
    elim (cases_Bool (list_any bad states)) [
      | inl e ↦
          let (s, h) = some_in bad states e in
          let p = and_parts (m.initial s) (good.set s && not (truth s)) h in
          let q = and_parts (good.set s) (not (truth s)) p.1 in
          let (l, fair) = (good.exact.has s).0 q.0 in
          let r = refuted_from m ops exact label f u s l fair (λ t. (not_is (truth s)).0 q.1 ((is.at_valid s refl).1 t)) in
          (s, r.lasso, p.0, r.fair, r.has)
      | inr none ↦
          absurd (fails (λ s l init fair. elim (cases_Bool (truth s)) [
            | inl e ↦ (is.at_valid s refl).0 e
            | inr e ↦
                absurd (both_ways (list_any bad states) none
                (found_in m same states finite bad s states (finite.from s (at l 1) (first_step m s l fair))
                (and_from (m.initial s) (good.set s && not (truth s)) init
                (and_from (good.set s) (not (truth s)) ((good.exact.has s).1 (l, fair)) ((not_is (truth s)).1 (λ h. both_ways (truth s) e h))))))
          ]))
    ]
