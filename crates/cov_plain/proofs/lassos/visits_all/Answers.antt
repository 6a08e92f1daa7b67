use Rattle.std.proofs.Common.{IsTrue, false, ◌∙◌, refl, arith}
use Rattle.std.specs.List.{list_any}
use Rattle.std.proofs.lemmas.Bool.{both_ways}
use Rattle.cov_plain.specs.Structures.{structure_of}
use Rattle.cov_plain.proofs.Structures.{fair_count}
use Rattle.cov_plain.proofs.Places.{all_from_places, places_from_all}
use Rattle.cov_plain.proofs.lassos.visits_all.Goals as goal

pub returns-then-not-visits : goal.returns-then-not-visits
returns-then-not-visits c =
    let m = structure_of c.args.graph.now in (
      λ e. cc,
      λ h.
          let met = places_from_all (λ f. IsTrue (list_any f c.args.turn.now)) (λ _. false) m.fair h c.loop-set.set
          (omega (arith, fair_count c.args.graph.now, c.len-set-end.ensures)) in
          absurd (both_ways _ c.if-not-visits.true (c.visits.ensures ∙ met)),
    )

pub returns : goal.returns
returns c =
    let m = structure_of c.args.graph.now in (
      λ e. all_from_places (λ f. IsTrue (list_any f c.args.turn.now)) (λ _. false) m.fair
          (λ k d. c.loop-set.invariant k (omega (arith, fair_count c.args.graph.now, c.len-set-end.ensures))),
      λ h. refl,
    )
