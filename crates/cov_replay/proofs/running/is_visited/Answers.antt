use Rattle.std.proofs.Common.{◌+◌, ◌≤◌, length, refl, inl, inr, arith}
use Rattle.std.proofs.lemmas.Bool.{cases_lt}
use Rattle.cov_replay.proofs.Visits.{not_visited_here, visited_here}
use Rattle.cov_replay.proofs.running.is_visited.Goals as goal

pub returns-then-fair_at-clause-value : goal.returns-then-fair_at-clause-value
returns-then-fair_at-clause-value c =
    let low : length c.args.l.now.stem ≤ c.loop-place.place = omega arith in (
      λ _. visited_here c.args.m.now c.args.l.now c.args.k c.loop-place.place c.state_at.result.now c.fair_at.result low (omega arith) c.state_at.ensures
          c.fair_at.ensures.value c.if-fair_at.true,
      λ _. refl,
    )

pub loop-place-preserved : goal.loop-place-preserved
loop-place-preserved c = record {
  made = c.fair_at.ensures.kept;
  none = λ j h t. elim (cases_lt (length c.args.l.now.stem + j) c.loop-place.place) [
    | inl d ↦ c.loop-place.invariant.none j d t
    | inr d ↦ not_visited_here c.args.m.now c.args.l.now c.args.k c.loop-place.place j c.state_at.result.now c.fair_at.result (omega arith) c.state_at.ensures
        c.fair_at.ensures.value c.if-fair_at.false t
  ];
}
