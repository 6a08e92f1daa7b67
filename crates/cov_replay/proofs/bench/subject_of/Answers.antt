use Rattle.std.proofs.lemmas.Result.{IfOk-weaker}
use Rattle.cov_replay.proofs.Claiming.{mutant_claimed, occurrence_subject}
use Rattle.cov_replay.proofs.bench.subject_of.Goals as goal

pub returns-in-Mutant : goal.returns-in-Mutant
returns-in-Mutant c =
    mutant_claimed c.args.m.now c.args.e.now c.in-Some.spec.now c.in_ok-f.f c.in-Mutant.signal c.in-Mutant.at c.requires c.in-Some.ensures c.in_ok-f.ensures c.in-Mutant.is

pub returns-in-Occurrence : goal.returns-in-Occurrence
returns-in-Occurrence c =
    IfOk-weaker c.with_constant.result _ _
    (λ x k. occurrence_subject c.args.m.now c.args.e.now c.in-Some.spec.now c.in_ok-f.f c.in-Occurrence.n x c.requires c.in-Some.ensures c.in_ok-f.ensures c.in-Occurrence.is k)
    c.with_constant.ensures
