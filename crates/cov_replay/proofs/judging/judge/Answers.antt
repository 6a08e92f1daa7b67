use Rattle.std.proofs.Common.{sym, subst}
use Rattle.cov_replay.specs.Ready.{IsPlain}
use Rattle.cov_replay.specs.Verdicts.{IsVerdict}
use Rattle.cov_replay.proofs.Deciding.{proved}
use Rattle.cov_replay.proofs.Validity.{accepts_valid}
use Rattle.cov_replay.proofs.judging.judge.Goals as goal

pub judge_claimed-requires-clause-plain : goal.judge_claimed-requires-clause-plain
judge_claimed-requires-clause-plain c =
    subst (λ m. IsPlain m c.args.e.now.lasso) (sym c.model.ensures.value)
    (record { formed = c.model.ensures.formed; typed = c.requires.typed; turn = c.requires.turn; few = c.requires.few })

pub returns-in-Claimed-clause-accept : goal.returns-in-Claimed-clause-accept
returns-in-Claimed-clause-accept c = λ is.
    proved c.args.m.now c.args.e.now c.judge_claimed.result c.requires.turn
    (subst (λ m. IsVerdict m c.args.e.now c.judge_claimed.result) c.model.ensures.value c.judge_claimed.ensures.verdict) is

pub returns-in-Claimed-clause-valid : goal.returns-in-Claimed-clause-valid
returns-in-Claimed-clause-valid c =
    accepts_valid c.args.m.now c.args.e.now c.judge_claimed.result
    (subst (λ m. IsVerdict m c.args.e.now c.judge_claimed.result) c.model.ensures.value c.judge_claimed.ensures.verdict)
