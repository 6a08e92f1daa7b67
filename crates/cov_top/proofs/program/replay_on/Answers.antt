use Rattle.cov_top.proofs.ReplayLemmas.{too-long-stop}
use Rattle.cov_top.proofs.program.replay_on.Goals as goal

pub returns-in-TooLong-clause-err : goal.returns-in-TooLong-clause-err
returns-in-TooLong-clause-err c = λ bytes h. too-long-stop c.args.m.now c.args.evidence.now bytes c.at.result c.in-TooLong.is c.at.ensures h
