use Rattle.cov_dd.specs.Questions.{weight}
use Rattle.cov_dd.proofs.answers.+answer.Given as goal

abbrev pub decreases-answer : goal.decreases-answer
decreases-answer l = weight l.asked
