use Rattle.std.proofs.Common.{rules}
use Rattle.cov_model.specs.Walk.{judged_two}
use Rattle.cov_walk.specs.Places.{may_of}
use Rattle.cov_model.specs.Walk.{may_of_left, may_of_right}
use Rattle.cov_walk.proofs.Simple.{answers_told, two_told, two_found}
use Rattle.cov_walk.proofs.operator.two.Goals as goal

pub returns-in_err-test_two : goal.returns-in_err-test_two
returns-in_err-test_two c i j f g d =
    answers_told (judged_two c.args.at.place c.args.op i j) (may_of c.args.at.may) c.from_residual.result c.in_err-test_two.field-0.0 (search rules)
    (two_told c.args.at.place c.args.op i j (may_of c.args.at.may) c.in_err-test_two.field-0.0 c.requires (c.in_err-test_two.ensures.told i j f g d))

pub returns : goal.returns
returns c i j f g d =
    two_found c.args.at.place c.args.op i j (may_of c.args.at.may) (may_of_left c.args.op (may_of c.args.at.may)) (may_of_right c.args.op (may_of c.args.at.may)) c.args.left c.args.right c.new.result
    c.in_ok-of_two.field-0 c.in-Some.own c.requires f g (c.in_ok-test_two.ensures.told i j f g d) c.in-Some.is c.in_ok-of_two.ensures c.new.ensures.own (search rules)
