use Rattle.cov_walk.proofs.Gathering.{one_member_more}
use Rattle.cov_walk.proofs.members.Members.with.Goals as goal

pub returns : goal.returns
returns c js j may h f = one_member_more js j may c.args.self _ c.args.member h f c.in_ok-push.ensures.ok c.or-misfits.ensures
