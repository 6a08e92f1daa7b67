use Rattle.std.proofs.Common.{◌≡◌, true, Some, None, sym, ap, subst, ◌∙◌}
use Rattle.cov_syntax.specs.declared.fault.Refused.{Refused}
use Rattle.cov_model.specs.Walk.{May, Judged, judged}
use Rattle.cov_walk.specs.Found.{TellsFault}
use Rattle.cov_walk.specs.Places.{may_of}
use Rattle.cov_walk.proofs.Loosening.{none_where_all}
use Rattle.cov_walk.proofs.checking.own_kind.Goals as goal

pub unreachable-requires : goal.unreachable-requires
unreachable-requires c =
    let j : Judged = judged c.args.ks.now c.args.e.now in
    let all : May = record { next = true; temporal = true; set = true } in
    let none : j.fault all ≡ None = none_where_all c.args.ks.now c.args.e.now c.requires.may c.requires.none in
    let same : may_of c.anything.result ≡ all = ap may_of c.anything.ensures in
    let told : j.fault (may_of c.anything.result) ≡ Some c.in-Err-Fault.field-0-0 = subst (λ (r : Refused). TellsFault (j.fault (may_of c.anything.result)) r) c.in-Err-Fault.field-0-is c.in-Err-Fault.ensures in
    let both : None ≡ Some c.in-Err-Fault.field-0-0 = sym none ∙ sym (ap j.fault same) ∙ told in
    cc
