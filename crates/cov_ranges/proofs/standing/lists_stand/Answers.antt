use Rattle.cov_ranges.proofs.Places.{defines_stand, inits_stand, invars_stand, nows_stand, firsts_stand, nexts_stand, trans_stand, fair_stand, specs_stand}
use Rattle.cov_ranges.proofs.standing.lists_stand.Goals as goal

pub returns : goal.returns
returns c = record {
  defines = λ m i d g. defines_stand m i d g;
  inits = λ m i e g. inits_stand m i e g;
  invars = λ m i e g. invars_stand m i e g;
  nows = λ m i a g. nows_stand m i a g;
  firsts = λ m i a g. firsts_stand m i a g;
  nexts = λ m i a g. nexts_stand m i a g;
  trans = λ m i e g. trans_stand m i e g;
  fair = λ m i e g. fair_stand m i e g;
  specs = λ m i e g. specs_stand m i e g;
}
