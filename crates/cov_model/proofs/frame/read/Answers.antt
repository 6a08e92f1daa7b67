use Rattle.std.proofs.Common.{◌≡◌, ◌∙◌, ap, length}
use Rattle.cov_model.proofs.frame.read.Goals as goal

pub returns-clause-room : goal.returns-clause-room
returns-clause-room c = record {
  vars = ap length c.read_defines.ensures.vars ∙ c.read_variables.ensures.room ∙ ap length c.as_slice.ensures;
  defines = c.read_defines.ensures.room ∙ ap length c.as_slice-3.ensures;
}
