use Rattle.std.proofs.Common.{◌≡◌, ◌∙◌, ap}
use Rattle.cov_model.specs.Machine as made
use Rattle.cov_model.proofs.ModelLaw.{meets_is}
use Rattle.cov_model.proofs.state.is_state.Goals as goal

pub returns : goal.returns
returns c = record {
  value = c.meets.ensures ∙ ap (made.meets c.args.m.now) c.read.ensures.read ∙ meets_is c.args.m.now c.requires.formed c.args.s.now c.requires.typed;
  kept = record { present = c.read.ensures.room; next = c.requires.made.next };
}
