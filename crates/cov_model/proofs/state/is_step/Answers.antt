use Rattle.std.proofs.Common.{◌≡◌, ◌∙◌, ap, None}
use Rattle.cov_model.specs.Meaning.{Readings}
use Rattle.cov_model.specs.Machine as made
use Rattle.cov_model.proofs.ModelLaw.{leads_is}
use Rattle.cov_model.proofs.state.is_step.Goals as goal

pub returns : goal.returns
returns c = record {
  value = c.leads.ensures
      ∙ ap (λ (r : Readings). made.leads c.args.m.now r (made.readings_of c.read-2.new.r)) c.read.ensures.read
      ∙ ap (λ (r : Readings). made.leads c.args.m.now (made.readings_in c.args.m.now c.args.s.now None) r) c.read-2.ensures.read
      ∙ leads_is c.args.m.now c.requires.formed c.args.s.now c.args.t.now c.requires.present c.requires.next;
  kept = record { present = c.read.ensures.room; next = c.read-2.ensures.room };
}
