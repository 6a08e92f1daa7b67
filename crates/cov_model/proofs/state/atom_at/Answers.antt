use Rattle.std.proofs.Common.{◌≡◌, ◌∙◌, ap, None}
use Rattle.cov_model.specs.Values.{truth}
use Rattle.cov_model.specs.Meaning.{Readings, Point}
use Rattle.cov_model.specs.Machine as made
use Rattle.cov_model.proofs.AtomLaw.{atom_is}
use Rattle.cov_model.proofs.state.atom_at.Goals as goal

pub returns : goal.returns
returns c = record {
  value = c.truth.ensures ∙ ap truth c.value.ensures
      ∙ ap (λ (r : Readings). truth (made.value c.args.e.now (record { present = r; next = made.readings_of c.read-2.new.r }))) c.read.ensures.read
      ∙ ap (λ (r : Readings). truth (made.value c.args.e.now (record { present = made.readings_in c.args.m.now c.args.s.now c.args.flipped; next = r }))) c.read-2.ensures.read
      ∙ atom_is c.args.m.now c.args.e.now c.args.s.now c.args.flipped c.requires.formed c.requires.atom c.requires.typed;
  kept = record { present = c.read.ensures.room; next = c.read-2.ensures.room };
}
