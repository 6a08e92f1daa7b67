use Rattle.std.proofs.Common.{◌≡◌, ◌∙◌, ap}
use Rattle.cov_syntax.specs.declared.tree.Value.{Value}
use Rattle.cov_model.specs.Values.{truth}
use Rattle.cov_model.specs.Meaning.{Readings, still}
use Rattle.cov_model.specs.Machine as made
use Rattle.cov_model.proofs.ModelLaw.{fair_is}
use Rattle.cov_model.proofs.state.fair_at.Goals as goal

pub returns : goal.returns
returns c = record {
  value = c.truth.ensures ∙ ap truth c.value.ensures
      ∙ ap (λ (r : Readings). truth (made.value c.get-e.result.now (still r))) c.read.ensures.read
      ∙ fair_is c.args.m.now c.requires.formed c.args.k c.get-e.result.now c.args.s.now c.get-e.ensures c.requires.typed;
  kept = record { present = c.read.ensures.room; next = c.requires.made.next };
}
