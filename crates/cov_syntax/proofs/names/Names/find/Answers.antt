use Rattle.std.proofs.Common.{◌∙◌}
use Rattle.cov_syntax.specs.Texts.{place_in}
use Rattle.cov_syntax.proofs.TextLemmas.{found, not_found}
use Rattle.cov_syntax.proofs.names.Names.find.Goals as goal

pub returns-clause-found : goal.returns-clause-found
returns-clause-found c =
    rw (← c.self.view_is)
    (found (place_in c.self.inside.places) c.self.inside.texts.items c.self.invariant.2 c.args.text.now c.copied.result (c.copied.ensures ∙ c.get.ensures.value))

pub returns-clause-none : goal.returns-clause-none
returns-clause-none c =
    rw (← c.self.view_is)
    (not_found (place_in c.self.inside.places) c.self.inside.texts.items c.self.invariant.2 c.args.text.now c.copied.result (c.copied.ensures ∙ c.get.ensures.value))
