use Rattle.std.proofs.lemmas.Bool.Decides.{Decides-eqb}
use Rattle.std.proofs.lemmas.Slice.Eq.{strip_prefix_is}
use Rattle.cov_evid.proofs.Fronts.{behind-is, begins}
use Rattle.cov_evid.proofs.front.behind.Goals as goal

pub returns : goal.returns
returns c =
    let is = strip_prefix_is Decides-eqb c.args.line.now c.args.front.now _ c.strip_prefix.ensures.cases in
    record { some = begins c.args.front.now c.args.line.now _ is; value = behind-is c.args.front.now c.args.line.now _ is }
