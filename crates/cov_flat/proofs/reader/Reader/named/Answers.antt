use Rattle.std.proofs.Common.{subst, Option}
use Rattle.cov_modules.specs.Things.{Thing}
use Rattle.cov_paths.specs.Targets.{IsNamed}
use Rattle.cov_flat.specs.Reading.{flat_walk}
use Rattle.cov_flat.proofs.StopLemmas.{named_here}
use Rattle.cov_flat.proofs.reader.Reader.named.Goals as goal

pub named-requires-clause-there : goal.named-requires-clause-there
unfolding flat_walk
named-requires-clause-there c = c.requires.there

pub returns : goal.returns
returns c =
    subst (λ (t : Option Thing). IsNamed c.args.self.now.p.now c.named.result t)
    (named_here c.args.self.now.p.now c.args.self.now.number c.args.path.now c.requires.there) c.named.ensures
