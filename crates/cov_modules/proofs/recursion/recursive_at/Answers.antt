use Rattle.std.proofs.Common.{is_none}
use Rattle.cov_modules.specs.Modules.{module_named}
use Rattle.cov_modules.proofs.ReachLemmas.{named-has, no-place}
use Rattle.cov_modules.proofs.recursion.recursive_at.Goals as goal

pub contains-requires-clause-from : goal.contains-requires-clause-from
contains-requires-clause-from c =
    let here = rw (c.in-Decl.is, c.in-Instance.is) at c.requires.here in
    named-has c.args.p.now c.in-Instance.module.name (no-place (is_none (module_named c.args.p.now c.in-Instance.module.name)) c.in-Instance.module.place here)
