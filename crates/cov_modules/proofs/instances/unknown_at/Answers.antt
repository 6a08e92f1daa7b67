use Rattle.std.proofs.Common.{sym, ap, is_none, ◌∷◌, []}
use Rattle.cov_modules.specs.Names.{first}
use Rattle.cov_modules.specs.ModuleFaults.{place_if}
use Rattle.cov_modules.proofs.ModuleLemmas.{found-there, not_found}
use Rattle.cov_modules.proofs.instances.unknown_at.Goals as goal

pub returns-in-None : goal.returns-in-None
returns-in-None c =
    rw (c.in-Decl.is, c.in-Instance.is)
    (sym (ap (λ o. first (place_if (is_none o) c.in-Instance.module.place ∷ [])) (not_found c.args.p.now c.args.modules.now c.requires c.in-Instance.module.name (sym c.in-None.ensures))))

pub returns-in-Some : goal.returns-in-Some
returns-in-Some c =
    rw (c.in-Decl.is, c.in-Instance.is)
    (sym (ap (λ b. first (place_if b c.in-Instance.module.place ∷ [])) (found-there c.args.p.now c.args.modules.now c.requires c.in-Instance.module.name c.in-Some.field-0 (sym c.in-Some.ensures))))
