use Rattle.std.proofs.Common.{◌∙◌, sym, ap, length}
use Rattle.std.specs.Option.{option_map_or}
use Rattle.cov_syntax.specs.declared.program.ModuleTree.{ModuleTree}
use Rattle.cov_modules.proofs.ModuleLemmas.{found_at, found-below, not_found}
use Rattle.cov_modules.proofs.arguments.formals_of.Goals as goal

pub get-requires : goal.get-requires
get-requires c = found-below c.args.p.now c.args.modules.now c.requires c.args.name c.in-Some.i (sym c.in-Some.ensures)

pub returns-in-Some : goal.returns-in-Some
returns-in-Some c =
    c.len.ensures
    ∙ sym (ap (λ o. option_map_or (λ (m : ModuleTree). length m.formals) o 0) (found_at c.args.p.now c.args.modules.now c.requires c.args.name c.in-Some.i (sym c.in-Some.ensures) ∙ c.get.ensures))

pub returns-in-None : goal.returns-in-None
returns-in-None c = sym (ap (λ o. option_map_or (λ (m : ModuleTree). length m.formals) o 0) (not_found c.args.p.now c.args.modules.now c.requires c.args.name (sym c.in-None.ensures)))
