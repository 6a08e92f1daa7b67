use Rattle.std.proofs.Common.{◌≡◌, ◌∙◌, sym, ap, subst, fold, map, [], OnOk}
use Rattle.std.specs.Option.{option_map_or}
use Rattle.cov_modules.specs.Names.{with_name}
use Rattle.cov_modules.specs.Modules.{Declaration, instances}
use Rattle.cov_modules.proofs.ModuleLemmas.{found_at, found-below, not_found}
use Rattle.cov_modules.proofs.reach.add_below.Goals as goal

pub get-requires : goal.get-requires
get-requires c = found-below c.args.p.now c.args.modules.now c.requires.modules c.args.name c.in-Some.i (sym c.in-Some.ensures)

pub returns-in-Some-clause-found : goal.returns-in-Some-clause-found
returns-in-Some-clause-found c =
    let is = found_at c.args.p.now c.args.modules.now c.requires.modules c.args.name c.in-Some.i (sym c.in-Some.ensures) ∙ c.get.ensures in
    subst (λ o. OnOk c.add_instances.result (c.add_instances.new.found ≡ fold with_name c.args.found.now (map (λ (d : Declaration). d.from.name) (option_map_or instances o [])))) (sym is) c.add_instances.ensures.found

pub returns-in-None-clause-found : goal.returns-in-None-clause-found
returns-in-None-clause-found c =
    let is = not_found c.args.p.now c.args.modules.now c.requires.modules c.args.name (sym c.in-None.ensures) in
    sym (ap (λ o. fold with_name c.args.found.now (map (λ (d : Declaration). d.from.name) (option_map_or instances o []))) is)
