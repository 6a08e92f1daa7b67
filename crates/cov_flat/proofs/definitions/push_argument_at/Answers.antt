use Rattle.std.proofs.Common.{◌∙◌, sym, ap, List, ◌++◌, ◌∷◌, [], append-nil, Option}
use Rattle.std.specs.List.{flat_map}
use Rattle.std.specs.Option.{option_map_or}
use Rattle.std.proofs.lemmas.Option.{slice_get_past}
use Rattle.cov_syntax.specs.declared.tree.Expr.{Expr}
use Rattle.cov_syntax.specs.declared.program.Spelled.{Spelled}
use Rattle.cov_flat.specs.declared.definitions.Definition.{Definition}
use Rattle.cov_flat.specs.Reading.{stop_at}
use Rattle.cov_flat.specs.Entries.{argument_in}
use Rattle.cov_flat.proofs.definitions.push_argument_at.Goals as goal

pub returns-in-None : goal.returns-in-None
returns-in-None c =
    let f : Spelled × Expr → List Definition = argument_in c.args.at.now.p.now (stop_at c.args.at.now.p.now c.args.at.now.number) in
    sym (append-nil c.args.found.now.items)
    ∙ ap (λ (o : Option Spelled). c.args.found.now.items ++ flat_map f (option_map_or (λ (x : Spelled). (x, c.args.given.now) ∷ []) o [])) (sym (slice_get_past c.args.formals.now c.args.i c.in-None.ensures.lookup.3))
