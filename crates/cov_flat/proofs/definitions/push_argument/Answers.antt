use Rattle.std.proofs.Common.{◌∙◌, sym, ap, List, ◌++◌}
use Rattle.cov_syntax.specs.declared.program.Program.{Program}
use Rattle.cov_modules.specs.Walk.{Stop}
use Rattle.cov_flat.specs.declared.definitions.Definition.{Definition}
use Rattle.cov_flat.specs.Reading.{stop_at}
use Rattle.cov_flat.specs.Parts.{here}
use Rattle.cov_flat.proofs.DefinitionLemmas.{argument_define}
use Rattle.cov_flat.proofs.definitions.push_argument.Goals as goal

pub returns : goal.returns
returns c =
    let p : Program = c.args.at.now.p.now in
    let s : Stop = stop_at p c.args.at.now.number in
    c.in_ok-push.ensures.items
    ∙ ap (λ (ds : List Definition). c.args.found.now.items ++ ds)
    (argument_define p s (here p c.caller.result) c.args.formal c.args.given.now c.in_ok-body.body c.in_ok-text.text (sym c.is_path.ensures ∙ c.if-is_path.false) c.in_ok-text.ensures c.caller.ensures.caller c.in_ok-body.ensures)
