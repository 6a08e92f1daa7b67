use Rattle.std.proofs.Common.{◌∙◌, sym, ap, List, Option, map}
use Rattle.std.specs.List.{flat_map}
use Rattle.std.specs.Option.{option_or}
use Rattle.cov_syntax.specs.declared.tree.Span.{Span}
use Rattle.cov_syntax.specs.declared.program.Program.{Program}
use Rattle.cov_modules.specs.Names.{first}
use Rattle.cov_modules.specs.NameFaults.{unknown_argument, unknown_in_section}
use Rattle.cov_modules.specs.Walk.{Stop}
use Rattle.cov_modules.proofs.FirstLemmas.{first-append}
use Rattle.cov_flat.specs.Reading.{stop_at}
use Rattle.cov_flat.proofs.faults.unknown_at.Goals as goal

pub returns-in-Some : goal.returns-in-Some
returns-in-Some c =
    let p : Program = c.args.at.now.p.now in
    let s : Stop = stop_at p c.args.at.now.number in
    let given : List (Option Span) = map (unknown_argument p s.caller) s.given in
    let own : List (Option Span) = flat_map (unknown_in_section p s.here) s.here.from.sections in
    sym (first-append given own ∙ ap (λ (o : Option Span). option_or o (first own)) (sym c.in-Some.ensures))

pub returns-in-None : goal.returns-in-None
returns-in-None c =
    let p : Program = c.args.at.now.p.now in
    let s : Stop = stop_at p c.args.at.now.number in
    let given : List (Option Span) = map (unknown_argument p s.caller) s.given in
    let own : List (Option Span) = flat_map (unknown_in_section p s.here) s.here.from.sections in
    c.unknown_in_sections.ensures ∙ sym (first-append given own ∙ ap (λ (o : Option Span). option_or o (first own)) (sym c.in-None.ensures))
