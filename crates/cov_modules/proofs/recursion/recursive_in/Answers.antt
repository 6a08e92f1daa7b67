use Rattle.std.proofs.Common.{◌∙◌, sym, rules, map}
use Rattle.cov_syntax.specs.declared.program.Section.{Section}
use Rattle.cov_modules.specs.Modules.{instance_of}
use Rattle.cov_modules.specs.ModuleFaults.{unknown_place, recursive_place}
use Rattle.cov_modules.proofs.FirstLemmas.{first-hit, first-miss, first-none-at}
use Rattle.cov_modules.proofs.ModuleLemmas.{first-sections}
use Rattle.cov_modules.proofs.recursion.recursive_in.Goals as goal

pub loop-s-init : goal.loop-s-init
loop-s-init c = first-sections (recursive_place c.args.p.now c.args.m.now) c.args.m.now.sections

pub returns-in-Some : goal.returns-in-Some
returns-in-Some c =
    sym (first-hit (λ (s : Section). map (recursive_place c.args.p.now c.args.m.now) (instance_of s)) c.args.m.now.sections c.loop-s.s-index c.s-item.result c.in-Some.place (search rules) (search rules) (sym c.in_ok-place.ensures ∙ c.in-Some.is))
    ∙ c.loop-s.invariant

pub loop-s-preserved : goal.loop-s-preserved
loop-s-preserved c =
    first-miss (λ (s : Section). map (recursive_place c.args.p.now c.args.m.now) (instance_of s)) c.args.m.now.sections c.loop-s.s-index c.s-item.result (search rules) (search rules) (sym c.in_ok-place.ensures ∙ c.in_default.is)
    ∙ c.loop-s.invariant

pub recursive_at-requires-clause-here : goal.recursive_at-requires-clause-here
recursive_at-requires-clause-here c =
    first-none-at (λ (s : Section). map (unknown_place c.args.p.now) (instance_of s)) c.args.m.now.sections c.loop-s.s-index c.s-item.result (search rules) (search rules)
    (first-sections (unknown_place c.args.p.now) c.args.m.now.sections ∙ c.requires.here)
