use Rattle.std.proofs.Common.{◌∙◌, sym, rules, map}
use Rattle.cov_syntax.specs.declared.program.Section.{Section}
use Rattle.cov_modules.specs.Modules.{instance_of}
use Rattle.cov_modules.specs.ModuleFaults.{wrong_place}
use Rattle.cov_modules.proofs.FirstLemmas.{first-hit, first-miss}
use Rattle.cov_modules.proofs.ModuleLemmas.{first-sections}
use Rattle.cov_modules.proofs.arguments.wrong_instance.Goals as goal

pub loop-s-init : goal.loop-s-init
loop-s-init c = first-sections (wrong_place c.args.p.now) c.args.m.now.sections

pub returns-in-Some : goal.returns-in-Some
returns-in-Some c =
    sym (first-hit (λ (s : Section). map (wrong_place c.args.p.now) (instance_of s)) c.args.m.now.sections c.loop-s.s-index c.s-item.result c.in-Some.place (search rules) (search rules) (sym c.in-Some.ensures))
    ∙ c.loop-s.invariant

pub loop-s-preserved : goal.loop-s-preserved
loop-s-preserved c =
    first-miss (λ (s : Section). map (wrong_place c.args.p.now) (instance_of s)) c.args.m.now.sections c.loop-s.s-index c.s-item.result (search rules) (search rules) (sym c.in_default.ensures)
    ∙ c.loop-s.invariant
