use Rattle.std.proofs.Common.{◌≡◌, ◌∙◌, ℕ, ◌++◌, [], sym, ap, reverse, arith}
use Rattle.cov_syntax.specs.declared.program.ModuleTree.{ModuleTree}
use Rattle.cov_syntax.specs.declared.program.Program.{Program}
use Rattle.cov_modules.specs.Names.{Dotted}
use Rattle.cov_modules.specs.Walk.{Stop, root}
use Rattle.cov_flat.specs.Reading.{stop_at}
use Rattle.cov_flat.specs.Parts.{here}
use Rattle.cov_flat.proofs.EntryLemmas.{first_stop}
use Rattle.cov_flat.proofs.spelling.parts.Goals as goal

pub returns : goal.returns
returns c =
    let p : Program = c.args.at.now.p.now in
    let zero_is : c.loop-number.number ≡ 0 = omega arith in
    let first : (m : ModuleTree) × (stop_at p 0 ≡ root m) = first_stop p (omega (arith, c.requires.there)) in
    let none : (here p c.loop-number.number).name ≡ [] = ap (λ (k : ℕ). (here p k).name) zero_is ∙ ap (λ (s : Stop). s.here.name) first.1 in
    ap (λ (d : Dotted). d ++ reverse c.loop-number.parts) (sym none) ∙ c.loop-number.invariant.1
