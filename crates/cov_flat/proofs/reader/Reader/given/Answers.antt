use Rattle.std.proofs.Common.{◌≡◌, ◌∙◌, ℕ, sym, ap, arith}
use Rattle.cov_syntax.specs.declared.program.ModuleTree.{ModuleTree}
use Rattle.cov_syntax.specs.declared.program.Program.{Program}
use Rattle.cov_modules.specs.Walk.{Stop, root}
use Rattle.cov_flat.specs.Reading.{stop_at}
use Rattle.cov_flat.proofs.EntryLemmas.{first_stop}
use Rattle.cov_flat.proofs.reader.Reader.given.Goals as goal

pub returns-then-self-eq0 : goal.returns-then-self-eq0
returns-then-self-eq0 c =
    let p : Program = c.args.self.now.p.now in
    let zero_is : c.args.self.now.number ≡ 0 = c.if-self-eq0.true in
    let first : (m : ModuleTree) × (stop_at p 0 ≡ root m) = first_stop p (omega (arith, c.requires.there)) in
    sym (ap (λ (k : ℕ). (stop_at p k).given) zero_is ∙ ap (λ (s : Stop). s.given) first.1)
