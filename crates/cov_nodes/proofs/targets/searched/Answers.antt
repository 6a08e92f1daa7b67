use Rattle.std.proofs.Common.{◌≡◌, ℤ, to_z, of_z, w64, to_z-of_z, ◌∙◌, ap, arith}
use Rattle.cov_syntax.specs.declared.tree.Value.TheVariants as v
use Rattle.cov_nodes.specs.Numbering.{number_in}
use Rattle.cov_nodes.proofs.targets.searched.Goals as goal

pub returns-in-Some : goal.returns-in-Some
returns-in-Some c = let e : to_z w64 (of_z w64 c.args.n) ≡ c.args.n = grind (arith, to_z-of_z) in c.in-Some.ensures ∙ ap (λ (z : ℤ). number_in c.args.xs.now (v.Int z)) e

pub returns-in-None : goal.returns-in-None
returns-in-None c = let e : to_z w64 (of_z w64 c.args.n) ≡ c.args.n = grind (arith, to_z-of_z) in c.in-None.ensures ∙ ap (λ (z : ℤ). number_in c.args.xs.now (v.Int z)) e
