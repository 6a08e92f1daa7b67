use Rattle.std.proofs.Common.{◌≡◌, ℤ, to_z, of_z, w64, to_z-of_z, sym, ◌∙◌, ap, arith}
use Rattle.cov_syntax.specs.declared.tree.Value.TheVariants as v
use Rattle.cov_nodes.specs.Made.{value_of}
use Rattle.cov_nodes.specs.Numbering.{number_in}
use Rattle.cov_nodes.proofs.targets.place_of.Goals as goal

pub returns-in-Number : goal.returns-in-Number
returns-in-Number c =
    let e : to_z w64 (of_z w64 c.in-Number.n) ≡ c.in-Number.n = grind (arith, to_z-of_z) in
    c.place_of_number.ensures ∙ ap (λ (z : ℤ). number_in c.args.xs.now (v.Int z)) e ∙ ap (λ x. number_in c.args.xs.now (value_of x)) (sym c.in-Number.is)
