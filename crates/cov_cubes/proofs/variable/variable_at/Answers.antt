use Rattle.std.proofs.Common.{◌*◌, ◌≤◌, length, arith, ap, sym, subst, ◌∙◌}
use Rattle.cov_bits.specs.Layout.{IsSize, bits}
use Rattle.cov_space.specs.declared.layer.Layer.TheVariants.{V}
use Rattle.cov_fields.specs.Fields.{field_of, IsField}
use Rattle.cov_cubes.proofs.Sizes.{size_read, size_is}
use Rattle.cov_cubes.proofs.variable.variable_at.Goals as goal

pub overflow_cast-result : goal.overflow_cast-result
overflow_cast-result c =
    let s : IsSize (length c.get.result.now.values) = size_is c.args.plan.now c.args.m.now.vars c.args.place c.get.result.now c.requires.plan c.bits-bits.ensures.sized c.requires.place c.get.ensures in
    let small : length c.get.result.now.values ≤ 1024 = s.1 in
    omega arith

pub returns : goal.returns
returns c = record {
  field = c.field_of.ensures.is ∙ ap (λ x. field_of c.args.plan.now x V) c.in-Ok.ensures.1;
  fits = subst (IsField (3 * bits c.args.plan.now)) (sym c.field_of.ensures.is) c.field_of.ensures.fits;
  size = c.len.ensures ∙ size_read c.args.plan.now c.args.m.now.vars c.args.place c.get.result.now c.requires.plan c.get.ensures;
  sized = subst IsSize (sym c.len.ensures) (size_is c.args.plan.now c.args.m.now.vars c.args.place c.get.result.now c.requires.plan c.bits-bits.ensures.sized c.requires.place c.get.ensures);
}
