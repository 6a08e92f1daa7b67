use Rattle.std.proofs.Common.{◌≡◌, ℕ, ◌≤◌, ◌^◌, List, map, length, get_or, sym, ◌∙◌, ap, ap₂, subst}
use Rattle.cov_syntax.specs.declared.tree.Value.{Value}
use Rattle.cov_model.specs.declared.model.Var.{Var}
use Rattle.cov_bits.specs.Layout.{AreSizes, sizes, width}
use Rattle.cov_space.specs.Sets.{SpaceOf}
use Rattle.cov_space.specs.Answers.{PutsSet}
use Rattle.cov_space.proofs.Calls.{on_ok_map}
use Rattle.cov_fields.specs.declared.field.Field.{Field}
use Rattle.cov_fields.specs.Fields.{field_of}
use Rattle.cov_families.specs.Families.{AllFit, index_of, read_set}
use Rattle.cov_nodes.specs.Numbering.{number_in}
use Rattle.cov_nodes.specs.Steps.{inverts, read_as}
use Rattle.cov_nodes.proofs.Variables.{targets_few, targets_fit, variable_family}
use Rattle.cov_nodes.proofs.leaves.put_variable.Goals as goal

pub put_read-requires-clause-few : goal.put_read-requires-clause-few
put_read-requires-clause-few c =
    let ns : c.args.plan.now ≡ sizes c.args.m.now.vars = c.requires.plan in
    let inverted : c.is_inverted-inverted.result ≡ inverts c.args.at.flip c.args.var = c.is_inverted-inverted.ensures in
    let made : c.as_slice.result.now ≡ map (λ y. number_in c.args.xs.now (read_as c.is_inverted-inverted.result y)) c.get.result.now.values =
    c.as_slice.ensures.value ∙ c.in-Ok.ensures ∙ ap (map (λ y. number_in c.args.xs.now (read_as c.is_inverted-inverted.result y))) c.as_slice-values.ensures in
    let field : c.field_of.result.width ≡ width (get_or (sizes c.args.m.now.vars) c.args.var 0) =
    ap (λ (f : Field). f.width) c.field_of.ensures.is ∙ ap (λ (k : List ℕ). width (get_or k c.args.var 0)) ns in
    let few : length c.as_slice.result.now ≤ 2 ^ width (get_or (sizes c.args.m.now.vars) c.args.var 0) =
    targets_few c.args.m.now.vars c.args.var c.get.result.now (λ y. number_in c.args.xs.now (read_as c.is_inverted-inverted.result y)) c.as_slice.result.now c.get.ensures
    (subst AreSizes ns c.bits-bits.ensures.sized) c.requires.variable made in
    subst (λ (w : ℕ). length c.as_slice.result.now ≤ 2 ^ w) (sym field) few

pub put_read-requires-clause-fit : goal.put_read-requires-clause-fit
put_read-requires-clause-fit c =
    subst (λ (f : Field). AllFit f c.as_slice.result.now) (sym c.index_of.ensures)
    (subst (AllFit (index_of (length c.args.xs.now))) (sym (c.as_slice.ensures.value ∙ c.in-Ok.ensures)) (targets_fit c.args.xs.now (read_as c.is_inverted-inverted.result) c.as_slice-values.result.now))

pub returns-clause-ok : goal.returns-clause-ok
returns-clause-ok c =
    let old : SpaceOf = c.args.sp.now in
    let vars : List Var = c.args.m.now.vars in
    let from : c.field_of.result ≡ field_of (sizes vars) c.args.var c.args.at.present = c.field_of.ensures.is ∙ ap (λ (k : List ℕ). field_of k c.args.var c.args.at.present) c.requires.plan in
    let set = ap₂ (λ (f g : Field). read_set old.levels f g c.as_slice.result.now) from c.index_of.ensures in
    let made : c.as_slice.result.now ≡ map (λ y. number_in c.args.xs.now (read_as (inverts c.args.at.flip c.args.var) y)) c.get.result.now.values =
    c.as_slice.ensures.value ∙ c.in-Ok.ensures ∙ ap₂ (λ b (vs : List Value). map (λ y. number_in c.args.xs.now (read_as b y)) vs) c.is_inverted-inverted.ensures c.as_slice-values.ensures in
    on_ok_map c.put_read.result _ _
    (λ puts. variable_family old c.put_read.new.sp c.args.m.now c.args.at c.args.xs.now c.args.var c.get.result.now c.as_slice.result.now c.get.ensures c.requires.variable c.requires.chunk.once made
    (subst (PutsSet old c.put_read.new.sp) set puts)) c.put_read.ensures.ok
