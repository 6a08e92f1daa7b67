use Rattle.std.proofs.Common.{◌≡◌, ◌+◌, ◌∷◌, [], List, Bool, true, false, rules, refl}
use Rattle.cov_dd.specs.declared.operations.Op.TheVariants.{Xor}
use Rattle.cov_space.specs.Sets.{set_at}
use Rattle.cov_space.specs.Operations.{restriction}
use Rattle.cov_space.specs.Steps.{with_more, paired, mask_of}
use Rattle.cov_space.proofs.Calls.{err_exit, leaves_behind, err_leaves, settled_behind, shift_masked, shift_moved, on_ok_map}
use Rattle.cov_space.proofs.shift.shift_steps.Goals as goal

pub returns-in_err-put_with-clause-err : goal.returns-in_err-put_with-clause-err
returns-in_err-put_with-clause-err c =
    let x : List Bool = paired Xor c.args.space.now.levels (restriction c.args.space.now.levels (set_at c.args.space.now.sets c.args.n) c.args.from false) (restriction c.args.space.now.levels (set_at c.args.space.now.sets c.args.n) c.args.from true) in
    let is : c.settle.new.self ≡ with_more c.args.space.now (x ∷ []) = settled_behind c.args.space.now c.put_cofactors.new.space c.settle.new.self _ (c.args.n + 1) 2 c.in_ok-put_cofactors.ensures.ok c.requires.last refl c.settle.ensures in
    err_exit c.from_residual-in_err-put_with.result c.in_err-put_with.field-0.0 _ (search rules) (leaves_behind c.args.space.now c.settle.new.self c.put_with.new.space (x ∷ []) c.in_err-put_with.field-0.0 is c.in_err-put_with.ensures.err)

pub returns-clause-ok : goal.returns-clause-ok
returns-clause-ok c =
    let m = shift_masked c.args.space.now c.put_cofactors.new.space c.settle.new.self c.put_with.new.space c.settle-2.new.self c.args.n c.args.from c.args.to c.requires.last c.in_ok-put_cofactors.ensures.ok c.settle.ensures c.in_ok-put_with.ensures.ok c.settle-2.ensures in
    on_ok_map c.put_with-2.result _ _ (shift_moved c.args.space.now c.settle-2.new.self c.put_with-2.new.space c.args.n c.args.from (mask_of c.args.space.now.levels c.args.from c.args.to (set_at c.args.space.now.sets c.args.n)) c.requires.last m.1) c.put_with-2.ensures.ok

pub returns-clause-err : goal.returns-clause-err
returns-clause-err c =
    let m = shift_masked c.args.space.now c.put_cofactors.new.space c.settle.new.self c.put_with.new.space c.settle-2.new.self c.args.n c.args.from c.args.to c.requires.last c.in_ok-put_cofactors.ensures.ok c.settle.ensures c.in_ok-put_with.ensures.ok c.settle-2.ensures in
    err_leaves c.put_with-2.result c.args.space.now c.settle-2.new.self c.put_with-2.new.space (mask_of c.args.space.now.levels c.args.from c.args.to (set_at c.args.space.now.sets c.args.n) ∷ []) m.1 c.put_with-2.ensures.err
