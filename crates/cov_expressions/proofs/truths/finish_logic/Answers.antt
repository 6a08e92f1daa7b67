use Rattle.std.proofs.Common.{rules, ◌<◌, ◌≤◌, ◌+◌, length, Bool, OnOk, ℕ, sym, subst, arith}
use Rattle.cov_syntax.specs.declared.tree.Value.TheVariants as v
use Rattle.cov_model.specs.Meaning.{Point}
use Rattle.cov_model.specs.Values.{operated, truth, whole}
use Rattle.cov_space.specs.Sets.{SpaceOf, set_at}
use Rattle.cov_space.proofs.Calls.{err_exit}
use Rattle.cov_nodes.specs.Choices.{IsChunk, PutsFamily, is_true_at, of_truth, ones}
use Rattle.cov_expressions.specs.Parts.{cut_to, logic_choice}
use Rattle.cov_expressions.proofs.Stack.{leaves_cut}
use Rattle.cov_expressions.proofs.Families.{IsSettled, some_put_two, settled_some, settled_room, settled_leaves, then_truth, truth_of_truth}
use Rattle.cov_expressions.proofs.truths.finish_logic.Goals as goal

pub returns-in_err-put_logic-clause-err : goal.returns-in_err-put_logic-clause-err
returns-in_err-put_logic-clause-err c =
    err_exit c.from_residual.result c.in_err-put_logic.field-0.0 _ (search rules)
    (leaves_cut c.args.n c.args.sp.now c.put_logic.new.sp c.in_err-put_logic.field-0.0 c.in_err-put_logic.ensures.err)

pub settle-requires : goal.settle-requires
settle-requires c =
    let old : SpaceOf = c.args.sp.now in
    let q = some_put_two old c.put_logic.new.sp ones ones ones (set_at old.sets c.args.n) (set_at old.sets (c.args.n + 1)) (logic_choice c.args.op) c.in_ok-put_logic.ensures.ok in
    omega (arith, q.puts.count, c.requires.last)

pub finish_truth-requires : goal.finish_truth-requires
finish_truth-requires c =
    let old : SpaceOf = c.args.sp.now in
    let q = some_put_two old c.put_logic.new.sp ones ones ones (set_at old.sets c.args.n) (set_at old.sets (c.args.n + 1)) (logic_choice c.args.op) c.in_ok-put_logic.ensures.ok in
    let le : c.args.n ≤ length old.sets = omega (arith, c.requires.last) in
    let lt : c.args.n < length old.sets = omega (arith, c.requires.last) in
    let k : IsSettled c.args.n old c.settle.new.self = settled_some c.args.n old c.put_logic.new.sp c.settle.new.self le q c.settle.ensures in
    record {
      last = omega (arith, k.count);
      chunk = subst (λ (z : ℕ). IsChunk z c.args.xs.now) (sym k.levels) c.requires.chunk;
      room = settled_room c.args.n 12 old c.settle.new.self lt c.requires.room k;
    }

pub returns-clause-ok : goal.returns-clause-ok
returns-clause-ok c = λ m at f g h i.
    let old : SpaceOf = c.args.sp.now in
    let le : c.args.n ≤ length old.sets = omega (arith, c.requires.last) in
    let t : Point → Bool = λ p. truth (operated whole c.args.op (v.Bool (is_true_at f p)) (v.Bool (is_true_at g p))) in
    subst (λ (u : Point → Bool). OnOk c.finish_truth.result (PutsFamily (cut_to c.args.n old) c.finish_truth.new.sp m at c.args.xs.now (of_truth u))) (truth_of_truth t)
    (then_truth c.finish_truth.result c.args.n old c.put_logic.new.sp c.settle.new.self c.finish_truth.new.sp m at c.args.xs.now (of_truth t) le (c.in_ok-put_logic.ensures.ok m at f g h i) c.settle.ensures c.finish_truth.ensures.ok)

pub returns-clause-err : goal.returns-clause-err
returns-clause-err c =
    let old : SpaceOf = c.args.sp.now in
    let q = some_put_two old c.put_logic.new.sp ones ones ones (set_at old.sets c.args.n) (set_at old.sets (c.args.n + 1)) (logic_choice c.args.op) c.in_ok-put_logic.ensures.ok in
    let le : c.args.n ≤ length old.sets = omega (arith, c.requires.last) in
    let k : IsSettled c.args.n old c.settle.new.self = settled_some c.args.n old c.put_logic.new.sp c.settle.new.self le q c.settle.ensures in
    settled_leaves c.finish_truth.result c.args.n old c.settle.new.self c.finish_truth.new.sp k c.finish_truth.ensures.err
