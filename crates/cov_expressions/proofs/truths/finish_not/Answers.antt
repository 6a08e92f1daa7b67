use Rattle.std.proofs.Common.{rules, ◌≤◌, length, Bool, not, OnOk, ℕ, sym, subst, arith}
use Rattle.cov_model.specs.Meaning.{Point}
use Rattle.cov_space.specs.Sets.{SpaceOf, set_at}
use Rattle.cov_space.proofs.Calls.{err_exit}
use Rattle.cov_nodes.specs.Choices.{IsChunk, PutsFamily, is_true_at, of_truth, ones}
use Rattle.cov_expressions.specs.Parts.{cut_to}
use Rattle.cov_expressions.proofs.Stack.{leaves_cut}
use Rattle.cov_expressions.proofs.Families.{IsSettled, some_put, settled_some, settled_room, settled_leaves, then_truth, truth_of_truth}
use Rattle.cov_expressions.proofs.truths.finish_not.Goals as goal

pub returns-in_err-put_not-clause-err : goal.returns-in_err-put_not-clause-err
returns-in_err-put_not-clause-err c =
    err_exit c.from_residual.result c.in_err-put_not.field-0.0 _ (search rules)
    (leaves_cut c.args.n c.args.sp.now c.put_not.new.sp c.in_err-put_not.field-0.0 c.in_err-put_not.ensures.err)

pub settle-requires : goal.settle-requires
settle-requires c =
    let old : SpaceOf = c.args.sp.now in
    let q = some_put old c.put_not.new.sp ones ones (set_at old.sets c.args.n) (λ f. of_truth (λ p. not (is_true_at f p))) c.in_ok-put_not.ensures.ok in
    omega (arith, q.puts.count, c.requires.last)

pub finish_truth-requires : goal.finish_truth-requires
finish_truth-requires c =
    let old : SpaceOf = c.args.sp.now in
    let q = some_put old c.put_not.new.sp ones ones (set_at old.sets c.args.n) (λ f. of_truth (λ p. not (is_true_at f p))) c.in_ok-put_not.ensures.ok in
    let le : c.args.n ≤ length old.sets = omega (arith, c.requires.last) in
    let k : IsSettled c.args.n old c.settle.new.self = settled_some c.args.n old c.put_not.new.sp c.settle.new.self le q c.settle.ensures in
    record {
      last = omega (arith, k.count);
      chunk = subst (λ (z : ℕ). IsChunk z c.args.xs.now) (sym k.levels) c.requires.chunk;
      room = settled_room c.args.n 12 old c.settle.new.self c.requires.last c.requires.room k;
    }

pub returns-clause-ok : goal.returns-clause-ok
returns-clause-ok c = λ m at f h.
    let old : SpaceOf = c.args.sp.now in
    let le : c.args.n ≤ length old.sets = omega (arith, c.requires.last) in
    let t : Point → Bool = λ p. not (is_true_at f p) in
    subst (λ (u : Point → Bool). OnOk c.finish_truth.result (PutsFamily (cut_to c.args.n old) c.finish_truth.new.sp m at c.args.xs.now (of_truth u))) (truth_of_truth t)
    (then_truth c.finish_truth.result c.args.n old c.put_not.new.sp c.settle.new.self c.finish_truth.new.sp m at c.args.xs.now (of_truth t) le (c.in_ok-put_not.ensures.ok m at f h) c.settle.ensures c.finish_truth.ensures.ok)

pub returns-clause-err : goal.returns-clause-err
returns-clause-err c =
    let old : SpaceOf = c.args.sp.now in
    let q = some_put old c.put_not.new.sp ones ones (set_at old.sets c.args.n) (λ f. of_truth (λ p. not (is_true_at f p))) c.in_ok-put_not.ensures.ok in
    let le : c.args.n ≤ length old.sets = omega (arith, c.requires.last) in
    let k : IsSettled c.args.n old c.settle.new.self = settled_some c.args.n old c.put_not.new.sp c.settle.new.self le q c.settle.ensures in
    settled_leaves c.finish_truth.result c.args.n old c.settle.new.self c.finish_truth.new.sp k c.finish_truth.ensures.err
