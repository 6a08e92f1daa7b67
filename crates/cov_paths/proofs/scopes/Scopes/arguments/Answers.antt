use Rattle.std.proofs.Common.{◌≡◌, ◌+◌, ◌<◌, ◌≤◌, List, [], length, take, slice_get, Option, Some, sym, ap, subst, ◌∙◌, refl, arith}
use Rattle.std.proofs.lemmas.Option.{slice_get_read}
use Rattle.cov_syntax.specs.declared.tree.Expr.{Expr}
use Rattle.cov_paths.specs.declared.target.Target.{Target}
use Rattle.cov_paths.specs.Arguments.{given_at, defines_of}
use Rattle.cov_paths.specs.Found.{formals_at, AreNamed}
use Rattle.cov_paths.proofs.Giving.{number-before, caller-before-given}
use Rattle.cov_paths.proofs.Binding.{bound-more, next-number, next-small, bound-all}
use Rattle.cov_paths.proofs.scopes.Scopes.arguments.Goals as goal

pub loop-e-init : goal.loop-e-init
loop-e-init c =
    let first = number-before c.args.p.now c.args.self.now.own.stops c.requires.scopes.own.stops c.args.k c.requires.there c.entry-entry.result c.entry-entry.ensures in record {
      targets = subst (λ (xs : List (Option Target)). AreNamed c.args.p.now xs []) (sym c.new-targets.ensures) tt;
      number = first ∙ omega arith;
    }

pub argument-requires-clause-there : goal.argument-requires-clause-there
argument-requires-clause-there c =
    let same : length c.given-e-items.result.now ≡ length (given_at c.args.p.now c.args.k) = ap length c.given-e-items.ensures in
    let test : c.loop-e.e-index < length c.given-e-items.result.now = c.loop-e-test.true in
    let filled : 0 < length (given_at c.args.p.now c.args.k) = omega arith in
    let before = caller-before-given c.args.p.now c.args.self.now.own.stops c.requires.scopes.own.stops c.args.k c.requires.there c.entry-entry.result c.entry-entry.ensures filled in
    omega arith

pub overflow_add-number : goal.overflow_add-number
overflow_add-number c =
    let here : slice_get (given_at c.args.p.now c.args.k) c.loop-e.e-index ≡ Some c.e-item.result =
    ap (λ (es : List Expr). slice_get es c.loop-e.e-index) (sym c.given-e-items.ensures)
    ∙ slice_get_read c.given-e-items.result.now (length c.given-e-items.result.now) c.loop-e.e-index c.e-item.result refl c.loop-e-test.true c.e-item.is in
    let small = next-small c.args.p.now c.requires.sound c.args.self.now.own.stops c.requires.scopes.own.stops c.args.k c.requires.there c.entry-entry.result c.entry-entry.ensures
    c.loop-e.e-index c.e-item.result c.loop-e.number here c.loop-e.invariant.number in
    let one : c.defines_of-number.result ≡ defines_of c.e-item.result = c.defines_of-number.ensures.value in
    omega arith

pub loop-e-preserved : goal.loop-e-preserved
loop-e-preserved c =
    let here : slice_get (given_at c.args.p.now c.args.k) c.loop-e.e-index ≡ Some c.e-item.result =
    ap (λ (es : List Expr). slice_get es c.loop-e.e-index) (sym c.given-e-items.ensures)
    ∙ slice_get_read c.given-e-items.result.now (length c.given-e-items.result.now) c.loop-e.e-index c.e-item.result refl c.loop-e-test.true c.e-item.is in
    record {
      targets = subst (λ (xs : List (Option Target)). AreNamed c.args.p.now xs (take (c.loop-e.e-index + 1) (formals_at c.args.p.now c.args.k))) (sym c.in_ok-push.ensures.ok)
          (bound-more c.args.p.now c.requires.sound c.args.self.now.own.stops c.requires.scopes.own.stops c.args.k c.requires.there c.entry-entry.result c.entry-entry.ensures
          c.loop-e.e-index c.e-item.result c.loop-e.number here c.loop-e.invariant.number c.argument.result c.loop-e.targets c.argument.ensures c.loop-e.invariant.targets);
      number = ap (λ n. c.loop-e.number + n) c.defines_of-number.ensures.value
          ∙ next-number c.args.p.now c.requires.sound c.args.self.now.own.stops c.requires.scopes.own.stops c.args.k c.requires.there c.entry-entry.result c.entry-entry.ensures
          c.loop-e.e-index c.e-item.result c.loop-e.number here c.loop-e.invariant.number;
    }

pub returns : goal.returns
returns c =
    let same : length c.given-e-items.result.now ≡ length (given_at c.args.p.now c.args.k) = ap length c.given-e-items.ensures in
    let test : length c.given-e-items.result.now ≤ c.loop-e.e-index = c.loop-e-test.false in
    bound-all c.args.p.now c.requires.sound c.args.self.now.own.stops c.requires.scopes.own.stops c.args.k c.requires.there c.entry-entry.result c.entry-entry.ensures
    c.loop-e.e-index c.loop-e.targets (omega arith) c.loop-e.invariant.targets
