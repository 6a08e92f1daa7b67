use Rattle.std.proofs.Common.{◌≡◌, ◌+◌, ◌≤◌, ◌∙◌, ap, arith}
use Rattle.cov_paths.specs.Arguments.{defines, first_own}
use Rattle.cov_paths.proofs.Giving.{first-is, first-small}
use Rattle.cov_paths.proofs.own_names.first_define.Goals as goal

pub returns : goal.returns
returns c =
    let count : c.defines-count.result ≡ defines c.given.result.now = c.defines-count.ensures.value in
    ap (λ n. c.entry.result.first_define + n) (count ∙ ap defines c.given.ensures)
    ∙ first-is c.args.p.now c.args.stops.now c.requires.stops c.args.k c.requires.there c.entry.result c.entry.ensures

pub overflow_add-result : goal.overflow_add-result
overflow_add-result c =
    let is : c.entry.result.first_define + c.defines-count.result ≡ first_own c.args.p.now c.args.k =
    ap (λ n. c.entry.result.first_define + n) (c.defines-count.ensures.value ∙ ap defines c.given.ensures)
    ∙ first-is c.args.p.now c.args.stops.now c.requires.stops c.args.k c.requires.there c.entry.result c.entry.ensures in
    let small : first_own c.args.p.now c.args.k ≤ 4096 = first-small c.args.p.now c.args.stops.now c.requires.stops c.args.k c.requires.there c.requires.sound in
    omega arith

pub overflow_cast-result-2 : goal.overflow_cast-result-2
overflow_cast-result-2 c =
    let is : c.entry.result.first_define + c.defines-count.result ≡ first_own c.args.p.now c.args.k =
    ap (λ n. c.entry.result.first_define + n) (c.defines-count.ensures.value ∙ ap defines c.given.ensures)
    ∙ first-is c.args.p.now c.args.stops.now c.requires.stops c.args.k c.requires.there c.entry.result c.entry.ensures in
    let small : first_own c.args.p.now c.args.k ≤ 4096 = first-small c.args.p.now c.args.stops.now c.requires.stops c.args.k c.requires.there c.requires.sound in
    omega arith
