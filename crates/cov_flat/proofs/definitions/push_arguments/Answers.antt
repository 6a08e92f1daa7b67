use Rattle.std.proofs.Common.{length, refl, ◌≡◌, ℕ, suc, ◌+◌, ◌∙◌, sym, ap, List, ◌++◌, take, append-nil, append_assoc, arith, Some}
use Rattle.std.specs.Prelude.{slice_get}
use Rattle.std.specs.List.{flat_map, zip}
use Rattle.std.proofs.lemmas.Option.{slice_get_read}
use Rattle.std.proofs.lemmas.Grind.{flat_map-append}
use Rattle.cov_syntax.specs.declared.tree.Expr.{Expr}
use Rattle.cov_syntax.specs.declared.program.Spelled.{Spelled}
use Rattle.cov_flat.specs.declared.definitions.Definition.{Definition}
use Rattle.cov_flat.specs.Reading.{stop_at}
use Rattle.cov_flat.specs.Entries.{argument_in, pair_at}
use Rattle.cov_flat.proofs.DefinitionLemmas.{zip_nil, zip_step}
use Rattle.cov_flat.proofs.definitions.push_arguments.Goals as goal

pub loop-i-init : goal.loop-i-init
loop-i-init c =
    let f : Spelled × Expr → List Definition = argument_in c.args.at.now.p.now (stop_at c.args.at.now.p.now c.args.at.now.number) in
    sym (append-nil c.args.found.now.items) ∙ ap (λ (zs : List (Spelled × Expr)). c.args.found.now.items ++ flat_map f zs) (sym (zip_nil c.as_slice-formals.result.now))

pub loop-i-preserved : goal.loop-i-preserved
loop-i-preserved c =
    let f : Spelled × Expr → List Definition = argument_in c.args.at.now.p.now (stop_at c.args.at.now.p.now c.args.at.now.number) in
    let old : List Definition = c.args.found.now.items in
    let formals : List Spelled = c.as_slice-formals.result.now in
    let given : List Expr = c.given-given-items.result.now in
    let i : ℕ = c.loop-i.i in
    let e : Expr = c.given-item.result in
    let next : i + 1 ≡ suc i = omega arith in
    let item : slice_get given i ≡ Some e = slice_get_read given (length given) i e refl c.loop-i-test.true c.given-item.is in
    let more : zip formals (take (i + 1) given) ≡ zip formals (take i given) ++ pair_at formals i e = ap (λ (k : ℕ). zip formals (take k given)) next ∙ zip_step formals given i e item in
    c.in_ok-push_argument_at.ensures
    ∙ ap (λ (ds : List Definition). ds ++ flat_map f (pair_at formals i e)) c.loop-i.invariant
    ∙ append_assoc old (flat_map f (zip formals (take i given))) (flat_map f (pair_at formals i e))
    ∙ ap (λ (ds : List Definition). old ++ ds) (sym (flat_map-append f (zip formals (take i given)) (pair_at formals i e)) ∙ ap (flat_map f) (sym more))
