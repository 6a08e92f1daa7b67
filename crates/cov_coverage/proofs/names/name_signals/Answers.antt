use Rattle.std.proofs.Common.{◌≡◌, ◌+◌, List, ℕ, Some, length, take, slice_get, refl, sym, ◌∙◌, ap, subst}
use Rattle.std.proofs.lemmas.Option.{slice_get_read}
use Rattle.cov_coverage.specs.declared.names.NamedSignal.{NamedSignal}
use Rattle.cov_coverage.specs.Names.{AreNamed}
use Rattle.cov_coverage.proofs.Naming.{first_unknown, named_is, one_more_named}
use Rattle.cov_coverage.proofs.names.name_signals.Goals as goal

pub returns-in_default-clause-err : goal.returns-in_default-clause-err
returns-in_default-clause-err c =
    let items : List (List ℕ) = c.as_slice-name-items.result.now in
    let i = c.loop-i.i in
    let here : slice_get c.args.names.now i ≡ Some c.name-item.result =
    ap (λ (xs : List (List ℕ)). slice_get xs i) (sym c.as_slice-name-items.ensures) ∙ slice_get_read items (length items) i c.name-item.result refl c.loop-i-test.true c.name-item.is in
    first_unknown c.args.m.now c.args.names.now c.loop-i.signals i c.name-item.result c.as_slice.result.now here c.as_slice.ensures c.loop-i.invariant c.in_default.ensures

pub loop-i-preserved : goal.loop-i-preserved
loop-i-preserved c =
    let items : List (List ℕ) = c.as_slice-name-items.result.now in
    let i = c.loop-i.i in
    let name : List ℕ = c.name-item.result in
    let q : NamedSignal = c.in_ok-named.field-0 in
    let here : slice_get c.args.names.now i ≡ Some name =
    ap (λ (xs : List (List ℕ)). slice_get xs i) (sym c.as_slice-name-items.ensures) ∙ slice_get_read items (length items) i name refl c.loop-i-test.true c.name-item.is in
    subst (λ (l : List NamedSignal). AreNamed c.args.m.now (take (i + 1) c.args.names.now) l) (sym c.in_ok-push.ensures.ok)
    (one_more_named c.args.m.now c.args.names.now c.loop-i.signals i name q here c.loop-i.invariant
    (named_is c.args.m.now name c.as_slice.result.now c.in-Some.signal q c.as_slice.ensures ((c.in-Some.ensures c.in-Some.signal).0 refl) c.in_ok-named.ensures))
