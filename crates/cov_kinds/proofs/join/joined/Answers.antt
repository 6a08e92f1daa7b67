use Rattle.std.proofs.Common.{◌≡◌, ◌∙◌, sym, ap, subst, false, ◌∷◌, map, IfOk, List}
use Rattle.std.specs.List.{list_any}
use Rattle.cov_model.specs.Kinds as kinds
use Rattle.cov_model.specs.Kinds.{is_boolean, joined_kind, join_all}
use Rattle.cov_model.specs.Walk.{is_wide}
use Rattle.cov_kinds.specs.declared.kind.Kind.{Kind}
use Rattle.cov_kinds.specs.Seen.{seen, IsKindOrWide}
use Rattle.cov_kinds.proofs.Joining.{AreJoinable, joined_boolean, joined_first, are_joinable, tail_joinable}
use Rattle.cov_kinds.proofs.join.joined.Goals as goal

pub returns-then-has_boolean : goal.returns-then-has_boolean
returns-then-has_boolean c =
    let e = joined_boolean c.args.kinds.now (sym c.has_boolean.ensures ∙ c.if-has_boolean.true) in
    (sym e, ap is_wide e)

pub joined_all-requires-clause-others : goal.joined_all-requires-clause-others
joined_all-requires-clause-others c =
    let a = are_joinable c.args.kinds.now (sym c.has_boolean.ensures ∙ c.if-has_boolean.false) c.requires.narrow in
    tail_joinable c.in-Some.first.now c.in-Some.others.now (subst AreJoinable c.in-Some.ensures.cases.0 a)

pub returns-in_ok-copy-in-Some : goal.returns-in_ok-copy-in-Some
returns-in_ok-copy-in-Some c =
    let f : list_any (λ k. is_boolean (seen k)) (c.in-Some.first.now ∷ c.in-Some.others.now) ≡ false = rw c.in-Some.ensures.cases.0 at (sym c.has_boolean.ensures ∙ c.if-has_boolean.false) in
    let e : joined_kind (map seen (c.in-Some.first.now ∷ c.in-Some.others.now)) ≡ join_all (seen c.in-Some.first.now) (map seen c.in-Some.others.now) = joined_first c.in-Some.first.now c.in-Some.others.now f in
    let g : joined_kind (map seen c.args.kinds.now) ≡ join_all (seen c.in_ok-copy-in-Some.field-0) (map seen c.in-Some.others.now) =
    ap (λ (ks : List Kind). joined_kind (map seen ks)) c.in-Some.ensures.cases.0 ∙ e ∙ ap (λ (k : Kind). join_all (seen k) (map seen c.in-Some.others.now)) (sym c.in_ok-copy-in-Some.ensures) in
    subst (λ (k : kinds.Kind). IfOk c.joined_all.result (λ r. IsKindOrWide r k)) (sym g) c.joined_all.ensures
