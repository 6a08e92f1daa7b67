use Rattle.std.proofs.Common.{◌≡◌, ◌∙◌, ◌≤◌, ◌++◌, ◌∷◌, [], List, Option, length, sym, ap, subst, append-nil, arith}
use Rattle.std.specs.Prelude.{slice_get, OnOk}
use Rattle.std.specs.Option.{option_map_or}
use Rattle.std.proofs.lemmas.Option.{slice_get_past}
use Rattle.cov_syntax.specs.declared.tree.Expr.{Expr}
use Rattle.cov_model.specs.declared.model.Define.{Define}
use Rattle.cov_model.specs.Order.{renumbered, with_body}
use Rattle.cov_order.proofs.renumber.push_define.Goals as goal

pub returns-then-i-len : goal.returns-then-i-len
returns-then-i-len c =
    let on : Define → Define = with_body (renumbered c.args.order.now.items) in
    let past : length c.args.defines.now ≤ c.args.i = omega (arith, c.if-i-len.true, c.len.ensures) in
    sym (append-nil c.args.placed.now)
    ∙ ap (λ (o : Option Define). c.args.placed.now ++ option_map_or (λ d. on d ∷ []) o []) (sym (slice_get_past c.args.defines.now c.args.i past))

pub returns : goal.returns
returns c =
    let d : Define = c.get-d.result.now in
    let on : Define → Define = with_body (renumbered c.args.order.now.items) in
    let put : OnOk c.push.result (c.push.new.self ≡ c.args.placed.now ++ (record d { body = c.in_ok-body.body }) ∷ []) = c.push.ensures.ok in
    let is : c.args.placed.now ++ (record d { body = c.in_ok-body.body }) ∷ [] ≡ c.args.placed.now ++ option_map_or (λ d. on d ∷ []) (slice_get c.args.defines.now c.args.i) []
    = ap (λ (e : Expr). c.args.placed.now ++ (record d { body = e }) ∷ []) c.in_ok-body.ensures
    ∙ ap (λ (o : Option Define). c.args.placed.now ++ option_map_or (λ d. on d ∷ []) o []) (sym c.get-d.ensures) in
    subst (λ (z : List Define). OnOk c.push.result (c.push.new.self ≡ z)) is put
