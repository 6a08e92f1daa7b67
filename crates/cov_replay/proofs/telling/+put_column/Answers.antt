use Rattle.std.proofs.Common.{◌≡◌, ◌+◌, ℕ, length, sym, ap, ◌∙◌, subst, arith}
use Rattle.cov_ctl.specs.declared.formula.Formula as ctl
use Rattle.cov_ctl.specs.Formulas.{formula_of}
use Rattle.cov_logic.specs.Formula.{Formula, Not}
use Rattle.cov_logic.specs.Lasso.{Lasso}
use Rattle.cov_model.specs.States.{State}
use Rattle.cov_syntax.specs.declared.tree.Expr.{Expr}
use Rattle.cov_claims.specs.Claims.{claim_labelling}
use Rattle.cov_replay.specs.Heights.{height}
use Rattle.cov_claims.specs.Places.{lasso_of, places_of}
use Rattle.cov_replay.specs.Told.{HasPlaces}
use Rattle.cov_replay.proofs.AtPlaces.{has_places}
use Rattle.cov_replay.proofs.Nodes.{IsOverOne, IsOverTwo, atom_node, height_some, joined, not_node, one_level, over_one, over_two, room_below, walked}
use Rattle.cov_formulas.proofs.Shapes.{of_atom, of_not}
use Rattle.cov_replay.proofs.telling.+put_column.Goals as goal

pub split_at_mut-column-requires : goal.split_at_mut-column-requires
split_at_mut-column-requires t c =
    let n : ℕ = places_of c.args.e.now.lasso in
    let is : c.len-turn.result + c.len.result ≡ n = omega (arith, c.len-turn.ensures, c.len.ensures) in
    rw is (one_level n c.args.levels (length c.args.cells.now) (height (formula_of c.args.f.now)) (height_some (formula_of c.args.f.now)) c.requires.asked.low c.requires.room)

pub copy-requires : goal.copy-requires
copy-requires t c =
    let n : ℕ = places_of c.args.e.now.lasso in
    let is : c.len-turn.result + c.len.result ≡ n = omega (arith, c.len-turn.ensures, c.len.ensures) in
    let a : Formula Expr = formula_of c.in-Not.a in
    let shape : height (formula_of c.args.f.now) ≡ 1 + height a = ap (λ (f : ctl.Formula). height (formula_of f)) c.in-Not.is ∙ ap height (of_not c.in-Not.a) in
    let some = height_some a in
    room_below n c.args.levels (length c.args.cells.now) _ _ _ _ (height (formula_of c.args.f.now)) is c.split_at_mut-column.ensures.front_len
    c.split_at_mut-column.ensures.back_len c.put_column.auto.cells (omega arith) c.requires.asked.low c.requires.room

pub copy-requires-in-And : goal.copy-requires-in-And
copy-requires-in-And t c =
    let n : ℕ = places_of c.args.e.now.lasso in
    let is : c.len-turn.result + c.len.result ≡ n = omega (arith, c.len-turn.ensures, c.len.ensures) in
    let over = over_two c.args.f.now c.in-And.a c.in-And.b c.in-And.is in
    let shape = over.low in
    let some = height_some (formula_of c.in-And.a) in
    room_below n c.args.levels (length c.args.cells.now) _ _ _ _ (height (formula_of c.args.f.now)) is c.split_at_mut-column.ensures.front_len
    c.split_at_mut-column.ensures.back_len c.put_column-in-And.auto.cells (omega arith) c.requires.asked.low c.requires.room

pub put_join-requires-clause-room : goal.put_join-requires-clause-room
put_join-requires-clause-room t c =
    let n : ℕ = places_of c.args.e.now.lasso in
    let is : c.len-turn.result + c.len.result ≡ n = omega (arith, c.len-turn.ensures, c.len.ensures) in
    let over = over_two c.args.f.now c.in-And.a c.in-And.b c.in-And.is in
    let shape = over.low in
    let some = height_some (formula_of c.in-And.a) in
    room_below n c.args.levels (length c.args.cells.now) _ _ _ _ (height (formula_of c.args.f.now)) is
    (c.copy-in-And.auto.column ∙ c.split_at_mut-column.ensures.front_len) c.split_at_mut-column.ensures.back_len
    (c.put_column-in-And-2.auto.cells ∙ c.put_column-in-And.auto.cells) (omega arith) c.requires.asked.low c.requires.room

pub put_walk-requires-clause-room : goal.put_walk-requires-clause-room
put_walk-requires-clause-room t c =
    let n : ℕ = places_of c.args.e.now.lasso in
    let is : c.len-turn.result + c.len.result ≡ n = omega (arith, c.len-turn.ensures, c.len.ensures) in
    let over = over_one c.args.f.now c.in-Ex.a c.in-Ex.is in
    let shape = over.low in
    let some = height_some (formula_of c.in-Ex.a) in
    room_below n c.args.levels (length c.args.cells.now) _ _ _ _ (height (formula_of c.args.f.now)) is c.split_at_mut-column.ensures.front_len
    c.split_at_mut-column.ensures.back_len c.put_column-in-Ex.auto.cells (omega arith) c.requires.asked.low c.requires.room

pub returns-in-Atom-clause-column : goal.returns-in-Atom-clause-column
returns-in-Atom-clause-column t c =
    let n : ℕ = places_of c.args.e.now.lasso in
    let is : c.len-turn.result + c.len.result ≡ n = omega (arith, c.len-turn.ensures, c.len.ensures) in
    atom_node (formula_of c.args.f.now) c.in-Atom.atom (ap formula_of c.in-Atom.is ∙ of_atom c.in-Atom.atom) (claim_labelling c.args.m.now c.args.e.now.claim)
    c.args.shown (lasso_of c.args.e.now.lasso) n c.put_atom.new.column c.split_at_mut-column.result.1.now
    (c.put_atom.auto.column ∙ c.split_at_mut-column.ensures.front_len ∙ is) c.put_atom.ensures.column

pub returns-in-Not-clause-column : goal.returns-in-Not-clause-column
returns-in-Not-clause-column t c =
    let n : ℕ = places_of c.args.e.now.lasso in
    let is : c.len-turn.result + c.len.result ≡ n = omega (arith, c.len-turn.ensures, c.len.ensures) in
    let a : Formula Expr = formula_of c.get.result.now in
    let shape : formula_of c.args.f.now ≡ Not a = ap formula_of c.in-Not.is ∙ of_not c.in-Not.a ∙ ap (λ z. Not (formula_of z)) (sym c.get.ensures) in
    let front : length c.split_at_mut-column.result.0.now ≡ n = c.split_at_mut-column.ensures.front_len ∙ is in
    not_node (formula_of c.args.f.now) a shape (claim_labelling c.args.m.now c.args.e.now.claim) c.args.shown (lasso_of c.args.e.now.lasso) n
    c.put_column.new.cells c.copy.new.column c.put_column.new.cells (c.copy.auto.column ∙ front) c.put_column.ensures.column (λ p d. c.copy.ensures p (omega arith))

pub returns-in-And-clause-column : goal.returns-in-And-clause-column
returns-in-And-clause-column t c =
    let n : ℕ = places_of c.args.e.now.lasso in
    let l : Lasso State = lasso_of c.args.e.now.lasso in
    let is : c.len-turn.result + c.len.result ≡ n = omega (arith, c.len-turn.ensures, c.len.ensures) in
    let a : ctl.Formula = c.get-in-And.result.now in
    let b : ctl.Formula = c.get-in-And-2.result.now in
    let over : IsOverTwo (formula_of c.args.f.now) (formula_of a) (formula_of b) =
    subst (λ (z : ctl.Formula). IsOverTwo (formula_of c.args.f.now) (formula_of z) (formula_of b)) (sym c.get-in-And.ensures)
    (subst (λ (z : ctl.Formula). IsOverTwo (formula_of c.args.f.now) (formula_of c.in-And.a) (formula_of z)) (sym c.get-in-And-2.ensures)
    (over_two c.args.f.now c.in-And.a c.in-And.b c.in-And.is)) in
    let front : length c.split_at_mut-column.result.0.now ≡ n = c.split_at_mut-column.ensures.front_len ∙ is in
    let size : length c.copy-in-And.new.column ≡ n = c.copy-in-And.auto.column ∙ front in
    let places : HasPlaces l n c.len-turn.result = subst (λ i. HasPlaces l n i) (sym c.len-turn.ensures) (has_places c.args.e.now.lasso c.requires.plain.turn) in
    joined (formula_of c.args.f.now) (formula_of a) (formula_of b) over (claim_labelling c.args.m.now c.args.e.now.claim) c.args.shown c.first_shown.result
    c.join_of.result l n c.len-turn.result c.put_column-in-And.new.cells c.copy-in-And.new.column c.put_column-in-And-2.new.cells c.put_join.new.column
    c.put_join.new.other places c.first_shown.ensures c.join_of.ensures size (c.put_join.auto.column ∙ size) c.put_column-in-And.ensures.column
    (λ p d. c.copy-in-And.ensures p (omega arith)) c.put_column-in-And-2.ensures.column c.put_join.ensures

pub returns-in-Ex-clause-column : goal.returns-in-Ex-clause-column
returns-in-Ex-clause-column t c =
    let n : ℕ = places_of c.args.e.now.lasso in
    let l : Lasso State = lasso_of c.args.e.now.lasso in
    let is : c.len-turn.result + c.len.result ≡ n = omega (arith, c.len-turn.ensures, c.len.ensures) in
    let a : ctl.Formula = c.get-in-Ex.result.now in
    let over : IsOverOne (formula_of c.args.f.now) (formula_of a) =
    subst (λ (z : ctl.Formula). IsOverOne (formula_of c.args.f.now) (formula_of z)) (sym c.get-in-Ex.ensures) (over_one c.args.f.now c.in-Ex.a c.in-Ex.is) in
    let front : length c.split_at_mut-column.result.0.now ≡ n = c.split_at_mut-column.ensures.front_len ∙ is in
    let places : HasPlaces l n c.len-turn.result = subst (λ i. HasPlaces l n i) (sym c.len-turn.ensures) (has_places c.args.e.now.lasso c.requires.plain.turn) in
    walked (formula_of c.args.f.now) (formula_of a) over (claim_labelling c.args.m.now c.args.e.now.claim) c.args.shown c.walk_of.result l n c.len-turn.result
    c.split_at_mut-column.result.0.now c.put_column-in-Ex.new.cells c.put_walk.new.column c.put_walk.new.other places c.walk_of.ensures front
    (c.put_walk.auto.column ∙ front) c.put_column-in-Ex.ensures.column c.put_walk.ensures
