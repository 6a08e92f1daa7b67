use Rattle.std.proofs.Common.{◌≡◌, ◌∙◌, ℕ, List, [], true, IsTrue, length, Option, Some, sym, ap, subst, arith}
use Rattle.std.specs.Prelude.{slice_get, unwrap_or, OnOk}
use Rattle.std.specs.Option.{option_map_or}
use Rattle.std.proofs.lemmas.Option.{get_or_from_slice_get, slice_get_within}
use Rattle.cov_model.specs.Order.{Reads, read_by, has}
use Rattle.cov_order.specs.Reach.{all_below, grown, expanded}
use Rattle.cov_order.proofs.Leading.{has_at}
use Rattle.cov_order.proofs.Places.{there}
use Rattle.cov_order.proofs.Reaching.{reads_there}
use Rattle.cov_order.proofs.circle.expand.Goals as goal

pub get-requires-in-Some : goal.get-requires-in-Some
get-requires-in-Some c =
    let xs : List ℕ = c.args.reached.now.items in
    let at : slice_get xs c.args.k ≡ Some c.in-Some.j = sym c.in-Some.ensures in
    let stands : has xs c.in-Some.j ≡ true = subst (λ (z : ℕ). has xs z ≡ true) (get_or_from_slice_get xs c.args.k c.in-Some.j 0 at) (has_at xs c.args.k (slice_get_within xs c.args.k c.in-Some.j at)) in
    omega (arith, there c.args.reached.now.places xs c.args.reached.now.right c.in-Some.j stands, c.requires.room)

pub add_all-requires-clause-room : goal.add_all-requires-clause-room
add_all-requires-clause-room c =
    let g : Reads = c.args.reads.now in
    let at : slice_get g c.in-Some.j ≡ Some c.get-in-Some.result.now = c.get-in-Some.ensures in
    subst (λ (n : ℕ). IsTrue (all_below n c.as_slice.result.now)) (sym c.requires.room)
    (subst (λ (js : List ℕ). IsTrue (all_below (length g) js)) (sym c.as_slice.ensures) (reads_there (length g) g c.in-Some.j c.get-in-Some.result.now c.requires.there at))

pub returns-in-None-clause-ok : goal.returns-in-None-clause-ok
returns-in-None-clause-ok c =
    let xs : List ℕ = c.args.reached.now.items in
    ap (λ (o : Option ℕ). option_map_or (λ j. grown xs (read_by c.args.reads.now j)) o xs) c.in-None.ensures

pub returns-in-Some-clause-ok : goal.returns-in-Some-clause-ok
returns-in-Some-clause-ok c =
    let xs : List ℕ = c.args.reached.now.items in
    let g : Reads = c.args.reads.now in
    let at : slice_get g c.in-Some.j ≡ Some c.get-in-Some.result.now = c.get-in-Some.ensures in
    let js : c.as_slice.result.now ≡ read_by g c.in-Some.j = c.as_slice.ensures ∙ ap (λ (o : Option (List ℕ)). unwrap_or o []) (sym at) in
    let is : grown xs c.as_slice.result.now ≡ expanded g c.args.k xs = ap (grown xs) js ∙ ap (λ (o : Option ℕ). option_map_or (λ j. grown xs (read_by g j)) o xs) c.in-Some.ensures in
    subst (λ (z : List ℕ). OnOk c.add_all.result (c.add_all.new.reached.items ≡ z)) is c.add_all.ensures.ok
