use Rattle.std.proofs.Common.{◌≡◌, ◌≤◌, ◌+◌, ◌^◌, ℕ, List, Bool, length, refl, sym, ap, subst, arith}
use Rattle.cov_bits.proofs.Widths.{width_holds}
use Rattle.cov_space.specs.Sets.{SpaceOf, set_at}
use Rattle.cov_space.specs.Steps.{with_more}
use Rattle.cov_fields.specs.declared.field.Field.{Field}
use Rattle.cov_fields.specs.Sets.{rest_set}
use Rattle.cov_families.specs.Steps.{in_turn, HasColumns}
use Rattle.cov_families.proofs.Gathering.{length-more, length-in_turn}
use Rattle.cov_families.proofs.Combining.{standing, length-standing, standing_made, standing_has, combined_made}
use Rattle.cov_families.proofs.combine.combined_steps.Goals as goal

pub put_codes-requires-clause-fits : goal.put_codes-requires-clause-fits
put_codes-requires-clause-fits c = subst (λ (f : Field). c.args.count ≤ 2 ^ f.width) (sym c.index_of-2.ensures) (width_holds c.args.count c.requires.table.some_targets)

pub put_codes-requires-clause-room : goal.put_codes-requires-clause-room
put_codes-requires-clause-room c =
    let old : SpaceOf = c.args.sp.now in
    let s : SpaceOf = c.put_rests.new.sp in
    let rests : ℕ → List Bool = λ j. rest_set old.levels c.index_of.result j (set_at old.sets c.args.b) in
    let all : length s.sets ≡ length old.sets + length (in_turn c.args.table.now.columns rests) = length-more old s (in_turn c.args.table.now.columns rests) c.in_ok-put_rests.ensures.ok in
    let long : length (in_turn c.args.table.now.columns rests) ≡ c.args.table.now.columns = length-in_turn c.args.table.now.columns rests in
    let places : s.places ≡ old.places = ap (λ (z : SpaceOf). z.places) c.in_ok-put_rests.ensures.ok in
    omega arith

pub put_rows-requires-clause-table : goal.put_rows-requires-clause-table
put_rows-requires-clause-table c =
    let old : SpaceOf = c.args.sp.now in
    let base : length old.sets ≡ c.sets-n.result = sym c.sets-n.ensures.count in
    subst (λ n. HasColumns c.put_codes.new.sp.sets n (n + c.args.table.now.columns) c.args.table.now) base
    (standing_has old c.put_codes.new.sp c.args.table.now c.args.count (set_at old.sets c.args.b) c.requires.table
    (standing_made old c.put_rests.new.sp c.put_codes.new.sp c.args.table.now c.args.count (set_at old.sets c.args.b) c.index_of.result c.index_of-2.result c.index_of.ensures c.index_of-2.ensures c.in_ok-put_rests.ensures.ok c.in_ok-put_codes.ensures.ok))

pub put_rows-requires-clause-room : goal.put_rows-requires-clause-room
put_rows-requires-clause-room c =
    let old : SpaceOf = c.args.sp.now in
    let s : SpaceOf = c.put_codes.new.sp in
    let b : List Bool = set_at old.sets c.args.b in
    let is : s ≡ with_more old (standing old.levels c.args.table.now c.args.count b) =
    standing_made old c.put_rests.new.sp s c.args.table.now c.args.count b c.index_of.result c.index_of-2.result c.index_of.ensures c.index_of-2.ensures c.in_ok-put_rests.ensures.ok c.in_ok-put_codes.ensures.ok in
    let all : length s.sets ≡ length old.sets + length (standing old.levels c.args.table.now c.args.count b) = length-more old s _ is in
    let long : length (standing old.levels c.args.table.now c.args.count b) ≡ c.args.table.now.columns + c.args.count = length-standing old.levels c.args.table.now c.args.count b in
    let places : s.places ≡ old.places = ap (λ (z : SpaceOf). z.places) is in
    omega arith

pub returns-clause-ok : goal.returns-clause-ok
returns-clause-ok c =
    let old : SpaceOf = c.args.sp.now in
    combined_made old c.put_codes.new.sp c.put_rows.new.sp c.settle.new.self c.args.table.now c.args.count c.args.a c.sets-n.result (c.sets-n.result + c.args.table.now.columns) (set_at old.sets c.args.b) c.requires.table c.requires.a c.sets-n.ensures.count refl
    (standing_made old c.put_rests.new.sp c.put_codes.new.sp c.args.table.now c.args.count (set_at old.sets c.args.b) c.index_of.result c.index_of-2.result c.index_of.ensures c.index_of-2.ensures c.in_ok-put_rests.ensures.ok c.in_ok-put_codes.ensures.ok)
    c.in_ok-put_rows.ensures.ok c.settle.ensures
