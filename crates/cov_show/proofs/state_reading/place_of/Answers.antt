use Rattle.std.proofs.Common.{◌<◌, IsTrue, length, map, sym, ap, subst, ◌∙◌, arith, below_more}
use Rattle.std.specs.Str.{bytes_eq}
use Rattle.std.proofs.lemmas.List.{length-map}
use Rattle.cov_syntax.specs.declared.tree.Value.{Value}
use Rattle.cov_show.specs.Cubes.{value_text}
use Rattle.cov_show.specs.States.{is_small_value}
use Rattle.cov_show.proofs.StateReading.{place_found, place_missing, item-at, mapped}
use Rattle.cov_show.proofs.state_reading.place_of.Goals as goal

pub returns-then-is_value_text-clause-place : goal.returns-then-is_value_text-clause-place
returns-then-is_value_text-clause-place c =
    let within : c.loop-i.i < length (map (value_text c.args.names.now) c.args.values.now) = rw length-map c.loop-i-test.true in
    place_found (map (value_text c.args.names.now) c.args.values.now) c.args.word.now c.loop-i.i within
    (ap (bytes_eq c.args.word.now) (mapped c.args.names.now c.args.values.now c.loop-i.i c.loop-i-test.true) ∙ sym c.is_value_text.ensures.same ∙ c.if-is_value_text.true)
    c.loop-i.invariant

pub returns-then-is_value_text-clause-small : goal.returns-then-is_value_text-clause-small
returns-then-is_value_text-clause-small c =
    subst (λ (x : Value). IsTrue (is_small_value x)) (sym (item-at c.args.values.now c.loop-i.i)) c.is_value_text.ensures.small

pub loop-i-preserved : goal.loop-i-preserved
loop-i-preserved c =
    below_more _ _ c.loop-i.invariant
    (ap (bytes_eq c.args.word.now) (mapped c.args.names.now c.args.values.now c.loop-i.i c.loop-i-test.true) ∙ sym c.is_value_text.ensures.same ∙ c.if-is_value_text.false)

pub returns-clause-place : goal.returns-clause-place
returns-clause-place c =
    place_missing (map (value_text c.args.names.now) c.args.values.now) c.args.word.now
    (λ k h. let below : k < length c.args.values.now = rw length-map at h in c.loop-i.invariant k (omega arith))
