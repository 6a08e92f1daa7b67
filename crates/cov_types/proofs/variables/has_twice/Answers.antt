use Rattle.std.proofs.Common.{◌≡◌, ◌∙◌, ◌+◌, ◌++◌, ◌∷◌, [], Bool, true, false, ◌||◌, List, ap, sym, get_or, take}
use Rattle.std.proofs.lemmas.List.{take_more}
use Rattle.cov_syntax.specs.declared.tree.Value.{Value}
use Rattle.cov_syntax.specs.declared.tree.Value.TheVariants as v
use Rattle.cov_model.specs.Kinds.{member}
use Rattle.cov_model.specs.Types.{has_twice}
use Rattle.cov_model.specs.Values.{same_value}
use Rattle.cov_types.proofs.Twice.{found_twice, member-push, twice-push}
use Rattle.cov_types.proofs.variables.has_twice.Goals as goal

pub returns-then-has : goal.returns-then-has
returns-then-has c =
    let xs : List Value = c.args.values.now in
    let x : Value = get_or xs c.loop-x.x-index (v.Bool false) in
    sym (found_twice xs c.loop-x.x-index c.loop-x-test.true (sym (c.loop-x.invariant.same x) ∙ sym c.if-has.ensures))

pub loop-x-preserved : goal.loop-x-preserved
loop-x-preserved c =
    let xs : List Value = c.args.values.now in
    let i = c.loop-x.x-index in
    let x : Value = get_or xs i (v.Bool false) in
    let more : take (i + 1) xs ≡ take i xs ++ x ∷ [] = take_more xs i (v.Bool false) c.loop-x-test.true in
    let new : member (take i xs) x ≡ false = sym (c.loop-x.invariant.same x) ∙ sym c.has.ensures ∙ c.if-has.false in
    record {
      same = λ y.
          c.in_ok-put.ensures y
          ∙ ap (λ (b : Bool). same_value x y || b) (c.loop-x.invariant.same y)
          ∙ sym (ap (λ (ys : List Value). member ys y) more ∙ member-push (take i xs) x y);
      once =
          ap has_twice more
          ∙ twice-push (take i xs) x
          ∙ ap (λ (b : Bool). b || has_twice (take i xs)) new
          ∙ c.loop-x.invariant.once;
    }
