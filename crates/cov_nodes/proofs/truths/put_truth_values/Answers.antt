use Rattle.std.proofs.Common.{ℕ, Option, length, true, false, sym, subst}
use Rattle.cov_syntax.specs.declared.tree.Value.TheVariants as v
use Rattle.cov_space.specs.Sets.{set_at}
use Rattle.cov_space.proofs.Calls.{on_ok_map}
use Rattle.cov_families.specs.Families.{FitsField, index_of}
use Rattle.cov_nodes.proofs.Families.{number_fits, truth_values_family}
use Rattle.cov_nodes.proofs.truths.put_truth_values.Goals as goal

pub put_choice-requires-clause-inside : goal.put_choice-requires-clause-inside
put_choice-requires-clause-inside c =
    subst (λ (n : Option ℕ). FitsField (index_of (length c.args.xs.now)) n) (sym c.place_in-inside.ensures) (number_fits c.args.xs.now (v.Bool true))

pub put_choice-requires-clause-outside : goal.put_choice-requires-clause-outside
put_choice-requires-clause-outside c =
    subst (λ (n : Option ℕ). FitsField (index_of (length c.args.xs.now)) n) (sym c.place_in-outside.ensures) (number_fits c.args.xs.now (v.Bool false))

pub returns-clause-ok : goal.returns-clause-ok
returns-clause-ok c m at f is_f =
    on_ok_map c.put_choice.result _ _
    (λ puts. truth_values_family c.args.sp.now c.put_choice.new.sp m at c.args.xs.now f (set_at c.args.sp.now.sets c.args.a) c.place_in-inside.result c.place_in-outside.result is_f c.requires.chunk.once c.place_in-inside.ensures c.place_in-outside.ensures puts)
    c.put_choice.ensures.ok
