use Rattle.std.proofs.Common.{rules, sym, ap, subst, ◌∙◌}
use Rattle.cov_model.specs.Kinds.{Kind}
use Rattle.cov_model.specs.Walk.{is_wide}
use Rattle.cov_kinds.specs.Seen.{seen}
use Rattle.cov_walk.specs.Misfits.{IsUnless}
use Rattle.cov_walk.proofs.Simple.{bit_found, literal_found, everywhere}
use Rattle.cov_walk.proofs.leaves.literal_found.Goals as goal

pub returns-then-is_bit : goal.returns-then-is_bit
returns-then-is_bit c may = bit_found c.args.place c.args.value may c.fitting.result (sym c.if-is_bit.ensures) (ap seen c.fitting.ensures.own ∙ c.in_ok-own.ensures) c.fitting.ensures.misfits

pub returns : goal.returns
returns c may =
    let u : IsUnless (seen c.in_ok-own.own) (everywhere c.args.place) c.new.result.misfits = search rules in
    literal_found c.args.place c.args.value may c.new.result (sym c.if-is_bit.ensures)
    (ap is_wide (sym c.in_ok-own.ensures) ∙ sym c.if-is_wide.ensures)
    (ap seen c.new.ensures.own ∙ c.in_ok-own.ensures)
    (subst (λ (k : Kind). IsUnless k (everywhere c.args.place) c.new.result.misfits) c.in_ok-own.ensures u)
