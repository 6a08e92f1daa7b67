use Rattle.std.proofs.Common.{◌+◌, ◌≤◌, List, ℕ, get_or, arith}
use Rattle.cov_bits.specs.Layout.{IsSize, width, bits, first}
use Rattle.cov_bits.proofs.Widths.{width_least}
use Rattle.cov_bits.proofs.Formed.{size_at}
use Rattle.cov_fields.proofs.Places.{first_within}
use Rattle.cov_fields.proofs.field.field_of.Goals as goal

pub overflow_cast-result : goal.overflow_cast-result
overflow_cast-result c =
    let within : first c.args.plan.now c.args.var + width (get_or c.args.plan.now c.args.var 0) ≤ bits c.args.plan.now = first_within c.args.plan.now c.args.var c.requires in
    omega arith

pub overflow_cast-result-2 : goal.overflow_cast-result-2
overflow_cast-result-2 c =
    let within : first c.args.plan.now c.args.var + width (get_or c.args.plan.now c.args.var 0) ≤ bits c.args.plan.now = first_within c.args.plan.now c.args.var c.requires in
    omega arith

pub returns-clause-fits : goal.returns-clause-fits
returns-clause-fits c =
    let ns : List ℕ = c.args.plan.now in
    let size : IsSize (get_or ns c.args.var 0) = size_at ns c.args.var c.bits-bits.ensures.sized c.requires in
    let within : first c.args.plan.now c.args.var + width (get_or c.args.plan.now c.args.var 0) ≤ bits c.args.plan.now = first_within ns c.args.var c.requires in
    record { there = omega arith; narrow = width_least (get_or ns c.args.var 0) 10 size.0 size.1 }
