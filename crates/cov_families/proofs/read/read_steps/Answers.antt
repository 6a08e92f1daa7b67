use Rattle.std.proofs.Common.{◌≡◌, length, refl, sym, ◌∙◌, ap, arith}
use Rattle.cov_fields.specs.Fields.{held}
use Rattle.cov_families.specs.Families.{some_below, names, target}
use Rattle.cov_families.specs.Steps.{reads}
use Rattle.cov_families.proofs.Numbers.{some_one, names_past, target_fits}
use Rattle.cov_families.proofs.Gathering.{gathers_more, gathers_puts}
use Rattle.cov_families.proofs.read.read_steps.Goals as goal

pub add_read-requires-clause-fits : goal.add_read-requires-clause-fits
add_read-requires-clause-fits c = target_fits c.args.to c.args.targets.now c.loop-i.i c.requires.fit

pub loop-i-preserved : goal.loop-i-preserved
loop-i-preserved c = gathers_more c.args.sp.now c.loop-i.sp c.add_read.new.sp c.sets-n.result c.loop-i.i _ _ (sym c.sets-n.ensures.count) c.loop-i.invariant c.in_ok-add_read.ensures.ok (λ row len. refl)

pub returns-clause-ok : goal.returns-clause-ok
returns-clause-ok c =
    let ts = c.args.targets.now in
    let whole : c.loop-i.i ≡ length c.args.targets.now = omega arith in
    gathers_puts c.args.sp.now c.loop-i.sp c.loop-i.i _ _ c.loop-i.invariant (λ row len.
    ap (λ n. some_below n (reads c.args.from c.args.to ts row)) whole
    ∙ some_one (length ts) (held c.args.from row) (λ k. names (target ts k) (held c.args.to row)) (names_past ts (held c.args.from row) (held c.args.to row)))
