use Rattle.std.proofs.Common.{◌&&◌, List, Bool, sym, ap}
use Rattle.cov_space.specs.Sets.{SpaceOf, lies}
use Rattle.cov_space.proofs.Calls.{at_front}
use Rattle.cov_fields.specs.Fields.{held, written}
use Rattle.cov_families.specs.Families.{names, target}
use Rattle.cov_families.proofs.Numbers.{target_fits}
use Rattle.cov_families.proofs.Gathering.{gathers_more}
use Rattle.cov_families.proofs.read.carried_steps.Goals as goal

pub add_carried-requires-clause-fits : goal.add_carried-requires-clause-fits
add_carried-requires-clause-fits c = target_fits c.args.to c.args.targets.now c.loop-i.i c.requires.fit

pub loop-i-preserved : goal.loop-i-preserved
loop-i-preserved c =
    let old : SpaceOf = c.args.sp.now in
    gathers_more old c.loop-i.sp c.add_carried.new.sp c.sets-n.result c.loop-i.i _ _ (sym c.sets-n.ensures.count) c.loop-i.invariant c.in_ok-add_carried.ensures.ok (λ row len.
    ap (λ (x : List Bool). lies x (written c.args.from c.loop-i.i row) && names (target c.args.targets.now c.loop-i.i) (held c.args.to row)) (at_front old c.loop-i.sp _ c.args.set c.loop-i.invariant.is c.requires.set))
