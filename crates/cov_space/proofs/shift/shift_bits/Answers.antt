use Rattle.std.proofs.Common.{◌≡◌, ◌+◌, ◌<◌, ◌/◌, length, arith}
use Rattle.cov_space.specs.Sets.{set_at}
use Rattle.cov_space.proofs.Shifted.{shift_turn, shift_done}
use Rattle.cov_space.proofs.shift.shift_bits.Goals as goal

pub loop-b-preserved : goal.loop-b-preserved
loop-b-preserved c =
    let t = shift_turn c.args.space.now c.loop-b.space c.shift_bit.new.space c.args.n c.place-first.result c.place-second.result c.loop-b.b (set_at c.args.space.now.sets c.args.n) c.requires.last c.loop-b.invariant.is c.loop-b.invariant.made c.in_default.ensures.ok in
    record { is = t.0; made = t.1 }

pub returns-clause-ok : goal.returns-clause-ok
returns-clause-ok c =
    let levels : c.levels-bits.result ≡ c.args.space.now.levels = c.levels-bits.ensures.levels in
    let end : c.loop-b.b ≡ c.args.space.now.levels / 3 = omega arith in
    let standing : c.args.n < length c.args.space.now.sets = let last : length c.args.space.now.sets ≡ c.args.n + 1 = c.requires.last in omega arith in
    shift_done c.args.space.now c.loop-b.space c.args.n c.args.from c.args.to c.place-first.result c.place-second.result c.loop-b.b c.requires.last c.levels-bits.ensures.thirds (c.sets-sets.ensures.proper c.args.n standing)
    c.place-first.ensures.is c.place-second.ensures.is end c.loop-b.invariant.is c.loop-b.invariant.made
