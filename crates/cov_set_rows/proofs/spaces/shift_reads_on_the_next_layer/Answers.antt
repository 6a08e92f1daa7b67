use Rattle.std.proofs.Common.{◌≡◌, ◌+◌, ◌*◌, List, Bool, arith, subst, sym}
use Rattle.std.proofs.lemmas.Grind.{common_steps}
use Rattle.cov_dd.specs.Operations.{Ignores}
use Rattle.cov_space.specs.Sets.{lies, set_at}
use Rattle.cov_space.specs.Operations.{bit_set}
use Rattle.cov_space.proofs.Ignoring.{bit_ignores}
use Rattle.cov_set_rows.proofs.spaces.shift_reads_on_the_next_layer.Goals as goal

pub shift-requires-clause-free : goal.shift-requires-clause-free
shift-requires-clause-free g c b below =
    let made : set_at c.bit.new.self.sets 0 ≡ bit_set c.bit.new.self.levels 1 = grind (arith, common_steps) in
    subst (λ (s : List Bool). Ignores c.bit.new.self.levels (3 * b + 2) (lies s)) (sym made) (bit_ignores c.bit.new.self.levels (3 * b + 2) 1 below (omega arith))
