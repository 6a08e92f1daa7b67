use Rattle.std.proofs.Math.Bool.{and-false}
use Rattle.std.proofs.Common.{Bool, false, sym, List, nat_lt, length}
use Rattle.cov_families.specs.Families.{index_of}
use Rattle.cov_fields.specs.Fields.{held}
use Rattle.cov_nodes.proofs.Families.{puts_family}
use Rattle.cov_nodes.proofs.branches.put_none.Goals as goal

pub returns : goal.returns
returns c m at xs =
    puts_family c.args.sp.now c.constant.new.self m at xs (λ p z. false) (λ (row : List Bool). false) c.constant.ensures
    (λ row len typed. sym (and-false (nat_lt (held (index_of (length xs)) row) (length xs))))
