use Rattle.std.proofs.Common.{sym}
use Rattle.cov_nodes.proofs.Numbers.{number_at}
use Rattle.cov_nodes.proofs.places.place_in.Goals as goal

pub returns-then-stands_at : goal.returns-then-stands_at
returns-then-stands_at c =
    sym (number_at c.args.xs.now c.args.x c.place_in_row-guess.result c.requires.once (c.stands_at.ensures.within c.if-stands_at.true) (c.stands_at.ensures.found c.if-stands_at.true))
