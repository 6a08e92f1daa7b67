use Rattle.std.proofs.Common.{◌≡◌, ◌++◌, [], drop}
use Rattle.cov_show.specs.Printing.{path_text}
use Rattle.cov_show.proofs.leaves.show_path.Given as goal

-- what is there and what is left make the whole
abbrev pub invariant-loop-i : goal.invariant-loop-i
invariant-loop-i l = l.into ++ path_text l.names l.mark (drop l.i-index l.path) ≡ l.initial.into ++ path_text l.names [] l.path
