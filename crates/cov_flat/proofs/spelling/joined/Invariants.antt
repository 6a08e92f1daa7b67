use Rattle.std.proofs.Common.{◌≡◌, ◌++◌, reverse, length}
use Rattle.cov_modules.specs.Names.{spelled}
use Rattle.cov_flat.specs.Entries.{dotted_rest}
use Rattle.cov_flat.proofs.spelling.joined.Given as goal

-- what is found, with what is left, is the whole
abbrev pub invariant-loop-i : goal.invariant-loop-i
invariant-loop-i l = l.found ++ dotted_rest l.names (reverse l.parts) ≡ spelled l.names (reverse l.fn.parts)

abbrev pub decreases-loop-i : goal.decreases-loop-i
decreases-loop-i l = length l.parts
