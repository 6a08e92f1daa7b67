use Rattle.std.proofs.Common.{length, ◌-◌, map, string_bytes}
use Rattle.cov_words.proofs.Loops.{IsLeft}
use Rattle.cov_words.proofs.sort.sort.Given as goal

abbrev pub invariant-loop-at : goal.invariant-loop-at
invariant-loop-at l = IsLeft (map string_bytes l.words) l.at l.sorted

abbrev pub decreases-loop-at : goal.decreases-loop-at
decreases-loop-at l = length l.words - l.at
