use Rattle.std.proofs.Common.{ℕ, List, ◌++◌, take, map, string_bytes}
use Rattle.cov_words.specs.Sorting.{IsPositional}
use Rattle.cov_words.proofs.positional.with_words.Given as goal

abbrev pub invariant-loop-word : goal.invariant-loop-word
invariant-loop-word l = (ps : List (List ℕ)) → IsPositional l.fn.words ps → IsPositional l.all (ps ++ map string_bytes (take l.word-index l.more))
