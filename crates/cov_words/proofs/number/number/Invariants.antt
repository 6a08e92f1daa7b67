use Rattle.cov_words.proofs.Digits.{Reads}
use Rattle.cov_words.proofs.number.number.Given as goal

abbrev pub invariant-loop-byte : goal.invariant-loop-byte
invariant-loop-byte l = Reads l.word l.byte-index l.number
