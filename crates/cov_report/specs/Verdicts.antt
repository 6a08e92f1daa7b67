-- The line of a replay.
use Rattle.std.specs.Prelude.{ℕ, ◌++◌, codes, decimal}
use Rattle.cov_syntax.specs.Tokens.{Text}
use Rattle.cov_replay.specs.declared.verdict.Verdict.{Verdict}
use Rattle.cov_replay.specs.declared.verdict.Verdict.TheVariants as v

-- a part of valid evidence that fails, by its name
abbrev pub rejected : Text → Text
rejected name = codes "rejected: " ++ name ++ codes "\n"

-- the same with the number of a state or of a FAIRNESS expression
abbrev pub rejected_at : Text → ℕ → Text
rejected_at name n = codes "rejected: " ++ name ++ codes " " ++ decimal n ++ codes "\n"

-- the line of a verdict on evidence
abbrev pub verdict_line : Verdict → Text
verdict_line v.Accept = codes "accepted\n"
verdict_line v.NoSuchSpec = rejected (codes "NoSuchSpec")
verdict_line v.NoSuchOccurrence = rejected (codes "NoSuchOccurrence")
verdict_line v.NotLinear = rejected (codes "NotLinear")
verdict_line (v.NotState i) = rejected_at (codes "NotState") i
verdict_line v.NotInitial = rejected (codes "NotInitial")
verdict_line (v.BadStep i) = rejected_at (codes "BadStep") i
verdict_line v.NotClosed = rejected (codes "NotClosed")
verdict_line (v.Unfair k) = rejected_at (codes "Unfair") k
verdict_line v.NotAt = rejected (codes "NotAt")
verdict_line v.NotRefuted = rejected (codes "NotRefuted")
