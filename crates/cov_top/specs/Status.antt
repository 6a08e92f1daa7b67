-- The exit status of each way to end.
use Rattle.std.specs.Prelude.{ℕ}
use Rattle.cov_top.specs.declared.status.Status.{Status}
use Rattle.cov_top.specs.declared.status.Status.TheVariants.{Done, Fails, Words, Input, Read, Write, Nodes, Memory, Asked}

-- the exit status
abbrev pub code_of : Status → ℕ
code_of Done = 0
code_of Fails = 1
code_of Words = 2
code_of (Input f) = 3
code_of Read = 4
code_of Write = 5
code_of (Nodes full) = 6
code_of Memory = 7
code_of (Asked a) = 8
