-- A sink in memory as the bytes that were put.
use Rattle.std.specs.Prelude.{◌≡◌, ℕ, List, ◌++◌, length, min, take, Result, IsErr, OnErr, IfOk, Contains}
use Rattle.cov_io.specs.declared.outside.Failed.{Failed}
use Rattle.cov_io.specs.Outside.{one_more}

-- what a sink in memory holds and tells
pub record HeldBytes : Type 0 where
  pub wrote : List ℕ
  pub most : ℕ
  pub calls : ℕ
  pub failing : List ℕ
  pub faults : ℕ

-- the call that comes next is to fail
abbrev pub IsToFail : HeldBytes → Type 0
IsToFail s = Contains s.failing (one_more s.calls)

-- Putting bytes: each call is counted, and takes all of the piece up to the most of one call. It fails where it is listed, and where memory runs out.
pub record PutsExactly (old new : HeldBytes) (piece : List ℕ) (result : Result ℕ Failed) : Type 0 where
  pub failing : IsToFail old → IsErr result
  pub refused : OnErr result (new ≡ record old { calls = one_more old.calls; faults = one_more old.faults })
  pub takes : IfOk result (λ n. n ≡ min old.most (length piece))
  pub puts : IfOk result (λ n. new ≡ record old { wrote = old.wrote ++ take n piece; calls = one_more old.calls })
