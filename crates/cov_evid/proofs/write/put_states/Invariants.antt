use Rattle.std.proofs.Common.{◌≡◌, ◌++◌, IsTrue, take, drop}
use Rattle.cov_evid.specs.Spelling.{are_typed}
use Rattle.cov_evid.proofs.Writing.{put_states}
use Rattle.cov_evid.proofs.write.put_states.Given as goal

-- the lines so far
abbrev pub invariant-loop-s : goal.invariant-loop-s
invariant-loop-s l = record {
  lines : l.into ≡ l.initial.into ++ put_states l.m (take l.s-index l.s-items);
  left : IsTrue (are_typed l.m (drop l.s-index l.s-items));
}
