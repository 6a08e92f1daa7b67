use Rattle.cov_io.proofs.MemFilesLemmas.{held-push}
use Rattle.cov_io.proofs.mem_files.MemFiles.add.Goals as goal

pub returns-clause-ok : goal.returns-clause-ok
returns-clause-ok c =
    rw c.in_ok-push.ensures.items (held-push _ _ _ _ _ _ _ _ _ c.self.invariant c.in_ok-copied.ensures c.in_ok-copied-2.ensures c.self.view_is)
