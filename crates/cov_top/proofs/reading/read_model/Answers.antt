use Rattle.cov_top.proofs.ReadLemmas.{one-program, program-fault}
use Rattle.cov_top.proofs.reading.read_model.Goals as goal

pub returns-clause-fault : goal.returns-clause-fault
returns-clause-fault c = λ f e.
    let found = c.in_ok-program.ensures.found in
    program-fault _ c.in_ok-tokens.tokens c.in_ok-program.program f c.in_ok-tokens.ensures.answer found.0 found.1
    (one-program _ c.in_ok-tokens.tokens _ c.in_ok-tokens.ensures.answer c.in_ok-program.ensures.only)
    (rw e at c.accept.ensures.err)
