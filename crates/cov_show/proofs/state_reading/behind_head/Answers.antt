use Rattle.std.proofs.Common.{refl}
use Rattle.cov_show.proofs.StateReading.{no_mark, no_name, head_found, head_len}
use Rattle.cov_show.proofs.state_reading.behind_head.Goals as goal

pub returns-in_err-named-clause-found : goal.returns-in_err-named-clause-found
returns-in_err-named-clause-found c = rw (c.from_residual.ensures, no_mark c.args.mark.now c.args.name.now c.args.text.now c.in_err-named.ensures.found) refl

pub returns-in_err-valued-clause-found : goal.returns-in_err-valued-clause-found
returns-in_err-valued-clause-found c =
    rw (
      c.from_residual-in_err-valued.ensures,
      no_name c.args.mark.now c.args.name.now c.args.text.now c.in_ok-named.named.now c.in_ok-named.ensures.found c.in_err-valued.ensures.found,
    ) refl

pub returns-clause-found : goal.returns-clause-found
returns-clause-found c =
    head_found c.args.mark.now c.args.name.now c.args.text.now c.in_ok-named.named.now c.in_ok-valued.valued.now c.behind-3.result c.in_ok-named.ensures.found
    c.in_ok-valued.ensures.found c.behind-3.ensures.found

pub returns-clause-len : goal.returns-clause-len
returns-clause-len c =
    head_len c.args.mark.now c.args.name.now c.args.text.now c.in_ok-named.named.now c.in_ok-valued.valued.now c.behind-3.result c.in_ok-named.ensures.len
    c.in_ok-valued.ensures.len c.behind-3.ensures.len
