use Rattle.std.proofs.Common.{◌∙◌, ap, sym}
use Rattle.std.specs.Option.{option_copied}
use Rattle.cov_top.proofs.ReplayLemmas.{evidence-read}
use Rattle.cov_top.proofs.input.evidence_input.Goals as goal

pub returns-in-Ok-clause-ok : goal.returns-in-Ok-clause-ok
returns-in-Ok-clause-ok g c =
    let named = sym c.evidence.ensures ∙ ap option_copied c.in-Some.is in
    let read = evidence-read (g.F.Files.told c.args.files.now) c.args.job.now c.in-Some.name.now c.in-Ok.input named c.in-Ok.ensures.ok in
    (read.bytes, read.file, read.given)
