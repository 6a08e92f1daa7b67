use Rattle.std.proofs.Common.{◌≡◌, ◌++◌, OnOk, ap, subst, ◌∙◌}
use Rattle.cov_syntax.specs.Tokens.{Text}
use Rattle.cov_model.specs.declared.model.Model.{Model}
use Rattle.cov_evid.specs.Spelling.{as_text, claim_lines, lasso_lines, spelled}
use Rattle.cov_evid.proofs.Writing.{evidence_text}
use Rattle.cov_evid.proofs.write.write_evidence.Goals as goal

pub returns-clause-ok : goal.returns-clause-ok
returns-clause-ok c =
    let text : c.as_slice.result.now ≡ spelled c.args.m.now c.args.e.now =
    c.as_slice.ensures
    ∙ evidence_text c.args.m.now c.args.e.now c.put_line.new.into c.put_number.new.into c.put_claim.new.into c.put_lasso.new.into c.new-text.result c.new-text.ensures
    c.in_ok-put_line.ensures c.in_ok-put_number.ensures
    (c.in_ok-put_claim.ensures ∙ ap (λ (n : Model). c.put_number.new.into ++ as_text (claim_lines n c.args.e.now.claim)) c.model.ensures.value)
    (c.in_ok-put_lasso.ensures ∙ ap (λ (n : Model). c.put_claim.new.into ++ as_text (lasso_lines n c.args.e.now.lasso)) c.model-2.ensures.value) in
    subst (λ (t : Text). OnOk c.extend_from_slice.result (c.extend_from_slice.new.self ≡ c.args.into.now ++ t)) text c.extend_from_slice.ensures.ok
