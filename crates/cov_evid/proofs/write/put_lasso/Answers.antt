use Rattle.std.proofs.Common.{[], ◌++◌, codes, ap, ◌∙◌}
use Rattle.std.proofs.lemmas.Result.{on_ok_weaker}
use Rattle.cov_syntax.specs.Tokens.{Text}
use Rattle.cov_evid.proofs.Writing.{lasso_text}
use Rattle.cov_evid.proofs.write.put_lasso.Goals as goal

pub returns : goal.returns
returns c =
    on_ok_weaker c.put_line-3.result
    (λ h. lasso_text c.args.m.now c.args.l.now c.args.into.now c.put_line.new.into c.put_states.new.into c.put_line-2.new.into c.put_states-2.new.into c.put_line-3.new.into
    c.in_ok-put_line.ensures c.in_ok-put_states.ensures
    (c.in_ok-put_line-2.ensures ∙ ap (λ (z : Text). c.put_states.new.into ++ (z ++ [] ++ codes "\n")) c.line.ensures)
    c.in_ok-put_states-2.ensures
    (h ∙ ap (λ (z : Text). c.put_states-2.new.into ++ (z ++ [] ++ codes "\n")) c.line-2.ensures))
    c.put_line-3.ensures
