use Rattle.std.proofs.Common.{◌≡◌, ◌++◌, OnOk, ap, subst, ◌∙◌}
use Rattle.cov_syntax.specs.Tokens.{Text}
use Rattle.cov_show.specs.Cubes.{shown_vars, or_word, comma_joined}
use Rattle.cov_show.specs.States.{state_parts, state_text}
use Rattle.cov_show.proofs.StateTexts.{or_all-parts}
use Rattle.cov_show.proofs.state.show_state.Goals as goal

pub returns-clause-ok : goal.returns-clause-ok
returns-clause-ok c =
    let text : c.as_slice.result.now ≡ state_text (shown_vars c.args.m.now) c.args.s.now =
    c.as_slice.ensures ∙ c.in_ok-show_all_if_empty.ensures
    ∙ ap (λ (t : Text). or_word t) (c.in_ok-show_parts.ensures ∙ ap (λ (t : Text). t ++ comma_joined (state_parts (shown_vars c.args.m.now) c.args.s.now)) c.new-text.ensures)
    ∙ or_all-parts (shown_vars c.args.m.now) c.args.s.now in
    subst (λ (t : Text). OnOk c.extend_from_slice.result (c.extend_from_slice.new.self ≡ c.args.into.now ++ t)) text c.extend_from_slice.ensures.ok
