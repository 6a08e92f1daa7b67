use Rattle.std.proofs.Common.{◌≡◌, ◌++◌, OnOk, ap, subst, ◌∙◌}
use Rattle.cov_syntax.specs.Tokens.{Text}
use Rattle.cov_show.specs.Cubes.{shown_vars, or_word, comma_joined, parts, cube_text}
use Rattle.cov_show.proofs.CubeLemmas.{or_all-word}
use Rattle.cov_show.proofs.cube.show_cube.Goals as goal

pub returns-clause-ok : goal.returns-clause-ok
returns-clause-ok c =
    let text : c.as_slice.result.now ≡ cube_text (shown_vars c.args.m.now) c.args.c.now =
    c.as_slice.ensures ∙ c.in_ok-show_all_if_empty.ensures
    ∙ ap (λ (t : Text). or_word t) (c.in_ok-show_parts.ensures ∙ ap (λ (t : Text). t ++ comma_joined (parts (shown_vars c.args.m.now) c.args.c.now)) c.new-text.ensures)
    ∙ or_all-word (shown_vars c.args.m.now) c.args.c.now in
    subst (λ (t : Text). OnOk c.extend_from_slice.result (c.extend_from_slice.new.self ≡ c.args.into.now ++ t)) text c.extend_from_slice.ensures.ok
