use Rattle.std.proofs.Common.{◌≡◌, ◌+◌, ◌-◌, ℕ, List, Some, None, Err, length, map, sym, ap, subst, ◌∙◌, arith}
use Rattle.cov_syntax.specs.declared.tree.Value.{Value}
use Rattle.cov_syntax.specs.Tokens.{Text}
use Rattle.cov_show.specs.Cubes.{shown, value_text}
use Rattle.cov_show.specs.States.{behind, head, told_behind}
use Rattle.cov_show.proofs.StateReading.{part_expected, part_behind}
use Rattle.cov_show.proofs.state_reading.read_part.Goals as goal

pub returns-in-Some-clause-told : goal.returns-in-Some-clause-told
returns-in-Some-clause-told c =
    let x = shown c.args.names.now c.args.x.now in
    let n : ℕ = length c.args.text.now - length c.in-Some.rest.now in
    let found : behind (head c.args.mark.now x.name) c.args.text.now ≡ Some c.in-Some.rest.now =
    subst (λ (name : Text). behind (head c.args.mark.now name) c.args.text.now ≡ Some c.in-Some.rest.now) c.name_text.ensures c.in-Some.ensures.found in
    let lengths : length (head c.args.mark.now x.name) + length c.in-Some.rest.now ≡ length c.args.text.now =
    subst (λ (name : Text). length (head c.args.mark.now name) + length c.in-Some.rest.now ≡ length c.args.text.now) c.name_text.ensures c.in-Some.ensures.len in
    c.read_value.ensures.told
    ∙ ap (λ (vs : List Value). told_behind (map (value_text c.args.names.now) vs) c.args.at n (Some c.in-Some.rest.now)) c.as_slice.ensures
    ∙ sym (part_behind x c.args.mark.now c.args.at n c.args.text.now c.in-Some.rest.now found (omega (arith, lengths)))

pub returns-in-None-clause-told : goal.returns-in-None-clause-told
returns-in-None-clause-told c =
    ap (λ f. Err f) c.at.ensures
    ∙ sym (part_expected (shown c.args.names.now c.args.x.now) c.args.mark.now c.args.at c.args.text.now
    (subst (λ (name : Text). behind (head c.args.mark.now name) c.args.text.now ≡ None) c.name_text.ensures c.in-None.ensures.found))
