use Rattle.std.proofs.Common.{◌≡◌, ◌∙◌, ap, List, ℕ, ◌++◌, reverse}
use Rattle.cov_modules.specs.Names.{text}
use Rattle.cov_flat.specs.Entries.{dotted_rest}
use Rattle.cov_flat.proofs.SpellingLemmas.{spelled-last}
use Rattle.cov_flat.proofs.spelling.joined.Goals as goal

pub loop-i-init : goal.loop-i-init
loop-i-init c =
    let put : c.extend_from_slice.new.self ≡ c.new-found.result ++ c.text.result.now = c.in_ok-extend_from_slice.ensures.ok in
    let found : c.extend_from_slice.new.self ≡ text c.args.names.now c.in-Some.first = put ∙ ap (λ (t : List ℕ). t ++ c.text.result.now) c.new-found.ensures ∙ c.text.ensures in
    ap (λ (t : List ℕ). t ++ dotted_rest c.args.names.now (reverse c.pop.new.self)) found
    ∙ spelled-last c.args.names.now c.args.parts c.pop.new.self c.in-Some.first c.in-Some.ensures
