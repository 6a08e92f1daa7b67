use Rattle.std.proofs.Common.{◌≡◌, true, false, length, sym, ap, ◌∙◌, rules}
use Rattle.cov_modules.specs.ModuleFaults.{place_if, at_start}
use Rattle.cov_modules.specs.Sizes.{is_over, size_at, sizes}
use Rattle.cov_modules.proofs.WalkLemmas.{too-large-is}
use Rattle.cov_modules.proofs.check.too_large.Goals as goal

pub returns-then-is_over : goal.returns-then-is_over
returns-then-is_over c =
    let over : is_over (size_at (sizes c.args.p.now (length c.args.p.now.modules)) c.in-Some.main) ≡ true = search rules in
    sym (ap (λ b. place_if b at_start) (too-large-is c.args.p.now c.in-Some.main c.requires.known c.requires.arguments c.in-Some.ensures.found ∙ over))

pub returns : goal.returns
returns c =
    let over : is_over (size_at (sizes c.args.p.now (length c.args.p.now.modules)) c.in-Some.main) ≡ false = search rules in
    sym (ap (λ b. place_if b at_start) (too-large-is c.args.p.now c.in-Some.main c.requires.known c.requires.arguments c.in-Some.ensures.found ∙ over))
