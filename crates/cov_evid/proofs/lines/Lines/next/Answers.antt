use Rattle.std.proofs.Common.{◌≡◌, ℕ, ◌∙◌, ◌+◌, ◌<◌, length, take, drop, refl, ap, arith}
use Rattle.std.proofs.lemmas.List.{length-drop, take_all}
use Rattle.cov_syntax.specs.Tokens.{line_len}
use Rattle.cov_evid.proofs.Pieces.{is_last, is_next}
use Rattle.cov_evid.proofs.lines.Lines.next.Goals as goal

pub returns-then-len-rest-clause-err : goal.returns-then-len-rest-clause-err
returns-then-len-rest-clause-err c =
    let n = c.line_len-len.ensures.value in
    rw (← c.self.view_is) (c.at.ensures, is_last (record { rest = c.self.inside.rest.now; number = c.self.inside.number }) (omega (arith, n, c.if-len-rest.true)))

pub returns-clause-ok : goal.returns-clause-ok
returns-clause-ok c =
    let n = c.line_len-len.ensures.value in
    let rest = c.self.inside.rest.now in
    let less : line_len rest < length rest = omega (arith, n, c.if-len-rest.false, c.line_len-len.ensures.within) in
    let left : drop (c.line_len-len.result + 1) rest ≡ drop (line_len rest + 1) rest = ap (λ (k : ℕ). drop (k + 1) rest) n in
    rw (← c.self.view_is) (is_next _ _ _ (ap (λ (k : ℕ). take k rest) n) (take_all _ _ (omega (arith, length-drop {A = ℕ})) ∙ left) refl less)
