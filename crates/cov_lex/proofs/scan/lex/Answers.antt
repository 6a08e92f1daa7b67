use Rattle.std.proofs.Common.{◌≡◌, ℕ, ◌+◌, List, length, Result, Ok, Err, IfOk, sym, subst}
use Rattle.cov_syntax.specs.declared.fault.FaultKind.TheVariants.{BadByte}
use Rattle.cov_syntax.specs.declared.fault.Refused.{Refused}
use Rattle.cov_syntax.specs.declared.fault.Refused.TheVariants.{Fault}
use Rattle.cov_syntax.specs.declared.token.Token.{Token}
use Rattle.cov_syntax.specs.Cuts.{IsCut, IsBadByte}
use Rattle.cov_syntax.specs.Faults.{Gives}
use Rattle.cov_syntax.specs.Tokens.{Text, fault_at, tokens}
use Rattle.cov_syntax.proofs.CutLemmas.{IsCut-tokens, IsBadByte-tokens}
use Rattle.cov_syntax.proofs.TokenLemmas.{tokens-long, tokens-short}
use Rattle.cov_lex.proofs.scan.lex.Goals as goal

module _ (text : Text) where
  cut : (r : Result (List Token) Refused) → Gives r (tokens text) → IfOk r (λ ts. IsCut text 0 ts (length text))
  cut (Ok ts) given = IsCut-tokens text ts given
  cut (Err e) given = tt

  bad_byte : (r : Result (List Token) Refused) (at : ℕ) → Gives r (tokens text) → r ≡ Err (Fault (fault_at BadByte at (at + 1)))
      → (ts : List Token) × IsCut text 0 ts at × IsBadByte text at
  bad_byte r at given is = IsBadByte-tokens text at (subst (λ s. Gives s (tokens text)) is given)

pub returns-then-text-gt-LONGEST_TEXT-clause-answer : goal.returns-then-text-gt-LONGEST_TEXT-clause-answer
returns-then-text-gt-LONGEST_TEXT-clause-answer c = rw (c.at.ensures, c.span-start.ensures) (tokens-long c.args.text.now c.if-text-gt-LONGEST_TEXT.true)

pub returns-clause-answer : goal.returns-clause-answer
returns-clause-answer c = subst (λ given. Gives c.scan.result given) (sym (tokens-short c.args.text.now c.if-text-gt-LONGEST_TEXT.false)) c.scan.ensures

pub returns-clause-cut : goal.returns-clause-cut
returns-clause-cut c = cut c.args.text.now c.scan.result (subst (λ given. Gives c.scan.result given) (sym (tokens-short c.args.text.now c.if-text-gt-LONGEST_TEXT.false)) c.scan.ensures)

pub returns-clause-bad_byte : goal.returns-clause-bad_byte
returns-clause-bad_byte c =
    λ at is. bad_byte c.args.text.now c.scan.result at (subst (λ given. Gives c.scan.result given) (sym (tokens-short c.args.text.now c.if-text-gt-LONGEST_TEXT.false)) c.scan.ensures) is
