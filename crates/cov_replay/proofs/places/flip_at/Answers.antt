use Rattle.std.proofs.Common.{◌≡◌, ◌∙◌, ap, sym, Bool, true, false, List, ℕ, Some, None, if◌then◌else◌}
use Rattle.std.specs.Str.{bytes_eq}
use Rattle.cov_claims.specs.declared.evidence.Claim.{Claim}
use Rattle.cov_claims.specs.declared.evidence.Claim.TheVariants.{Mutant}
use Rattle.cov_model.specs.declared.model.Signal.{Signal}
use Rattle.cov_replay.specs.Flips as spec
use Rattle.cov_replay.proofs.places.flip_at.Goals as goal

decided : (claim : Claim) (q : Signal) (w s a b : List ℕ) (t : Bool) → claim ≡ Mutant q w → a ≡ w → b ≡ s → bytes_eq a b ≡ t
    → (if t then Some q else None) ≡ spec.flip_at claim s
decided claim q w s a b t is ea eb e =
    ap (λ (x : Bool). if x then Some q else None) (sym e ∙ ap (λ (z : List ℕ). bytes_eq z b) ea ∙ ap (bytes_eq w) eb)
    ∙ ap (λ (k : Claim). spec.flip_at k s) (sym is)

pub returns-then-eq : goal.returns-then-eq
returns-then-eq c =
    decided c.args.claim.now c.in-Mutant.signal c.in-Mutant.at c.args.s.now c.as_slice.result.now c.as_slice-in-Mutant.result.now true c.in-Mutant.is
    c.as_slice.ensures c.as_slice-in-Mutant.ensures (sym c.eq.ensures ∙ c.if-eq.true)

pub returns-else-eq : goal.returns-else-eq
returns-else-eq c =
    decided c.args.claim.now c.in-Mutant.signal c.in-Mutant.at c.args.s.now c.as_slice.result.now c.as_slice-in-Mutant.result.now false c.in-Mutant.is
    c.as_slice.ensures c.as_slice-in-Mutant.ensures (sym c.eq.ensures ∙ c.if-eq.false)

pub returns-in-Occurrence : goal.returns-in-Occurrence
returns-in-Occurrence c = ap (λ k. spec.flip_at k c.args.s.now) (sym c.in-Occurrence.is)
