use Rattle.std.proofs.Common.{arith, ap, ◌∙◌}
use Rattle.cov_model.specs.States.{holds}
use Rattle.cov_logic.specs.Formula.{Atom}
use Rattle.cov_logic.specs.Suffix.{suffix}
use Rattle.cov_claims.specs.Claims.{claim_labelling}
use Rattle.cov_claims.specs.Places.{lasso_of}
use Rattle.cov_replay.specs.Told.{Tells}
use Rattle.cov_replay.proofs.AtPlaces.{atom_told, put_more, typed_at}
use Rattle.cov_replay.proofs.telling.put_atom.Goals as goal

pub atom_at-truth-requires-clause-typed : goal.atom_at-truth-requires-clause-typed
atom_at-truth-requires-clause-typed c = typed_at c.args.m.now c.args.e.now.lasso c.loop-place.place c.state_at-s.result.now c.requires.plain (omega arith) c.state_at-s.ensures

pub loop-place-preserved : goal.loop-place-preserved
loop-place-preserved c =
    let m = c.args.m.now in
    let e = c.args.e.now in
    record {
      made = c.atom_at-truth.ensures.kept;
      done = put_more (λ k. Tells (claim_labelling m e.claim) c.args.shown (Atom c.args.atom.now) (suffix k (lasso_of e.lasso))) c.loop-place.column
          c.loop-place.place c.is_told.result (omega arith) c.loop-place.invariant.done
          (atom_told m e.claim e.lasso c.loop-place.place c.state_at-s.result.now c.args.atom.now c.atom_at-truth.result c.args.shown c.is_told.result
          c.requires.plain.turn c.state_at-s.ensures (c.atom_at-truth.ensures.value ∙ ap (λ q. holds m c.args.atom.now c.state_at-s.result.now q) c.flip_at.ensures)
          c.is_told.ensures);
    }

pub returns : goal.returns
returns c = record { kept = c.loop-place.invariant.made; column = record { by = λ p h. c.loop-place.invariant.done p (omega arith) } }
