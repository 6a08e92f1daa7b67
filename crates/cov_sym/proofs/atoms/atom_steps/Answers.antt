use Rattle.std.proofs.Common.{◌≡◌, ◌*◌, List, Bool, Option, sym, ◌∙◌, ap, subst}
use Rattle.cov_bits.specs.Layout.{bits, sizes}
use Rattle.cov_model.specs.declared.model.Model.{Model}
use Rattle.cov_model.specs.declared.model.Signal.{Signal}
use Rattle.cov_space.specs.Answers.{PutsSet}
use Rattle.cov_space.specs.Sets.{SpaceOf}
use Rattle.cov_space.proofs.Calls.{on_ok_map}
use Rattle.cov_sym.specs.Systems.{atom_set}
use Rattle.cov_sym.proofs.Inverted.{plain_is, single_is}
use Rattle.cov_sym.proofs.atoms.atom_steps.Goals as goal

pub returns-in-None-clause-ok : goal.returns-in-None-clause-ok
returns-in-None-clause-ok c =
    let old : SpaceOf = c.args.sp.now in
    let m : Model = c.args.m.now in
    let e = c.args.e.now in
    let new : SpaceOf = c.put_read.new.sp in
    on_ok_map c.put_read.result _ _
    (λ q. subst (λ (s : Option Signal). PutsSet old new (atom_set old.levels m s e)) (sym c.in-None.is) (subst (λ (x : List Bool). PutsSet old new x) (plain_is old.levels m e) q)) c.put_read.ensures.ok

pub returns-in-Some-clause-ok : goal.returns-in-Some-clause-ok
returns-in-Some-clause-ok c =
    let old : SpaceOf = c.args.sp.now in
    let m : Model = c.args.m.now in
    let e = c.args.e.now in
    let new : SpaceOf = c.put_read-in-Some.new.sp in
    let whole : old.levels ≡ 3 * bits (sizes m.vars) = c.requires.levels ∙ ap (λ ns. 3 * bits ns) c.requires.plan in
    let none : bits (sizes m.vars) ≡ 0 = sym (ap bits c.requires.plan) ∙ sym c.bits.ensures.value ∙ c.if-bits-eq0.true in
    on_ok_map c.put_read-in-Some.result _ _ (λ q. subst (λ (x : List Bool). PutsSet old new x) (single_is old.levels m c.args.signal e whole none) q) c.put_read-in-Some.ensures.ok
