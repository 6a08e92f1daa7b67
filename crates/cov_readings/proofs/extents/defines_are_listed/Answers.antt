use Rattle.std.proofs.Common.{true, false, IsTrue, refl, subst}
use Rattle.cov_syntax.specs.declared.tree.Value.{Value}
use Rattle.cov_syntax.specs.declared.tree.Value.TheVariants as v
use Rattle.cov_model.specs.Kinds.{Kind, boolean, interval, among, member, of_kind, values_of}
use Rattle.cov_model.specs.Meaning.{define}
use Rattle.cov_model.specs.States.{readings_in}
use Rattle.cov_model.proofs.Joined.{listed}
use Rattle.cov_model.proofs.ModelLaw.{reads_kinds}
use Rattle.cov_readings.proofs.WholeLists.{all_faultless}
use Rattle.cov_readings.proofs.extents.defines_are_listed.Goals as goal

-- a value of a kind is one of its values
in_values : (k : Kind) (x : Value) → IsTrue (of_kind k x) → IsTrue (member (values_of k) x)
in_values boolean (v.Bool true) h = refl
in_values boolean (v.Bool false) h = refl
in_values boolean (v.Int n) h = cc
in_values boolean (v.Sym s) h = cc
in_values (interval low high) x h = listed (interval low high) x refl h
in_values (among xs) x h = listed (among xs) x refl h

pub returns : goal.returns
returns c = λ m w i d g s flip t.
    let x : Value = define (readings_in m s flip) i in
    subst (λ (k : Kind). IsTrue (member (values_of k) x)) ((all_faultless m w).defines i d g).kind (in_values _ x ((reads_kinds m s flip w t).defs i))
