use Rattle.std.proofs.Common.{◌≡◌, IsTrue, refl, subst}
use Rattle.cov_syntax.specs.declared.tree.Value.{Value}
use Rattle.cov_syntax.specs.declared.tree.Value.TheVariants as v
use Rattle.cov_model.specs.Kinds.{Kind, boolean, member, values_of}
use Rattle.cov_model.specs.Meaning.{value}
use Rattle.cov_model.specs.Settled.{kinds_of}
use Rattle.cov_model.specs.States.{between}
use Rattle.cov_model.specs.Values.{truth}
use Rattle.cov_model.specs.Walk.{own}
use Rattle.cov_model.proofs.Tied.{is_boolean-eq}
use Rattle.cov_ranges.proofs.Listed.{lists_all}
use Rattle.cov_readings.proofs.defines.booleans.Goals as goal

is_truth : (x : Value) → IsTrue (member (values_of boolean) x) → x ≡ v.Bool (truth x)
is_truth (v.Bool b) h = refl
is_truth (v.Int n) h = cc
is_truth (v.Sym s) h = cc

pub returns : goal.returns
returns c = λ m w e x u b s t flip h g.
    is_truth (value e (between m s t flip))
    (subst (λ (k : Kind). IsTrue (member (values_of k) (value e (between m s t flip)))) (is_boolean-eq (own (kinds_of m) e) b) ((lists_all m w e x).values s t flip h g u))
