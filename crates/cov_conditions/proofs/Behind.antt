-- A family behind the sets of the DEFINEs.
use Rattle.std.proofs.lemmas.List.{get_or_at}
use Rattle.std.proofs.Common.{◌≡◌, ℕ, suc, ◌-◌, ◌*◌, ◌++◌, Bool, ◌&&◌, IsTrue, List, [], ◌∷◌, length, take, Option, None, refl, sym, ap, subst, ◌∙◌, arith, length-append, Result, OnOk}
use Rattle.std.specs.List.{list_all}
use Rattle.cov_syntax.specs.declared.tree.Expr.{Expr}
use Rattle.cov_syntax.specs.declared.tree.Value.{Value}
use Rattle.cov_bits.specs.Layout.{bits, sizes}
use Rattle.cov_model.specs.declared.model.Model.{Model}
use Rattle.cov_model.specs.Order.{reads}
use Rattle.cov_model.specs.WellFormed.{IsWellFormed}
use Rattle.cov_ranges.specs.Ranges.{IsExpressionOf}
use Rattle.cov_space.specs.declared.fault.SpaceFault.{SpaceFault}
use Rattle.cov_space.specs.Sets.{SpaceOf, set_at}
use Rattle.cov_space.specs.Steps.{with_more}
use Rattle.cov_space.proofs.Calls.{on_ok_map, push_behind, settled_behind}
use Rattle.cov_fields.proofs.Steps.{puts_last}
use Rattle.cov_nodes.specs.declared.defined.Standing as standing
use Rattle.cov_nodes.specs.declared.reading.Reading.{Reading}
use Rattle.cov_nodes.specs.Choices.{Choice, IsFamily, PutsFamily}
use Rattle.cov_nodes.specs.Points.{at_layer}
use Rattle.cov_nodes.specs.Standing.{AreStanding, has_entry}
use Rattle.cov_expressions.specs.declared.scope.Scope.{Scope}
use Rattle.cov_expressions.specs.Scopes.{IsScope}
use Rattle.cov_conditions.specs.Bodies.{HaveEntries, PutsFamilyBehind}
use Rattle.cov_conditions.specs.Marks.{AreReads}
use Rattle.cov_conditions.proofs.Gathering.{reads_stand}
use Rattle.cov_conditions.proofs.Reading.{named_there}

-- what stands for an expression that is read
pub scope_made : (old s : SpaceOf) (more : List (List Bool)) (scope : Scope) → IsWellFormed scope.m.now → scope.plan.now ≡ sizes scope.m.now.vars → old.levels ≡ 3 * bits scope.plan.now → s ≡ with_more old more
    → AreStanding s scope.m.now scope.at.present scope.at.flip scope.here.now → AreStanding s scope.m.now scope.at.next None scope.there.now → IsScope s scope
scope_made old s more scope formed plan levels is here there = record {
  formed = formed;
  plan = plan;
  levels = ap (λ (z : SpaceOf). z.levels) is ∙ levels ∙ ap (λ (ns : List ℕ). 3 * bits ns) plan;
  here = here;
  there = there;
}

-- what it reads stands
pub reads_made : (m : Model) (here there : List (Option standing.Standing)) (e : Expr) (marks : List Bool) → IsWellFormed m → IsExpressionOf m e → AreReads m e marks → HaveEntries marks (length m.defines) here → HaveEntries marks (length m.defines) there
    → IsTrue (list_all (λ i. has_entry here i && has_entry there i) (reads e))
reads_made m here there e marks formed stands marked h t = reads_stand marks here there (length m.defines) (reads e) h t marked.here (named_there m formed e stands)

-- one state for both
pub still : (s : SpaceOf) (m : Model) (at : Reading) (entries : List (Option standing.Standing)) → at ≡ at_layer at.next None → AreStanding s m at.next None entries → AreStanding s m at.present at.flip entries
still s m at entries is h = subst (λ (r : Reading). AreStanding s m r.present r.flip entries) (sym is) h

-- the family behind what stands
pub family_behind : (res : Result Unit SpaceFault) (old s new : SpaceOf) (more : List (List Bool)) (m : Model) (at : Reading) (xs : List Value) (may : Choice) → s ≡ with_more old more → OnOk res (PutsFamily s new m at xs may) → OnOk res (PutsFamilyBehind old new m at xs may)
family_behind res old s new more m at xs may is = on_ok_map res (PutsFamily s new m at xs may) (PutsFamilyBehind old new m at xs may) (λ p. record {
  more = more;
  set = p.set;
  is = push_behind old s new more p.set is p.puts;
  family = subst (λ n. IsFamily n m at xs may p.set) (ap (λ (z : SpaceOf). z.levels) is) p.is;
})

-- settled, it stands alone
pub family_settled : (old s new : SpaceOf) (n : ℕ) (m : Model) (at : Reading) (xs : List Value) (may : Choice) → length old.sets ≡ n → PutsFamilyBehind old s m at xs may
    → new ≡ record s { sets = take n s.sets ++ set_at s.sets (length s.sets - 1) ∷ [] } → PutsFamily old new m at xs may
family_settled old s new n m at xs may count p settle =
    let long : length (p.more ++ p.set ∷ []) ≡ suc (length p.more) = let e = length-append p.more (p.set ∷ []) in omega (arith, e) in
    let is : new ≡ with_more old (p.set ∷ []) =
    settled_behind old s new (p.more ++ p.set ∷ []) n (length p.more) p.is count long settle
    ∙ ap (λ (x : List Bool). with_more old (x ∷ [])) (get_or_at p.more p.set [] [] (length p.more) refl) in
    record { set = p.set; puts = puts_last old new p.set is; is = p.family }
