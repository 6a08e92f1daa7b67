-- The step of a recursive operation, whatever the operation: an answer at the low cofactor, one at the high cofactor, and `mk` of the two.
use Rattle.std.proofs.Common.{◌≡◌, ℕ, ◌<◌, ◌≤◌, List, Bool, true, false, get_or, Result, Err, IfErr, sym, ◌∙◌, subst, arith}
use Rattle.cov_dd.specs.declared.node.Ref.{Ref}
use Rattle.cov_dd.specs.declared.fault.Full.{Full}
use Rattle.cov_dd.specs.declared.fault.TableFault.{TableFault}
use Rattle.cov_dd.specs.declared.fault.TableFault.TheVariants as fault
use Rattle.cov_dd.specs.Nodes.{TableOf, den, level_of, IsBelow, Extends, Denotes, chosen}
use Rattle.cov_dd.specs.Cofactors.{Computes, IsMissing, IsRefused, IsFault, fault_of}
use Rattle.cov_dd.specs.Questions.{Wanted, Halved}
use Rattle.cov_dd.proofs.Diagrams.{cond_both}
use Rattle.cov_dd.proofs.Growth.{keeps}
use Rattle.cov_dd.proofs.CofactorLemmas.{missing_lift, missing_same}
use Rattle.cov_dd.proofs.Splitting.{computes_lift, computes_trans, computes_same}

-- a refusal, of which a lemma on the missing cofactor is enough
pub fault_lift : (t : TableOf) (top top' : ℕ) (f g : List Bool → Bool) → (IsMissing t top f → IsMissing t top' g) → (e : TableFault) → IsFault t top f e → IsFault t top' g e
fault_lift t top top' f g lift (fault.Full held budget) r = record { held = r.held; budget = r.budget; stands = r.stands; missing = lift r.missing }
fault_lift t top top' f g lift fault.Memory r = tt

-- ---- after the answer at the low cofactor

pub low_computes : {s t : TableOf} {level : ℕ} {whole low high : Wanted} → Halved s level whole low high → Computes s t (low.top s) (low.function s) → Computes s t (whole.top s) (whole.function s)
low_computes {s} {t} {level} {whole} {low} {high} h c =
    subst (λ (k : ℕ). Computes s t k (whole.function s)) h.top
    (computes_lift s t level (low.top s) false (whole.function s) (low.function s) h.below_low h.splits.at_low c)

pub low_fault : {s : TableOf} (t : TableOf) {level : ℕ} {whole low high : Wanted} (e : TableFault) → Halved s level whole low high → t.levels ≡ s.levels → IsFault t (low.top s) (low.function s) e → IsFault t (whole.top s) (whole.function s) e
low_fault {s} t {level} {whole} {low} {high} e h same =
    fault_lift t (low.top s) (whole.top s) (low.function s) (whole.function s) (λ m.
    subst (λ (k : ℕ). IsMissing t k (whole.function s)) h.top
    (missing_lift t level (low.top s) false (whole.function s) (low.function s) h.below_low (λ row len. h.splits.at_low row (len ∙ same)) m)) e

-- ---- after the answer at the high cofactor

pub high_computes : {s t u : TableOf} {level : ℕ} {whole low high : Wanted} → Halved s level whole low high → Computes s t (low.top s) (low.function s) → Computes t u (high.top t) (high.function t) → Computes s u (whole.top s) (whole.function s)
high_computes {s} {t} {u} {level} {whole} {low} {high} h c d =
    computes_trans s t u (whole.top s) (whole.function s) (low_computes h c)
    (subst (λ (k : ℕ). Computes t u k (whole.function s)) h.top
    (computes_lift t u level (high.top t) true (whole.function s) (high.function t) (h.below_high t c.extends)
    (λ row len. h.same_high t c.extends row ∙ h.splits.at_high row (len ∙ c.extends.levels)) d))

pub high_fault : {s t : TableOf} (u : TableOf) {level : ℕ} {whole low high : Wanted} (e : TableFault) → Halved s level whole low high → Extends s t → u.levels ≡ s.levels → IsFault u (high.top t) (high.function t) e → IsFault u (whole.top s) (whole.function s) e
high_fault {s} {t} u {level} {whole} {low} {high} e h grown same =
    fault_lift u (high.top t) (whole.top s) (high.function t) (whole.function s) (λ m.
    subst (λ (k : ℕ). IsMissing u k (whole.function s)) h.top
    (missing_lift u level (high.top t) true (whole.function s) (high.function t) (h.below_high t grown) (λ row len. h.same_high t grown row ∙ h.splits.at_high row (len ∙ same)) m)) e

-- ---- `mk` of the two answers

pub low_below : {s t u : TableOf} {level : ℕ} {whole low high : Wanted} {r : Ref} → Halved s level whole low high → Computes s t (low.top s) (low.function s) → Extends t u → Denotes t (low.top s) r (low.function s) → IsBelow u.levels u.nodes level r
low_below {s} {t} {u} {level} {whole} {low} {high} {r} h c e d =
    let k = keeps t u c.table e r d.live in
    let a : level < low.top s = h.below_low in
    let b : low.top s ≤ level_of t.levels t.nodes r = d.level in
    let same : level_of u.levels u.nodes r ≡ level_of t.levels t.nodes r = k.level in
    record { live = k.live; ordered = omega arith }

pub high_below : {s t u : TableOf} {level : ℕ} {whole low high : Wanted} {r : Ref} → Halved s level whole low high → Extends s t → Denotes u (high.top t) r (high.function t) → IsBelow u.levels u.nodes level r
high_below {s} {t} {u} {level} {whole} {low} {high} {r} h e d =
    let a : level < high.top t = h.below_high t e in
    let b : high.top t ≤ level_of u.levels u.nodes r = d.level in
    record { live = d.live; ordered = omega arith }

-- what is known before `mk`: both answers
pub record Answered (s t u : TableOf) (level : ℕ) (whole low high : Wanted) (l r : Ref) : Type 0 where
  pub halved : Halved s level whole low high
  pub first : Computes s t (low.top s) (low.function s)
  pub second : Computes t u (high.top t) (high.function t)
  pub at_low : Denotes t (low.top s) l (low.function s)
  pub at_high : Denotes u (high.top t) r (high.function t)

-- the choice between the answers is what is wanted
pub choice_is : {s t u : TableOf} {level : ℕ} {whole low high : Wanted} {l r : Ref} → Answered s t u level whole low high l r → (row : List Bool) → chosen level (den u.nodes l) (den u.nodes r) row ≡ whole.function s row
choice_is {s} {t} {u} {level} {whole} {low} {high} {l} {r} a row =
    cond_both (get_or row level false) _ _ _ _
    (a.at_high.den row ∙ a.halved.same_high t a.first.extends row)
    ((keeps t u a.first.table a.second.extends l a.at_low.live).den row ∙ a.at_low.den row)
    ∙ sym (a.halved.splits.choice row)

pub mk_computes : {s t u v : TableOf} {level : ℕ} {whole low high : Wanted} {l r : Ref} → Answered s t u level whole low high l r → Computes u v level (chosen level (den u.nodes l) (den u.nodes r)) → Computes s v (whole.top s) (whole.function s)
mk_computes {s} {t} {u} {v} {level} {whole} {low} {high} {l} {r} a c =
    computes_trans s u v (whole.top s) (whole.function s) (high_computes a.halved a.first a.second)
    (subst (λ (k : ℕ). Computes u v k (whole.function s)) a.halved.top
    (computes_same u v level _ (whole.function s) (choice_is a) c))

pub mk_denotes : {s t u v : TableOf} {level : ℕ} {whole low high : Wanted} {l r x : Ref} → Answered s t u level whole low high l r → Denotes v level x (chosen level (den u.nodes l) (den u.nodes r)) → Denotes v (whole.top s) x (whole.function s)
mk_denotes {s} {t} {u} {v} {level} {whole} {low} {high} {l} {r} {x} a d =
    let top : level ≡ whole.top s = a.halved.top in
    let at : level ≤ level_of v.levels v.nodes x = d.level in
    record { live = d.live; level = omega arith; den = λ row. d.den row ∙ choice_is a row }

pub mk_fault : {s t u v : TableOf} {level : ℕ} {whole low high : Wanted} {l r : Ref} {full : Full} → Answered s t u level whole low high l r → IsRefused v level (chosen level (den u.nodes l) (den u.nodes r)) full → IsFault v (whole.top s) (whole.function s) (fault_of full)
mk_fault {s} {t} {u} {v} {level} {whole} {low} {high} {l} {r} {full} a f = record {
  held = f.held;
  budget = f.budget;
  stands = f.stands;
  missing =
      subst (λ (k : ℕ). IsMissing v k (whole.function s)) a.halved.top
      (missing_same v level _ (whole.function s) (choice_is a) f.missing);
}

-- ---- the exits

-- a call was refused, and its refusal is handed on
pub err_exit : (res : Result Ref TableFault) (e : TableFault) (P : TableFault → Type 0) → res ≡ Err e → P e → IfErr res P
err_exit res e P is p = subst (λ (r : Result Ref TableFault). IfErr r P) (sym is) p
