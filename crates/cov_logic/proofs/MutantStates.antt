-- A lasso that refutes in a mutant a formula that passes goes through the mutant's state.
use Rattle.std.proofs.Common.{◌≡◌, ℕ, zero, suc, IsTrue, inl, inr, ◌∷◌, ◌++◌, [], sym, subst}
use Rattle.std.proofs.lemmas.Bool.{cond-false}
use Rattle.cov_logic.specs.Structure.{Structure}
use Rattle.cov_logic.specs.Lasso.{Lasso}
use Rattle.cov_logic.specs.Suffix.{suffix, at}
use Rattle.cov_logic.specs.FairLasso.{IsFair}
use Rattle.cov_logic.specs.Reachable.{Reachable}
use Rattle.cov_logic.specs.Mutant.{mutant}
use Rattle.cov_logic.specs.EvidenceLaws.{GoesThrough}
use Rattle.cov_logic.proofs.Suffixes.{suffix_fair, at_step}
use Rattle.cov_logic.proofs.Joins.{first_of-append, Leads-append}
use Rattle.cov_logic.proofs.Positions.{sooner_or_never}
use Rattle.cov_logic.proofs.Refutations.{refuted_law}
use Rattle.cov_logic.proofs.Labels.{same_refuted}

module _ {S : Type 0} (m : Structure S) where
  -- an initial state is reachable
  pub reachable_start : (s : S) → IsTrue (m.initial s) → Reachable m s
  reachable_start s init = ([], init, tt)

  -- and so is the state after a reachable one
  pub reachable_step : (s t : S) → Reachable m s → IsTrue (m.step s t) → Reachable m t
  reachable_step s t (path, init, leads) step = (
    path ++ (s ∷ []),
    subst (λ u. IsTrue (m.initial u)) (sym (first_of-append path (s ∷ []) t)) init,
    Leads-append m path (s ∷ []) t leads (step, tt),
  )

  -- each state of a lasso from a reachable state is reachable
  pub reachable_at : (i : ℕ) (l : Lasso S) → IsFair m l → Reachable m (at l 0) → Reachable m (at l i)
  reachable_at zero l fair r = r
  reachable_at (suc i) l fair r =
      reachable_at i (suffix 1 l) (suffix_fair m 1 l fair) (reachable_step (at l 0) (at l 1) r (at_step m 0 l fair))

pub through_law : (S A : Type 0) → GoesThrough S A
through_law S A m same plain inverted f s w l equal init fair r p =
    elim (sooner_or_never (λ t. same w t) l) [
      | inl e ↦
          let here : at l e.0 ≡ w = sym (equal w (at l e.0) e.1) in (
            (e.0, here),
            subst (Reachable m) here (reachable_at m e.0 l fair.fair (subst (Reachable m) (sym fair.starts) (reachable_start m s init))),
          )
      | inr never ↦
          absurd (refuted_law S A m plain f s l init fair
          (same_refuted (mutant same plain inverted w) plain f l l (record { by = λ i a. cond-false (same w (at l i)) _ _ (never i) }) r) p)
    ]
