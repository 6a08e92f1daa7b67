-- Where truth sets can be computed, truth is decided, and where a formula of every lasso is false, some lasso says why.
use Rattle.std.proofs.Common.{Bool, not, ◌&&◌, IsTrue, ◌⊎◌, inl, inr, refl}
use Rattle.cov_logic.specs.Structure.{Structure}
use Rattle.cov_logic.specs.Paths.{SomeLasso, EveryLasso, Next, Eventually, Always, Until}
use Rattle.cov_logic.specs.Formula.{Formula, AX, AF, AG, AU}
use Rattle.cov_logic.specs.Truth.{Sat}
use Rattle.cov_logic.specs.Sets.{Set, Pairs}
use Rattle.cov_logic.specs.TruthSet.{Operations, AreExact, everything, complement, intersection, truth_set}
use Rattle.cov_logic.proofs.Tests.{not_is, and_is}
use Rattle.cov_logic.proofs.RightSets.{IsRight, decided, right_not, right_and, right_ex, right_ef, right_eg, right_eu, right_ax, right_af, right_ag, right_au}
use Rattle.cov_logic.proofs.TruthSets.{all, right}

module _ {S A : Type 0} (m : Structure S) (ops : Operations (Unit {0}) S) (exact : AreExact m ops) (label : S → A → Bool) where
  stepping : (s t : S) → IsTrue (m.step s t) → IsTrue (all s)
  stepping s t h = refl

  -- the truth set of a formula
  abbrev set : Formula A → Pairs (Unit {0}) S
  set f = truth_set ops (λ _. label) f

  truth_of : (f : Formula A) → IsRight all (set f tt) (Sat m label f)
  truth_of f = right m ops exact (λ _. label) tt f

  outside : (a : Set S) (P : S → Type 0) → IsRight all a P → IsRight all (λ v. not (a v)) (λ v. P v → ⊥)
  outside a P h = right_not all a (λ v. not (a v)) P h (λ v ok. not_is (a v))

  falsity_of : (f : Formula A) → IsRight all (complement (set f) tt) (λ v. Sat m label f v → ⊥)
  falsity_of f = outside (set f tt) (Sat m label f) (truth_of f)

  -- a formula is true or not
  pub choose : (f : Formula A) (s : S) → Sat m label f s ⊎ (Sat m label f s → ⊥)
  choose f s = decided all (set f tt) (Sat m label f) (truth_of f) s refl

  -- where the sets without P have Q, and Q is false, P is true
  not_every : (x : Set S) (P Q : S → Type 0) → IsRight all x P → ((r : Set S) → IsRight all r (λ v. P v → ⊥) → IsRight all r Q) →
      (s : S) → (Q s → ⊥) → P s
  not_every x P Q h k s n =
      elim (decided all x P h s refl) [
        | inl p ↦ p
        | inr no_p ↦ absurd (n (((k (λ v. not (x v)) (outside x P h)).at_valid s refl).0 (((outside x P h).at_valid s refl).1 no_p)))
      ]

  pub not_ax : (f : Formula A) (s : S) → ¬ Sat m label (AX f) s → SomeLasso m s (Next (λ t. Sat m label f t → ⊥))
  not_ax f =
      not_every (ops.ex (complement (set f)) tt) (λ v. SomeLasso m v (Next (λ t. Sat m label f t → ⊥))) (λ v. EveryLasso m v (Next (Sat m label f)))
      (right_ex m all stepping (complement (set f) tt) (ops.ex (complement (set f)) tt) (λ t. Sat m label f t → ⊥) (falsity_of f) (λ v ok. exact.ex (complement (set f)) tt v))
      (λ r h. right_ax m all stepping (set f tt) r (Sat m label f) (truth_of f) h)

  pub not_af : (f : Formula A) (s : S) → ¬ Sat m label (AF f) s → SomeLasso m s (Always (λ t. Sat m label f t → ⊥))
  not_af f =
      not_every (ops.eg (complement (set f)) tt) (λ v. SomeLasso m v (Always (λ t. Sat m label f t → ⊥))) (λ v. EveryLasso m v (Eventually (Sat m label f)))
      (right_eg m all stepping (complement (set f) tt) (ops.eg (complement (set f)) tt) (λ t. Sat m label f t → ⊥) (falsity_of f) (λ v ok. exact.eg (complement (set f)) tt v))
      (λ r h. right_af m all stepping (set f tt) r (Sat m label f) (truth_of f) h)

  pub not_ag : (f : Formula A) (s : S) → ¬ Sat m label (AG f) s → SomeLasso m s (Eventually (λ t. Sat m label f t → ⊥))
  not_ag f =
      not_every (ops.eu everything (complement (set f)) tt) (λ v. SomeLasso m v (Eventually (λ t. Sat m label f t → ⊥))) (λ v. EveryLasso m v (Always (Sat m label f)))
      (right_ef m all stepping (ops.eu everything (complement (set f)) tt) (λ t. Sat m label f t → ⊥)
      (right_eu m all stepping all (complement (set f) tt) (ops.eu everything (complement (set f)) tt) (λ _. Unit {0}) (λ t. Sat m label f t → ⊥)
      (record { at_valid = λ v ok. (λ e. tt, λ p. refl) }) (falsity_of f) (λ v ok. exact.eu everything (complement (set f)) tt v)))
      (λ r h. right_ag m all stepping (set f tt) r (Sat m label f) (truth_of f) h)

  abbrev pub Neither : Formula A → Formula A → S → Type 0
  Neither f g t = (Sat m label g t → ⊥) × (Sat m label f t → ⊥)

  pub not_au : (f g : Formula A) (s : S) → ¬ Sat m label (AU f g) s →
      SomeLasso m s (Always (λ t. Sat m label g t → ⊥)) ⊎ SomeLasso m s (Until (λ t. Sat m label g t → ⊥) (Neither f g))
  not_au f g s n =
      let no_f = complement (set f) in
      let no_g = complement (set g) in
      let neither = intersection no_g no_f in
      let Never : S → Type 0 = λ v. SomeLasso m v (Always (λ t. Sat m label g t → ⊥)) in
      let Stuck : S → Type 0 = λ v. SomeLasso m v (Until (λ t. Sat m label g t → ⊥) (Neither f g)) in
      let never = right_eg m all stepping (no_g tt) (ops.eg no_g tt) (λ t. Sat m label g t → ⊥) (falsity_of g) (λ v ok. exact.eg no_g tt v) in
      let both = right_and all (no_g tt) (no_f tt) (neither tt) (λ t. Sat m label g t → ⊥) (λ t. Sat m label f t → ⊥) (falsity_of g) (falsity_of f)
      (λ v ok. and_is (no_g tt v) (no_f tt v)) in
      let stuck = right_eu m all stepping (no_g tt) (neither tt) (ops.eu no_g neither tt) (λ t. Sat m label g t → ⊥) (Neither f g) (falsity_of g) both
      (λ v ok. exact.eu no_g neither tt v) in
      let never_or_stuck : Never s ⊎ Stuck s = elim (decided all (ops.eg no_g tt) Never never s refl) [
        | inl x ↦ inl x
        | inr no_x ↦ elim (decided all (ops.eu no_g neither tt) Stuck stuck s refl) [
          | inl y ↦ inr y
          | inr no_y ↦
              let r : Set S = λ v. not (ops.eg no_g tt v) && not (ops.eu no_g neither tt v) in
              let out = right_and all (λ v. not (ops.eg no_g tt v)) (λ v. not (ops.eu no_g neither tt v)) r (λ v. Never v → ⊥) (λ v. Stuck v → ⊥)
              (outside (ops.eg no_g tt) Never never) (outside (ops.eu no_g neither tt) Stuck stuck)
              (λ v ok. and_is (not (ops.eg no_g tt v)) (not (ops.eu no_g neither tt v))) in
              absurd (n (((right_au m all stepping (set f tt) (set g tt) r (Sat m label f) (Sat m label g) (truth_of f) (truth_of g) out).at_valid s refl).0
              ((out.at_valid s refl).1 (no_x, no_y))))
        ]
      ] in
      never_or_stuck
