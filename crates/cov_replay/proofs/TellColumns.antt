-- Columns of operators.
use Rattle.std.proofs.Common.{◌≡◌, ℕ, suc, ◌+◌, ◌-◌, ◌<◌, ◌≤◌, ◌↔◌, ◌⊎◌, inl, inr, Bool, true, false, ◌||◌, ◌&&◌, IsTrue, List, length, get_or, drop, sym, ap, ◌∙◌, subst, arith}
use Rattle.std.proofs.lemmas.Bool.{false≢true, or_cases, or_left, or_right, and_parts, and_from}
use Rattle.cov_logic.specs.Lasso.{Lasso}
use Rattle.cov_logic.specs.Suffix.{suffix}
use Rattle.cov_logic.proofs.Periods.{suffix_add}
use Rattle.cov_logic.proofs.Positions.{up_to}
use Rattle.cov_model.specs.States.{State}
use Rattle.cov_replay.specs.Columns.{IsColumn, IsNextAnswer}
use Rattle.cov_replay.specs.Told.{HasPlaces}
use Rattle.cov_replay.specs.Operators.{Walks, Joins}
use Rattle.cov_replay.specs.Walks.{walks}
use Rattle.cov_replay.specs.declared.operators.Walk.TheVariants as w
use Rattle.cov_replay.specs.declared.operators.Join.TheVariants as j
use Rattle.cov_replay.proofs.Walking.{Until, WeakUntil, until_column, weak_until_column}

-- of n places the new answers are those of the scan
abbrev pub IsScan : List Bool → List Bool → ℕ → Bool → List Bool → Type 0
IsScan ends stays turn start new =
    (p : ℕ) → p < length ends → get_or new p false ≡ walks (drop p ends) (drop p stays) (walks (drop turn ends) (drop turn stays) start)

module _ {S : Type 0} (l : Lasso S) (n turn : ℕ) (places : HasPlaces l n turn) where
  -- the same answers
  pub same_column : (P : Lasso S → Type 0) (xs ys : List Bool) → IsColumn P l n xs → ((p : ℕ) → p < n → get_or ys p false ≡ get_or xs p false)
      → IsColumn P l n ys
  same_column P xs ys h e = record { by = λ p c. subst (λ (b : Bool). IsTrue b ↔ P (suffix p l)) (sym (e p c)) (h.by p c) }

  pub never_column : (P : Lasso S → Type 0) (xs : List Bool) → ((k : Lasso S) → P k → ⊥) → ((p : ℕ) → p < n → get_or xs p false ≡ false) → IsColumn P l n xs
  never_column P xs none e = record { by = λ p c. (λ t. absurd (false≢true (sym (e p c) ∙ t)), λ h. absurd (none (suffix p l) h)) }

  pub both_column : (P Q : Lasso S → Type 0) (xs ys new : List Bool) → IsColumn P l n xs → IsColumn Q l n ys
      → ((p : ℕ) → p < n → get_or new p false ≡ (get_or xs p false && get_or ys p false)) → IsColumn (λ k. P k × Q k) l n new
  both_column P Q xs ys new h g e =
      record {
        by = λ p c. (
          λ t. let q = and_parts (get_or xs p false) (get_or ys p false) (sym (e p c) ∙ t) in ((h.by p c).0 q.0, (g.by p c).0 q.1),
          λ t. e p c ∙ and_from (get_or xs p false) (get_or ys p false) ((h.by p c).1 t.0) ((g.by p c).1 t.1),
        );
      }

  pub either_column : (P Q : Lasso S → Type 0) (xs ys new : List Bool) → IsColumn P l n xs → IsColumn Q l n ys
      → ((p : ℕ) → p < n → get_or new p false ≡ (get_or xs p false || get_or ys p false)) → IsColumn (λ k. P k ⊎ Q k) l n new
  either_column P Q xs ys new h g e =
      record {
        by = λ p c. (
          λ t. elim (or_cases (get_or xs p false) (get_or ys p false) (sym (e p c) ∙ t)) [ inl a ↦ inl ((h.by p c).0 a) | inr b ↦ inr ((g.by p c).0 b) ],
          λ t. elim t [
            | inl a ↦ e p c ∙ or_left (get_or xs p false) (get_or ys p false) ((h.by p c).1 a)
            | inr b ↦ e p c ∙ or_right (get_or xs p false) (get_or ys p false) ((g.by p c).1 b)
          ],
        );
      }

  until_scan : (E Y : Lasso S → Type 0) (ends stays new : List Bool) → length ends ≡ n → n ≤ length stays → IsColumn E l n ends → IsColumn Y l n stays
      → IsScan ends stays turn false new → IsColumn (Until E Y) l n new
  until_scan E Y ends stays new len room he hy scan =
      let whole = places.whole in
      let size : length ends ≡ length l.stem + suc (length l.rest) = omega arith in
      record {
        by = λ p c.
            let d : p < length ends = omega arith in
            subst (λ (b : Bool). IsTrue b ↔ Until E Y (suffix p l)) (sym (scan p d))
            (subst (λ t. IsTrue (walks (drop p ends) (drop p stays) (walks (drop t ends) (drop t stays) false)) ↔ Until E Y (suffix p l)) places.stem
            (until_column E Y l ends stays size (omega arith) (subst (λ i. IsColumn E l i ends) (sym len) he) (subst (λ i. IsColumn Y l i stays) (sym len) hy) p d));
      }

  weak_scan : (E Y : Lasso S → Type 0) (ends stays new : List Bool) → length ends ≡ n → n ≤ length stays → IsColumn E l n ends → IsColumn Y l n stays
      → IsScan ends stays turn true new → IsColumn (WeakUntil E Y) l n new
  weak_scan E Y ends stays new len room he hy scan =
      let whole = places.whole in
      let size : length ends ≡ length l.stem + suc (length l.rest) = omega arith in
      record {
        by = λ p c.
            let d : p < length ends = omega arith in
            subst (λ (b : Bool). IsTrue b ↔ WeakUntil E Y (suffix p l)) (sym (scan p d))
            (subst (λ t. IsTrue (walks (drop p ends) (drop p stays) (walks (drop t ends) (drop t stays) true)) ↔ WeakUntil E Y (suffix p l)) places.stem
            (weak_until_column E Y l ends stays size (omega arith) (subst (λ i. IsColumn E l i ends) (sym len) he) (subst (λ i. IsColumn Y l i stays) (sym len) hy) p d));
      }

  -- another word for the same property
  reword : (P Q : Lasso S → Type 0) (xs : List Bool) → ((k : Lasso S) → P k → Q k) → ((k : Lasso S) → Q k → P k) → IsColumn P l n xs → IsColumn Q l n xs
  reword P Q xs there back h = record { by = λ p c. (λ t. there (suffix p l) ((h.by p c).0 t), λ q. (h.by p c).1 (back (suffix p l) q)) }

  everywhere : (xs : List Bool) → ((p : ℕ) → p < n → get_or xs p false ≡ true) → IsColumn (λ k. Unit {0}) l n xs
  everywhere xs e = record { by = λ p c. (λ t. tt, λ u. e p c) }

  pub sometime_column : (P : Lasso S → Type 0) (other ends stays new : List Bool) → IsColumn P l n other → length ends ≡ n → n ≤ length stays
      → ((p : ℕ) → p < n → get_or ends p false ≡ get_or other p false) → ((p : ℕ) → p < n → get_or stays p false ≡ true)
      → IsScan ends stays turn false new → IsColumn (Walks w.Sometime P) l n new
  sometime_column P other ends stays new h len room same all scan =
      reword (Until P (λ k. Unit {0})) (Walks w.Sometime P) new (λ k u. (u.0, u.1)) (λ k s. (s.0, s.1, λ i c. tt))
      (until_scan P (λ k. Unit {0}) ends stays new len room (same_column P other ends h same) (everywhere stays all) scan)

  pub always_column : (P : Lasso S → Type 0) (other ends new : List Bool) → IsColumn P l n other → length ends ≡ n → n ≤ length other
      → ((p : ℕ) → p < n → get_or ends p false ≡ false) → IsScan ends other turn true new → IsColumn (Walks w.Always P) l n new
  always_column P other ends new h len room none scan =
      reword (WeakUntil (λ k. ⊥) P) (Walks w.Always P) new (λ k u. elim u [ inl a ↦ absurd a.1 | inr b ↦ b ]) (λ k s. inr s)
      (weak_scan (λ k. ⊥) P ends other new len room (never_column (λ k. ⊥) ends (λ k e. e) none) h scan)

  pub until_join : (P Q : Lasso S → Type 0) (ends stays scanned new : List Bool) → IsColumn P l n stays → IsColumn Q l n ends → length ends ≡ n → n ≤ length stays
      → IsScan ends stays turn false scanned → ((p : ℕ) → p < n → get_or new p false ≡ get_or scanned p false) → IsColumn (Joins j.Until P Q) l n new
  until_join P Q ends stays scanned new hp hq len room scan same =
      same_column (Until Q P) scanned new (until_scan Q P ends stays scanned len room hq hp scan) same

  pub release_join : (P Q : Lasso S → Type 0) (xs ends other new : List Bool) → IsColumn P l n xs → IsColumn Q l n other → length ends ≡ n → n ≤ length other
      → ((p : ℕ) → p < n → get_or ends p false ≡ (get_or xs p false && get_or other p false)) → IsScan ends other turn true new → IsColumn (Joins j.Release P Q) l n new
  release_join P Q xs ends other new hp hq len room both scan =
      reword (WeakUntil (λ k. P k × Q k) Q) (Joins j.Release P Q) new
      (λ k u. elim u [
        | inl a ↦ inr (a.0, a.1.0, up_to (λ i. Q (suffix i k)) a.0 a.2 a.1.1)
        | inr b ↦ inl b
      ])
      (λ k r. elim r [
        | inl a ↦ inr a
        | inr b ↦ inl (b.0, (b.1, b.2 b.0 (omega arith)), λ i c. b.2 i (omega arith))
      ])
      (weak_scan (λ k. P k × Q k) Q ends other new len room (both_column P Q xs other ends hp hq both) hq scan)

-- the answers of the next places
pub next_column : (l : Lasso State) (n turn : ℕ) (places : HasPlaces l n turn) (P : Lasso State → Type 0) (xs other : List Bool) → IsColumn P l n other
    → ((p : ℕ) → p < n → IsNextAnswer n turn xs other p) → IsColumn (Walks w.Next P) l n xs
next_column l n turn places P xs other h e =
    let whole = places.whole in
    let stem = places.stem in
    record {
      by = λ p c.
          let a = e p c in
          let one : p + 1 ≡ suc p = omega arith in
          let rest : suc (length l.rest) ≡ n - turn = omega arith in
          let is : suffix 1 (suffix p l) ≡ suffix a.place l = sym (suffix_add p 1 l) ∙ ap (λ i. suffix i l) one ∙ a.follows l stem rest in
          subst (λ (k : Lasso State). IsTrue (get_or xs p false) ↔ P k) (sym is)
          (subst (λ (b : Bool). IsTrue b ↔ P (suffix a.place l)) (sym a.same) (h.by a.place a.there));
    }
