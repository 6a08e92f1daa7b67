use Rattle.std.proofs.Common.{◌≡◌, ℕ, ◌<◌, ◌≤◌, List, ◌++◌, Bool, true, false, length, drop, set, sym, ◌∙◌, ap, arith, length-append, length-drop, inl, inr}
use Rattle.std.proofs.lemmas.Bool.{cases_lt}
use Rattle.std.proofs.lemmas.List.{length-set, set-append_left}
use Rattle.cov_dd.specs.declared.node.Ref.TheVariants.{Inner}
use Rattle.cov_dd.specs.Nodes.{TableOf, node_at, IsTable, Extends}
use Rattle.cov_dd.specs.Cofactors.{fixed, Adds, IsMissing}
use Rattle.cov_dd.proofs.Growth.{keeps}

-- the row of fixed bits and the rest of a row has as many bits
pub length-fixed : (first row : List Bool) (levels : ℕ) → length first ≤ levels → length row ≡ levels → length (first ++ drop (length first) row) ≡ levels
length-fixed first row levels le len = omega (arith, length-append first (drop (length first) row), length-drop (length first) row)

-- a fixed bit above the others
pub fixed_lift : (levels level : ℕ) (b : Bool) (function part : List Bool → Bool) → ((row : List Bool) → length row ≡ levels → part row ≡ function (set row level b)) → (first : List Bool) → level < length first → length first ≤ levels → (row : List Bool) → length row ≡ levels
    → fixed part first row ≡ fixed function (set first level b) row
fixed_lift levels level b function part is first lt le row len =
    is (first ++ drop (length first) row) (length-fixed first row levels le len)
    ∙ ap function (set-append_left first (drop (length first) row) level b lt ∙ ap (λ n. set first level b ++ drop n row) (sym (length-set first level b)))

pub adds_lift : (old new : TableOf) (level top : ℕ) (b : Bool) (function part : List Bool → Bool) → IsTable new.levels new.nodes → level < top → ((row : List Bool) → length row ≡ new.levels → part row ≡ function (set row level b)) → Adds old new top part → Adds old new level function
adds_lift old new level top b function part t lt is adds = record {
  each = λ i from to.
      let a = adds.each i from to in
      let placed : (node_at new.nodes i).level < new.levels = (t.placed i to).level in (
        omega (arith, a.0),
        record {
          first = set a.1.first level b;
          bits = length-set a.1.first level b ∙ a.1.bits;
          same = λ row len. a.1.same row len ∙ fixed_lift new.levels level b function part is a.1.first (omega (arith, a.0, a.1.bits)) (omega (arith, a.1.bits)) row len;
        },
      );
}

pub missing_lift : (t : TableOf) (level top : ℕ) (b : Bool) (function part : List Bool → Bool) → level < top → ((row : List Bool) → length row ≡ t.levels → part row ≡ function (set row level b)) → IsMissing t top part → IsMissing t level function
missing_lift t level top b function part lt is m =
    let above : top ≤ length m.first = m.above in
    let below : length m.first < t.levels = m.level in
    let len-first : length (set m.first level b) ≡ length m.first = length-set m.first level b in
    let lift : (row : List Bool) → length row ≡ t.levels → fixed part m.first row ≡ fixed function (set m.first level b) row = fixed_lift t.levels level b function part is m.first (omega arith) (omega arith) in
    record {
      first = set m.first level b;
      above = omega arith;
      level = omega arith;
      depends = λ same. m.depends (λ row len. lift (set row (length m.first) false) (length-set row (length m.first) false ∙ len) ∙ ap (λ n. fixed function (set m.first level b) (set row n false)) (sym len-first) ∙ same row len ∙ ap (λ n. fixed function (set m.first level b) (set row n true)) len-first ∙ sym (lift (set row (length m.first) true) (length-set row (length m.first) true ∙ len)));
      absent = λ i within at same. m.absent i within (at ∙ len-first) (λ row len. same row len ∙ sym (lift row len));
    }

-- pointwise equal functions have the same cofactors
pub adds_same : (old new : TableOf) (top : ℕ) (f g : List Bool → Bool) → ((row : List Bool) → f row ≡ g row) → Adds old new top f → Adds old new top g
adds_same old new top f g same adds = record {
  each = λ i from to.
      let a = adds.each i from to in
      (a.0, record { first = a.1.first; bits = a.1.bits; same = λ row len. a.1.same row len ∙ same (a.1.first ++ drop (length a.1.first) row) });
}

pub missing_same : (t : TableOf) (top : ℕ) (f g : List Bool → Bool) → ((row : List Bool) → f row ≡ g row) → IsMissing t top f → IsMissing t top g
missing_same t top f g same m = record {
  first = m.first;
  above = m.above;
  level = m.level;
  depends = λ h. m.depends (λ row len. same _ ∙ h row len ∙ sym (same _));
  absent = λ i within at h. m.absent i within at (λ row len. h row len ∙ sym (same _));
}

pub adds_trans : (s t u : TableOf) (top : ℕ) (function : List Bool → Bool) → IsTable t.levels t.nodes → Extends t u → Adds s t top function → Adds t u top function → Adds s u top function
adds_trans s t u top function table e p q = record {
  each = λ i from to.
      elim (cases_lt i (length t.nodes)) [
        | inl lt ↦
            let a = p.each i from lt in
            let k = keeps t u table e (Inner i) (omega arith) in
            let level : (node_at u.nodes i).level ≡ (node_at t.nodes i).level = k.level in (
              omega (arith, a.0),
              record { first = a.1.first; bits = a.1.bits ∙ sym level; same = λ row len. k.den row ∙ a.1.same row (len ∙ e.levels) },
            )
        | inr le ↦ q.each i le to
      ];
}
