-- The operators of the logic along one lasso.
use Rattle.std.specs.Prelude.{ℕ, ◌<◌, ◌≤◌, Bool, true, false, not, ◌⊎◌}
use Rattle.cov_logic.specs.Lasso.{Lasso}
use Rattle.cov_logic.specs.Suffix.{suffix}
use Rattle.cov_logic.specs.Formula.{Formula, And, Or, Implies, EX, EF, EG, EU, AX, AF, AG, AU}
use Rattle.cov_replay.specs.declared.operators.Walk.{Walk}
use Rattle.cov_replay.specs.declared.operators.Walk.TheVariants as w
use Rattle.cov_replay.specs.declared.operators.Join.{Join}
use Rattle.cov_replay.specs.declared.operators.Join.TheVariants as j

-- what a lasso has, where P is what is asked of its suffixes
abbrev pub Walks : {S : Type 0} → Walk → (Lasso S → Type 0) → Lasso S → Type 0
Walks w.Next P l = P (suffix 1 l)
Walks w.Sometime P l = (i : ℕ) × P (suffix i l)
Walks w.Always P l = (i : ℕ) → P (suffix i l)
Walks w.Never P l = ⊥

-- what a lasso has, where P and Q are what is asked of its suffixes
abbrev pub Joins : {S : Type 0} → Join → (Lasso S → Type 0) → (Lasso S → Type 0) → Lasso S → Type 0
Joins j.Both P Q l = P l × Q l
Joins j.Either P Q l = P l ⊎ Q l
Joins j.Until P Q l = (j : ℕ) × Q (suffix j l) × ((i : ℕ) → i < j → P (suffix i l))
Joins j.Release P Q l =
    ((i : ℕ) → Q (suffix i l)) ⊎
    ((j : ℕ) × P (suffix j l) × ((i : ℕ) → i ≤ j → Q (suffix i l)))
Joins j.Never P Q l = ⊥

-- how a formula is shown, or else refuted, by what is so told of its operand
abbrev pub walk_of : {A : Type 0} → Formula A → Bool → Walk
walk_of (EX f) true = w.Next
walk_of (EF f) true = w.Sometime
walk_of (EG f) true = w.Always
walk_of (AX f) false = w.Next
walk_of (AF f) false = w.Always
walk_of (AG f) false = w.Sometime
walk_of _ _ = w.Never

-- how a formula is shown, or else refuted, by what is told of its operands
abbrev pub join_of : {A : Type 0} → Formula A → Bool → Join
join_of (And f g) true = j.Both
join_of (And f g) false = j.Either
join_of (Or f g) true = j.Either
join_of (Or f g) false = j.Both
join_of (Implies f g) true = j.Either
join_of (Implies f g) false = j.Both
join_of (EU f g) true = j.Until
join_of (AU f g) false = j.Release
join_of _ _ = j.Never

-- whether the first operand is to be shown: where the second is, but for an implication, whose premise is turned
abbrev pub first_shown : {A : Type 0} → Formula A → Bool → Bool
first_shown (Implies f g) shown = not shown
first_shown _ shown = shown
