-- Mutants of a labelling (Chockler, Kupferman and Vardi 2001).
use Rattle.std.specs.Prelude.{Bool, if◌then◌else◌}

-- the labelling of the mutant at w: the inverted one at w alone, and the plain one at every other state
abbrev pub mutant : {S A : Type 0} → (S → S → Bool) → (S → A → Bool) → (S → A → Bool) → S → S → A → Bool
mutant same plain inverted w s a = if same w s then inverted s a else plain s a
