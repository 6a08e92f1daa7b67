-- The text of a dotted name, from its first part on.
use Rattle.std.proofs.Common.{◌≡◌, ℕ, ◌++◌, ◌∷◌, [], List, reverse, sym, ap, ◌∙◌}
use Rattle.std.proofs.lemmas.List.{append-nil, reverse-append}
use Rattle.cov_modules.specs.Names.{Dotted, text, spelled}
use Rattle.cov_flat.specs.Entries.{dotted_rest}

-- the first part, then the others behind dots
pub spelled-cons : (names : List (List ℕ)) (i : ℕ) (is : Dotted) → spelled names (i ∷ is) ≡ text names i ++ dotted_rest names is
spelled-cons names i [] = sym (append-nil (text names i))
spelled-cons names i (j ∷ js) = ap (λ (t : List ℕ). text names i ++ (46 ∷ t)) (spelled-cons names j js)

-- the last of the parts that are put off is the first of the name
pub spelled-last : (names : List (List ℕ)) (is rest : Dotted) (i : ℕ) → is ≡ rest ++ i ∷ [] → text names i ++ dotted_rest names (reverse rest) ≡ spelled names (reverse is)
spelled-last names is rest i h =
    sym (spelled-cons names i (reverse rest)) ∙ ap (spelled names) (sym (reverse-append rest (i ∷ [])) ∙ ap reverse (sym h))
