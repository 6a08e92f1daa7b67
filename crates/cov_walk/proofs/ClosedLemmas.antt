-- A case is closed by its last guard.
use Rattle.std.proofs.Common.{◌≡◌, Bool, true, false, ◌||◌, List, [], ◌∷◌, ◌++◌, map, refl, ap, sym, ◌∙◌}
use Rattle.std.specs.List.{list_any}
use Rattle.std.proofs.lemmas.List.{map-append}
use Rattle.cov_syntax.specs.declared.tree.Expr.{Expr}
use Rattle.cov_syntax.specs.declared.tree.Branch.{Branch}
use Rattle.cov_model.specs.Trees as trees
use Rattle.cov_walk.specs.Closed.{are_opposite, has_opposite}

moved : (t a b c : Bool) → (t || ((a || b) || c)) ≡ (t || (b || (a || c)))
moved true a b c = refl
moved false true true c = refl
moved false true false c = refl
moved false false b c = refl

none_behind : (t a : Bool) → (t || a) ≡ (t || (a || false))
none_behind true a = refl
none_behind false true = refl
none_behind false false = refl

closed_by_last : (before gs : List Expr) (g : Expr) → trees.is_closed before (gs ++ g ∷ []) ≡ (trees.is_true g || (list_any (λ e. are_opposite e g) before || list_any (λ e. are_opposite e g) gs))
closed_by_last before [] g = none_behind (trees.is_true g) (list_any (λ e. are_opposite e g) before)
closed_by_last before (h ∷ []) g = closed_by_last (h ∷ before) [] g ∙ moved (trees.is_true g) (are_opposite h g) (list_any (λ e. are_opposite e g) before) false
closed_by_last before (h ∷ i ∷ gs) g = closed_by_last (h ∷ before) (i ∷ gs) g ∙ moved (trees.is_true g) (are_opposite h g) (list_any (λ e. are_opposite e g) before) (list_any (λ e. are_opposite e g) (i ∷ gs))

any_guard : (bs : List Branch) (g : Expr) → list_any (λ e. are_opposite e g) (map (λ (b : Branch). b.guard) bs) ≡ has_opposite g bs
any_guard [] g = refl
any_guard (b ∷ bs) g = ap (λ t. are_opposite b.guard g || t) (any_guard bs g)

-- the last guard is TRUE or 1, or opposite to one before
pub closed_branches : (bs : List Branch) (before : List Branch) (last : Branch) → bs ≡ before ++ last ∷ [] → (trees.is_true last.guard || has_opposite last.guard before) ≡ trees.is_closed [] (map (λ (b : Branch). b.guard) bs)
closed_branches bs before last e =
    sym (ap (λ (cs : List Branch). trees.is_closed [] (map (λ (b : Branch). b.guard) cs)) e
    ∙ ap (trees.is_closed []) (map-append (λ (b : Branch). b.guard) before (last ∷ []))
    ∙ closed_by_last [] (map (λ (b : Branch). b.guard) before) last.guard
    ∙ ap (λ t. trees.is_true last.guard || t) (any_guard before last.guard))
