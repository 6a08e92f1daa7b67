-- Lemmas on texts that are appended one behind the other.
use Rattle.std.proofs.Common.{◌≡◌, ℕ, ◌+◌, ◌<◌, List, ◌∷◌, ◌++◌, length, map, drop, get_or, codes, sym, ap, subst, ◌∙◌, append_assoc}
use Rattle.std.proofs.lemmas.List.{drop_more}
use Rattle.cov_syntax.specs.declared.tree.Expr.{Expr}
use Rattle.cov_syntax.specs.Tokens.{Text}
use Rattle.cov_show.specs.Printing.{Labels, printed, placed, elements_text}

-- one more element of a set
pub elements_text-next : (labels : Labels) (es : List Expr) (i : ℕ) (e : Expr) (into mark marked shown whole : Text) → i < length es → e ≡ get_or es i e
    → marked ≡ into ++ mark → shown ≡ marked ++ placed 1 (printed labels e)
    → into ++ elements_text mark (map (printed labels) (drop i es)) ≡ whole
    → shown ++ elements_text (codes ", ") (map (printed labels) (drop (i + 1) es)) ≡ whole
elements_text-next labels es i e into mark marked shown whole lt is is_marked is_shown so_far =
    let left : drop i es ≡ e ∷ drop (i + 1) es = drop_more es i e lt ∙ ap (λ (x : Expr). x ∷ drop (i + 1) es) (sym is) in
    let before : into ++ elements_text mark (map (printed labels) (e ∷ drop (i + 1) es)) ≡ whole =
    subst (λ (xs : List Expr). into ++ elements_text mark (map (printed labels) xs) ≡ whole) left so_far in
    let rest : Text = elements_text (codes ", ") (map (printed labels) (drop (i + 1) es)) in
    ap (λ (z : Text). z ++ rest) (is_shown ∙ ap (λ (z : Text). z ++ placed 1 (printed labels e)) is_marked)
    ∙ regrouped into mark (placed 1 (printed labels e)) rest
    ∙ before
  where
    regrouped : (a b c d : Text) → ((a ++ b) ++ c) ++ d ≡ a ++ ((b ++ c) ++ d)
    regrouped a b c d = simp append_assoc
