-- A model put together from its lists.
use Rattle.std.proofs.Common.{◌≡◌, List, ap, ◌∙◌}
use Rattle.cov_syntax.specs.declared.tree.Expr.{Expr}
use Rattle.cov_model.specs.declared.model.Define.{Define}
use Rattle.cov_model.specs.declared.model.Assign.{Assign}
use Rattle.cov_model.specs.declared.model.Model.{Model}

-- the model with other lists
abbrev pub given_lists : Model → List Define → List Expr → List Expr → List Assign → List Assign → List Assign → List Expr → List Expr → List Expr → Model
given_lists m d i v n f x t g s = record m { defines = d; inits = i; invars = v; nows = n; firsts = f; nexts = x; trans = t; fair = g; specs = s }

-- equal lists make equal models
pub gathered : (m : Model) (d d' : List Define) (i i' v v' : List Expr) (n n' f f' x x' : List Assign) (t t' g g' s s' : List Expr)
    → d ≡ d' → i ≡ i' → v ≡ v' → n ≡ n' → f ≡ f' → x ≡ x' → t ≡ t' → g ≡ g' → s ≡ s'
    → given_lists m d i v n f x t g s ≡ given_lists m d' i' v' n' f' x' t' g' s'
gathered m d d' i i' v v' n n' f f' x x' t t' g g' s s' ed ei ev en ef ex et eg es =
    ap (λ (z : List Define). given_lists m z i v n f x t g s) ed
    ∙ ap (λ (z : List Expr). given_lists m d' z v n f x t g s) ei
    ∙ ap (λ (z : List Expr). given_lists m d' i' z n f x t g s) ev
    ∙ ap (λ (z : List Assign). given_lists m d' i' v' z f x t g s) en
    ∙ ap (λ (z : List Assign). given_lists m d' i' v' n' z x t g s) ef
    ∙ ap (λ (z : List Assign). given_lists m d' i' v' n' f' z t g s) ex
    ∙ ap (λ (z : List Expr). given_lists m d' i' v' n' f' x' z g s) et
    ∙ ap (λ (z : List Expr). given_lists m d' i' v' n' f' x' t' z s) eg
    ∙ ap (λ (z : List Expr). given_lists m d' i' v' n' f' x' t' g' z) es
