-- Whether the own kind of a set or a case is Boolean.
use Rattle.std.proofs.Common.{◌≡◌, Bool, true, false, ◌||◌, if◌then◌else◌, List, [], ◌∷◌, map, length, refl, ap, sym, ◌∙◌, arith}
use Rattle.std.specs.List.{list_any}
use Rattle.cov_syntax.specs.declared.tree.Span.{Span}
use Rattle.cov_syntax.specs.declared.tree.Expr.{Expr}
use Rattle.cov_syntax.specs.declared.tree.Branch.{Branch}
use Rattle.cov_syntax.specs.declared.tree.Node.{Node, roll-Node}
use Rattle.cov_syntax.specs.declared.tree.Node.TheOpen.{Node-F}
use Rattle.cov_model.specs.Kinds.{Kind, Kinds, boolean, is_boolean, join_all, joined_kind}
use Rattle.cov_model.specs.Walk.{Judged, judged, own, bodies, case_own}
use Rattle.cov_model.proofs.Joined.{joined_boolean}
use Rattle.cov_walk.specs.Parts.{judged_node, judged_branch, some_boolean, some_body_boolean}
use Rattle.cov_walk.proofs.Nodes.{node_at}

-- some kind is Boolean exactly where the joined one is
pub joined_is : (k : Kind) (ks : List Kind) → list_any is_boolean (k ∷ ks) ≡ is_boolean (joined_kind (k ∷ ks))
joined_is k ks = by (list_any is_boolean (k ∷ ks)) (is_boolean (joined_kind (k ∷ ks))) refl refl
  where
    by : (b c : Bool) → list_any is_boolean (k ∷ ks) ≡ b → is_boolean (joined_kind (k ∷ ks)) ≡ c → b ≡ c
    by true true e f = refl
    by false false e f = refl
    by true false e f = sym (ap (λ (t : Bool). is_boolean (if t then boolean else join_all k ks)) e) ∙ f
    by false true e f = sym e ∙ joined_boolean k ks f

any_owns : (ks : Kinds) (es : List Expr) → list_any is_boolean (map (λ (j : Judged). j.own) (map (judged ks) es)) ≡ some_boolean ks es
any_owns ks [] = refl
any_owns ks (e ∷ es) = ap (λ t. is_boolean (own ks e) || t) (any_owns ks es)

any_bodies : (ks : Kinds) (bs : List Branch) → list_any is_boolean (map (λ (j : Judged). j.own) (bodies (map (judged_branch ks) bs))) ≡ some_body_boolean ks bs
any_bodies ks [] = refl
any_bodies ks (b ∷ bs) = ap (λ t. is_boolean (judged_branch ks b).1.own || t) (any_bodies ks bs)

-- a set with members
pub members_boolean : (ks : Kinds) (es : List Expr) → ¬ (length es ≡ 0) → some_boolean ks es ≡ is_boolean (joined_kind (map (λ (j : Judged). j.own) (map (judged ks) es)))
members_boolean ks [] h = absurd (h refl)
members_boolean ks (e ∷ es) h = sym (any_owns ks (e ∷ es)) ∙ joined_is (own ks e) (map (λ (j : Judged). j.own) (map (judged ks) es))

-- a case with branches
pub bodies_boolean : (ks : Kinds) (bs : List Branch) → ¬ (length bs ≡ 0) → some_body_boolean ks bs ≡ is_boolean (case_own (map (judged_branch ks) bs))
bodies_boolean ks [] h = absurd (h refl)
bodies_boolean ks (b ∷ bs) h = sym (any_bodies ks (b ∷ bs)) ∙ joined_is (judged_branch ks b).1.own (map (λ (j : Judged). j.own) (bodies (map (judged_branch ks) bs)))

-- a case with none
pub no_bodies : (ks : Kinds) (bs : List Branch) → length bs ≡ 0 → true ≡ is_boolean (case_own (map (judged_branch ks) bs))
no_bodies ks [] h = refl
no_bodies ks (b ∷ bs) h = absurd (omega (arith, h))

pub at_set : (ks : Kinds) (m : Node) (es : List Expr) (place : Span) → m ≡ roll-Node (Node-F.Set es) → is_boolean (joined_kind (map (λ (j : Judged). j.own) (map (judged ks) es))) ≡ is_boolean (judged_node ks m place).own
at_set ks m es place h = sym (ap (λ (j : Judged). is_boolean j.own) (node_at ks m (Node-F.Set es) place h))

pub at_case : (ks : Kinds) (m : Node) (bs : List Branch) (place : Span) → m ≡ roll-Node (Node-F.Case bs) → is_boolean (case_own (map (judged_branch ks) bs)) ≡ is_boolean (judged_node ks m place).own
at_case ks m bs place h = sym (ap (λ (j : Judged). is_boolean j.own) (node_at ks m (Node-F.Case bs) place h))
