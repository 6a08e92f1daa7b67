-- What the walk finds at a node, given what it finds at the parts.
use Rattle.std.proofs.Common.{◌≡◌, ℕ, suc, ◌+◌, ◌<◌, Bool, not, ◌||◌, if◌then◌else◌, List, [], ◌∷◌, ◌++◌, map, take, drop, length, get_or, Option, Some, None, Result, Err, refl, ap, sym, subst, ◌∙◌, arith}
use Rattle.std.proofs.lemmas.List.{map-append, take_more}
use Rattle.std.proofs.Math.Seq.{drop-cons}
use Rattle.cov_syntax.specs.declared.tree.Span.{Span}
use Rattle.cov_syntax.specs.declared.fault.ModelFault.{ModelFault}
use Rattle.cov_syntax.specs.declared.fault.Refused.{Refused}
use Rattle.cov_syntax.specs.declared.tree.Op2.{Op2}
use Rattle.cov_syntax.specs.declared.tree.Op2.TheVariants as op2
use Rattle.cov_syntax.specs.declared.tree.Expr.{Expr}
use Rattle.cov_syntax.specs.declared.tree.Branch.{Branch}
use Rattle.cov_syntax.specs.declared.tree.Node.{Node, roll-Node}
use Rattle.cov_syntax.specs.declared.tree.Node.TheFolds.{fold-roll-Node, fold-roll-Branch, fold-roll-Expr}
use Rattle.cov_model.specs.Kinds.{Kinds, is_boolean}
use Rattle.cov_model.specs.Trees.{is_closed}
use Rattle.cov_model.specs.Walk as walk
use Rattle.cov_model.specs.Walk.{Judged, May, first, of_node, judged, judged_two, tests_of_set, tests_of_case, part_may, plain_may, may_of_left, may_of_right, guards, in_order, case_own, kind_fault, fault_if, case_not_closed}
use Rattle.cov_model.proofs.Closed.{judged_layer}
use Rattle.cov_model.proofs.Law.{law}
use Rattle.cov_model.proofs.Tied.{Layer}
use Rattle.cov_walk.specs.declared.found.Found.{Found}
use Rattle.cov_walk.specs.declared.arms.Arms.{Arms}
use Rattle.cov_walk.specs.Found.{TellsFault, Answers}
use Rattle.cov_walk.specs.Gathered.{AnswersArms, members_fault, arms_fault}
use Rattle.cov_walk.specs.Parts.{judged_node, judged_branch}
use Rattle.cov_walk.proofs.Firsts.{first_past, first_front, first_one, tells_first, tells_next}

-- ---- by the top node

pub node_at : (ks : Kinds) (m : Node) (l : Layer) (place : Span) → m ≡ roll-Node l → judged_node ks m place ≡ of_node ks (judged_layer ks l) place
node_at ks m l place h =
    ap (λ (k : Node). judged_node ks k place) h
    ∙ ap (λ (f : Span → Judged). f place) (fold-roll-Node (Span → Judged) (Judged × Judged) Judged (of_node ks) (λ b. (b.guard, b.body)) (λ e. e.node e.place) l)

pub answers_at : (ks : Kinds) (m : Node) (l : Layer) (place : Span) (may : May) (r : Result Found Refused) → m ≡ roll-Node l → Answers (of_node ks (judged_layer ks l) place) may r → Answers (judged_node ks m place) may r
answers_at ks m l place may r h a = let P : Judged → Type 0 = λ j. Answers j may r in subst P (sym (node_at ks m l place h)) a

pub judged_at : (ks : Kinds) (b : Branch) → judged_branch ks b ≡ (judged ks b.guard, judged ks b.body)
judged_at ks b = fold-roll-Branch (Span → Judged) (Judged × Judged) Judged (of_node ks) (λ c. (c.guard, c.body)) (λ e. e.node e.place) (record { guard = b.guard; body = b.body })

pub expr_at : (ks : Kinds) (e : Expr) → judged ks e ≡ judged_node ks e.node e.place
expr_at ks e = fold-roll-Expr (Span → Judged) (Judged × Judged) Judged (of_node ks) (λ c. (c.guard, c.body)) (λ x. x.node x.place) (record { node = e.node; place = e.place })

pub tree_of : (ks : Kinds) (e : Expr) → (judged ks e).tree ≡ e
tree_of ks e = (law e ks).tree

pub guard_trees : (ks : Kinds) (bs : List Branch) → map (λ (j : Judged). j.tree) (guards (map (judged_branch ks) bs)) ≡ map (λ (b : Branch). b.guard) bs
guard_trees ks [] = refl
guard_trees ks (b ∷ bs) =
    ap (λ (p : Judged × Judged). p.0.tree ∷ map (λ (j : Judged). j.tree) (guards (map (judged_branch ks) bs))) (judged_at ks b)
    ∙ ap (λ (e : Expr). e ∷ map (λ (j : Judged). j.tree) (guards (map (judged_branch ks) bs))) (tree_of ks b.guard)
    ∙ ap (λ (es : List Expr). b.guard ∷ es) (guard_trees ks bs)

-- ---- what is told at a part

pub right_told : (place : Span) (op : Op2) (i j : Judged) (may : May) (z : Refused) → i.fault (may_of_left op may) ≡ None → TellsFault (j.fault (may_of_right op may)) z → TellsFault ((judged_two place op i j).fault may) z
right_told place op2.Union i j may z n h = tells_next (i.fault (part_may may)) _ z n (tells_first (j.fault (part_may may)) _ z h)
right_told place op i j may z n h = tells_next (i.fault (may_of_left op may)) _ z n (tells_first (j.fault (may_of_right op may)) _ z h)

front_told : (xs ys : List (Option ModelFault)) (z : Refused) → TellsFault (first xs) z → TellsFault (first (xs ++ ys)) z
front_told xs ys z h = subst (λ (o : Option ModelFault). TellsFault o z) (sym (first_front xs ys)) (tells_first (first xs) ys z h)

pub member_told : (place : Span) (js : List Judged) (may : May) (w : List (Option ModelFault)) (z : Refused) → TellsFault (members_fault (part_may may) js) z → TellsFault (first (tests_of_set place js may ++ w)) z
member_told place js may w z h = front_told (tests_of_set place js may) w z (front_told (map (λ (j : Judged). j.fault (part_may may)) js) _ z h)

pub arm_told : (place : Span) (bs : List (Judged × Judged)) (may : May) (w : List (Option ModelFault)) (z : Refused) → TellsFault (arms_fault may bs) z → TellsFault (first (tests_of_case place bs may ++ w)) z
arm_told place bs may w z h =
    let faults : List (Option ModelFault) = map (λ (x : Judged × Bool). x.0.fault (if x.1 then plain_may may else part_may may)) (in_order bs) in
    let untrue : List (Option ModelFault) = map (λ (x : Judged × Bool). if x.1 || is_boolean (case_own bs) then kind_fault (Some walk.truth) x.0 else None) (in_order bs) in
    let open_at : List (Option ModelFault) = fault_if (not (is_closed [] (map (λ (e : Judged). e.tree) (guards bs)))) case_not_closed place ∷ [] in
    front_told (tests_of_case place bs may) w z (front_told (faults ++ untrue) open_at z (front_told faults untrue z h))

-- ---- one more

pub dropped : {A : Type 0} (xs : List A) (i : ℕ) (x : A) → i < length xs → x ≡ get_or xs i x → drop i xs ≡ x ∷ drop (i + 1) xs
dropped xs i x h e =
    let next : suc i ≡ i + 1 = omega arith in
    drop-cons xs i x h ∙ ap (λ k. get_or xs i x ∷ drop k xs) next ∙ ap (λ z. z ∷ drop (i + 1) xs) (sym e)

pub mapped_more : {A B : Type 0} (f : A → B) (xs : List A) (i : ℕ) (x : A) (y : B) → i < length xs → x ≡ get_or xs i x → f x ≡ y → map f (take (i + 1) xs) ≡ map f (take i xs) ++ y ∷ []
mapped_more f xs i x y h e q =
    ap (map f) (take_more xs i x h) ∙ map-append f (take i xs) (get_or xs i x ∷ []) ∙ ap (λ z. map f (take i xs) ++ f z ∷ []) (sym e) ∙ ap (λ z. map f (take i xs) ++ z ∷ []) q

pub members_left : (f : Expr → Judged) (xs : List Expr) (i : ℕ) (e : Expr) (may : May) → i < length xs → e ≡ get_or xs i e → (f e).fault may ≡ None → members_fault may (map f (drop (i + 1) xs)) ≡ members_fault may (map f (drop i xs))
members_left f xs i e may h g n =
    sym (ap (λ (es : List Expr). members_fault may (map f es)) (dropped xs i e h g) ∙ first_past ((f e).fault may) (map (λ (j : Judged). j.fault may) (map f (drop (i + 1) xs))) n)

-- the branch at the front of what is left
pub arms_front : (f : Branch → Judged × Judged) (xs : List Branch) (i : ℕ) (b : Branch) (g e : Judged) (may : May) → i < length xs → b ≡ get_or xs i b → f b ≡ (g, e)
    → arms_fault may (map f (drop i xs)) ≡ first (g.fault (plain_may may) ∷ e.fault (part_may may) ∷ arms_fault may (map f (drop (i + 1) xs)) ∷ [])
arms_front f xs i b g e may h k q =
    ap (λ (bs : List Branch). arms_fault may (map f bs)) (dropped xs i b h k)
    ∙ ap (λ (p : Judged × Judged). arms_fault may (p ∷ map f (drop (i + 1) xs))) q
    ∙ folded (g.fault (plain_may may)) (e.fault (part_may may)) (map (λ (x : Judged × Bool). x.0.fault (if x.1 then plain_may may else part_may may)) (in_order (map f (drop (i + 1) xs))))
  where
    folded : (a b : Option ModelFault) (xs : List (Option ModelFault)) → first (a ∷ b ∷ xs) ≡ first (a ∷ b ∷ first xs ∷ [])
    folded (Some x) b xs = refl
    folded None (Some y) xs = refl
    folded None None xs = sym (first_one (first xs))

pub arms_told : (bs : List (Judged × Judged)) (may : May) (r : Result Arms Refused) (z : Refused) → r ≡ Err z → TellsFault (arms_fault may bs) z → AnswersArms bs may r
arms_told bs may r z e h = let P : Result Arms Refused → Type 0 = λ r. AnswersArms bs may r in subst P (sym e) h
