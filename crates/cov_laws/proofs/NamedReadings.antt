-- An expression means the same where the signals that stand in it read the same.
use Rattle.std.proofs.Common.{◌≡◌, Bool, false, not, ◌||◌, if◌then◌else◌, IsTrue, neg_ℤ, List, [], ◌∷◌, map, refl, sym, ap, subst, ◌∙◌}
use Rattle.std.specs.List.{list_any}
use Rattle.std.proofs.lemmas.Bool.{or_left, or_right}
use Rattle.std.proofs.lemmas.Bool.Decides.{Decides-eqb}
use Rattle.cov_syntax.specs.declared.tree.Span.{Span}
use Rattle.cov_syntax.specs.declared.tree.Value.{Value}
use Rattle.cov_syntax.specs.declared.tree.Value.TheVariants as v
use Rattle.cov_syntax.specs.declared.tree.Op1.{Op1}
use Rattle.cov_syntax.specs.declared.tree.Op1.TheVariants as op1
use Rattle.cov_syntax.specs.declared.tree.Op2.{Op2}
use Rattle.cov_syntax.specs.declared.tree.Op2.TheVariants as op2
use Rattle.cov_syntax.specs.declared.tree.Expr.{Expr}
use Rattle.cov_syntax.specs.declared.tree.Branch.{Branch}
use Rattle.cov_syntax.specs.declared.tree.Node.{Node, roll-Node}
use Rattle.cov_syntax.specs.declared.tree.Node.TheOpen.{Node-F}
use Rattle.cov_syntax.specs.declared.tree.Node.TheFolds.{map-Node, fold-Node, fold-Branch}
use Rattle.cov_model.specs.declared.model.Signal.{Signal}
use Rattle.cov_model.specs.declared.model.Signal.TheVariants as signal
use Rattle.cov_model.specs.Values.{same_value, truth, number, operated, whole}
use Rattle.cov_model.specs.Meaning.{Point, Meaning, of_node, of_branch, of_expr, meaning, first_body, same_signal, single, prefixed, joined, moved, variable, define}
use Rattle.cov_model.specs.Walk.{put}
use Rattle.cov_model.proofs.Closed.{meant, branch_meaning, meaning_step}
use Rattle.cov_order.proofs.ByParts.{Layer, EachItem, EachArm, EachPart, by_parts, fold_step, fold_branch}
use Rattle.cov_laws.specs.Signals.{names_layer, names_branch, names_expr, names, reading}

pub same_itself : (q : Signal) → IsTrue (same_signal q q)
same_itself (signal.Var i) = (Decides-eqb i i).1 refl
same_itself (signal.Def i) = (Decides-eqb i i).1 refl

abbrev pub names_arm : Signal → Branch → Bool
names_arm q = fold-Branch Bool Bool Bool (names_layer q) names_branch names_expr

abbrev pub names_parts : Signal → Layer → Bool
names_parts q l = names_layer q (map-Node Node Branch Expr Bool Bool Bool (fold-Node Bool Bool Bool (names_layer q) names_branch names_expr) (names_arm q) (names q) l)

pub names_step : (q : Signal) (place : Span) (l : Layer) → names q (put place (roll-Node l)) ≡ names_parts q l
names_step q place l = fold_step Bool Bool Bool (names_layer q) names_branch names_expr place l

pub arm_step : (q : Signal) (b : Branch) → names_arm q b ≡ (names q b.guard || names q b.body)
arm_step q b = fold_branch Bool Bool Bool (names_layer q) names_branch names_expr b

-- the signals of the test read the same
abbrev pub Agree : (Signal → Bool) → Point → Point → Type 0
Agree T p o = (q : Signal) → IsTrue (T q) → (reading p.present q ≡ reading o.present q) × (reading p.next q ≡ reading o.next q)

-- it means the same at both points
abbrev pub Same : Meaning → Point → Point → Type 0
Same m p o = (m.value p ≡ m.value o) × ((x : Value) → m.allows p x ≡ m.allows o x)

same_single : (f : Point → Value) (p o : Point) → f p ≡ f o → Same (single f) p o
same_single f p o h = (h, λ x. ap (λ (y : Value). same_value y x) h)

abbrev pub R : Expr → Type 0
R e = (p o : Point) → Agree (λ q. names q e) p o → Same (meaning e) p o

one : (op : Op1) (a : Expr) → R a → (p o : Point) → Agree (λ q. names q a) p o → Same (prefixed whole op (meaning a)) p o
one op1.Not a r p o g = same_single (λ z. v.Bool (not (truth ((meaning a).value z)))) p o (ap (λ (x : Value). v.Bool (not (truth x))) (r p o g).0)
one op1.Neg a r p o g = same_single (λ z. v.Int (whole (neg_ℤ (number ((meaning a).value z))))) p o (ap (λ (x : Value). v.Int (whole (neg_ℤ (number x)))) (r p o g).0)
one op1.Next a r p o g = same_single (λ z. (meaning a).value (moved z)) p o (r (moved p) (moved o) (λ q h. let k = g q h in (k.1, k.1))).0
one _ a r p o g = (refl, λ x. refl)

two : (op : Op2) (a b : Meaning) (p o : Point) → Same a p o → Same b p o → Same (joined whole op a b) p o
two op2.Union a b p o s t = (refl, λ x. ap (λ (c : Bool). c || b.allows p x) (s.1 x) ∙ ap (λ (c : Bool). a.allows o x || c) (t.1 x))
two op2.Member a b p o s t =
    same_single (λ z. v.Bool (b.allows z (a.value z))) p o (ap (λ (x : Value). v.Bool (b.allows p x)) s.0 ∙ ap v.Bool (t.1 (a.value o)))
two op a b p o s t =
    same_single (λ z. operated whole op (a.value z) (b.value z)) p o
    (ap (λ (x : Value). operated whole op x (b.value p)) s.0 ∙ ap (λ (x : Value). operated whole op (a.value o) x) t.0)

items : (es : List Expr) → EachItem R es → (p o : Point) → Agree (λ q. list_any (λ b. b) (map (names q) es)) p o → (x : Value) →
    list_any (λ (m : Meaning). m.allows p x) (map meaning es) ≡ list_any (λ (m : Meaning). m.allows o x) (map meaning es)
items [] r p o g x = refl
items (e ∷ es) r p o g x =
    let s : Same (meaning e) p o = r.0 p o (λ q h. g q (or_left (names q e) (list_any (λ b. b) (map (names q) es)) h)) in
    let rest = items es r.1 p o (λ q h. g q (or_right (names q e) (list_any (λ b. b) (map (names q) es)) h)) x in
    ap (λ (c : Bool). c || list_any (λ (m : Meaning). m.allows p x) (map meaning es)) (s.1 x) ∙ ap (λ (c : Bool). (meaning e).allows o x || c) rest

abbrev AllSame : List (Meaning × Meaning) → Point → Point → Type 0
AllSame [] p o = Unit {0}
AllSame (b ∷ bs) p o = (b.0.value p ≡ b.0.value o) × Same b.1 p o × AllSame bs p o

meant_at : (b : Branch) → branch_meaning whole b ≡ (meaning b.guard, meaning b.body)
meant_at b = fold_branch Meaning (Meaning × Meaning) Meaning (of_node whole) of_branch of_expr b

arms : (bs : List Branch) → EachArm R bs → (p o : Point) → Agree (λ q. list_any (λ b. b) (map (names_arm q) bs)) p o → AllSame (map (branch_meaning whole) bs) p o
arms [] r p o g = tt
arms (b ∷ bs) r p o g =
    let here : Agree (λ q. names q b.guard || names q b.body) p o =
    λ q h. g q (or_left (names_arm q b) (list_any (λ b. b) (map (names_arm q) bs)) (arm_step q b ∙ h)) in
    let guard : Same (meaning b.guard) p o = r.0 p o (λ q h. here q (or_left (names q b.guard) (names q b.body) h)) in
    let body : Same (meaning b.body) p o = r.1 p o (λ q h. here q (or_right (names q b.guard) (names q b.body) h)) in (
      subst (λ (m : Meaning × Meaning). m.0.value p ≡ m.0.value o) (sym (meant_at b)) guard.0,
      subst (λ (m : Meaning × Meaning). Same m.1 p o) (sym (meant_at b)) body,
      arms bs r.2 p o (λ q h. g q (or_right (names_arm q b) (list_any (λ b. b) (map (names_arm q) bs)) h)),
    )

same_first : {A : Type 0} (none : A) (of to : Meaning → A) (p o : Point) → ((m : Meaning) → Same m p o → of m ≡ to m) → (bs : List (Meaning × Meaning)) →
    AllSame bs p o → first_body of p none bs ≡ first_body to o none bs
same_first none of to p o h [] s = refl
same_first none of to p o h (b ∷ bs) s =
    ap (λ (x : Value). if truth x then of b.1 else first_body of p none bs) s.0
    ∙ ap (λ a. if truth (b.0.value o) then a else first_body of p none bs) (h b.1 s.1)
    ∙ ap (λ a. if truth (b.0.value o) then to b.1 else a) (same_first none of to p o h bs s.2)

at_layer : (l : Layer) → EachPart R l → (p o : Point) → Agree (λ q. names_parts q l) p o → Same (of_node whole (meant whole l)) p o
at_layer (Node-F.Lit x) r p o g = (refl, λ y. refl)
at_layer (Node-F.Path path) r p o g = (refl, λ y. refl)
at_layer (Node-F.Var i) r p o g = same_single (λ z. variable z.present i) p o (g (signal.Var i) (same_itself (signal.Var i))).0
at_layer (Node-F.Def i) r p o g = same_single (λ z. define z.present i) p o (g (signal.Def i) (same_itself (signal.Def i))).0
at_layer (Node-F.One op a) r p o g = one op a r p o g
at_layer (Node-F.Two op a b) r p o g =
    two op (meaning a) (meaning b) p o (r.0 p o (λ q h. g q (or_left (names q a) (names q b) h))) (r.1 p o (λ q h. g q (or_right (names q a) (names q b) h)))
at_layer (Node-F.Range low high) r p o g = (refl, λ y. refl)
at_layer (Node-F.Set es) r p o g = (refl, items es r p o g)
at_layer (Node-F.Case bs) r p o g =
    let s : AllSame (map (branch_meaning whole) bs) p o = arms bs r p o g in
    let ms : List (Meaning × Meaning) = map (branch_meaning whole) bs in (
      same_first (v.Bool false) (λ m. m.value p) (λ m. m.value o) p o (λ m h. h.0) ms s,
      λ x. same_first false (λ m. m.allows p x) (λ m. m.allows o x) p o (λ m h. h.1 x) ms s,
    )

-- the signals that stand in it decide what it means
pub same_meaning : (e : Expr) → R e
same_meaning = by_parts R (λ place l r p o g.
    subst (λ (m : Meaning). Same m p o) (sym (meaning_step whole place l)) (at_layer l r p o (λ q h. g q (names_step q place l ∙ h))))
