-- The machine reads an atom of a well-formed model as it is.
use Rattle.std.proofs.Common.{◌≡◌, ℕ, zero, suc, ◌+◌, ◌<◌, Bool, true, false, ◌⊎◌, inl, inr, IsTrue, List, [], ◌∷◌, ◌++◌, map, Option, Some, None, refl, sym, ap, subst, ◌∙◌, length, arith, length-append}
use Rattle.std.specs.Prelude.{slice_get}
use Rattle.cov_syntax.specs.declared.tree.Value.{Value}
use Rattle.cov_syntax.specs.declared.tree.Expr.{Expr}
use Rattle.cov_model.specs.declared.model.Signal.{Signal}
use Rattle.cov_model.specs.declared.model.Assign.{Assign}
use Rattle.cov_model.specs.declared.model.Define.{Define}
use Rattle.cov_model.specs.declared.model.Model.{Model}
use Rattle.cov_model.specs.Values.{truth as truth_of}
use Rattle.cov_model.specs.Meaning.{Readings, Point, value}
use Rattle.cov_model.specs.Machine as made
use Rattle.cov_model.specs.States.{State, is_typed, readings_in, at, holds}
use Rattle.cov_model.specs.Kinds.{Kind, Kinds, kind_at}
use Rattle.cov_model.specs.Walk.{truth, asks_truth, Judged, judged}
use Rattle.cov_model.specs.Order.{reads, has, with_body}
use Rattle.cov_model.specs.Settled.{known, define_kinds, settled_defines, kinds_of, settled, settled_assign, asked_by, timed}
use Rattle.cov_model.specs.WellFormed.{IsWellFormed}
use Rattle.cov_model.specs.Atoms.{expressions, is_constant, StandsInModel, IsAtomOf}
use Rattle.cov_model.proofs.Standing.{IsSettled, part_settled, settled_any, constant_settled}
use Rattle.cov_model.proofs.Agreeing.{same_judged}
use Rattle.cov_model.proofs.Fixed.{facts}
use Rattle.cov_model.proofs.InOrder.{reads_earlier}
use Rattle.cov_model.proofs.ModelLaw.{reads_kinds, same_readings, same_value_of}

abbrev AllSettled : Kinds → List Expr → Type 0
AllSettled ks es = (i : ℕ) (e : Expr) → slice_get es i ≡ Some e → IsSettled ks e

none : (ks : Kinds) → AllSettled ks []
none ks i e g = cc

more : (ks : Kinds) (x : Expr) (xs : List Expr) → IsSettled ks x → AllSettled ks xs → AllSettled ks (x ∷ xs)
more ks x xs h f zero e g = let k : x ≡ e = cc in subst (IsSettled ks) k h
more ks x xs h f (suc i) e g = f i e g

joined : (ks : Kinds) (xs ys : List Expr) → AllSettled ks xs → AllSettled ks ys → AllSettled ks (xs ++ ys)
joined ks [] ys f h = h
joined ks (x ∷ xs) ys f h = more ks x (xs ++ ys) (f 0 x refl) (joined ks xs ys (λ i e g. f (suc i) e g) h)

conditions : (ks : Kinds) (es : List Expr) → map (settled ks true) es ≡ es → AllSettled ks es
conditions ks [] s = none ks
conditions ks (e ∷ es) s =
    let h : settled ks true e ≡ e = cc in
    let t : map (settled ks true) es ≡ es = cc in
    more ks e es (record { in_truth = true; settles = h }) (conditions ks es t)

assignments : (ks : Kinds) (as' : List Assign) → map (settled_assign ks) as' ≡ as' → AllSettled ks (map (λ (a : Assign). a.body) as')
assignments ks [] s = none ks
assignments ks (a ∷ as') s =
    let h : settled_assign ks a ≡ a = cc in
    let t : map (settled_assign ks) as' ≡ as' = cc in
    more ks a.body (map (λ (b : Assign). b.body) as') (record { in_truth = asks_truth (Some (asked_by ks a.var)); settles = ap (λ (b : Assign). b.body) h }) (assignments ks as' t)

-- a DEFINE is settled with the kinds of those before it, and so with all kinds
kind_before : (ks : List Kind) (k : Kind) (i : ℕ) → i < length ks → kind_at (ks ++ k ∷ []) i ≡ kind_at ks i
kind_before [] k i h = absurd (omega arith)
kind_before (l ∷ ks) k zero h = refl
kind_before (l ∷ ks) k (suc i) h = kind_before ks k i (omega arith)

kinds_before : (vk : List Kind) (ds : List Define) (done : List Kind) (i : ℕ) → i < length done → kind_at (define_kinds vk ds done) i ≡ kind_at done i
kinds_before vk [] done i h = refl
kinds_before vk (d ∷ ds) done i h =
    let k : Kind = (judged (known vk done) d.body).own in
    kinds_before vk ds (done ++ k ∷ []) i (omega (arith, length-append done (k ∷ []))) ∙ kind_before done k i h

define_bodies : (vk : List Kind) (ds : List Define) (done : List Kind) → settled_defines vk ds done ≡ ds
    → ((k : ℕ) (d : Define) → slice_get ds k ≡ Some d → (j : ℕ) → IsTrue (has (reads d.body) j) → j < length done + k)
    → AllSettled (known vk (define_kinds vk ds done)) (map (λ (d : Define). d.body) ds)
define_bodies vk [] done s r = none (known vk done)
define_bodies vk (d ∷ ds) done s r =
    let k : Kind = (judged (known vk done) d.body).own in
    let all : Kinds = known vk (define_kinds vk ds (done ++ k ∷ [])) in
    let head : with_body (settled (known vk done) false) d ≡ d = cc in
    let tail : settled_defines vk ds (done ++ k ∷ []) ≡ ds = cc in
    let same : judged (known vk done) d.body ≡ judged all d.body = same_judged (known vk done) all refl d.body
    (λ i h. sym (kinds_before vk (d ∷ ds) done i (omega (arith, r 0 d refl i h)))) in
    more all d.body (map (λ (e : Define). e.body) ds)
    (record { in_truth = false; settles = ap (λ (j : Judged). j.settled false) (sym same) ∙ ap (λ (e : Define). e.body) head })
    (define_bodies vk ds (done ++ k ∷ []) tail (λ i e g j h. omega (arith, r (suc i) e g j h, length-append done (k ∷ []))))

all_settled : (m : Model) → IsWellFormed m → AllSettled (kinds_of m) (expressions m)
all_settled m w =
    let ks : Kinds = kinds_of m in
    let bodies : List Expr = map (λ (d : Define). d.body) m.defines in
    joined ks _ m.specs
    (joined ks _ m.fair
    (joined ks _ m.trans
    (joined ks _ (map (λ (a : Assign). a.body) m.nexts)
    (joined ks _ (map (λ (a : Assign). a.body) m.firsts)
    (joined ks _ (map (λ (a : Assign). a.body) m.nows)
    (joined ks (bodies ++ m.inits) m.invars
    (joined ks bodies m.inits
    (define_bodies ks.vars m.defines [] (ap (λ (z : Model). z.defines) (facts m w).settled) (λ k d g j h. omega (arith, reads_earlier m.defines (facts m w).order k d g j h)))
    (conditions ks m.inits (ap (λ (z : Model). z.inits) (facts m w).settled)))
    (conditions ks m.invars (ap (λ (z : Model). z.invars) (facts m w).settled)))
    (assignments ks m.nows (ap (λ (z : Model). z.nows) (facts m w).settled)))
    (assignments ks m.firsts (ap (λ (z : Model). z.firsts) (facts m w).settled)))
    (assignments ks m.nexts (ap (λ (z : Model). z.nexts) (facts m w).settled)))
    (conditions ks m.trans (ap (λ (z : Model). z.trans) (facts m w).settled)))
    (conditions ks m.fair (ap (λ (z : Model). z.fair) (facts m w).settled)))
    (conditions ks m.specs (ap (λ (z : Model). z.specs) (facts m w).settled))

-- an atom is settled in a Boolean place
pub atom_settled : (m : Model) (e : Expr) → IsWellFormed m → IsAtomOf m e → settled (kinds_of m) true e ≡ e
atom_settled m e w a = elim a.stands [
  | inl c ↦ constant_settled (kinds_of m) e c
  | inr s ↦ let h = part_settled (kinds_of m) e s.whole s.stands (all_settled m w s.place s.whole s.there) in
      sym (settled_any (kinds_of m) e h.in_truth a.boolean) ∙ h.settles
]

pub atom_is : (m : Model) (e : Expr) (s : State) (flip : Option Signal) → IsWellFormed m → IsAtomOf m e → IsTrue (is_typed m s)
    → truth_of (made.value e (record { present = made.readings_in m s flip; next = made.readings_in m s None })) ≡ holds m e s flip
atom_is m e s flip w a t =
    ap (λ (r : Readings). truth_of (made.value e (record { present = r; next = made.readings_in m s None }))) (same_readings m s flip w t)
    ∙ ap (λ (r : Readings). truth_of (made.value e (record { present = readings_in m s flip; next = r }))) (same_readings m s None w t)
    ∙ ap truth_of (same_value_of (kinds_of m) timed (Some truth) (at m s flip) e a.no_fault (atom_settled m e w a) (reads_kinds m s flip w t) (reads_kinds m s None w t)).same_value
