-- Each expression of a well-formed model, and each part of one, has no fault in its place and is settled.
use Rattle.std.proofs.Common.{◌≡◌, ◌<◌, ◌+◌, ℕ, zero, suc, Bool, true, false, IsTrue, List, [], ◌∷◌, ◌++◌, map, length, Option, Some, None, refl, sym, ap, subst, ◌∙◌, arith, length-append}
use Rattle.std.specs.Prelude.{slice_get}
use Rattle.cov_syntax.specs.declared.fault.ModelFault.{ModelFault}
use Rattle.cov_syntax.specs.declared.tree.Expr.{Expr}
use Rattle.cov_model.specs.declared.model.Define.{Define}
use Rattle.cov_model.specs.declared.model.Assign.{Assign}
use Rattle.cov_model.specs.declared.model.Model.{Model}
use Rattle.cov_model.specs.Kinds.{Kind, Kinds, kind_at}
use Rattle.cov_model.specs.Walk.{first, May, Asks, truth, asks_truth, Judged, judged, kind_fault}
use Rattle.cov_model.specs.Types.{type_fault, bits_fault}
use Rattle.cov_model.specs.Order.{ordered, circular, reads, has, with_body}
use Rattle.cov_model.specs.Written.{formula_fault}
use Rattle.cov_model.specs.Settled.{known, define_kinds, define_faults, settled_defines, settled, settled_assign, whole_fault, assign_fault, asked_by, walk_fault, kinds_of, steady, chosen, chosen_next, moving, timed}
use Rattle.cov_model.specs.WellFormed.{IsWellFormed}
use Rattle.cov_model.specs.Atoms.{StandsIn, expressions, StandsInModel}
use Rattle.cov_model.proofs.Tied.{first_none, first_none_left, first_none_right}
use Rattle.cov_model.proofs.Fixed.{facts}
use Rattle.cov_model.proofs.InOrder.{reads_earlier}
use Rattle.cov_model.proofs.Agreeing.{same_judged}
use Rattle.cov_model.proofs.Standing.{IsSettled, part_settled}
use Rattle.cov_ranges.proofs.PartFaults.{IsFaultless, part_faultless}

-- no fault in some place, and settled in some
pub record IsSound (ks : Kinds) (e : Expr) : Type 0 where
  pub faultless : IsFaultless ks e
  pub settled : IsSettled ks e

-- what stands in such an expression is one
pub part_sound : (ks : Kinds) (x e : Expr) → StandsIn x e → IsSound ks e → IsSound ks x
part_sound ks x e p s = record { faultless = part_faultless ks x e p s.faultless; settled = part_settled ks x e p s.settled }

abbrev AllSound : Kinds → List Expr → Type 0
AllSound ks es = (i : ℕ) (e : Expr) → slice_get es i ≡ Some e → IsSound ks e

none : (ks : Kinds) → AllSound ks []
none ks i e g = cc

more : (ks : Kinds) (x : Expr) (xs : List Expr) → IsSound ks x → AllSound ks xs → AllSound ks (x ∷ xs)
more ks x xs h f zero e g = let k : x ≡ e = cc in subst (IsSound ks) k h
more ks x xs h f (suc i) e g = f i e g

joined : (ks : Kinds) (xs ys : List Expr) → AllSound ks xs → AllSound ks ys → AllSound ks (xs ++ ys)
joined ks [] ys f h = h
joined ks (x ∷ xs) ys f h = more ks x (xs ++ ys) (f 0 x refl) (joined ks xs ys (λ i e g. f (suc i) e g) h)

-- an expression without fault, settled in its place
sound : (ks : Kinds) (may : May) (asks : Option Asks) (b : Bool) (e : Expr) → whole_fault ks may asks e ≡ None → settled ks b e ≡ e → IsSound ks e
sound ks may asks b e f s = record {
  faultless = record { may = may; none = (first_none ((judged ks e).fault may) (kind_fault asks (judged ks e) ∷ []) f).0 };
  settled = record { in_truth = b; settles = s };
}

conditions : (ks : Kinds) (may : May) (es : List Expr) → first (map (whole_fault ks may (Some truth)) es) ≡ None → map (settled ks true) es ≡ es → AllSound ks es
conditions ks may [] f s = none ks
conditions ks may (e ∷ es) f s =
    let c = first_none (whole_fault ks may (Some truth) e) (map (whole_fault ks may (Some truth)) es) f in
    let h : settled ks true e ≡ e = cc in
    let t : map (settled ks true) es ≡ es = cc in
    more ks e es (sound ks may (Some truth) true e c.0 h) (conditions ks may es c.1 t)

assignments : (ks : Kinds) (may : May) (as' : List Assign) → first (map (assign_fault ks may) as') ≡ None → map (settled_assign ks) as' ≡ as' → AllSound ks (map (λ (a : Assign). a.body) as')
assignments ks may [] f s = none ks
assignments ks may (a ∷ as') f s =
    let c = first_none (assign_fault ks may a) (map (assign_fault ks may) as') f in
    let h : settled_assign ks a ≡ a = cc in
    let t : map (settled_assign ks) as' ≡ as' = cc in
    more ks a.body (map (λ (b : Assign). b.body) as')
    (sound ks may (Some (asked_by ks a.var)) (asks_truth (Some (asked_by ks a.var))) a.body c.0 (ap (λ (b : Assign). b.body) h))
    (assignments ks may as' c.1 t)

-- ---- DEFINEs, walked with the kinds of those before them

kind_before : (ks : List Kind) (k : Kind) (i : ℕ) → i < length ks → kind_at (ks ++ k ∷ []) i ≡ kind_at ks i
kind_before [] k i h = absurd (omega arith)
kind_before (l ∷ ks) k zero h = refl
kind_before (l ∷ ks) k (suc i) h = kind_before ks k i (omega arith)

kinds_before : (vk : List Kind) (ds : List Define) (done : List Kind) (i : ℕ) → i < length done → kind_at (define_kinds vk ds done) i ≡ kind_at done i
kinds_before vk [] done i h = refl
kinds_before vk (d ∷ ds) done i h =
    let k : Kind = (judged (known vk done) d.body).own in
    kinds_before vk ds (done ++ k ∷ []) i (omega (arith, length-append done (k ∷ []))) ∙ kind_before done k i h

define_bodies : (vk : List Kind) (ds : List Define) (done : List Kind) → first (define_faults vk ds done) ≡ None → settled_defines vk ds done ≡ ds
    → ((k : ℕ) (d : Define) → slice_get ds k ≡ Some d → (j : ℕ) → IsTrue (has (reads d.body) j) → j < length done + k)
    → AllSound (known vk (define_kinds vk ds done)) (map (λ (d : Define). d.body) ds)
define_bodies vk [] done f s r = none (known vk done)
define_bodies vk (d ∷ ds) done f s r =
    let k : Kind = (judged (known vk done) d.body).own in
    let all : Kinds = known vk (define_kinds vk ds (done ++ k ∷ [])) in
    let c = first_none (whole_fault (known vk done) steady None d.body) (define_faults vk ds (done ++ k ∷ [])) f in
    let head : with_body (settled (known vk done) false) d ≡ d = cc in
    let tail : settled_defines vk ds (done ++ k ∷ []) ≡ ds = cc in
    let same : judged (known vk done) d.body ≡ judged all d.body = same_judged (known vk done) all refl d.body
    (λ i h. sym (kinds_before vk (d ∷ ds) done i (omega (arith, r 0 d refl i h)))) in
    more all d.body (map (λ (e : Define). e.body) ds)
    (sound all steady None false d.body
    (ap (λ (j : Judged). first (j.fault steady ∷ kind_fault None j ∷ [])) (sym same) ∙ c.0)
    (ap (λ (j : Judged). j.settled false) (sym same) ∙ ap (λ (e : Define). e.body) head))
    (define_bodies vk ds (done ++ k ∷ []) c.1 tail (λ i e g j h. omega (arith, r (suc i) e g j h, length-append done (k ∷ []))))

-- ---- the whole model

walk_none : (m : Model) → IsWellFormed m → walk_fault m ≡ None
walk_none m w =
    let rest : List (Option ModelFault) = bits_fault 0 m.vars ∷ circular m.defines ∷ walk_fault (ordered m) ∷ map formula_fault m.specs in
    let a = first_none (bits_fault 0 m.vars) (circular m.defines ∷ walk_fault (ordered m) ∷ map formula_fault m.specs) (first_none_right (map type_fault m.vars) rest (facts m w).no_fault) in
    let b = first_none (circular m.defines) (walk_fault (ordered m) ∷ map formula_fault m.specs) a.1 in
    let c = first_none (walk_fault (ordered m)) (map formula_fault m.specs) b.1 in
    ap walk_fault (sym (facts m w).in_order) ∙ c.0

all_sound : (m : Model) → IsWellFormed m → AllSound (kinds_of m) (expressions m)
all_sound m w =
    let ks : Kinds = kinds_of m in
    let z = facts m w in
    let bodies : List Expr = map (λ (d : Define). d.body) m.defines in
    let d : List (Option ModelFault) = define_faults ks.vars m.defines [] in
    let i : List (Option ModelFault) = map (whole_fault ks steady (Some truth)) m.inits in
    let v : List (Option ModelFault) = map (whole_fault ks steady (Some truth)) m.invars in
    let n : List (Option ModelFault) = map (assign_fault ks chosen) m.nows in
    let f : List (Option ModelFault) = map (assign_fault ks chosen) m.firsts in
    let x : List (Option ModelFault) = map (assign_fault ks chosen_next) m.nexts in
    let t : List (Option ModelFault) = map (whole_fault ks moving (Some truth)) m.trans in
    let g : List (Option ModelFault) = map (whole_fault ks steady (Some truth)) m.fair in
    let s : List (Option ModelFault) = map (whole_fault ks timed (Some truth)) m.specs in
    let h9 = walk_none m w in
    let h8 = first_none_left (d ++ i ++ v ++ n ++ f ++ x ++ t ++ g) s h9 in
    let h7 = first_none_left (d ++ i ++ v ++ n ++ f ++ x ++ t) g h8 in
    let h6 = first_none_left (d ++ i ++ v ++ n ++ f ++ x) t h7 in
    let h5 = first_none_left (d ++ i ++ v ++ n ++ f) x h6 in
    let h4 = first_none_left (d ++ i ++ v ++ n) f h5 in
    let h3 = first_none_left (d ++ i ++ v) n h4 in
    let h2 = first_none_left (d ++ i) v h3 in
    joined ks _ m.specs
    (joined ks _ m.fair
    (joined ks _ m.trans
    (joined ks _ (map (λ (a : Assign). a.body) m.nexts)
    (joined ks _ (map (λ (a : Assign). a.body) m.firsts)
    (joined ks _ (map (λ (a : Assign). a.body) m.nows)
    (joined ks (bodies ++ m.inits) m.invars
    (joined ks bodies m.inits
    (define_bodies ks.vars m.defines [] (first_none_left d i h2) (ap (λ (y : Model). y.defines) z.settled) (λ k e q j h. omega (arith, reads_earlier m.defines z.order k e q j h)))
    (conditions ks steady m.inits (first_none_right d i h2) (ap (λ (y : Model). y.inits) z.settled)))
    (conditions ks steady m.invars (first_none_right (d ++ i) v h3) (ap (λ (y : Model). y.invars) z.settled)))
    (assignments ks chosen m.nows (first_none_right (d ++ i ++ v) n h4) (ap (λ (y : Model). y.nows) z.settled)))
    (assignments ks chosen m.firsts (first_none_right (d ++ i ++ v ++ n) f h5) (ap (λ (y : Model). y.firsts) z.settled)))
    (assignments ks chosen_next m.nexts (first_none_right (d ++ i ++ v ++ n ++ f) x h6) (ap (λ (y : Model). y.nexts) z.settled)))
    (conditions ks moving m.trans (first_none_right (d ++ i ++ v ++ n ++ f ++ x) t h7) (ap (λ (y : Model). y.trans) z.settled)))
    (conditions ks steady m.fair (first_none_right (d ++ i ++ v ++ n ++ f ++ x ++ t) g h8) (ap (λ (y : Model). y.fair) z.settled)))
    (conditions ks timed m.specs (first_none_right (d ++ i ++ v ++ n ++ f ++ x ++ t ++ g) s h9) (ap (λ (y : Model). y.specs) z.settled))

-- what stands in a well-formed model
pub standing_sound : (m : Model) (e : Expr) → IsWellFormed m → StandsInModel m e → IsSound (kinds_of m) e
standing_sound m e w s = part_sound (kinds_of m) e s.whole s.stands (all_sound m w s.place s.whole s.there)

-- ---- the kinds of the variables

pub types_none : (m : Model) → IsWellFormed m → first (map type_fault m.vars) ≡ None
types_none m w = first_none_left (map type_fault m.vars) (bits_fault 0 m.vars ∷ circular m.defines ∷ walk_fault (ordered m) ∷ map formula_fault m.specs) (facts m w).no_fault
