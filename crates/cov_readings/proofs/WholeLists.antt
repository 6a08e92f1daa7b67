-- The walk finds no fault in the lists of a well-formed model: conditions stand where no set may, and DEFINEs where no `next` may either.
use Rattle.std.proofs.Common.{◌≡◌, ◌<◌, ◌+◌, ℕ, zero, suc, IsTrue, List, [], ◌∷◌, ◌++◌, map, length, Option, Some, None, refl, sym, ap, subst, ◌∙◌, arith, length-append}
use Rattle.std.specs.Prelude.{slice_get}
use Rattle.cov_syntax.specs.declared.fault.ModelFault.{ModelFault}
use Rattle.cov_syntax.specs.declared.tree.Expr.{Expr}
use Rattle.cov_model.specs.declared.model.Define.{Define}
use Rattle.cov_model.specs.declared.model.Model.{Model}
use Rattle.cov_model.specs.Kinds.{Kind, Kinds, kind_at}
use Rattle.cov_model.specs.Walk.{first, May, truth, Judged, judged, own, kind_fault}
use Rattle.cov_model.specs.Types.{type_fault, bits_fault}
use Rattle.cov_model.specs.Order.{ordered, circular, reads, has}
use Rattle.cov_model.specs.Written.{formula_fault}
use Rattle.cov_model.specs.Settled.{known, define_kinds, define_faults, whole_fault, assign_fault, walk_fault, kinds_of, steady, chosen, chosen_next, moving, timed}
use Rattle.cov_model.specs.WellFormed.{IsWellFormed}
use Rattle.cov_model.proofs.Tied.{first_none, first_none_left, first_none_right}
use Rattle.cov_model.proofs.Fixed.{facts}
use Rattle.cov_model.proofs.InOrder.{reads_earlier}
use Rattle.cov_model.proofs.Agreeing.{same_judged}

-- ---- DEFINEs, walked with the kinds of those before them

-- a body without fault where no `next` and no set may stand, and its kind is that of its DEFINE
pub record IsBody (ks : Kinds) (i : ℕ) (e : Expr) : Type 0 where
  pub none : (judged ks e).fault steady ≡ None
  pub kind : kind_at ks.defs i ≡ own ks e

kind_before : (ks : List Kind) (k : Kind) (i : ℕ) → i < length ks → kind_at (ks ++ k ∷ []) i ≡ kind_at ks i
kind_before [] k i h = absurd (omega arith)
kind_before (l ∷ ks) k zero h = refl
kind_before (l ∷ ks) k (suc i) h = kind_before ks k i (omega arith)

kind_last : (ks : List Kind) (k : Kind) → kind_at (ks ++ k ∷ []) (length ks) ≡ k
kind_last [] k = refl
kind_last (l ∷ ks) k = kind_last ks k

kinds_before : (vk : List Kind) (ds : List Define) (done : List Kind) (i : ℕ) → i < length done → kind_at (define_kinds vk ds done) i ≡ kind_at done i
kinds_before vk [] done i h = refl
kinds_before vk (d ∷ ds) done i h =
    let k : Kind = own (known vk done) d.body in
    kinds_before vk ds (done ++ k ∷ []) i (omega (arith, length-append done (k ∷ []))) ∙ kind_before done k i h

-- each DEFINE reads those before it
abbrev ReadEarlier : ℕ → List Define → Type 0
ReadEarlier n ds = (i : ℕ) (d : Define) → slice_get ds i ≡ Some d → (j : ℕ) → IsTrue (has (reads d.body) j) → j < n + i

bodies : (vk : List Kind) (ds : List Define) (done : List Kind) → first (define_faults vk ds done) ≡ None → ReadEarlier (length done) ds
    → (i : ℕ) (d : Define) → slice_get ds i ≡ Some d → IsBody (known vk (define_kinds vk ds done)) (length done + i) d.body
bodies vk [] done f r i d g = cc
bodies vk (c ∷ ds) done f r zero d g =
    let k : Kind = own (known vk done) c.body in
    let all : Kinds = known vk (define_kinds vk ds (done ++ k ∷ [])) in
    let h = first_none (whole_fault (known vk done) steady None c.body) (define_faults vk ds (done ++ k ∷ [])) f in
    let same : judged (known vk done) c.body ≡ judged all c.body = same_judged (known vk done) all refl c.body
    (λ i h. sym (kinds_before vk (c ∷ ds) done i (omega (arith, r 0 c refl i h)))) in
    let is : c ≡ d = cc in
    let at : length done ≡ length done + 0 = omega arith in
    subst (λ (e : Define). IsBody all (length done + 0) e.body) is
    (subst (λ (n : ℕ). IsBody all n c.body) at (record {
      none = ap (λ (j : Judged). j.fault steady) (sym same) ∙ (first_none ((judged (known vk done) c.body).fault steady) (kind_fault None (judged (known vk done) c.body) ∷ []) h.0).0;
      kind = kinds_before vk ds (done ++ k ∷ []) (length done) (omega (arith, length-append done (k ∷ []))) ∙ kind_last done k ∙ ap (λ (j : Judged). j.own) same;
    }))
bodies vk (c ∷ ds) done f r (suc i) d g =
    let k : Kind = own (known vk done) c.body in
    let all : Kinds = known vk (define_kinds vk ds (done ++ k ∷ [])) in
    let h = first_none (whole_fault (known vk done) steady None c.body) (define_faults vk ds (done ++ k ∷ [])) f in
    let at : length (done ++ k ∷ []) + i ≡ length done + suc i = omega (arith, length-append done (k ∷ [])) in
    subst (λ (n : ℕ). IsBody all n d.body) at
    (bodies vk ds (done ++ k ∷ []) h.1 (λ j e q n s. omega (arith, r (suc j) e q n s, length-append done (k ∷ []))) i d g)

-- ---- conditions

each_none : (ks : Kinds) (may : May) (es : List Expr) → first (map (whole_fault ks may (Some truth)) es) ≡ None → (i : ℕ) (e : Expr) → slice_get es i ≡ Some e → (judged ks e).fault may ≡ None
each_none ks may [] f i e g = cc
each_none ks may (c ∷ es) f zero e g =
    let h = first_none (whole_fault ks may (Some truth) c) (map (whole_fault ks may (Some truth)) es) f in
    let is : c ≡ e = cc in
    subst (λ (z : Expr). (judged ks z).fault may ≡ None) is (first_none ((judged ks c).fault may) (kind_fault (Some truth) (judged ks c) ∷ []) h.0).0
each_none ks may (c ∷ es) f (suc i) e g = each_none ks may es (first_none (whole_fault ks may (Some truth) c) (map (whole_fault ks may (Some truth)) es) f).1 i e g

-- no fault in the lists of a model, each in its place
pub record AreFaultless (m : Model) : Type 0 where
  pub defines : (i : ℕ) (d : Define) → slice_get m.defines i ≡ Some d → IsBody (kinds_of m) i d.body
  pub inits : (i : ℕ) (e : Expr) → slice_get m.inits i ≡ Some e → (judged (kinds_of m) e).fault steady ≡ None
  pub invars : (i : ℕ) (e : Expr) → slice_get m.invars i ≡ Some e → (judged (kinds_of m) e).fault steady ≡ None
  pub trans : (i : ℕ) (e : Expr) → slice_get m.trans i ≡ Some e → (judged (kinds_of m) e).fault moving ≡ None
  pub fair : (i : ℕ) (e : Expr) → slice_get m.fair i ≡ Some e → (judged (kinds_of m) e).fault steady ≡ None

walk_none : (m : Model) → IsWellFormed m → walk_fault m ≡ None
walk_none m w =
    let rest : List (Option ModelFault) = bits_fault 0 m.vars ∷ circular m.defines ∷ walk_fault (ordered m) ∷ map formula_fault m.specs in
    let a = first_none (bits_fault 0 m.vars) (circular m.defines ∷ walk_fault (ordered m) ∷ map formula_fault m.specs) (first_none_right (map type_fault m.vars) rest (facts m w).no_fault) in
    let b = first_none (circular m.defines) (walk_fault (ordered m) ∷ map formula_fault m.specs) a.1 in
    let c = first_none (walk_fault (ordered m)) (map formula_fault m.specs) b.1 in
    ap walk_fault (sym (facts m w).in_order) ∙ c.0

at_start : (n k : ℕ) → n < k → n < 0 + k
at_start n k h = omega arith

from_zero : (j : ℕ) → 0 + j ≡ j
from_zero j = omega arith

pub all_faultless : (m : Model) → IsWellFormed m → AreFaultless m
all_faultless m w =
    let ks : Kinds = kinds_of m in
    let d : List (Option ModelFault) = define_faults ks.vars m.defines [] in
    let i : List (Option ModelFault) = map (whole_fault ks steady (Some truth)) m.inits in
    let v : List (Option ModelFault) = map (whole_fault ks steady (Some truth)) m.invars in
    let n : List (Option ModelFault) = map (assign_fault ks chosen) m.nows in
    let f : List (Option ModelFault) = map (assign_fault ks chosen) m.firsts in
    let x : List (Option ModelFault) = map (assign_fault ks chosen_next) m.nexts in
    let t : List (Option ModelFault) = map (whole_fault ks moving (Some truth)) m.trans in
    let g : List (Option ModelFault) = map (whole_fault ks steady (Some truth)) m.fair in
    let s : List (Option ModelFault) = map (whole_fault ks timed (Some truth)) m.specs in
    let h8 = first_none_left (d ++ i ++ v ++ n ++ f ++ x ++ t ++ g) s (walk_none m w) in
    let h7 = first_none_left (d ++ i ++ v ++ n ++ f ++ x ++ t) g h8 in
    let h6 = first_none_left (d ++ i ++ v ++ n ++ f ++ x) t h7 in
    let h5 = first_none_left (d ++ i ++ v ++ n ++ f) x h6 in
    let h4 = first_none_left (d ++ i ++ v ++ n) f h5 in
    let h3 = first_none_left (d ++ i ++ v) n h4 in
    let h2 = first_none_left (d ++ i) v h3 in
    record {
      defines = λ j c q. subst (λ (l : ℕ). IsBody ks l c.body) (from_zero j)
          (bodies ks.vars m.defines [] (first_none_left d i h2) (λ k e p l r. at_start l k (reads_earlier m.defines (facts m w).order k e p l r)) j c q);
      inits = each_none ks steady m.inits (first_none_right d i h2);
      invars = each_none ks steady m.invars (first_none_right (d ++ i) v h3);
      trans = each_none ks moving m.trans (first_none_right (d ++ i ++ v ++ n ++ f ++ x) t h7);
      fair = each_none ks steady m.fair (first_none_right (d ++ i ++ v ++ n ++ f ++ x ++ t) g h8);
    }
