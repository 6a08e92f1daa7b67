-- One more DEFINE that is settled.
use Rattle.std.proofs.Common.{◌≡◌, ℕ, ◌+◌, ◌<◌, List, [], ◌∷◌, ◌++◌, length, drop, get_or, false, Option, None, append_assoc, refl, sym, ap, subst, ◌∙◌}
use Rattle.std.proofs.lemmas.List.{drop_more}
use Rattle.cov_syntax.specs.declared.fault.ModelFault.{ModelFault}
use Rattle.cov_syntax.specs.declared.fault.Refused.{Refused}
use Rattle.cov_model.specs.declared.model.Define.{Define}
use Rattle.cov_model.specs.Kinds.{Kind, Kinds}
use Rattle.cov_model.specs.Order.{with_body}
use Rattle.cov_model.specs.Settled.{define_faults, define_kinds, known, settled, settled_defines, steady, whole_fault}
use Rattle.cov_model.specs.Walk.{first, own}
use Rattle.cov_types.proofs.Tells.{tells_front}
use Rattle.cov_walk.specs.Found.{TellsFault}

module _ (vs : List Kind) (ds : List Define) (i : ℕ) (d : Define) (ks : Kinds) (below : i < length ds) (is : d ≡ get_or ds i d) (vars : ks.vars ≡ vs) where
  split : drop i ds ≡ d ∷ drop (i + 1) ds
  split = drop_more ds i d below ∙ ap (λ (x : Define). x ∷ drop (i + 1) ds) (sym is)

  same : ks ≡ known vs ks.defs
  same = ap (λ (us : List Kind). known us ks.defs) vars

  -- the refusal of a DEFINE tells the first fault of all
  pub refused : (e : Refused) → first (define_faults vs (drop i ds) ks.defs) ≡ first (define_faults vs ds [])
      → TellsFault (whole_fault ks steady None d.body) e → TellsFault (first (define_faults vs ds [])) e
  refused e whole h =
      subst (λ (f : Option ModelFault). TellsFault f e) (ap (λ (es : List Define). first (define_faults vs es ks.defs)) (sym split) ∙ whole)
      (tells_front (whole_fault (known vs ks.defs) steady None d.body) (define_faults vs (drop (i + 1) ds) (ks.defs ++ own (known vs ks.defs) d.body ∷ [])) e
      (subst (λ (ls : Kinds). TellsFault (whole_fault ls steady None d.body) e) same h))

  module _ (new : Kinds) (put : new ≡ known ks.vars (ks.defs ++ own ks d.body ∷ [])) where
    more : ks.defs ++ own (known vs ks.defs) d.body ∷ [] ≡ new.defs
    more = sym (ap (λ (ls : Kinds). ls.defs) put ∙ ap (λ (ls : Kinds). ks.defs ++ own ls d.body ∷ []) same)

    pub vars_next : new.vars ≡ vs
    vars_next = ap (λ (ls : Kinds). ls.vars) put ∙ vars

    pub kinds_next : define_kinds vs (drop (i + 1) ds) new.defs ≡ define_kinds vs (drop i ds) ks.defs
    kinds_next = sym (ap (λ (es : List Define). define_kinds vs es ks.defs) split ∙ ap (define_kinds vs (drop (i + 1) ds)) more)

    pub faults_next : whole_fault ks steady None d.body ≡ None → first (define_faults vs (drop (i + 1) ds) new.defs) ≡ first (define_faults vs (drop i ds) ks.defs)
    faults_next none = sym (
        ap (λ (es : List Define). first (define_faults vs es ks.defs)) split
        ∙ ap (λ (f : Option ModelFault). first (f ∷ define_faults vs (drop (i + 1) ds) (ks.defs ++ own (known vs ks.defs) d.body ∷ []))) (ap (λ (ls : Kinds). whole_fault ls steady None d.body) (sym same) ∙ none)
        ∙ ap (λ (done : List Kind). first (define_faults vs (drop (i + 1) ds) done)) more)

    pub settled_next : (before after : List Define) (r : Define) → r ≡ with_body (settled ks false) d → after ≡ before ++ r ∷ []
        → after ++ settled_defines vs (drop (i + 1) ds) new.defs ≡ before ++ settled_defines vs (drop i ds) ks.defs
    settled_next before after r made end =
        ap (λ (es : List Define). es ++ settled_defines vs (drop (i + 1) ds) new.defs) end
        ∙ append_assoc before (r ∷ []) (settled_defines vs (drop (i + 1) ds) new.defs)
        ∙ ap (λ (x : Define). before ++ x ∷ settled_defines vs (drop (i + 1) ds) new.defs) (made ∙ ap (λ (ls : Kinds). with_body (settled ls false) d) same)
        ∙ ap (λ (done : List Kind). before ++ with_body (settled (known vs ks.defs) false) d ∷ settled_defines vs (drop (i + 1) ds) done) (sym more)
        ∙ ap (λ (es : List Define). before ++ settled_defines vs es ks.defs) (sym split)
