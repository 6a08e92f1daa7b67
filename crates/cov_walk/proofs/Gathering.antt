-- What is gathered at members and branches, with one more.
use Rattle.std.proofs.Common.{◌≡◌, Bool, true, false, List, [], ◌∷◌, ◌++◌, map, Option, refl, ap, sym, ◌∙◌}
use Rattle.std.proofs.lemmas.List.{map-append}
use Rattle.cov_syntax.specs.declared.tree.Span.{Span}
use Rattle.cov_model.specs.Walk as walk
use Rattle.cov_model.specs.Walk.{Judged, May, first, bodies, in_order}
use Rattle.cov_kinds.specs.Seen.{seen}
use Rattle.cov_walk.specs.declared.misfits.Misfits.{Misfits}
use Rattle.cov_walk.specs.declared.found.Found.{Found}
use Rattle.cov_walk.specs.declared.members.Members.{Members}
use Rattle.cov_walk.specs.Misfits.{HasMisfits, IsEarlier}
use Rattle.cov_walk.specs.Found.{IsFound}
use Rattle.cov_walk.specs.Gathered.{HasMembers, first_misfit}
use Rattle.cov_walk.proofs.Firsts.{first_more, first_front}

earlier_misfit : (js : List Judged) (j : Judged) (asks : walk.Asks) (a b m : Option Span) → a ≡ first_misfit js asks → b ≡ j.misfit asks → m ≡ first (a ∷ b ∷ []) → m ≡ first_misfit (js ++ j ∷ []) asks
earlier_misfit js j asks a b m p q h =
    h ∙ ap (λ (o : Option Span). first (o ∷ b ∷ [])) p ∙ ap (λ (o : Option Span). first (first_misfit js asks ∷ o ∷ [])) q ∙ sym (first_more (λ (i : Judged). i.misfit asks) js j)

pub earlier_misfits : (js : List Judged) (j : Judged) (a b m : Misfits) → HasMisfits (first_misfit js) a → HasMisfits j.misfit b → IsEarlier a b m → HasMisfits (first_misfit (js ++ j ∷ [])) m
earlier_misfits js j a b m p q h = record {
  truth = earlier_misfit js j walk.truth a.truth b.truth m.truth p.truth q.truth h.truth;
  number = earlier_misfit js j walk.number a.number b.number m.number p.number q.number h.number;
  no_truth = earlier_misfit js j walk.no_truth a.no_truth b.no_truth m.no_truth p.no_truth q.no_truth h.no_truth;
}

pub one_member_more : (js : List Judged) (j : Judged) (may : May) (members m : Members) (f : Found) → HasMembers js members → IsFound j may f
    → m.kinds ≡ members.kinds ++ f.own ∷ [] → IsEarlier members.misfits f.misfits m.misfits → HasMembers (js ++ j ∷ []) m
one_member_more js j may members m f h g k e = record {
  kinds = ap (map seen) k ∙ map-append seen members.kinds (f.own ∷ []) ∙ ap (λ ks. ks ++ seen f.own ∷ []) h.kinds ∙ ap (λ z. map (λ (i : Judged). i.own) js ++ z ∷ []) g.own ∙ sym (map-append (λ (i : Judged). i.own) js (j ∷ []));
  misfits = earlier_misfits js j members.misfits f.misfits m.misfits h.misfits g.misfits e;
}

-- ---- branches

in_order-append : (bs : List (Judged × Judged)) (b : Judged × Judged) → in_order (bs ++ b ∷ []) ≡ in_order bs ++ (b.0, true) ∷ (b.1, false) ∷ []
in_order-append [] b = refl
in_order-append (c ∷ bs) b = ap (λ (xs : List (Judged × Bool)). (c.0, true) ∷ (c.1, false) ∷ xs) (in_order-append bs b)

pub bodies-append : (bs : List (Judged × Judged)) (b : Judged × Judged) → bodies (bs ++ b ∷ []) ≡ bodies bs ++ b.1 ∷ []
bodies-append bs b = map-append (λ (c : Judged × Judged). c.1) bs (b ∷ [])

-- the first of the branches with one more
pub first_arm_more : {A : Type 0} (f : Judged × Bool → Option A) (bs : List (Judged × Judged)) (b : Judged × Judged) → first (map f (in_order (bs ++ b ∷ []))) ≡ first (first (map f (in_order bs)) ∷ f (b.0, true) ∷ f (b.1, false) ∷ [])
first_arm_more f bs b =
    ap (λ (xs : List (Judged × Bool)). first (map f xs)) (in_order-append bs b)
    ∙ ap first (map-append f (in_order bs) ((b.0, true) ∷ (b.1, false) ∷ []))
    ∙ first_front (map f (in_order bs)) (f (b.0, true) ∷ f (b.1, false) ∷ [])
