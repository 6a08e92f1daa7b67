use Rattle.std.proofs.Common.{◌≡◌, true, false, ◌||◌, if◌then◌else◌, [], ◌∷◌, List, Option, Some, None, refl, ap, sym, subst, ◌∙◌}
use Rattle.std.specs.Option.{option_or}
use Rattle.cov_syntax.specs.declared.tree.Span.{Span}
use Rattle.cov_model.specs.Walk as walk
use Rattle.cov_model.specs.Walk.{Judged, first, bodies}
use Rattle.cov_walk.specs.Gathered.{HasMembers, first_untrue}
use Rattle.cov_walk.proofs.Gathering.{bodies-append, first_arm_more}
use Rattle.cov_walk.proofs.arms.Arms.with.Goals as goal

or_two : (a b : Option Span) → option_or a b ≡ first (a ∷ b ∷ None ∷ [])
or_two (Some x) b = refl
or_two None (Some y) = refl
or_two None None = refl

or_three : (a b e : Option Span) → option_or (option_or a b) e ≡ first (a ∷ b ∷ e ∷ [])
or_three (Some x) b e = refl
or_three None (Some y) e = refl
or_three None None (Some z) = refl
or_three None None None = refl

pub returns : goal.returns
returns c bs g e m n h f k = record {
  bodies = subst (λ (js : List Judged). HasMembers js c.in_ok-bodies.bodies) (sym (bodies-append bs (g, e))) (c.in_ok-bodies.ensures (bodies bs) e n h.bodies k);
  guard = c.or-first_guard.ensures ∙ or_two c.args.self.guard c.args.guard.misfits.truth
      ∙ ap (λ (o : Option Span). first (o ∷ c.args.guard.misfits.truth ∷ None ∷ [])) h.guard
      ∙ ap (λ (o : Option Span). first (first_untrue false bs ∷ o ∷ None ∷ [])) f.misfits.truth
      ∙ sym (first_arm_more (λ x. if x.1 || false then x.0.misfit walk.truth else None) bs (g, e));
  either = c.or-either.ensures ∙ ap (λ (o : Option Span). option_or o c.args.body.misfits.truth) c.or.ensures ∙ or_three c.args.self.either c.args.guard.misfits.truth c.args.body.misfits.truth
      ∙ ap (λ (o : Option Span). first (o ∷ c.args.guard.misfits.truth ∷ c.args.body.misfits.truth ∷ [])) h.either
      ∙ ap (λ (o : Option Span). first (first_untrue true bs ∷ o ∷ c.args.body.misfits.truth ∷ [])) f.misfits.truth
      ∙ ap (λ (o : Option Span). first (first_untrue true bs ∷ g.misfit walk.truth ∷ o ∷ [])) k.misfits.truth
      ∙ sym (first_arm_more (λ x. if x.1 || true then x.0.misfit walk.truth else None) bs (g, e));
}
