use Rattle.std.proofs.Common.{◌≡◌, ◌+◌, get_or, sym, ◌∙◌, ap, refl, arith}
use Rattle.std.proofs.lemmas.Bool.{both_ways}
use Rattle.std.proofs.lemmas.List.{get_or_default, get_or_past}
use Rattle.cov_plain.specs.Structures.{structure_of}
use Rattle.cov_plain.proofs.Places.{leads_from_places, places_from_leads}
use Rattle.cov_plain.proofs.lassos.leads.Goals as goal
use Rattle.cov_plain.proofs.lassos.leads.Goals.{then-i-path, else-i-path}

pub returns-then-not-is_step : goal.returns-then-not-is_step
returns-then-not-is_step c =
    let m = structure_of c.args.graph.now in
    let path = c.args.path.now in
    let i = c.loop-i.i in
    let to : c.if-i-path.to ≡ get_or path (i + 1) c.args.after = elim c.if-i-path.branch [
      | then-i-path w ↦ w.to-is ∙ get_or_default path (i + 1) 0 c.args.after (omega arith)
      | else-i-path w ↦ w.to-is ∙ sym (get_or_past path (i + 1) c.args.after (omega arith))
    ] in (
      λ e. cc,
      λ h.
          let step = places_from_leads m path c.args.after h i (omega arith) in
          absurd (both_ways _ c.if-not-is_step.true (c.is_step.ensures ∙ ap (m.step (get_or path i 0)) to ∙ step)),
    )

pub returns : goal.returns
returns c = (
  λ e. leads_from_places (structure_of c.args.graph.now) c.args.path.now c.args.after (λ k d. c.loop-i.invariant k (omega arith)),
  λ h. refl,
)
