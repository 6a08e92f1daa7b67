use Rattle.std.proofs.Common.{◌+◌, ◌≤◌, ℕ, List, subst, sym}
use Rattle.cov_bits.specs.Layout.{bits, width}
use Rattle.cov_bits.specs.Views.{sizes_of}
use Rattle.cov_bits.proofs.Plans.{plan_push}
use Rattle.cov_bits.proofs.plan.Plan.add.Goals as goal

pub invariant_of-self-2 : goal.invariant_of-self-2
invariant_of-self-2 c =
    let few : bits (sizes_of c.self.inside.parts) + width c.args.size ≤ 60 =
    subst (λ (ns : List ℕ). bits ns + width c.args.size ≤ 60) (sym c.self.view_is) c.requires.fits in
    rw (c.in_ok-push.ensures.ok, c.width_of-width.ensures) (plan_push c.self.inside.parts c.self.inside.bits c.args.size c.self.invariant (c.requires.some, c.requires.small) few)
