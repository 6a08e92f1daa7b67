use Rattle.std.proofs.Common.{rules, ◌≡◌, [], reverse, subst, ap}
use Rattle.cov_stops.specs.Touring.{IsTouring}
use Rattle.cov_stops.proofs.TableLemmas.{tour-end}
use Rattle.cov_stops.proofs.stops.Stops.of.Goals as goal

pub returns : goal.returns
returns c =
    let t = c.loop-x.tour in
    let none : c.loop-x.tour.put_off ≡ [] = search rules in
    tour-end c.args.p.now c.requires.sound t.entries t.children t.vars t.defines
    (subst (λ xs. IsTouring c.args.p.now t.entries t.children xs t.vars t.defines) (ap reverse none) c.loop-x.invariant)
