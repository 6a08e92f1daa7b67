use Rattle.std.proofs.Common.{◌≡◌, ◌<◌, ◌≤◌, length, Some, None, Option, sym, subst, ◌∙◌, arith}
use Rattle.cov_modules.specs.Walk.{walk}
use Rattle.cov_paths.specs.declared.target.Target.{Target}
use Rattle.cov_paths.specs.Found.{IsFormal, formal_at}
use Rattle.cov_paths.proofs.Lists.{item-there}
use Rattle.cov_paths.proofs.Giving.{own-module-below}
use Rattle.cov_paths.proofs.Binding.{bound-in}
use Rattle.cov_paths.proofs.scopes.Scopes.formal.Goals as goal

pub get-requires : goal.get-requires
get-requires c =
    let few : length c.args.self.now.formals ≤ length (walk c.args.p.now) = c.requires.scopes.few in
    let within : c.args.k < length (walk c.args.p.now) = omega arith in
    let below = own-module-below c.args.p.now c.args.self.now.own.stops c.requires.scopes.own.stops c.args.k within c.entry-entry.result c.entry-entry.ensures in
    let count : length c.args.self.now.own.modules ≡ length c.args.p.now.modules = c.requires.scopes.own.scopes.count in
    omega arith

pub returns-in-None : goal.returns-in-None
returns-in-None c =
    let xs = item-there c.args.self.now.formals c.args.k c.requires.there in
    bound-in c.args.p.now c.requires.sound c.args.self.now c.requires.scopes c.args.k c.requires.there c.entry-entry.result c.entry-entry.ensures c.get.result.now c.get.ensures
    xs.0 xs.1 c.args.name None (sym c.formal.ensures ∙ c.in-None.is)

pub returns-in-Some : goal.returns-in-Some
returns-in-Some c =
    subst (λ (o : Option (Option Target)). IsFormal c.args.p.now o (formal_at c.args.p.now c.args.k c.args.name)) (sym c.target_at.ensures)
    (bound-in c.args.p.now c.requires.sound c.args.self.now c.requires.scopes c.args.k c.requires.there c.entry-entry.result c.entry-entry.ensures c.get.result.now c.get.ensures
    c.get-in-Some.result.now c.get-in-Some.ensures c.args.name (Some c.in-Some.place) (sym c.formal.ensures ∙ c.in-Some.is))
