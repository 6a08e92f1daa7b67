use Rattle.std.proofs.Common.{◌∙◌, ℕ, List, map, ap}
use Rattle.cov_syntax.specs.declared.tree.Expr.{Expr}
use Rattle.cov_model.specs.declared.model.Assign.{Assign}
use Rattle.cov_model.specs.declared.model.Model.{Model}
use Rattle.cov_model.specs.Order.{renumbered, with_assigned, in_order, dependence, reads_of}
use Rattle.cov_order.proofs.Gathered.{gathered}
use Rattle.cov_order.proofs.whole.ordered_by.Goals as goal

pub returns : goal.returns
returns c =
    let m : Model = c.args.m in
    let o : List ℕ = dependence (reads_of m.defines) in
    let all : List Expr → List ℕ → List Expr = λ (es : List Expr) (order : List ℕ). map (renumbered order) es in
    let assigned : List Assign → List ℕ → List Assign = λ (xs : List Assign) (order : List ℕ). map (with_assigned (renumbered order)) xs in
    gathered m c.in_ok-defines.defines (in_order o m.defines)
    c.in_ok-inits.inits (all m.inits o) c.in_ok-invars.invars (all m.invars o)
    c.in_ok-nows.nows (assigned m.nows o) c.in_ok-firsts.firsts (assigned m.firsts o) c.in_ok-nexts.nexts (assigned m.nexts o)
    c.in_ok-trans.trans (all m.trans o) c.in_ok-fair.fair (all m.fair o) c.in_ok-specs.specs (all m.specs o)
    (c.in_ok-defines.ensures ∙ ap (λ (order : List ℕ). in_order order m.defines) c.requires)
    (c.in_ok-inits.ensures ∙ ap (all m.inits) c.requires)
    (c.in_ok-invars.ensures ∙ ap (all m.invars) c.requires)
    (c.in_ok-nows.ensures ∙ ap (assigned m.nows) c.requires)
    (c.in_ok-firsts.ensures ∙ ap (assigned m.firsts) c.requires)
    (c.in_ok-nexts.ensures ∙ ap (assigned m.nexts) c.requires)
    (c.in_ok-trans.ensures ∙ ap (all m.trans) c.requires)
    (c.in_ok-fair.ensures ∙ ap (all m.fair) c.requires)
    (c.in_ok-specs.ensures ∙ ap (all m.specs) c.requires)
