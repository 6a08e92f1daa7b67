use Rattle.std.proofs.Common.{◌≡◌, slice_get, Some, sym, ◌∙◌, ap}
use Rattle.cov_model.specs.declared.model.Model.{Model}
use Rattle.cov_vac.proofs.OneConstant.{if_ok}
use Rattle.cov_jobs.proofs.sections.specification.Goals as goal

pub returns-clause-is : goal.returns-clause-is
returns-clause-is c =
    let there : slice_get c.args.m.now.specs c.args.place ≡ Some c.get.result.now = ap (λ (y : Model). slice_get y.specs c.args.place) (sym c.model.ensures.value) ∙ c.get.ensures in
    if_ok c.lower.result _ _ (λ f e. (c.get.result.now, there, e)) c.lower.ensures
