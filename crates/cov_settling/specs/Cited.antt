-- Models whose names are there.
use Rattle.std.specs.Prelude.{IsTrue}
use Rattle.std.specs.List.{list_all}
use Rattle.cov_model.specs.declared.model.Define.{Define}
use Rattle.cov_model.specs.declared.model.Model.{Model}
use Rattle.cov_model.specs.WellFormed.{all_cite, cites, assigns_cite}
use Rattle.cov_model.specs.Flat.{conditions_of, assignments_of}

-- each variable, DEFINE and symbol that is cited is there, no path stands anywhere, and no set or case is empty
pub record IsCited (m : Model) : Type 0 where
  pub conditions : IsTrue (all_cite m (conditions_of m))
  pub bodies : IsTrue (list_all (λ (d : Define). cites m d.body) m.defines)
  pub assigned : IsTrue (assigns_cite m (assignments_of m))
