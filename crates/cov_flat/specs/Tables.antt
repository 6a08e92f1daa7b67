-- The table of the forms in which variables are assigned.
use Rattle.std.specs.Prelude.{ℕ, unwrap_or}
use Rattle.std.specs.Ordering.{nat_cmp}
use Rattle.std.specs.BTreeMap.{get}
use Rattle.cov_flat.specs.declared.forms.Forms.{Forms}
use Rattle.cov_flat.specs.declared.forms.Table.{Table}
use Rattle.cov_flat.specs.Doubles.{no_form}

-- the forms in which a variable is assigned
abbrev pub forms_in : Table → ℕ → Forms
forms_in t i = unwrap_or (get nat_cmp t.forms i) no_form
