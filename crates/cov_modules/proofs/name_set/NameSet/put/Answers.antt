use Rattle.std.proofs.Common.{◌==◌, ◌||◌, ◌∙◌, ap, nat_cmp, cond, true, sym}
use Rattle.std.specs.BTreeMap.{is_at}
use Rattle.std.specs.List.{list_any}
use Rattle.cov_modules.specs.Names.{has}
use Rattle.cov_modules.proofs.NameLemmas.{or-cond, is_at-same, contains-has}
use Rattle.cov_modules.proofs.name_set.NameSet.put.Goals as goal

pub returns : goal.returns
returns c = λ i.
    sym (contains-has c.insert.new.self.keys i)
    ∙ c.in_ok-insert.ensures.updates.0 i
    ∙ ap (λ b. cond b true (list_any (is_at (nat_cmp i)) c.self.inside.names.keys)) (is_at-same c.args.name i)
    ∙ ap (λ b. cond (c.args.name == i) true b) (contains-has c.self.inside.names.keys i)
    ∙ or-cond (c.args.name == i) (has c.self.inside.names.keys i)
    ∙ ap (λ keys. (c.args.name == i) || has keys i) c.self.view_is
