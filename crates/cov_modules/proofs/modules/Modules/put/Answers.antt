use Rattle.std.proofs.Common.{rules, ◌≡◌, ◌==◌, ℕ, Some, List, ◌++◌, ◌∷◌, [], ◌∙◌, sym, ap, cond, length, unwrap_or, nat_cmp}
use Rattle.std.specs.BTreeMap.{get}
use Rattle.cov_modules.specs.Names.{place_of}
use Rattle.cov_modules.proofs.NameLemmas.{place_of-push, is_at-same}
use Rattle.cov_modules.proofs.modules.Modules.put.Goals as goal

pub invariant_of-self-2 : goal.invariant_of-self-2
invariant_of-self-2 c = λ name.
    let names : List ℕ = c.self.inside.names.items in
    let place : c.unwrap_or-place.result ≡ unwrap_or (place_of names c.args.name) (length names) = search rules in
    let items : c.push.new.self.items ≡ names ++ c.args.name ∷ [] = search rules in
    c.in_ok-insert.ensures.updates.0 name
    ∙ ap (λ b. cond b (Some c.unwrap_or-place.result) (get nat_cmp c.self.inside.places name)) (is_at-same c.args.name name)
    ∙ ap (λ (k : ℕ). cond (c.args.name == name) (Some k) (get nat_cmp c.self.inside.places name)) place
    ∙ ap (λ o. cond (c.args.name == name) (Some (unwrap_or (place_of names c.args.name) (length names))) o) (c.self.invariant name)
    ∙ sym (place_of-push names c.args.name name)
    ∙ ap (λ xs. place_of xs name) (sym items)
