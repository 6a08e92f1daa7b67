use Rattle.std.proofs.Common.{◌≡◌, ◌≤◌, ℕ, List, [], ◌∷◌, ◌++◌, length, set, Option, Some, None, IsTrue, arith, sym, ap, subst, ◌∙◌}
use Rattle.std.specs.Prelude.{◌==◌, position, slice_get, unwrap_or}
use Rattle.cov_model.specs.WellFormed.{all_different}
use Rattle.cov_order.proofs.Numbers.{all_different-push}
use Rattle.cov_order.proofs.Places.{places-push, items_fit}
use Rattle.cov_order.proofs.order.Order.push.Goals as goal

pub overflow_cast-place : goal.overflow_cast-place
overflow_cast-place c = let h : length c.args.self.now.items ≤ length c.args.self.now.places = items_fit c.args.self.now.places c.args.self.now.items c.args.self.now.different c.args.self.now.right in omega (arith, h, c.requires.few)

pub invariant_of-self-2-clause-right : goal.invariant_of-self-2-clause-right
invariant_of-self-2-clause-right c =
    let items : List ℕ = c.args.self.now.items in
    let put : c.push.new.self ≡ items ++ c.args.i ∷ [] = c.in_ok-push.ensures.ok in
    let len : c.len-place.result ≡ length items = c.len-place.ensures in
    let table : c.replace.new.self ≡ set c.args.self.now.places c.args.i (Some (length items)) = c.replace.ensures.after ∙ ap (λ (n : ℕ). set c.args.self.now.places c.args.i (Some n)) len in
    λ j. ap (λ (ps : List (Option ℕ)). unwrap_or (slice_get ps j) None) table
    ∙ places-push c.args.self.now.places items c.args.i c.requires.room c.requires.new c.args.self.now.right j
    ∙ ap (λ (xs : List ℕ). position (λ k. k == j) xs) (sym put)

pub invariant_of-self-2-clause-different : goal.invariant_of-self-2-clause-different
invariant_of-self-2-clause-different c =
    let put : c.push.new.self ≡ c.args.self.now.items ++ c.args.i ∷ [] = c.in_ok-push.ensures.ok in
    subst (λ (xs : List ℕ). IsTrue (all_different xs)) (sym put) (all_different-push c.args.self.now.items c.args.i c.args.self.now.different c.requires.new)
