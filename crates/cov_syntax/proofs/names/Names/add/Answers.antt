use Rattle.std.proofs.Common.{◌≡◌, ◌≢◌, ◌<◌, List, ℕ, Some, refl, sym, subst, ◌∙◌, cond, All, arith, ap, length, length-append, [], ◌∷◌, ◌++◌}
use Rattle.std.specs.Str.{bytes_eq}
use Rattle.std.proofs.lemmas.List.Elements.{recursion_from_All}
use Rattle.cov_syntax.specs.Texts.{place_in, IsDistinctTexts, IsIndexOf}
use Rattle.cov_syntax.proofs.TextLemmas.{IsDistinctTexts-push, slice_get-last, IsIndexOf-push, place_in-updates}
use Rattle.cov_syntax.proofs.names.Names.add.Goals as goal

pub invariant_of-self-2 : goal.invariant_of-self-2
invariant_of-self-2 c =
    let texts : List (List ℕ) = c.self.inside.texts.items in
    let text : List ℕ = c.args.text.now in
    let new : All (λ t. t ≢ text) texts = rw c.self.view_is c.in_default.ensures.none in
    let put : c.push.new.self.items ≡ texts ++ text ∷ [] = rw (c.in_ok-push.ensures.items, c.reserve.ensures.items, c.in_ok-extend_from_slice.ensures.ok, c.new-copy.ensures) refl in
    let len : c.len-i.result ≡ length texts = c.len-i.ensures.value ∙ sym (ap length c.self.view_is) in
    let updates = place_in-updates c.self.inside.places c.insert.new.self c.in_ok-key.key (Some c.len-i.result) c.in_ok-insert.ensures.updates in
    let placed : (t : List ℕ) → place_in c.insert.new.self t ≡ cond (bytes_eq text t) (Some (length texts)) (place_in c.self.inside.places t) =
    λ t. rw (c.in_ok-key.ensures.items, len) at (updates t) in
    subst (λ new. IsDistinctTexts new × (length new < 4294967296) × IsIndexOf (place_in c.insert.new.self) new) (sym put) (
      IsDistinctTexts-push texts text c.self.invariant.0 (recursion_from_All _ _ new),
      omega (arith, length-append texts (text ∷ []), ap length c.self.view_is),
      IsIndexOf-push (place_in c.self.inside.places) texts c.self.invariant.2 text new (place_in c.insert.new.self) placed,
    )

pub returns-clause-place : goal.returns-clause-place
returns-clause-place c =
    rw (c.in_ok-push.ensures.items, c.reserve.ensures.items, c.in_ok-extend_from_slice.ensures.ok, c.new-copy.ensures, c.len-i.ensures.value, ← c.self.view_is)
    (slice_get-last c.self.inside.texts.items c.args.text.now)
