-- Families of values that are the same at each point.
use Rattle.std.proofs.Common.{◌≡◌, ◌⊎◌, inl, inr, ℕ, ◌<◌, ◌≤◌, ◌&&◌, nat_lt, List, map, Bool, false, length, get_or, sym, ◌∙◌, ap, arith}
use Rattle.std.proofs.lemmas.Bool.{cases_lt, le-ltb, lt-ltb}
use Rattle.std.proofs.lemmas.List.{get_or-map, get_or_past, length-map}
use Rattle.std.proofs.lemmas.Option.{unwrap_or-slice_get}
use Rattle.cov_syntax.specs.declared.tree.Value.{Value}
use Rattle.cov_syntax.specs.declared.tree.Value.TheVariants as v
use Rattle.cov_model.specs.declared.model.Model.{Model}
use Rattle.cov_model.specs.Values.{item}
use Rattle.cov_space.specs.Sets.{SpaceOf}
use Rattle.cov_space.specs.Answers.{PutsSet}
use Rattle.cov_fields.specs.Fields.{held}
use Rattle.cov_families.specs.Families.{index_of, listed_set}
use Rattle.cov_nodes.specs.declared.reading.Reading.{Reading}
use Rattle.cov_nodes.specs.Choices.{PutsFamily}
use Rattle.cov_nodes.proofs.Families.{puts_family}

-- one of the picks that a test makes
pub picks_at : (test : Value → Bool) (xs : List Value) (k : ℕ) → get_or (map test xs) k false ≡ (nat_lt k (length xs) && test (item xs k))
picks_at test xs k = by (cases_lt k (length xs))
  where
    by : (k < length xs) ⊎ (length xs ≤ k) → get_or (map test xs) k false ≡ (nat_lt k (length xs) && test (item xs k))
    by (inl lt) =
        get_or-map test xs k (v.Bool false) false lt
        ∙ ap test (sym (unwrap_or-slice_get xs k (v.Bool false)))
        ∙ ap (λ b. b && test (item xs k)) (sym (lt-ltb k (length xs) lt))
    by (inr le) =
        get_or_past (map test xs) k false (omega (arith, length-map xs test))
        ∙ ap (λ b. b && test (item xs k)) (sym (le-ltb k (length xs) le))

-- the picks of a test put the family of the values that pass
pub listed_family : (old new : SpaceOf) (m : Model) (at : Reading) (xs : List Value) (test : Value → Bool) (picks : List Bool) → picks ≡ map test xs → PutsSet old new (listed_set old.levels picks)
    → PutsFamily old new m at xs (λ p y. test y)
listed_family old new m at xs test picks is puts =
    puts_family old new m at xs _ (λ row. get_or picks (held (index_of (length picks)) row) false) puts (λ row len typed.
    ap (λ (bs : List Bool). get_or bs (held (index_of (length bs)) row) false) is
    ∙ ap (λ n. get_or (map test xs) (held (index_of n) row) false) (length-map xs test)
    ∙ picks_at test xs (held (index_of (length xs)) row))
