-- A loop through the stops by their numbers.
use Rattle.std.proofs.Common.{◌≡◌, ℕ, ◌+◌, ◌<◌, ◌≤◌, ◌++◌, List, length, take, drop, get_or, Option, Some, None, sym, ap, ◌∙◌, arith}
use Rattle.std.specs.List.{flat_map}
use Rattle.std.proofs.lemmas.List.{take_all}
use Rattle.std.proofs.lemmas.Option.{get_or_from_slice_get}
use Rattle.cov_syntax.specs.declared.program.Program.{Program}
use Rattle.cov_modules.specs.Walk.{Stop}
use Rattle.cov_stops.specs.Table.{StopTable}
use Rattle.cov_paths.specs.declared.scopes.Scopes.{Scopes}
use Rattle.cov_flat.specs.Reading.{flat_walk, stop_at, IsScoped, IsReader}
use Rattle.cov_modules.specs.Names.{first}
use Rattle.cov_modules.proofs.FirstLemmas.{first-hit, first-miss, first-end}
use Rattle.cov_flat.proofs.StopLemmas.{stops_step, stop_there}

module _ (p : Program) (c : Scopes) (scoped : IsScoped p c) (table : StopTable) (same : table ≡ c.own.stops) (n : ℕ) (count : n ≡ length table.entries) where
  -- each stop has a number below the count
  pub all_stops : n ≡ length (flat_walk p)
  unfolding flat_walk
  all_stops = count ∙ ap (λ (t : StopTable). length t.entries) same ∙ scoped.scopes.stops.count

  -- expressions can be read at each number below the count
  pub reader_at : (k : ℕ) → k < n → IsReader p c k
  reader_at k h = record { scoped = scoped; there = omega (arith, all_stops) }

  module _ {A : Type 0} (f : Stop → List A) (k : ℕ) (found : List A) (is : found ≡ flat_map f (take k (flat_walk p))) where
    -- one more stop
    pub pass_step : (new : List A) → k < n → new ≡ found ++ f (stop_at p k) → new ≡ flat_map f (take (k + 1) (flat_walk p))
    pass_step new h more = more ∙ ap (λ ys. ys ++ f (stop_at p k)) is ∙ sym (stops_step f p k (omega (arith, all_stops)))

    -- all stops
    pub pass_end : n ≤ k → found ≡ flat_map f (flat_walk p)
    pass_end h = is ∙ ap (flat_map f) (take_all k (flat_walk p) (omega (arith, all_stops)))

  module _ {B : Type 0} (f : Stop → List (Option B)) (k : ℕ) where
    here_is : k < n → stop_at p k ≡ get_or (flat_walk p) k (stop_at p k)
    here_is h = sym (get_or_from_slice_get (flat_walk p) k (stop_at p k) (stop_at p k) (stop_there p k (omega (arith, all_stops))))

    -- the stop has one
    pub pass_hit : (b : B) → k < n → first (f (stop_at p k)) ≡ Some b → first (flat_map f (drop k (flat_walk p))) ≡ Some b
    pass_hit b h is = first-hit f (flat_walk p) k (stop_at p k) b (omega (arith, all_stops)) (here_is h) is

    -- the stop has none
    pub pass_miss : k < n → first (f (stop_at p k)) ≡ None → first (flat_map f (drop (k + 1) (flat_walk p))) ≡ first (flat_map f (drop k (flat_walk p)))
    pass_miss h is = first-miss f (flat_walk p) k (stop_at p k) (omega (arith, all_stops)) (here_is h) is

    -- no stop is left
    pub pass_none : n ≤ k → first (flat_map f (drop k (flat_walk p))) ≡ None
    pass_none h = first-end f (flat_walk p) k (omega (arith, all_stops))
