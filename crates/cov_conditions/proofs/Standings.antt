-- Sets of DEFINEs that stand on where further sets are put.
use Rattle.std.proofs.Common.{◌≡◌, ℕ, ◌+◌, ◌<◌, Bool, List, [], length, Option, sym, ap, subst, arith, length-append, append-nil}
use Rattle.std.proofs.lemmas.List.{get_or_append_left}
use Rattle.cov_syntax.specs.declared.tree.Value.{Value}
use Rattle.cov_model.specs.declared.model.Signal.{Signal}
use Rattle.cov_model.specs.declared.model.Model.{Model}
use Rattle.cov_space.specs.declared.layer.Layer.{Layer}
use Rattle.cov_space.specs.Sets.{SpaceOf, set_at}
use Rattle.cov_space.specs.Steps.{with_more}
use Rattle.cov_nodes.specs.declared.defined.Standing as standing
use Rattle.cov_nodes.specs.Choices.{IsFamily, ones}
use Rattle.cov_nodes.specs.Points.{at_layer}
use Rattle.cov_nodes.specs.Standing.{AreStanding, IsStanding, chunk, chunk_size, define_choice}

module _ (s : SpaceOf) (more : List (List Bool)) (m : Model) (layer : Layer) (flip : Option Signal) where
  abbrev after : SpaceOf
  after = with_more s more

  further : (k : ℕ) → k < length s.sets → k < length after.sets
  further k lt = let e = length-append s.sets more in omega (arith, e)

  kept : (xs : List Value) (i k : ℕ) → k < length s.sets → IsFamily s.levels m (at_layer layer flip) xs (define_choice i) (set_at s.sets k) → IsFamily s.levels m (at_layer layer flip) xs (define_choice i) (set_at after.sets k)
  kept xs i k lt h = subst (λ (x : List Bool). IsFamily s.levels m (at_layer layer flip) xs (define_choice i) x) (sym (get_or_append_left s.sets more [] k lt)) h

  one_more : (i : ℕ) (d : standing.Standing) → IsStanding s m layer flip i d → IsStanding after m layer flip i d
  one_more i (standing.TheVariants.Truth slot) h = record { there = further slot h.there; boolean = h.boolean; is = kept ones i slot h.there h.is }
  one_more i (standing.TheVariants.Chunks first xs) h = record {
    listed = h.listed;
    few = h.few;
    once = h.once;
    there = λ k lt. further (first + k) (h.there k lt);
    is = λ k lt. kept (chunk (chunk_size s.levels) xs k) i (first + k) (h.there k lt) (h.is k lt);
  }

-- one DEFINE
pub stands_more : (s t : SpaceOf) (more : List (List Bool)) (m : Model) (layer : Layer) (flip : Option Signal) (i : ℕ) (d : standing.Standing) → t ≡ with_more s more → IsStanding s m layer flip i d → IsStanding t m layer flip i d
stands_more s t more m layer flip i d is h = subst (λ (z : SpaceOf). IsStanding z m layer flip i d) (sym is) (one_more s more m layer flip i d h)

-- all of them
pub standing_more : (s t : SpaceOf) (more : List (List Bool)) (m : Model) (layer : Layer) (flip : Option Signal) (defines : List (Option standing.Standing)) → t ≡ with_more s more → AreStanding s m layer flip defines → AreStanding t m layer flip defines
standing_more s t more m layer flip defines is h = λ i d at. stands_more s t more m layer flip i d is (h i d at)

-- no further set
pub nothing_more : (s : SpaceOf) → s ≡ with_more s []
nothing_more s = ap (λ (xs : List (List Bool)). record s { sets = xs }) (sym (append-nil s.sets))
